-- What was read of a list of fields, given again, is what was wanted at each index; and a list says no more than what it has at each
-- index.
-- Assumes nothing.
use mathlib.Core.Bool.{Bool, true, ◌&&◌}
use mathlib.Core.List.{List, [], ◌∷◌, ◌++◌, map, flat_map, flatten}
use Rattle.std.proofs.Common.{Option, None, Some}
use mathlib.Core.Path.{◌≡◌, refl, sym, ap, ap₂, ◌∙◌}
use Prim.Native.Nat.{ℕ, zero, suc, ◌+◌, ◌<◌}
use native.Mathlib.Nat.{zero-add, add-zero}
use native.Mathlib.Omega.{arith}
use lib.ListN.{length, get_or, drop, get_or-eq_default}
use Rattle.wire.proofs.Tests.{never, bool?, lt?}
use Rattle.rows.specs.declared.FieldRow.{FieldRow}
use Rattle.table.specs.Lists.{tabulate, every, pick}
use Rattle.table.specs.Rows.{ends}
use Rattle.table.specs.Lookup.{carried}
use Rattle.table.proofs.Lists.{length_tab, every_map}
use Rattle.entry.specs.Wanted.{Wanted, is_unset}
use Rattle.entry.specs.Bits.{wanted_ok, list_ok}
use Rattle.writer.specs.Block.{laid}
use Rattle.writing.specs.Theorems.{row_back, as_read}
use Rattle.writing.proofs.Values.{wanted_again}
use Rattle.writing.proofs.Picks.{pick_there}
use Rattle.writing.proofs.Wanting.{get_d_rest, wanted_bits_lem, wanted_at, unset_past}

-- two lists that have the same at each index
abbrev pub SameAt : List Wanted → List Wanted → Type 0
SameAt vs ws = (i : ℕ) → get_or vs i None ≡ get_or ws i None

rest_same : (vs ws : List Wanted) → SameAt vs ws → SameAt (drop 1 vs) (drop 1 ws)
rest_same vs ws h i = get_d_rest vs i None ∙ h (suc i) ∙ sym (get_d_rest ws i None)

pub same_laid : (revision at : ℕ) (fs : List FieldRow) (vs ws : List Wanted) → SameAt vs ws → laid revision at fs vs ≡ laid revision at fs ws
unfolding laid
same_laid revision at [] vs ws h = refl
same_laid revision at (f ∷ fs) vs ws h =
    rw (h 0, same_laid revision at fs (drop 1 vs) (drop 1 ws) (rest_same vs ws h), same_laid revision (ends f) fs (drop 1 vs) (drop 1 ws) (rest_same vs ws h))

unset_same : (vs ws : List Wanted) → SameAt vs ws → every is_unset vs ≡ every is_unset ws
unfolding every
unset_same [] [] h = refl
unset_same [] (w ∷ ws) h = rw (← h 0) (unset_same [] ws (λ i. h (suc i)))
unset_same (v ∷ vs) [] h = rw (h 0) (unset_same vs [] (λ i. h (suc i)))
unset_same (v ∷ vs) (w ∷ ws) h = ap₂ (λ (x : Wanted) (b : Bool). is_unset x && b) (h 0) (unset_same vs ws (λ i. h (suc i)))

pub same_ok : (revision : ℕ) (fs : List FieldRow) (vs ws : List Wanted) → SameAt vs ws → list_ok revision fs vs ≡ list_ok revision fs ws
unfolding list_ok
same_ok revision [] vs ws h = unset_same vs ws h
same_ok revision (f ∷ fs) vs ws h =
    ap₂ (λ (x : Wanted) (b : Bool). wanted_ok revision f x && b) (h 0) (same_ok revision fs (drop 1 vs) (drop 1 ws) (rest_same vs ws h))

-- ---- given again

is_unset_lem : (w : Wanted) → is_unset w ≡ true → w ≡ None
is_unset_lem None e = refl
is_unset_lem (Some x) e = never e refl

-- of one field
field_again : (revision : ℕ) (f : FieldRow) (w : Wanted) → wanted_ok revision f w ≡ true → as_read (row_back revision (Some f) w) ≡ w
unfolding wanted_ok
field_again revision f w ok =
    bool? (carried revision f)
    (λ c. let x = wanted_bits_lem revision f w ok c in rw c (wanted_again f w x.0 x.1))
    (λ c. rw c (sym (is_unset_lem w (rw c at ok))))

get_d_tab : (g : ℕ → Wanted) (i k j : ℕ) → j < k → get_or (tabulate g i k) j None ≡ g (i + j)
unfolding tabulate
get_d_tab g i zero j h = absurd (omega arith)
get_d_tab g i (suc k) zero h = ap g (sym (add-zero i))
get_d_tab g i (suc k) (suc j) h = let n : i + 1 + j ≡ i + suc j = omega arith in get_d_tab g (i + 1) k j (omega arith) ∙ ap g n

-- of a list, row by row
pub list_again : (revision : ℕ) (fs : List FieldRow) (ws : List Wanted) (g : ℕ → Wanted) → list_ok revision fs ws ≡ true
    → ((i : ℕ) → g i ≡ as_read (row_back revision (pick fs i) (get_or ws i None))) → SameAt (tabulate g 0 (length fs)) ws
list_again revision fs ws g ok e i =
    lt? i (length fs)
    (λ h.
    let p = pick_there fs i h in
    get_d_tab g 0 (length fs) i h ∙ ap g (zero-add i) ∙ e i ∙ ap (λ (o : Option FieldRow). as_read (row_back revision o (get_or ws i None))) p.1
    ∙ field_again revision p.0 (get_or ws i None) (wanted_at revision fs ws ok i p.0 p.1))
    (λ h. get_or-eq_default (tabulate g 0 (length fs)) None (rw (length_tab g 0 (length fs)) h) ∙ sym (unset_past revision fs ws ok i h))

-- of lists of lists: as many, and each says the same to h
pub map_again : {A B : Type 0} (h : A → B) (g : ℕ → A) (xs : List A) (i : ℕ) → ((k : ℕ) (x : A) → pick xs k ≡ Some x → h (g (i + k)) ≡ h x)
    → map h (tabulate g i (length xs)) ≡ map h xs
unfolding tabulate pick
map_again h g [] i e = refl
map_again h g (x ∷ xs) i e =
    ap₂ (λ y ys. y ∷ ys) (ap (λ (n : ℕ). h (g n)) (sym (add-zero i)) ∙ e 0 x refl)
    (map_again h g xs (i + 1) (λ k y q. let n : i + 1 + k ≡ i + suc k = omega arith in ap (λ (m : ℕ). h (g m)) n ∙ e (suc k) y q))

-- so all of them together say the same
flat_is : {A B : Type 0} (h : A → List B) (xs : List A) → flat_map h xs ≡ flatten (map h xs)
unfolding flat_map flatten
flat_is h [] = refl
flat_is h (x ∷ xs) = ap (λ (ys : List _). h x ++ ys) (flat_is h xs)

pub same_flat : {A B : Type 0} (h : A → List B) (xs ys : List A) → map h xs ≡ map h ys → flat_map h xs ≡ flat_map h ys
same_flat h xs ys e = flat_is h xs ∙ ap flatten e ∙ sym (flat_is h ys)

pub same_every : {A : Type 0} (p : A → Bool) (xs ys : List A) → map p xs ≡ map p ys → every p xs ≡ every p ys
same_every p xs ys e = sym (every_map p (λ (b : Bool). b) xs) ∙ ap (every (λ (b : Bool). b)) e ∙ every_map p (λ (b : Bool). b) ys
