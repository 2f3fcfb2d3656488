-- The words of a text one after the other, and lists that grow with them.
-- Assumes nothing.
use Prim.Native.Nat.{ℕ, ◌+◌, ◌≤◌, ◌<◌}
use mathlib.Core.Path.{◌≡◌, refl, sym, ap, ap₂, ◌∙◌}
use mathlib.Core.Bool.{false, not}
use mathlib.Core.List.{List, [], ◌∷◌, ◌++◌, append_assoc, append-nil}
use Rattle.std.proofs.Common.{Option, None, Some, MatchOption, option_map, unwrap_or, slice_range, Bor, ◌⊎◌, inl, inr}
use native.Mathlib.Numerals.{add-one}
use native.Mathlib.Omega.{arith}
use lib.Dec.{eqb}
use lib.ListN.{length, take, set}
use lib.Seq.{take_all, take-suc-set}
use Rattle.words.specs.Words.{up_to, decimal_in}
use Rattle.words.specs.Values.{value_in, stamp_in}
use Rattle.std.proofs.lemmas.List.Elements.{All-from_get_or}
use Rattle.std.proofs.lemmas.List.Splits.{slice_split_first, slice_split_none}
use Rattle.std.proofs.lemmas.List.Sums.{prefix_len_passes}
use borrow.Author.Tests.{not-true}
use Rattle.words.proofs.Reading.{up_first}
use Rattle.words.proofs.Valuing.{rest_whole, value_empty}
use Rattle.draft.specs.declared.Head.{Head}
use Rattle.lists.specs.Line.{TwoLists, words_of, value_before, lists_in, head_by, head_in, both_in, line_in}

-- ---- the first word of a text

-- what the code cuts out behind the first word, as `get` says it
abbrev pub Got : List ℕ → ℕ → Option (Bor (List ℕ)) → Type 0
Got t n o = MatchOption o ((length t < n) ⊎ (length t < length t)) (λ r. (n ≤ length t) × (length t ≤ length t) × (r.now ≡ slice_range t n (length t)) × (length r.now + n ≡ length t))

pub cut_words : (t : List ℕ) (n : ℕ) (o : Option (Bor (List ℕ))) → n ≡ up_to 32 t → Got t (n + 1) o
    → words_of t ≡ take n t ∷ unwrap_or (option_map (λ r. words_of r.now) o) []
unfolding words_of
cut_words t n None e h =
    let l : length t ≤ n = elim h [ inl a ↦ omega arith | inr a ↦ omega arith ] in
    let a = All-from_get_or (λ c. eqb c 32 ≡ false) t 0 (λ i j. not-true _ (prefix_len_passes (λ c. not (eqb c 32)) t i 0 (omega (arith, up_first t)))) in
    slice_split_none (λ c. eqb c 32) t a ∙ ap (λ (w : List ℕ). w ∷ []) (sym (take_all n t l))
cut_words t n (Some r) e h = rw (h.2, rest_whole t (n + 1), e ∙ up_first t) (slice_split_first (λ c. eqb c 32) t 0 (omega (arith, up_first t)))

-- ---- the two lists

-- lists found, and those of the rest behind them
abbrev pub behind_lists : List ℕ → List ℕ → Option TwoLists → Option TwoLists
behind_lists ks xs None = None
behind_lists ks xs (Some l) = Some (ks ++ l.0, xs ++ l.1)

grown : (g : List ℕ) (n x : ℕ) (m : List ℕ) → n < length g → take (n + 1) (set g n x) ++ m ≡ take n g ++ (x ∷ m)
grown g n x m h =
    let e : take (n + 1) (set g n x) ≡ take n g ++ (x ∷ []) = rw (add-one, take-suc-set g n x) in
    ap (λ (l : List ℕ). l ++ m) e ∙ append_assoc (take n g) (x ∷ []) m

lists_more : (ks xs : List ℕ) (n k x : ℕ) (o : Option TwoLists) → n < length ks → n < length xs
    → behind_lists (take (n + 1) (set ks n k)) (take (n + 1) (set xs n x)) o ≡ behind_lists (take n ks) (take n xs) (value_before (Some (k, x)) o)
lists_more ks xs n k x None h j = refl
lists_more ks xs n k x (Some l) h j = ap₂ (λ (a b : List ℕ). Some (a, b)) (grown ks n k l.0 h) (grown xs n x l.1 j)

-- a word that is a value has a byte at least
pub value_long : (w : List ℕ) (v : ℕ × ℕ) → value_in w ≡ Some v → 0 < length w
value_long [] v e = let z : ⊥ = cc (value_empty [] refl) in absurd z
value_long (c ∷ w) v e = omega arith

-- the next word of a text, and those behind it
module _ (t w : List ℕ) (ws : List (List ℕ)) (h : words_of t ≡ w ∷ ws) (ks xs : List ℕ) (n : ℕ) where
  pub lists_stop : value_in w ≡ None → None ≡ behind_lists (take n ks) (take n xs) (lists_in (words_of t))
  unfolding lists_in
  lists_stop e = rw (h, e)

  pub lists_go : (k x : ℕ) → n < length ks → n < length xs → value_in w ≡ Some (k, x)
      → behind_lists (take (n + 1) (set ks n k)) (take (n + 1) (set xs n x)) (lists_in ws) ≡ behind_lists (take n ks) (take n xs) (lists_in (words_of t))
  unfolding lists_in
  lists_go k x i j e = rw (h, e) (lists_more ks xs n k x (lists_in ws) i j)

pub lists_end : (ks xs : List ℕ) → Some (ks, xs) ≡ behind_lists ks xs (lists_in [])
unfolding lists_in
lists_end ks xs = ap₂ (λ (a b : List ℕ). Some (a, b)) (sym (append-nil ks)) (sym (append-nil xs))

-- ---- the line

no_revision : (a : Option ℕ) (t w : Option (ℕ × ℕ)) → head_by a None t w ≡ None
no_revision None t w = refl
no_revision (Some n) t w = refl

no_tow : (a b : Option ℕ) (w : Option (ℕ × ℕ)) → head_by a b None w ≡ None
no_tow None b w = refl
no_tow (Some n) None w = refl
no_tow (Some n) (Some r) w = refl

no_wnc : (a b : Option ℕ) (t : Option (ℕ × ℕ)) → head_by a b t None ≡ None
no_wnc None b t = refl
no_wnc (Some n) None t = refl
no_wnc (Some n) (Some r) None = refl
no_wnc (Some n) (Some r) (Some t) = refl

-- a line of less than four words
module _ (s v : List ℕ) where
  pub one_word : words_of s ≡ v ∷ [] → None ≡ line_in s
  unfolding line_in head_in decimal_in
  one_word e = rw e (sym (ap (λ (h : Option Head). both_in h (lists_in [])) (no_revision (decimal_in v) (stamp_in []) (stamp_in []))))

  pub two_words : (w : List ℕ) → words_of s ≡ v ∷ w ∷ [] → None ≡ line_in s
  unfolding line_in head_in stamp_in decimal_in
  two_words w e = rw e (sym (ap (λ (h : Option Head). both_in h (lists_in [])) (no_tow (decimal_in v) (decimal_in w) None)))

  pub three_words : (w x : List ℕ) → words_of s ≡ v ∷ w ∷ x ∷ [] → None ≡ line_in s
  unfolding line_in head_in stamp_in decimal_in
  three_words w x e = rw e (sym (ap (λ (h : Option Head). both_in h (lists_in [])) (no_wnc (decimal_in v) (decimal_in w) (stamp_in x))))

-- a line of four words and more
pub line_read : (s v w x y : List ℕ) (ws : List (List ℕ)) (o : Option Head) (l : Option TwoLists) {a b : Option ℕ} {t u : Option (ℕ × ℕ)}
    → words_of s ≡ v ∷ w ∷ x ∷ y ∷ ws → a ≡ decimal_in v → b ≡ decimal_in w → t ≡ stamp_in x → u ≡ stamp_in y
    → o ≡ head_by a b t u → l ≡ lists_in ws → both_in o l ≡ line_in s
unfolding line_in head_in
line_read s v w x y ws o l h ea eb et eu e f = rw (h, e, ea, eb, et, eu, f)

pub no_lists : Some ([], []) ≡ lists_in []
unfolding lists_in
no_lists = refl
