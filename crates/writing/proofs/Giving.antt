-- An allowed value has bits, so it has a kind and 64 bits that say it; a list is given by those of its values, and before each
-- sub-block's list stands the kind that begins it.
-- Assumes nothing.
use mathlib.Core.Bool.{Bool, true, false, cond}
use mathlib.Core.List.{List, [], ◌∷◌, ◌++◌, map}
use Rattle.std.proofs.Common.{None, Some, unwrap_or}
use mathlib.Core.Path.{◌≡◌, refl, sym, ap, ap₂, ◌∙◌, subst}
use Prim.Native.Nat.{ℕ, zero, suc, ◌-◌, ◌^◌, ◌<◌, ◌≤◌}
use native.Mathlib.Omega.{arith}
use lib.Dec.{leb, ltb, eqb}
use lib.IntN.{ℤ, pos, negsuc}
use lib.ListN.{length, get_or}
use borrow.Author.Tests.{leb-true, ltb-true, lt-ltb}
use Rattle.wire.specs.Range.{Bytes}
use Rattle.wire.proofs.Tests.{bool?, both, never, eq?}
use Rattle.kinds.specs.Types.{u1, u8, i1, i8, f4, f8, size_of, is_unsigned, is_signed, half}
use Rattle.rows.specs.declared.FieldRow.{FieldRow}
use Rattle.table.specs.Lists.{every}
use Rattle.table.specs.Rows.{BlockRow}
use Rattle.table.specs.Lookup.{carried}
use Rattle.value.specs.Said.{FieldSaid, unsigned, signed, single, double, do_not_use, not_in_revision, field_refused}
use Rattle.value.specs.Bits.{with_sign}
use Rattle.block.specs.Block.{has_subs}
use Rattle.record.specs.Calls.{tow_row, wnc_row}
use Rattle.entry.specs.declared.Entry.{Entry}
use Rattle.entry.specs.Wanted.{Wanted, is_unset, wanted_of, begins, values_in, subs_in}
use Rattle.entry.specs.Bits.{unsigned_bits, signed_within, signed_bits, bits_for, bits_of, wanted_ok, list_ok}
use Rattle.draft.specs.declared.Head.{Head}
use Rattle.draft.specs.Draft.{Draft, stamps_ok, body_ok, subs_ok}
use Rattle.writing.specs.Giving.{InEntry, CanBeGiven}
use Rattle.lay.proofs.Low.{only_if}
use Rattle.writing.proofs.Values.{in_range, sign_back, signed_cases, marked_none}
use Rattle.draft.proofs.Admitted.{Admitted, admitted}
use Rattle.writing.proofs.Wanting.{wanted_bits_lem}

-- ---- a value

abbrev kind_given : Wanted → ℕ
kind_given None = 0
kind_given (Some (unsigned n)) = 1
kind_given (Some (signed z)) = 2
kind_given (Some (single x)) = 3
kind_given (Some (double x)) = 4
kind_given (Some do_not_use) = 0
kind_given (Some not_in_revision) = 0
kind_given (Some (field_refused n)) = 0

abbrev bits_given : Wanted → ℕ
bits_given None = 0
bits_given (Some (unsigned n)) = n
bits_given (Some (signed z)) = unwrap_or (signed_bits 8 z) 0
bits_given (Some (single x)) = x
bits_given (Some (double x)) = x
bits_given (Some do_not_use) = 0
bits_given (Some not_in_revision) = 0
bits_given (Some (field_refused n)) = 0

-- what they say is the value; no value begins a sub-block
pub record Able (w : Wanted) : Type 0 where
  pub says : wanted_of (kind_given w) (bits_given w) ≡ w
  pub bits : bits_given w < 2 ^ 64

kind_byte : (w : Wanted) → kind_given w < 256
kind_byte None = omega arith
kind_byte (Some (unsigned n)) = omega arith
kind_byte (Some (signed z)) = omega arith
kind_byte (Some (single x)) = omega arith
kind_byte (Some (double x)) = omega arith
kind_byte (Some do_not_use) = omega arith
kind_byte (Some not_in_revision) = omega arith
kind_byte (Some (field_refused n)) = omega arith

begins_none : (w : Wanted) → eqb (kind_given w) begins ≡ false
begins_none None = refl
begins_none (Some (unsigned n)) = refl
begins_none (Some (signed z)) = refl
begins_none (Some (single x)) = refl
begins_none (Some (double x)) = refl
begins_none (Some do_not_use) = refl
begins_none (Some not_in_revision) = refl
begins_none (Some (field_refused n)) = refl

-- 8 bytes hold the numbers of every type
unsigned_cases : (P : ℕ → Type 0) → P 1 → P 2 → P 3 → P 4 → (kind : ℕ) → 1 ≤ kind → kind ≤ 4 → P kind
unsigned_cases P a b c d kind l m =
    eq? kind 1 (λ e. subst P (sym e) a)
    (λ n1. eq? kind 2 (λ e. subst P (sym e) b) (λ n2. eq? kind 3 (λ e. subst P (sym e) c)
    (λ n3. let e : 4 ≡ kind = omega arith in subst P e d)))

unsigned_most : (kind : ℕ) → 1 ≤ kind → kind ≤ 4 → leb (256 ^ size_of kind) (2 ^ 64) ≡ true
unfolding size_of
unsigned_most = unsigned_cases (λ (kind : ℕ). leb (256 ^ size_of kind) (2 ^ 64) ≡ true) refl refl refl refl

signed_most : (kind : ℕ) → 5 ≤ kind → kind ≤ 8 → leb (half (size_of kind)) (half 8) ≡ true
unfolding size_of
signed_most = signed_cases (λ (kind : ℕ). leb (half (size_of kind)) (half 8) ≡ true) refl refl refl refl

-- so a number with sign has bits in 8 bytes too
signed_eight : (h all : ℕ) (z : ℤ) (x : ℕ) → h ≤ half 8 → signed_within h all z ≡ Some x → (y : ℕ) × (signed_bits 8 z ≡ Some y)
signed_eight h all (pos n) x m e =
    let l : n < h = ltb-true _ _ (only_if (ltb n h) _ e).0 in
    (n, ap (λ (b : Bool). cond b (Some n) None) (lt-ltb n (half 8) (omega arith)))
signed_eight h all (negsuc n) x m e =
    let l : n < h = ltb-true _ _ (only_if (ltb n h) _ e).0 in
    (256 ^ 8 - suc n, ap (λ (b : Bool). cond b (Some (256 ^ 8 - suc n)) None) (lt-ltb n (half 8) (omega arith)))

able_said : (kind : ℕ) (said : FieldSaid) (x : ℕ) → bits_for kind said ≡ Some x → Able (Some said)
unfolding bits_for wanted_of
able_said kind (unsigned n) x e =
    let k = only_if (is_unsigned kind) (unsigned_bits (size_of kind) n) e in
    let t = both (leb u1 kind) (leb kind u8) k.0 in
    let r = in_range (size_of kind) n x k.1 in
    let m : 256 ^ size_of kind ≤ 2 ^ 64 = leb-true _ _ (unsigned_most kind (leb-true _ _ t.0) (leb-true _ _ t.1)) in
    record { says = refl; bits = omega (arith, r.0, r.1, m) }
able_said kind (signed z) x e =
    let k = only_if (is_signed kind) (signed_within (half (size_of kind)) (256 ^ size_of kind) z) e in
    let t = both (leb i1 kind) (leb kind i8) k.0 in
    let m : half (size_of kind) ≤ half 8 = leb-true _ _ (signed_most kind (leb-true _ _ t.0) (leb-true _ _ t.1)) in
    let y = signed_eight (half (size_of kind)) (256 ^ size_of kind) z x m k.1 in
    let r = sign_back (half 8) (256 ^ 8) z y.0 refl y.1 in
    let b : unwrap_or (signed_bits 8 z) 0 ≡ y.0 = ap (λ o. unwrap_or o 0) y.1 in
    record {
      says = ap (λ (n : ℕ). Some (signed (with_sign (half 8) n))) b ∙ ap (λ (a : ℤ). Some (signed a)) r.1;
      bits = subst (λ (n : ℕ). n < 2 ^ 64) (sym b) r.0;
    }
able_said kind (single n) x e =
    let k = only_if (eqb kind f4) (unsigned_bits 4 n) e in
    let r = in_range 4 n x k.1 in
    record { says = refl; bits = omega (arith, r.0, r.1) }
able_said kind (double n) x e =
    let k = only_if (eqb kind f8) (unsigned_bits 8 n) e in
    let r = in_range 8 n x k.1 in
    record { says = refl; bits = omega (arith, r.0, r.1) }
able_said kind do_not_use x e = cc
able_said kind not_in_revision x e = cc
able_said kind (field_refused n) x e = cc

able_unset : (w : Wanted) → is_unset w ≡ true → Able w
unfolding wanted_of
able_unset None e = record { says = refl; bits = omega arith }
able_unset (Some said) e = never e refl

able_bits : (f : FieldRow) (w : Wanted) (x : ℕ) → bits_of f w ≡ Some x → Able w
unfolding bits_of
able_bits f None x e = able_unset None refl
able_bits f (Some said) x e = able_said f.kind said x (marked_none f (bits_for f.kind said) x e).0

able : (revision : ℕ) (f : FieldRow) (w : Wanted) → wanted_ok revision f w ≡ true → Able w
unfolding wanted_ok
able revision f w ok =
    bool? (carried revision f)
    (λ c. let x = wanted_bits_lem revision f w ok c in able_bits f w x.0 x.1)
    (λ c. able_unset w (rw c at ok))

-- ---- lists of values

pub data All {A : Type 0} (P : A → Type 0) : List A → Type 0 where
  nil : All P []
  cons : {x : A} {xs : List A} → P x → All P xs → All P (x ∷ xs)

all_by : {A : Type 0} (P : A → Type 0) (p : A → Bool) → ((x : A) → p x ≡ true → P x) → (xs : List A) → every p xs ≡ true → All P xs
unfolding every
all_by P p h [] e = nil
all_by P p h (x ∷ xs) e = let k = both (p x) _ e in cons (h x k.0) (all_by P p h xs k.1)

all_able : (revision : ℕ) (fs : List FieldRow) (ws : List Wanted) → list_ok revision fs ws ≡ true → All Able ws
unfolding list_ok
all_able revision [] ws ok = all_by Able is_unset able_unset ws ok
all_able revision (f ∷ fs) [] ok = nil
all_able revision (f ∷ fs) (w ∷ ws) ok =
    let k = both (wanted_ok revision f w) _ ok in cons (able revision f w k.0) (all_able revision fs ws k.1)

-- ---- the lists that are given

sub_kinds : List (List Wanted) → List ℕ
sub_kinds [] = []
sub_kinds (ws ∷ ss) = begins ∷ (map kind_given ws ++ sub_kinds ss)

sub_bits : List (List Wanted) → List ℕ
sub_bits [] = []
sub_bits (ws ∷ ss) = 0 ∷ (map bits_given ws ++ sub_bits ss)

values_given : (ws : List Wanted) (ss : List (List Wanted)) → All Able ws
    → values_in (map kind_given ws ++ sub_kinds ss) (map bits_given ws ++ sub_bits ss) ≡ ws
unfolding values_in sub_kinds
values_given [] [] a = refl
values_given [] (vs ∷ ss) a = refl
values_given (w ∷ ws) ss (cons h a) = rw (begins_none w) (ap₂ (λ (x : Wanted) (xs : List Wanted). x ∷ xs) h.says (values_given ws ss a))

-- values begin no sub-block
subs_behind : (ws : List Wanted) (kinds bits : List ℕ) → subs_in (map kind_given ws ++ kinds) (map bits_given ws ++ bits) ≡ subs_in kinds bits
unfolding subs_in
subs_behind [] kinds bits = refl
subs_behind (w ∷ ws) kinds bits = rw (begins_none w) (subs_behind ws kinds bits)

subs_given : (ss : List (List Wanted)) → All (All Able) ss → subs_in (sub_kinds ss) (sub_bits ss) ≡ ss
unfolding subs_in sub_kinds sub_bits
subs_given [] a = refl
subs_given (ws ∷ ss) (cons h a) =
    ap₂ (λ (x : List Wanted) (xs : List (List Wanted)). x ∷ xs) (values_given ws ss h) (subs_behind ws (sub_kinds ss) (sub_bits ss) ∙ subs_given ss a)

-- ---- they are kinds and bits, and as many

length_given : (ws : List Wanted) (kinds bits : List ℕ) → length bits ≡ length kinds → length (map bits_given ws ++ bits) ≡ length (map kind_given ws ++ kinds)
length_given [] kinds bits e = e
length_given (w ∷ ws) kinds bits e = ap suc (length_given ws kinds bits e)

length_subs : (ss : List (List Wanted)) → length (sub_bits ss) ≡ length (sub_kinds ss)
unfolding sub_kinds sub_bits
length_subs [] = refl
length_subs (ws ∷ ss) = ap suc (length_given ws (sub_kinds ss) (sub_bits ss) (length_subs ss))

abbrev Below : ℕ → List ℕ → Type 0
Below n s = (j : ℕ) → get_or s j 0 < n

below_none : (n : ℕ) → 0 < n → Below n []
below_none n h j = h

below_more : (n x : ℕ) (s : List ℕ) → x < n → Below n s → Below n (x ∷ s)
below_more n x s h l zero = h
below_more n x s h l (suc j) = l j

kinds_behind : (ws : List Wanted) (kinds : List ℕ) → Bytes kinds → Bytes (map kind_given ws ++ kinds)
kinds_behind [] kinds l = l
kinds_behind (w ∷ ws) kinds l = below_more 256 (kind_given w) (map kind_given ws ++ kinds) (kind_byte w) (kinds_behind ws kinds l)

bits_behind : (ws : List Wanted) (bits : List ℕ) → All Able ws → Below (2 ^ 64) bits → Below (2 ^ 64) (map bits_given ws ++ bits)
bits_behind [] bits a l = l
bits_behind (w ∷ ws) bits (cons h a) l = below_more (2 ^ 64) (bits_given w) (map bits_given ws ++ bits) h.bits (bits_behind ws bits a l)

kinds_subs : (ss : List (List Wanted)) → Bytes (sub_kinds ss)
unfolding sub_kinds
kinds_subs [] = below_none 256 (omega arith)
kinds_subs (ws ∷ ss) = below_more 256 begins (map kind_given ws ++ sub_kinds ss) (omega arith) (kinds_behind ws (sub_kinds ss) (kinds_subs ss))

bits_subs : (ss : List (List Wanted)) → All (All Able) ss → Below (2 ^ 64) (sub_bits ss)
unfolding sub_bits
bits_subs [] a = below_none (2 ^ 64) (omega arith)
bits_subs (ws ∷ ss) (cons h a) = below_more (2 ^ 64) 0 (map bits_given ws ++ sub_bits ss) (omega arith) (bits_behind ws (sub_bits ss) h (bits_subs ss a))

-- ---- a draft

able_body : (r : BlockRow) (d : Draft) → Admitted r d → All Able d.body
unfolding body_ok
able_body r d m =
    bool? (has_subs r)
    (λ h. all_by Able is_unset able_unset d.body (rw h at m.body))
    (λ h. all_able d.revision r.body d.body (rw h at m.body))

none_of : {A : Type 0} (P : A → Type 0) (xs : List A) → length xs ≡ 0 → All P xs
none_of P [] e = nil
none_of P (x ∷ xs) e = absurd (omega arith)

able_subs : (r : BlockRow) (d : Draft) → Admitted r d → All (All Able) d.subs
unfolding subs_ok
able_subs r d m =
    bool? (has_subs r)
    (λ h.
    all_by (All Able) (list_ok d.revision r.subs) (all_able d.revision r.subs) d.subs
    (both (leb (length d.subs) 255) _ (rw h at m.subs)).1)
    (λ h. none_of (All Able) d.subs (m.alone h))

abbrev entry_given : Wanted → Entry
entry_given w = record { kind = kind_given w; bits = bits_given w }

abbrev head_given : Draft → Head
head_given d = record { number = d.number; revision = d.revision; tow = entry_given d.tow; wnc = entry_given d.wnc }

in_entry : (w : Wanted) → Able w → InEntry (entry_given w)
in_entry w a = record { kind = kind_byte w; bits = a.bits }

pub can_be_given : CanBeGiven
unfolding stamps_ok
can_be_given r d ok number =
    let m = admitted r d ok in
    let k = both (wanted_ok d.revision tow_row d.tow) _ m.stamps in
    let tow = able d.revision tow_row d.tow k.0 in
    let wnc = able d.revision wnc_row d.wnc k.1 in
    let body = able_body r d m in
    let subs = able_subs r d m in
    let says-tow = tow.says in
    let says-wnc = wnc.says in
    let body_is = values_given d.body d.subs body in
    let subs_are = subs_behind d.body (sub_kinds d.subs) (sub_bits d.subs) ∙ subs_given d.subs subs in (
      head_given d,
      map kind_given d.body ++ sub_kinds d.subs,
      map bits_given d.body ++ sub_bits d.subs,
      record {
        is = λ i. record { number = d.number; revision = d.revision; tow = says-tow i; wnc = says-wnc i; body = body_is i; subs = subs_are i };
        number = number;
        revision = omega (arith, m.revision);
        tow = in_entry d.tow tow;
        wnc = in_entry d.wnc wnc;
        lengths = length_given d.body (sub_kinds d.subs) (sub_bits d.subs) (length_subs d.subs);
        kinds_in = kinds_behind d.body (sub_kinds d.subs) (kinds_subs d.subs);
        bits_in = bits_behind d.body (sub_bits d.subs) body (bits_subs d.subs subs);
      },
    )
