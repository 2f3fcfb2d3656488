-- A value that has bits is what its bits read as: by the range of the type where it is given, by the mark where it is unset.
-- Assumes nothing.
use mathlib.Core.Bool.{Bool, true, false, cond}
use Rattle.std.proofs.Common.{Option, None, Some}
use mathlib.Core.Path.{◌≡◌, refl, sym, ap, ◌∙◌, subst}
use Prim.Native.Nat.{ℕ, suc, ◌+◌, ◌-◌, ◌^◌, ◌<◌, ◌≤◌}
use native.Mathlib.Omega.{arith}
use lib.Dec.{ltb, leb, eqb}
use lib.IntN.{ℤ, pos, negsuc}
use borrow.Author.Tests.{ltb-true, leb-true, eqb-true, lt-ltb, le-ltb}
use Rattle.kinds.specs.Types.{u1, u8, i1, i8, f4, f8, size_of, listed, is_unsigned, is_signed, half}
use Rattle.kinds.specs.Marks.{mark_fits, is_do_not_use, ReadsUnset}
use Rattle.kinds.proofs.Unset.{unset_is_told}
use Rattle.rows.specs.declared.FieldRow.{FieldRow}
use Rattle.value.specs.Said.{FieldSaid, unsigned, signed, single, double, do_not_use, not_in_revision, field_refused}
use Rattle.value.specs.Bits.{with_sign, signed_in, read_as, value_of}
use Rattle.value.proofs.Types.{plain}
use Rattle.entry.specs.Wanted.{Wanted}
use Rattle.entry.specs.Bits.{unsigned_bits, signed_within, bits_for, unless_marked, bits_of}
use Rattle.writing.specs.Theorems.{said_back, as_read}
use Rattle.lay.proofs.Low.{only_if}
use Rattle.wire.proofs.Tests.{bool?, eq?, both}

-- ---- the bits of a type, and what they read as

-- a number without sign, or the bits of a float
pub in_range : (size n x : ℕ) → unsigned_bits size n ≡ Some x → (x < 256 ^ size) × (n ≡ x)
in_range size n x e =
    let k = only_if (ltb n (256 ^ size)) (Some n) e in
    let l : n < 256 ^ size = ltb-true _ _ k.0 in
    let q : n ≡ x = cc k.1 in
    (omega arith, q)

-- a number with sign, once over the width
pub sign_back : (h all : ℕ) (z : ℤ) (x : ℕ) → all ≡ h + h → signed_within h all z ≡ Some x → (x < all) × (with_sign h x ≡ z)
unfolding with_sign
sign_back h all (pos n) x t e =
    let k = only_if (ltb n h) (Some n) e in
    let l : n < h = ltb-true _ _ k.0 in
    let q : n ≡ x = cc k.1 in
    (omega arith, rw (← q, lt-ltb n h l))
sign_back h all (negsuc n) x t e =
    let k = only_if (ltb n h) (Some (all - suc n)) e in
    let l : n < h = ltb-true _ _ k.0 in
    let q : all - suc n ≡ x = cc k.1 in
    let b : h ≤ x = omega arith in
    let m : h + h - suc x ≡ n = omega arith in
    (omega arith, rw (le-ltb x h b, m))

-- of the types with sign: half of the numbers twice is all, and how they are read
pub signed_cases : (P : ℕ → Type 0) → P 5 → P 6 → P 7 → P 8 → (kind : ℕ) → 5 ≤ kind → kind ≤ 8 → P kind
signed_cases P a b c d kind l m =
    eq? kind 5 (λ e. subst P (sym e) a)
    (λ n5. eq? kind 6 (λ e. subst P (sym e) b) (λ n6. eq? kind 7 (λ e. subst P (sym e) c)
    (λ n7. let e : 8 ≡ kind = omega arith in subst P e d)))

half_twice : (kind : ℕ) → 5 ≤ kind → kind ≤ 8 → 256 ^ size_of kind ≡ half (size_of kind) + half (size_of kind)
unfolding size_of
half_twice = signed_cases (λ (kind : ℕ). 256 ^ size_of kind ≡ half (size_of kind) + half (size_of kind)) refl refl refl refl

read_signed : (x kind : ℕ) → 5 ≤ kind → kind ≤ 8 → read_as kind x ≡ signed_in (size_of kind) x
unfolding size_of read_as
read_signed x = signed_cases (λ (kind : ℕ). read_as kind x ≡ signed_in (size_of kind) x) refl refl refl refl

-- bits of a type are a number of its size, which reads as what they are for
abbrev ReadsAs : ℕ → FieldSaid → ℕ → Type 0
ReadsAs kind said x = (x < 256 ^ size_of kind) × (read_as kind x ≡ said)

said_back_lem : (kind : ℕ) (said : FieldSaid) (x : ℕ) → bits_for kind said ≡ Some x → ReadsAs kind said x
unfolding bits_for size_of read_as
said_back_lem kind (unsigned n) x e =
    let k = only_if (is_unsigned kind) (unsigned_bits (size_of kind) n) e in
    let r = in_range (size_of kind) n x k.1 in
    let t = both (leb u1 kind) (leb kind u8) k.0 in
    let m : kind ≤ 4 = leb-true _ _ t.1 in
    let p : unsigned x ≡ read_as kind x =
    plain kind x (λ q. omega arith) (λ q. omega arith) (λ q. omega arith) (λ q. omega arith) (λ q. omega arith) (λ q. omega arith) in
    (r.0, sym p ∙ ap unsigned (sym r.1))
said_back_lem kind (signed z) x e =
    let k = only_if (is_signed kind) (signed_within (half (size_of kind)) (256 ^ size_of kind) z) e in
    let t = both (leb i1 kind) (leb kind i8) k.0 in
    let l : 5 ≤ kind = leb-true _ _ t.0 in
    let m : kind ≤ 8 = leb-true _ _ t.1 in
    let r = sign_back (half (size_of kind)) (256 ^ size_of kind) z x (half_twice kind l m) k.1 in
    (r.0, read_signed x kind l m ∙ ap signed r.1)
said_back_lem kind (single b) x e =
    let k = only_if (eqb kind f4) (unsigned_bits 4 b) e in
    let r = in_range 4 b x k.1 in
    subst (λ (n : ℕ). ReadsAs n (single b) x) (sym (eqb-true kind f4 k.0)) (r.0, ap single (sym r.1))
said_back_lem kind (double b) x e =
    let k = only_if (eqb kind f8) (unsigned_bits 8 b) e in
    let r = in_range 8 b x k.1 in
    subst (λ (n : ℕ). ReadsAs n (double b) x) (sym (eqb-true kind f8 k.0)) (r.0, ap double (sym r.1))
said_back_lem kind do_not_use x e = cc
said_back_lem kind not_in_revision x e = cc
said_back_lem kind (field_refused n) x e = cc

-- ---- with the mark

pub marked_none : (f : FieldRow) (o : Option ℕ) (x : ℕ) → unless_marked f o ≡ Some x → (o ≡ Some x) × (is_do_not_use f.mark f.kind x ≡ false)
marked_none f None x e = cc
marked_none f (Some y) x e =
    bool? (is_do_not_use f.mark f.kind y)
    (λ t. cc (sym (ap (λ (b : Bool). cond b None (Some y)) t) ∙ e))
    (λ t.
    let s : Some y ≡ Some x = sym (ap (λ (b : Bool). cond b None (Some y)) t) ∙ e in
    let q : y ≡ x = cc s in
    (s, subst (λ (n : ℕ). is_do_not_use f.mark f.kind n ≡ false) q t))

-- the bits of what is wanted of a field are a number of its size, and read as that
pub bits_read : (f : FieldRow) (w : Wanted) (x : ℕ) → listed f.kind ≡ true → mark_fits f.kind f.mark ≡ true → bits_of f w ≡ Some x
    → (x < 256 ^ size_of f.kind) × (value_of f.kind f.mark x ≡ said_back w)
unfolding bits_of value_of
bits_read f None x l m e =
    let u : ReadsUnset f.mark f.kind (Some x) =
    subst (λ (o : Option ℕ). ReadsUnset f.mark f.kind o) e (unset_is_told f.kind f.mark l m) in
    (u.0, ap (λ (b : Bool). cond b do_not_use (read_as f.kind x)) u.1)
bits_read f (Some said) x l m e =
    let u = marked_none f (bits_for f.kind said) x e in
    let r = said_back_lem f.kind said x u.0 in
    (r.0, ap (λ (b : Bool). cond b do_not_use (read_as f.kind x)) u.1 ∙ r.1)

-- ---- what has bits is given again the same

-- and is no refusal
pub never_refused : (f : FieldRow) (w : Wanted) (x n : ℕ) → bits_of f w ≡ Some x → said_back w ≡ field_refused n → ⊥
unfolding bits_of bits_for
never_refused f None x n e s = let z : ◌≡◌ {A = ℕ} 0 1 = cc s in omega arith
never_refused f (Some said) x n e s = cc (sym (ap (λ (a : FieldSaid). unless_marked f (bits_for f.kind a)) s) ∙ e)

pub wanted_again : (f : FieldRow) (w : Wanted) (x : ℕ) → bits_of f w ≡ Some x → as_read (said_back w) ≡ w
unfolding bits_of bits_for
wanted_again f None x e = refl
wanted_again f (Some (unsigned n)) x e = refl
wanted_again f (Some (signed z)) x e = refl
wanted_again f (Some (single b)) x e = refl
wanted_again f (Some (double b)) x e = refl
wanted_again f (Some do_not_use) x e = cc
wanted_again f (Some not_in_revision) x e = cc
wanted_again f (Some (field_refused n)) x e = cc

pub bits_again : (f : FieldRow) (w : Wanted) (x : ℕ) → bits_of f w ≡ Some x → bits_of f (as_read (said_back w)) ≡ Some x
bits_again f w x e = ap (bits_of f) (wanted_again f w x e) ∙ e
