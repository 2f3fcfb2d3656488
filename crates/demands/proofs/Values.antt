-- What W5 allows of one field: where a value has bits of the type, these alone read as it.
-- Assumes nothing.
use Prim.Native.Nat.{ℕ, suc, ◌+◌, ◌-◌, ◌^◌, ◌≤◌, ◌<◌}
use native.Mathlib.Omega.{arith}
use mathlib.Core.Path.{◌≡◌, refl, sym, ap, ◌∙◌, subst}
use mathlib.Core.Bool.{Bool, true, false, not, ◌&&◌, ◌||◌, cond}
use mathlib.Core.Logic.{◌⊎◌, inl, inr, ⊎_elim}
use Rattle.std.proofs.Common.{Option, None, Some}
use lib.Dec.{leb, ltb, eqb}
use lib.IntN.{ℤ, pos, negsuc}
use borrow.Author.Tests.{leb-true, ltb-true, ltb-false, eqb-true, eqb-false, lt-ltb, le-ltb}
use Rattle.wire.proofs.Tests.{lt?, both_left, both_right, never}
use Rattle.kinds.specs.Types.{size_of, listed, is_unsigned, is_signed, half}
use Rattle.kinds.specs.Marks.{mark_fits, is_do_not_use, unset_of, ReadsUnset}
use Rattle.kinds.proofs.Unset.{unset_is_told}
use Rattle.rows.specs.declared.FieldRow.{FieldRow}
use Rattle.table.specs.Lists.{is_some}
use Rattle.value.specs.Said.{FieldSaid, unsigned, signed, single, double, do_not_use, not_in_revision, field_refused}
use Rattle.value.specs.Bits.{with_sign, read_as}
use Rattle.value.proofs.Types.{plain}
use Rattle.entry.specs.Wanted.{Wanted}
use Rattle.entry.specs.Bits.{bits_for, unless_marked, bits_of, wanted_ok}
use Rattle.demands.specs.Refusals.{NoneOfType, ReadsDoNotUse, NotAllowed}
use Rattle.demands.proofs.Exact.{Tells, both, regroup, within, orelse}
use Rattle.demands.proofs.Fits.{above, below}

-- ---- the bits that read as a value

-- of all bits of the type these alone do
record Reads (kind : ℕ) (said : FieldSaid) (bits : ℕ) : Type 0 where
  pub few : bits < 256 ^ size_of kind
  pub reads : read_as kind bits ≡ said
  pub only : (x : ℕ) → x < 256 ^ size_of kind → read_as kind x ≡ said → x ≡ bits

unsigned_as : (kind x : ℕ) → is_unsigned kind ≡ true → read_as kind x ≡ unsigned x
unsigned_as kind x e =
    let l = leb-true kind 4 (both_right (leb 1 kind) (leb kind 4) e) in
    sym (plain kind x (λ q. omega arith) (λ q. omega arith) (λ q. omega arith) (λ q. omega arith) (λ q. omega arith) (λ q. omega arith))

unsigned_reads : (kind n : ℕ) → is_unsigned kind ≡ true → n < 256 ^ size_of kind → Reads kind (unsigned n) n
unsigned_reads kind n e l =
    record {
      few = l;
      reads = unsigned_as kind n e;
      only = λ x _ q. let p : unsigned x ≡ unsigned n = sym (unsigned_as kind x e) ∙ q in let r : x ≡ n = cc in r;
    }

-- a type with sign: the half below is negative
record SignedType (kind : ℕ) : Type 0 where
  pub reads : (x : ℕ) → read_as kind x ≡ signed (with_sign (half (size_of kind)) x)
  pub all : 256 ^ size_of kind ≡ half (size_of kind) + half (size_of kind)

signed_is : (kind k : ℕ) → kind ≡ k → SignedType k → SignedType kind
signed_is kind k q t = subst SignedType (sym q) t

signed_type : (kind : ℕ) → is_signed kind ≡ true → SignedType kind
unfolding read_as size_of
signed_type kind e =
    let l = leb-true 5 kind (both_left (leb 5 kind) (leb kind 8) e) in
    let m = leb-true kind 8 (both_right (leb 5 kind) (leb kind 8) e) in
    lt? kind 6 (λ a. signed_is kind 5 (omega arith) (record { reads = λ x. refl; all = refl }))
    (λ a. lt? kind 7 (λ b. signed_is kind 6 (omega arith) (record { reads = λ x. refl; all = refl }))
    (λ b. lt? kind 8 (λ c. signed_is kind 7 (omega arith) (record { reads = λ x. refl; all = refl }))
    (λ c. signed_is kind 8 (omega arith) (record { reads = λ x. refl; all = refl }))))

module _ (h : ℕ) where
  sign_low : (x : ℕ) → x < h → with_sign h x ≡ pos x
  unfolding with_sign
  sign_low x l = rw (lt-ltb x h l) refl

  sign_high : (x : ℕ) → h ≤ x → with_sign h x ≡ negsuc (h + h - suc x)
  unfolding with_sign
  sign_high x l = rw (le-ltb x h l) refl

  only_pos : (n x : ℕ) → with_sign h x ≡ pos n → x ≡ n
  only_pos n x q =
      lt? x h (λ l. let p : pos x ≡ pos n = sym (sign_low x l) ∙ q in let r : x ≡ n = cc in r)
      (λ l. let p : negsuc (h + h - suc x) ≡ pos n = sym (sign_high x l) ∙ q in let z : ◌≡◌ {A = ℕ} 0 1 = cc in omega arith)

  only_neg : (n x : ℕ) → x < h + h → with_sign h x ≡ negsuc n → x ≡ h + h - suc n
  only_neg n x m q =
      lt? x h (λ l. let p : pos x ≡ negsuc n = sym (sign_low x l) ∙ q in let z : ◌≡◌ {A = ℕ} 0 1 = cc in omega arith)
      (λ l. let p : negsuc (h + h - suc x) ≡ negsuc n = sym (sign_high x l) ∙ q in let r : h + h - suc x ≡ n = cc in omega arith)

signed_value : (z w : ℤ) → signed z ≡ signed w → z ≡ w
signed_value z w e = cc

pos_reads : (kind n : ℕ) → is_signed kind ≡ true → n < half (size_of kind) → Reads kind (signed (pos n)) n
pos_reads kind n e l =
    let h = half (size_of kind) in
    let t = signed_type kind e in
    record {
      few = omega (arith, t.all, l);
      reads = t.reads n ∙ ap signed (sign_low h n l);
      only = λ x _ q. only_pos h n x (signed_value _ _ (sym (t.reads x) ∙ q));
    }

neg_reads : (kind n : ℕ) → is_signed kind ≡ true → n < half (size_of kind) → Reads kind (signed (negsuc n)) (256 ^ size_of kind - suc n)
neg_reads kind n e l =
    let h = half (size_of kind) in
    let t = signed_type kind e in
    let y = 256 ^ size_of kind - suc n in
    let back : half (size_of kind) + half (size_of kind) - suc (256 ^ size_of kind - suc n) ≡ n = omega (arith, t.all, l) in
    record {
      few = omega (arith, t.all, l);
      reads = t.reads y ∙ ap signed (sign_high h y (omega (arith, t.all, l)) ∙ ap negsuc back);
      only = λ x m q. let r = only_neg h n x (omega (arith, t.all, m)) (signed_value _ _ (sym (t.reads x) ∙ q)) in omega (arith, t.all, r);
    }

single_reads : (kind n : ℕ) → kind ≡ 9 → n < 256 ^ 4 → Reads kind (single n) n
unfolding read_as size_of
single_reads kind n e l =
    subst (λ (k : ℕ). Reads k (single n) n) (sym e)
    (record { few = l; reads = refl; only = λ x _ q. let r : x ≡ n = cc in r })

double_reads : (kind n : ℕ) → kind ≡ 10 → n < 256 ^ 8 → Reads kind (double n) n
unfolding read_as size_of
double_reads kind n e l =
    subst (λ (k : ℕ). Reads k (double n) n) (sym e)
    (record { few = l; reads = refl; only = λ x _ q. let r : x ≡ n = cc in r })

-- ---- there are some, or the value is none of the type

data Bits (kind : ℕ) (said : FieldSaid) : Option ℕ → Type 0 where
  no : NoneOfType kind said → Bits kind said None
  yes : (bits : ℕ) → Reads kind said bits → (NoneOfType kind said → ⊥) → Bits kind said (Some bits)

bits_by : {kind : ℕ} {said : FieldSaid} (a b : Bool) {x : ℕ} → Tells (a && b) (NoneOfType kind said) → (a ≡ true → b ≡ true → Reads kind said x)
    → Bits kind said (cond a (cond b (Some x) None) None)
bits_by true true {x} t r = yes x (r refl refl) (t.fine refl)
bits_by true false t r = no (t.holds refl)
bits_by false b t r = no (t.holds refl)

is_tells : (m n : ℕ) → Tells (eqb m n) (m ≡ n → ⊥)
is_tells m n = record { fine = λ e f. f (eqb-true m n e); holds = λ e. eqb-false m n e }

half_tells : (n h : ℕ) → Tells (ltb n h) (h < suc n)
half_tells n h = record { fine = λ e q. let l = ltb-true n h e in omega arith; holds = λ e. let l = ltb-false n h e in omega arith }

bits : (kind : ℕ) (said : FieldSaid) → Bits kind said (bits_for kind said)
unfolding bits_for
bits kind (unsigned n) =
    bits_by (is_unsigned kind) (ltb n (256 ^ size_of kind)) (regroup (both (both (within 1 kind) (within kind 4)) (below n (256 ^ size_of kind))))
    (λ e l. unsigned_reads kind n e (ltb-true n (256 ^ size_of kind) l))
bits kind (signed (pos n)) =
    bits_by (is_signed kind) (ltb n (half (size_of kind))) (regroup (both (both (within 5 kind) (within kind 8)) (below n (half (size_of kind)))))
    (λ e l. pos_reads kind n e (ltb-true n (half (size_of kind)) l))
bits kind (signed (negsuc n)) =
    bits_by (is_signed kind) (ltb n (half (size_of kind))) (regroup (both (both (within 5 kind) (within kind 8)) (half_tells n (half (size_of kind)))))
    (λ e l. neg_reads kind n e (ltb-true n (half (size_of kind)) l))
bits kind (single n) =
    bits_by (eqb kind 9) (ltb n (256 ^ 4)) (both (is_tells kind 9) (below n (256 ^ 4)))
    (λ e l. single_reads kind n (eqb-true kind 9 e) (ltb-true n (256 ^ 4) l))
bits kind (double n) =
    bits_by (eqb kind 10) (ltb n (256 ^ 8)) (both (is_tells kind 10) (below n (256 ^ 8)))
    (λ e l. double_reads kind n (eqb-true kind 10 e) (ltb-true n (256 ^ 8) l))
bits kind do_not_use = no tt
bits kind not_in_revision = no tt
bits kind (field_refused n) = no tt

-- ---- a field's value

value_tells : (f : FieldRow) (said : FieldSaid) → Tells (is_some (unless_marked f (bits_for f.kind said))) (NoneOfType f.kind said ⊎ ReadsDoNotUse f said)
value_tells f said = by (bits f.kind said) where
  marked : (x : ℕ) → Reads f.kind said x → (NoneOfType f.kind said → ⊥) → (c : Bool) → is_do_not_use f.mark f.kind x ≡ c
      → Tells (is_some (cond c None (Some x))) (NoneOfType f.kind said ⊎ ReadsDoNotUse f said)
  marked x r n true e = record { fine = λ z. never refl (sym z); holds = λ _. inr (x, (r.few, (r.reads, e))) }
  marked x r n false e =
      record {
        fine = λ _ g.
            ⊎_elim n
            (λ u. never u.1.1.1 (ap (is_do_not_use f.mark f.kind) (r.only u.0 u.1.0 u.1.1.0) ∙ e)) g;
        holds = λ z. never refl z;
      }

  by : {o : Option ℕ} → Bits f.kind said o → Tells (is_some (unless_marked f o)) (NoneOfType f.kind said ⊎ ReadsDoNotUse f said)
  by (no n) = record { fine = λ z. never refl (sym z); holds = λ _. inl n }
  by (yes x r n) = marked x r n (is_do_not_use f.mark f.kind x) refl

-- only a field without a mark cannot be unset
unset_tells : (mark kind : ℕ) → listed kind ≡ true → mark_fits kind mark ≡ true → Tells (is_some (unset_of mark kind)) (mark ≡ 0)
unfolding is_do_not_use
unset_tells mark kind l m = by (unset_of mark kind) (unset_is_told kind mark l m) where
  by : (o : Option ℕ) → ReadsUnset mark kind o → Tells (is_some o) (mark ≡ 0)
  by None r = record { fine = λ z. never refl (sym z); holds = λ _. r }
  by (Some x) r =
      record {
        fine = λ _ q. never r.1 (ap (λ (k : ℕ). is_do_not_use k kind x) q);
        holds = λ z. never refl z;
      }

cond_or : (c u : Bool) → (not c || u) ≡ cond c u true
cond_or true u = refl
cond_or false u = refl

cond_and : (c u : Bool) → (c && u) ≡ cond c u false
cond_and true u = refl
cond_and false u = refl

pub wanted_tells : (revision : ℕ) (f : FieldRow) → listed f.kind ≡ true → mark_fits f.kind f.mark ≡ true → (w : Wanted)
    → Tells (wanted_ok revision f w) (NotAllowed revision f w)
unfolding wanted_ok bits_of
wanted_tells revision f l m None =
    subst (λ (c : Bool). Tells c (NotAllowed revision f None)) (cond_or (leb f.first revision) _)
    (orelse (above f.first revision) (unset_tells f.mark f.kind l m))
wanted_tells revision f l m (Some said) =
    subst (λ (c : Bool). Tells c (NotAllowed revision f (Some said))) (cond_and (leb f.first revision) _)
    (both (within f.first revision) (value_tells f said))
