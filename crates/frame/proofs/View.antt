-- Which case of `judged` a run is in, with what holds there. What a judge must meet is shown by matches on it.
-- Assumes nothing.
use mathlib.Core.Path.{◌≡◌, sym, subst}
use mathlib.Core.List.{List}
use mathlib.Core.Bool.{true, false, ◌&&◌}
use Prim.Native.Nat.{ℕ, ◌%◌, ◌≤◌, ◌<◌, max}
use native.Mathlib.Omega.{arith}
use lib.ListN.{length, get_or}
use lib.Dec.{leb, eqb}
use borrow.Author.Tests.{leb-true, eqb-true}
use Rattle.frame.specs.Frame.{greatest_ceiling, ceiling_ok, length_at, allowed, crc_right}
use Rattle.frame.specs.Judge.{judged}
use Rattle.frame.specs.declared.Verdict.{Verdict}
use Rattle.frame.specs.declared.Reason.TheVariants.{NoSync, LengthNotAllowed, CrcWrong}
use Rattle.frame.specs.declared.Verdict.TheVariants.{NoFrame, Frame, Undecided}
use Rattle.wire.proofs.Tests.{bool?, lt?, eq?, both_left, both_right}
use Rattle.frame.proofs.Cases.{empty, sync0, one, sync1, short, bad_length, part, good, bad}

pub record Head (v : List ℕ) : Type 0 where
  pub eight : 8 ≤ length v
  pub first : get_or v 0 0 ≡ 0x24
  pub second : get_or v 1 0 ≡ 0x40

-- what a ceiling is
pub record Ceiling (c : ℕ) : Type 0 where
  pub four : c % 4 ≡ 0
  pub low : 16 ≤ c
  pub high : c ≤ 65532

pub ceilings : (c : ℕ) → ceiling_ok c ≡ true → Ceiling c
unfolding ceiling_ok
ceilings c e =
    let f = both_left (eqb (c % 4) 0 && leb 16 c) (leb c greatest_ceiling) e in
    record {
      four = eqb-true (c % 4) 0 (both_left (eqb (c % 4) 0) (leb 16 c) f);
      low = leb-true 16 c (both_right (eqb (c % 4) 0) (leb 16 c) f);
      high = leb-true c greatest_ceiling (both_right (eqb (c % 4) 0 && leb 16 c) (leb c greatest_ceiling) e);
    }

-- what an allowed length is
pub record Allowed (c n : ℕ) : Type 0 where
  pub by_four : n % 4 ≡ 0
  pub not_small : 8 ≤ n
  pub not_above : n ≤ c

pub allows : (c n : ℕ) → allowed c n ≡ true → Allowed c n
unfolding allowed
allows c n e =
    let f = both_left (eqb (n % 4) 0 && leb 8 n) (leb n c) e in
    record {
      by_four = eqb-true (n % 4) 0 (both_left (eqb (n % 4) 0) (leb 8 n) f);
      not_small = leb-true 8 n (both_right (eqb (n % 4) 0) (leb 8 n) f);
      not_above = leb-true n c (both_right (eqb (n % 4) 0 && leb 8 n) (leb n c) e);
    }

pub data View (c : ℕ) (v : List ℕ) : Verdict → Type 0 where
  waits_head : length v < 8 → (0 < length v → get_or v 0 0 ≡ 0x24) → (1 < length v → get_or v 1 0 ≡ 0x40) → View c v Undecided
  waits_body : Head v → allowed c (length_at v 0) ≡ true → length v < length_at v 0 → View c v Undecided
  at_sync0 : 0 < length v → (get_or v 0 0 ≡ 0x24 → ⊥) → View c v (NoFrame NoSync)
  at_sync1 : 1 < length v → get_or v 0 0 ≡ 0x24 → (get_or v 1 0 ≡ 0x40 → ⊥) → View c v (NoFrame NoSync)
  at_length : Head v → allowed c (length_at v 0) ≡ false → View c v (NoFrame LengthNotAllowed)
  at_bad : Head v → allowed c (length_at v 0) ≡ true → length_at v 0 ≤ length v → crc_right v 0 ≡ false → View c v (NoFrame (CrcWrong (length_at v 0)))
  at_good : Head v → allowed c (length_at v 0) ≡ true → length_at v 0 ≤ length v → crc_right v 0 ≡ true → View c v (Frame (length_at v 0))

module _ (c : ℕ) (v : List ℕ) where
  at : {x : Verdict} → judged c v ≡ x → View c v x → View c v (judged c v)
  at e w = subst (View c v) (sym e) w

  view_length : Head v → View c v (judged c v)
  view_length h =
      let two : 1 < length v = omega (arith, h.eight) in
      bool? (allowed c (length_at v 0))
      (λ ok.
      lt? (length v) (length_at v 0) (λ l. at (part c v two h.first h.second h.eight ok l) (waits_body h ok l))
      (λ l.
      bool? (crc_right v 0) (λ e. at (good c v two h.first h.second h.eight ok l e) (at_good h ok l e))
      (λ e. at (bad c v two h.first h.second h.eight ok l e) (at_bad h ok l e))))
      (λ no. at (bad_length c v two h.first h.second h.eight no) (at_length h no))

  pub view : View c v (judged c v)
  view =
      lt? 0 (length v)
      (λ l.
      eq? (get_or v 0 0) 0x24
      (λ a.
      lt? 1 (length v)
      (λ m.
      eq? (get_or v 1 0) 0x40
      (λ b.
      lt? (length v) 8 (λ s. at (short c v m a b s) (waits_head s (λ q. a) (λ q. b))) (λ g. view_length (record { eight = g; first = a; second = b })))
      (λ b. at (sync1 c v m a b) (at_sync1 m a b)))
      (λ m. at (one c v l a (omega arith)) (waits_head (omega arith) (λ q. a) (λ q. let f : ⊥ = omega arith in absurd f))))
      (λ a. at (sync0 c v l a) (at_sync0 l a)))
      (λ l.
      at (empty c v (omega arith))
      (waits_head (omega arith) (λ q. let f : ⊥ = omega arith in absurd f) (λ q. let f : ⊥ = omega arith in absurd f)))

-- ---- what waits is short of the ceiling, or of a header

short_of : (c : ℕ) (v : List ℕ) {x : Verdict} → View c v x → x ≡ Undecided → length v < max 8 c
short_of c v (waits_head h f s) e = omega arith
short_of c v (waits_body h a l) e = omega (arith, (allows c (length_at v 0) a).not_above)
short_of c v (at_sync0 l a) e = let z : ◌≡◌ {A = ℕ} 0 1 = cc in omega arith
short_of c v (at_sync1 l a n) e = let z : ◌≡◌ {A = ℕ} 0 1 = cc in omega arith
short_of c v (at_length h m) e = let z : ◌≡◌ {A = ℕ} 0 1 = cc in omega arith
short_of c v (at_bad h a l q) e = let z : ◌≡◌ {A = ℕ} 0 1 = cc in omega arith
short_of c v (at_good h a l q) e = let z : ◌≡◌ {A = ℕ} 0 1 = cc in omega arith

pub waits_short : (c : ℕ) (v : List ℕ) → judged c v ≡ Undecided → length v < max 8 c
waits_short c v e = short_of c v (view c v) e
