-- Places judged and a run read without a ceiling, as before request M-103; and that with 65,532 they are so still (rule F16).
-- Assumes nothing.
use Rattle.std.specs.Prelude.{ℕ, zero, suc, ◌+◌, ◌%◌, ◌≡◌, Bool, not, cond, ◌&&◌, List, [], ◌∷◌, length, get_or, leb, ltb, eqb}
use Rattle.wire.specs.Range.{Bytes}
use Rattle.frame.specs.Frame.{greatest_ceiling, sync_at, length_at, ends_within, crc_right}
use Rattle.frame.specs.Judge.{judged}
use Rattle.frame.specs.declared.Reason.TheVariants.{NoSync, LengthNotAllowed, CrcWrong}
use Rattle.frame.specs.declared.Verdict.{Verdict}
use Rattle.frame.specs.declared.Verdict.TheVariants.{NoFrame, Frame, Undecided}
use Rattle.framing.specs.ReadRun.{Reading, nothing_read, read_by, read_run}

-- F4 as it was
unfoldable pub allowed_before : ℕ → Bool
allowed_before l = eqb (l % 4) 0 && leb 8 l

-- F8 as it was
unfoldable pub frame_at_before : List ℕ → ℕ → Bool
frame_at_before w p = sync_at w p && allowed_before (length_at w p) && ends_within w p && crc_right w p

-- F12 as it was
unfoldable pub judged_before : List ℕ → Verdict
judged_before v =
    cond (eqb (length v) 0) Undecided
    (cond (not (eqb (get_or v 0 0) 0x24)) (NoFrame NoSync)
    (cond (eqb (length v) 1) Undecided
    (cond (not (eqb (get_or v 1 0) 0x40)) (NoFrame NoSync)
    (cond (ltb (length v) 8) Undecided
    (cond (not (allowed_before (length_at v 0))) (NoFrame LengthNotAllowed)
    (cond (ltb (length v) (length_at v 0)) Undecided
    (cond (crc_right v 0) (Frame (length_at v 0)) (NoFrame (CrcWrong (length_at v 0))))))))))

-- F11 as it was
unfoldable pub read_from_before : ℕ → ℕ → List ℕ → Reading
read_from_before p k [] = nothing_read
read_from_before p (suc k) (b ∷ bs) = read_from_before (p + 1) k bs
read_from_before p zero (b ∷ bs) = read_by (frame_at_before (b ∷ bs) 0) p (b ∷ bs) (λ k. read_from_before (p + 1) k bs)

unfoldable pub read_run_before : ℕ → List ℕ → Reading
read_run_before p w = read_from_before p 0 w

-- F16: of bytes, for two of them never say more than 65,535
pub record GreatestAsBefore : Type 0 where
  pub judges : (v : List ℕ) → Bytes v → judged greatest_ceiling v ≡ judged_before v
  pub reads : (p : ℕ) (w : List ℕ) → Bytes w → read_run greatest_ceiling p w ≡ read_run_before p w
