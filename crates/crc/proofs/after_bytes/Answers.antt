-- `crc::after_bytes` meets its contract: a byte of the loop is a step of `crc_from`.
-- Assumes nothing.
use mathlib.Core.Path.{sym, ap, ◌∙◌}
use Prim.Native.Nat.{ℕ, ◌+◌}
use native.Mathlib.Omega.{arith}
use lib.ListN.{drop}
use Rattle.crc.specs.Crc.{crc_from}
use Rattle.crc.proofs.Step.{step, end}
use Rattle.crc.proofs.after_bytes.Goals as goal

pub loop-b-preserved : goal.loop-b-preserved
loop-b-preserved c =
    let l = c.loop-b in
    let s = c.args.s.now in
    ap (λ (r : ℕ). crc_from r (drop (l.b-index + 1) s)) c.after_byte-c.ensures ∙ sym (step l.c s l.b-index (omega arith)) ∙ l.invariant

pub returns : goal.returns
returns c =
    let l = c.loop-b in
    sym (end l.c c.args.s.now l.b-index (omega arith)) ∙ l.invariant
