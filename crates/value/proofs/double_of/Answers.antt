-- `value::double_of` meets its contract: the test tells a NaN's bits.
-- Assumes nothing.
use Prim.Native.Nat.{◌%◌, ◌<◌, ◌≤◌}
use lib.Ieee.{binary64}
use native.Mathlib.Omega.{arith}
use Rattle.value.proofs.Floats.{not_nan, double_nan, double_is}
use Rattle.value.proofs.double_of.Goals as goal

pub float_from_bits-result : goal.float_from_bits-result
float_from_bits-result c =
    let h : c.args.x % 0x8000000000000000 ≤ 0x7ff0000000000000 = omega arith in not_nan binary64 c.args.x h

pub returns-then-x-gt9218868437227405312 : goal.returns-then-x-gt9218868437227405312
returns-then-x-gt9218868437227405312 c =
    let h : 0x7ff0000000000000 < c.args.x % 0x8000000000000000 = omega arith in double_nan c.args.x h

pub returns-else-x-gt9218868437227405312 : goal.returns-else-x-gt9218868437227405312
returns-else-x-gt9218868437227405312 c =
    let h : c.args.x % 0x8000000000000000 ≤ 0x7ff0000000000000 = omega arith in double_is c.args.x (omega arith) h
