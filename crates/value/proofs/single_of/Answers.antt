-- `value::single_of` meets its contract: the test tells a NaN's bits.
-- Assumes nothing.
use Prim.Native.Nat.{◌%◌, ◌<◌, ◌≤◌}
use native.Mathlib.Omega.{arith}
use lib.Ieee.{binary32}
use Rattle.value.proofs.Floats.{not_nan, single_nan, single_is}
use Rattle.value.proofs.single_of.Goals as goal

pub float_from_bits-result : goal.float_from_bits-result
float_from_bits-result c =
    let h : c.args.x % 0x80000000 ≤ 0x7f800000 = omega arith in not_nan binary32 c.args.x h

pub returns-then-b-gt2139095040 : goal.returns-then-b-gt2139095040
returns-then-b-gt2139095040 c =
    let h : 0x7f800000 < c.args.x % 0x80000000 = omega arith in single_nan c.args.x h

pub returns-else-b-gt2139095040 : goal.returns-else-b-gt2139095040
returns-else-b-gt2139095040 c =
    let h : c.args.x % 0x80000000 ≤ 0x7f800000 = omega arith in single_is c.args.x c.requires h
