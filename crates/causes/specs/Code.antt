-- A working definition for the code: what `count` asks for, so that no count overflows.
-- Assumes nothing.
use Rattle.std.specs.Prelude.{◌≤◌}
use Rattle.causes.specs.Causes.{Cause, passed_for}
use Rattle.causes.specs.declared.Passed.{Passed}

-- no count of a cause is above that of the places, so none overflows before it
pub record UnderSkipped (a : Passed) : Type 0 where
  pub cause : (k : Cause) → passed_for k a ≤ a.skipped
