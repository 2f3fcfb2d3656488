-- No line is longer than the length that stands for each longer one.
use Rattle.std.proofs.Common.{◌≤◌}
use Rattle.console.proofs.lines.Lines.next_line.Given as goal

abbrev pub invariant-loop : goal.invariant-loop
invariant-loop l = l.length ≤ 270001
