-- `lists::lists` meets its contract. The invariant: what is found, with what is left behind it, gives the whole; and each value before
-- what is left has taken two bytes and more.
-- Assumes nothing.
use Rattle.std.proofs.Common.{◌≡◌, ◌+◌, ◌*◌, ◌≤◌, length, take}
use Rattle.lists.specs.Line.{words_of, lists_in}
use Rattle.lists.proofs.Laws.{behind_lists}
use Rattle.lists.proofs.lists.Given as goal

abbrev pub invariant-loop-kind : goal.invariant-loop-kind
invariant-loop-kind l =
    (length l.left + 2 * l.count ≤ length l.text)
    × (behind_lists (take l.count l.kinds) (take l.count l.bits) (lists_in (words_of l.left)) ≡ lists_in (words_of l.text))

abbrev pub decreases-loop-kind : goal.decreases-loop-kind
decreases-loop-kind l = length l.left
