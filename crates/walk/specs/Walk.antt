-- The walk over sub-blocks of two levels (rule T21): a list of the first-level ones, each with those nested in it. It goes by the lengths
-- in the block and by each one's N2.
-- Assumes nothing.
use Rattle.std.specs.Prelude.{ℕ, zero, suc, ◌+◌, ◌*◌, List, [], ◌∷◌, ◌++◌, Bool, false, ◌||◌, get_or, ltb, Option, None, Some}
use Rattle.table.specs.Lists.{tabulate, pick}
use Rattle.walk.specs.declared.Span.{Span}
use Rattle.walk.specs.declared.Nest.{Nest}
use Rattle.walk.specs.declared.Walked.{Walked}

-- T16, T20: N, or N1
abbrev pub count_in : List ℕ → ℕ
count_in b = get_or b 14 0

-- T16, T20: SBLength, or SB1Length
abbrev pub sub_length_in : List ℕ → ℕ
sub_length_in b = get_or b 15 0

-- T20: SB2Length
abbrev pub second_length_in : List ℕ → ℕ
second_length_in b = get_or b 16 0

abbrev pub span : ℕ → ℕ → Span
span at size = record { at = at; size = size }

-- T21: a first-level sub-block that stands at `at`: its N2 stands n2 bytes into it
abbrev pub nest_at : ℕ → List ℕ → ℕ → Nest
nest_at n2 b at = record { first = span at (sub_length_in b); count = get_or b (at + n2) 0; size = second_length_in b }

-- T21: where its nested ones end, and the next first-level one starts
abbrev pub nest_end : Nest → ℕ
nest_end n = n.first.at + n.first.size + n.count * n.size

-- T21: from `at` on, so many first-level ones
unfoldable pub walk_from : ℕ → List ℕ → ℕ → ℕ → List Nest
walk_from n2 b at zero = []
walk_from n2 b at (suc n) = nest_at n2 b at ∷ walk_from n2 b (nest_end (nest_at n2 b at)) n

-- T21: N1 of them, from 20 on
unfoldable pub walk_over : ℕ → List ℕ → List Nest
walk_over n2 b = walk_from n2 b 20 (count_in b)

-- T21: where second-level sub-block m of a first-level one stands, if it has so many
abbrev pub second_at : Nest → ℕ → Span
second_at n m = span (n.first.at + n.first.size + m * n.size) n.size

-- T21: the second-level ones of a first-level one
unfoldable pub seconds : Nest → List Span
seconds n = tabulate (second_at n) 0 n.count

-- T21: all places of both levels, in their order
unfoldable pub places : List Nest → List Span
places [] = []
places (n ∷ ns) = n.first ∷ (seconds n ++ places ns)

-- R8: where a walk ends that starts at `at`
unfoldable pub walk_end : ℕ → List Nest → ℕ
walk_end at [] = at
walk_end at (n ∷ ns) = walk_end (nest_end n) ns

-- R8: whether the second level has any: some N2 is over 0
unfoldable pub any_second : List Nest → Bool
any_second [] = false
any_second (n ∷ ns) = ltb 0 n.count || any_second ns

-- an empty sub-block at the start, with none nested in it: it stands for one that is not there
abbrev pub no_nest : Nest
no_nest = record { first = span 0 0; count = 0; size = 0 }

abbrev pub nest_or : Option Nest → Nest
nest_or None = no_nest
nest_or (Some n) = n

-- what the code's one pass finds out, on its way to first-level sub-block k
unfoldable pub walked_of : ℕ → List ℕ → ℕ → Walked
walked_of n2 b k = record { end = walk_end 20 (walk_over n2 b); any = any_second (walk_over n2 b); nest = nest_or (pick (walk_over n2 b) k) }
