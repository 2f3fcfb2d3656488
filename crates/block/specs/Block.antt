-- A block against a table: its row, or why it is refused (rule R20: 10, 6, 7, 8, and 9 of a sub-block), and where its sub-blocks stand.
-- Assumes nothing.
use Rattle.std.specs.Prelude.{ℕ, ◌+◌, ◌*◌, ◌≤◌, ◌<◌, ◌≡◌, List, Bool, true, not, ◌&&◌, ◌||◌, cond, length, ltb, leb, eqb, Option, None, Some, Result, Ok, Err, IfOk}
use Rattle.frame.specs.Frame.{id_at, number_of, revision_of, whole_frame}
use Rattle.refusal.specs.declared.Refusal.{Refusal}
use Rattle.refusal.specs.Numbers.{number_for}
use Rattle.rows.specs.declared.FieldRow.{FieldRow}
use Rattle.table.specs.Lists.{every, pick}
use Rattle.table.specs.Rows.{BlockRow, Table, ends, one_level, first_rows, second_rows, nested_row}
use Rattle.table.specs.declared.Shape.{Shape}
use Rattle.table.specs.Decode.{decode}
use Rattle.table.specs.Shape.{shape_says}
use Rattle.table.specs.Rules.{block_ok}
use Rattle.table.specs.Lookup.{carried, find_row}
use Rattle.walk.specs.declared.Span.{Span}
use Rattle.walk.specs.declared.Nest.{Nest}
use Rattle.walk.specs.Walk.{second_length_in, span, nest_end, walk_over, walk_end, any_second, nest_or}
pub use Rattle.walk.specs.Walk.{count_in, sub_length_in}

-- F9: the two parts of its ID
abbrev pub number_in : List ℕ → ℕ
number_in b = number_of (id_at b 0)

abbrev pub revision_in : List ℕ → ℕ
revision_in b = revision_of (id_at b 0)

-- F3: L; what is asked of it is asked of a whole frame, which has L bytes
abbrev pub length_in : List ℕ → ℕ
length_in b = length b

-- V5: where the revision carries the field, it does not end past n
abbrev pub ends_by : ℕ → ℕ → FieldRow → Bool
ends_by revision n f = not (carried revision f) || leb (ends f) n

-- R7: its condition holds where this fails
unfoldable pub body_fits : List ℕ → BlockRow → Bool
body_fits b r = leb 14 (length_in b) && every (ends_by (revision_in b) (length_in b)) r.body

abbrev pub has_subs : BlockRow → Bool
has_subs r = not (eqb (length r.subs) 0)

-- T18: where sub-block k of a block of one level stands: `at`, where it starts in the block, and `size`. No row changes it (D6)
abbrev pub one_span : List ℕ → ℕ → Span
one_span b k = span (16 + k * sub_length_in b) (sub_length_in b)

-- R8, of one level: its condition holds where this fails; N sub-blocks end where one more would start
unfoldable pub one_fits : List ℕ → BlockRow → Bool
one_fits b r =
    let end = one_span b (count_in b) in
    not (has_subs r) || ((eqb (count_in b) 0 || every (ends_by (revision_in b) end.size) r.subs) && leb end.at (length_in b))

-- T20, T21: where N2 stands in a first-level sub-block
abbrev pub offset_of : Option FieldRow → ℕ
offset_of None = 0
offset_of (Some f) = f.offset

-- T21: the walk over a block of two levels. Of its row it uses N2's offset alone (D6)
abbrev pub walk_of : BlockRow → List ℕ → List Nest
walk_of r b = walk_over (offset_of (nested_row r)) b

-- R8, of two levels: the walk starts and ends within L, and the sub-blocks of a level that has any are long enough for its carried fields
unfoldable pub nest_fits : List ℕ → BlockRow → Bool
nest_fits b r =
    leb 20 (length_in b)
    && leb (walk_end 20 (walk_of r b)) (length_in b)
    && (eqb (count_in b) 0 || every (ends_by (revision_in b) (sub_length_in b)) (first_rows r))
    && (not (any_second (walk_of r b)) || every (ends_by (revision_in b) (second_length_in b)) (second_rows r))

-- R8: its condition holds where this fails
unfoldable pub subs_fit : List ℕ → BlockRow → Bool
subs_fit b r = cond (one_level r) (one_fits b r) (nest_fits b r)

-- a sub-block with none nested in it
abbrev pub alone : Span → Nest
alone s = record { first = s; count = 0; size = 0 }

-- T18, T21: sub-block k, of the first level or of the only one, and those nested in it
unfoldable pub nest_of : BlockRow → List ℕ → ℕ → Nest
nest_of r b k = cond (one_level r) (alone (one_span b k)) (nest_or (pick (walk_of r b) k))

-- T18, T21: where it stands
abbrev pub sub_span : BlockRow → List ℕ → ℕ → Span
sub_span r b k = (nest_of r b k).first

-- the row that a block is read by, or the number of a refusal
pub data Seen : Type 0 where
  refused_by : ℕ → Seen
  row : BlockRow → Seen

-- R20: 6, 7, 8
unfoldable pub seen_row : List ℕ → Option BlockRow → Seen
seen_row b None = refused_by 6
seen_row b (Some r) = cond (body_fits b r) (cond (subs_fit b r) (row r) (refused_by 8)) (refused_by 7)

-- R20: 10 comes first
unfoldable pub seen : Table → List ℕ → Seen
seen tab b = cond (whole_frame b) (seen_row b (find_row tab (number_in b))) (refused_by 10)

-- T18, T21: how many sub-blocks it has, of the first level or the only one: N or N1, where its row has sub-fields, else none
abbrev pub sub_count : List ℕ → BlockRow → ℕ
sub_count b r = cond (has_subs r) (count_in b) 0

-- R9: no sub-block has the number
unfoldable pub seen_sub_row : List ℕ → ℕ → Seen → Seen
seen_sub_row b k (refused_by n) = refused_by n
seen_sub_row b k (row r) = cond (ltb k (sub_count b r)) (row r) (refused_by 9)

unfoldable pub seen_sub : Table → List ℕ → ℕ → Seen
seen_sub tab b k = seen_sub_row b k (seen tab b)

-- D9: the row or the number that the code's answer means
abbrev pub matched_says : Result Shape Refusal → Seen
matched_says (Ok s) = row (shape_says s)
matched_says (Err x) = refused_by (number_for x)

abbrev pub sub_matched_says : Result (Shape × Nest) Refusal → Seen
sub_matched_says (Ok m) = row (shape_says m.0)
sub_matched_says (Err x) = refused_by (number_for x)

-- what a caller may use of a row that was found: its field rows keep the rules, N and SBLength are there, and the block
-- passed
pub record Fine (b : List ℕ) (s : Shape) : Type 0 where
  pub rules : block_ok (shape_says s) ≡ true
  pub long : 16 ≤ length b
  pub body : body_fits b (shape_says s) ≡ true
  pub subs : subs_fit b (shape_says s) ≡ true

pub record Matching (t b : List ℕ) (l : Result Shape Refusal) : Type 0 where
  pub is : matched_says l ≡ seen (decode t) b
  pub fine : IfOk l (Fine b)

-- of a sub-block that is there: where it stands, in the block, with those nested in it, and the carried fields of each level lie in theirs
pub record SubFine (b : List ℕ) (k : ℕ) (s : Shape) (n : Nest) : Type 0 where
  pub rules : block_ok (shape_says s) ≡ true
  pub long : 16 ≤ length b
  pub stands : n ≡ nest_of (shape_says s) b k
  pub within : nest_end n ≤ length b
  pub fields : every (ends_by (revision_in b) n.first.size) (first_rows (shape_says s)) ≡ true
  pub nested : 0 < n.count → every (ends_by (revision_in b) n.size) (second_rows (shape_says s)) ≡ true

pub record SubMatching (t b : List ℕ) (k : ℕ) (l : Result (Shape × Nest) Refusal) : Type 0 where
  pub is : sub_matched_says l ≡ seen_sub (decode t) b k
  pub fine : IfOk l (λ m. SubFine b k m.0 m.1)
