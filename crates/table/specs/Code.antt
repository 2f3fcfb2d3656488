-- Working definitions: the rules on rows (T8 to T16, T19, T20) once more, as the code's one pass takes them. `proofs/Fused` shows that they
-- are the rules.
-- Assumes nothing.
use Rattle.std.specs.Prelude.{Bool, true, ◌&&◌, cond, List, [], ◌∷◌, ℕ, ◌+◌, leb, eqb, take, drop}
use Rattle.rows.specs.declared.FieldRow.{FieldRow}
use Rattle.rows.specs.declared.Row.{Row}
use Rattle.table.specs.Rows.{BlockRow, ends, one_level}
use Rattle.table.specs.Decode.{block_of}
use Rattle.table.specs.Rules.{first_ok, type_ok, mark_ok, pair_ok, nest_ok}

-- a field row, where the one before ends at `low` and has the first revision `rev`
unfoldable pub field_step : ℕ → ℕ → ℕ → FieldRow → Bool
field_step low rev highest f = leb low f.offset && leb rev f.first && first_ok highest f && type_ok f && mark_ok f

unfoldable pub field_pass : ℕ → ℕ → ℕ → List FieldRow → Bool
field_pass low rev highest [] = true
field_pass low rev highest (f ∷ fs) = field_step low rev highest f && field_pass (ends f) f.first highest fs

-- the sub-fields of a row of one level, and of one of two
unfoldable pub one_pass : BlockRow → Bool
one_pass b = field_pass 0 0 b.highest b.subs && pair_ok b

unfoldable pub two_pass : BlockRow → Bool
two_pass b = field_pass 0 0 b.highest (take b.firsts b.subs) && field_pass 0 0 b.highest (drop b.firsts b.subs) && nest_ok b

unfoldable pub block_pass : BlockRow → Bool
block_pass b = field_pass 14 0 b.highest b.body && cond (one_level b) (one_pass b) (two_pass b)

-- a block row, where the least number allowed is `least` and `used` field rows of `fields` are before it
unfoldable pub row_step : ℕ → ℕ → ℕ → Row → Bool
row_step least used fields r =
    leb r.number 8191 && leb r.highest 7 && leb least r.number && eqb r.start used && leb (used + (r.bodies + r.subs)) fields

unfoldable pub row_pass : List ℕ → ℕ → ℕ → ℕ → List Row → Bool
row_pass t least used fields [] = eqb used fields
row_pass t least used fields (r ∷ rs) =
    row_step least used fields r && block_pass (block_of t r) && row_pass t (r.number + 1) (used + (r.bodies + r.subs)) fields rs
