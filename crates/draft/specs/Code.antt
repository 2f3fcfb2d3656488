-- Working definitions for the code: a walk over the values from a place on, and what its answers say.
-- Assumes nothing.
use Rattle.std.specs.Prelude.{ℕ, ◌≤◌, Bool, ◌&&◌, cond, List, [], ◌≡◌, leb, eqb, length, drop, Option, None, Some, IfSome, is_some}
use Rattle.rows.specs.declared.FieldRow.{FieldRow}
use Rattle.table.specs.Lists.{every}
use Rattle.table.specs.Rows.{BlockRow}
use Rattle.block.specs.Block.{has_subs}
use Rattle.entry.specs.Wanted.{Wanted, is_unset, values_in, subs_in}
use Rattle.entry.specs.Bits.{list_ok}
use Rattle.draft.specs.declared.Measured.{Measured}
use Rattle.draft.specs.Draft.{sb_length_by, block_end_by, round_up}

-- the values of the list from p on, and the sub-blocks from there on
abbrev pub values_from : List ℕ → List ℕ → ℕ → List Wanted
values_from kinds bits p = values_in (drop p kinds) (drop p bits)

abbrev pub subs_from : List ℕ → List ℕ → ℕ → List (List Wanted)
subs_from kinds bits p = subs_in (drop p kinds) (drop p bits)

-- no value stands at p: a sub-block begins there, or all has ended
abbrev pub Stops : List ℕ → List ℕ → ℕ → Type 0
Stops kinds bits p = values_from kinds bits p ≡ []

-- the list that has p ends at q
pub record ListLeft (kinds bits : List ℕ) (p q : ℕ) : Type 0 where
  pub onward : p ≤ q
  pub within : q ≤ length kinds
  pub stops : Stops kinds bits q
  pub subs : subs_from kinds bits q ≡ subs_from kinds bits p

-- the list that has p has only unset values from there on, and where it ends; whatever the bits are
pub record Resting (kinds : List ℕ) (p : ℕ) (r : Option ℕ) : Type 0 where
  pub is : (bits : List ℕ) → is_some r ≡ every is_unset (values_from kinds bits p)
  pub left : (bits : List ℕ) → IfSome r (ListLeft kinds bits p)

-- the values from p on are allowed by these rows, and where the list ends
pub record Listing (revision : ℕ) (fs : List FieldRow) (kinds bits : List ℕ) (p : ℕ) (r : Option ℕ) : Type 0 where
  pub is : is_some r ≡ list_ok revision fs (values_from kinds bits p)
  pub left : IfSome r (ListLeft kinds bits p)

-- how many sub-blocks there are, where all is allowed
abbrev pub counted : Bool → List (List Wanted) → Option ℕ
counted ok ss = cond ok (Some (length ss)) None

abbrev pub subs_allowed : (List Wanted → Bool) → List (List Wanted) → Bool
subs_allowed test ss = leb (length ss) 255 && every test ss

-- W4, W5: both parts of R11 that read the lists
abbrev pub lists_counted : BlockRow → ℕ → List ℕ → List ℕ → Option ℕ
lists_counted b revision kinds bits =
    let ws = values_in kinds bits in
    let ss = subs_in kinds bits in
    counted
    (cond (has_subs b) (every is_unset ws) (list_ok revision b.body ws)
    && cond (has_subs b) (subs_allowed (list_ok revision b.subs) ss) (eqb (length ss) 0))
    ss

pub record Sizing (b : BlockRow) (revision n : ℕ) (r : Measured) : Type 0 where
  pub sub : r.sub ≡ sb_length_by b revision n
  pub end : r.end ≡ block_end_by b revision n
  pub all : r.all ≡ round_up (block_end_by b revision n)
