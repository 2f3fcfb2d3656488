-- PPPInfo of PVTCartesian by the rows shipped: what is read, what may be given, and the bits that it is written with (rule S13).
-- Assumes nothing.
use Rattle.std.specs.Prelude.{ℕ, ◌≡◌, List, [], ◌∷◌, ◌++◌, map, replicate, Option, None, Some}
use Rattle.kinds.specs.Types.{u2}
use Rattle.kinds.specs.Marks.{seed}
use Rattle.rows.specs.declared.FieldRow.{FieldRow}
use Rattle.rows.specs.Places.{field_row}
use Rattle.table.specs.Lists.{pick}
use Rattle.table.specs.Rows.{BlockRow}
use Rattle.table.specs.Lookup.{find_row}
use Rattle.shipped.specs.Rows.{shipped}
use Rattle.record.specs.Answer.{FieldSaid, unsigned, single, double, do_not_use}
use Rattle.record.specs.Calls.{body_field}
use Rattle.entry.specs.Wanted.{Wanted}
use Rattle.entry.specs.Bits.{bits_of}
use Rattle.draft.specs.Draft.{Draft}
use Rattle.frame.specs.Frame.{greatest_ceiling}
use Rattle.writer.specs.Write.{WriteOutcome, refuses_write, written_of}

-- PVTCartesian of revision 1, which ends with PPPInfo: two bytes of the CRC, two of PPPInfo, and 0 in all its other fields
abbrev pub cartesian : ℕ → ℕ → ℕ → ℕ → List ℕ
cartesian c d low high = 0x24 ∷ 0x40 ∷ c ∷ d ∷ 0xA6 ∷ 0x2F ∷ 0x58 ∷ 0x00 ∷ replicate 78 0 ++ low ∷ high ∷ []

abbrev pub info0000 : List ℕ
info0000 = cartesian 0x02 0xFB 0x00 0x00

abbrev pub info0_fff : List ℕ
info0_fff = cartesian 0x12 0x09 0xFF 0x0F

abbrev pub info1_fff : List ℕ
info1_fff = cartesian 0x23 0x1B 0xFF 0x1F

abbrev pub info2000 : List ℕ
info2000 = cartesian 0x60 0xDF 0x00 0x20

-- T35: PPPInfo is field 21
abbrev pub ppp_info : List ℕ → FieldSaid
ppp_info b = body_field shipped b 21

-- T35
abbrev pub ppp_info_row : FieldRow
ppp_info_row = field_row 86 u2 1 seed

abbrev pub field21 : Option BlockRow → Option FieldRow
field21 None = None
field21 (Some r) = pick r.body 21

-- unset, the lowest number with a seed, 0, the largest without a seed
abbrev pub infos_wanted : List Wanted
infos_wanted = None ∷ Some (unsigned 0x2000) ∷ Some (unsigned 0) ∷ Some (unsigned 0x1FFF) ∷ []

-- the values of these blocks, and this one for PPPInfo; where zero is the mark, 0 is an unset field
abbrev pub draft_with : Wanted → Draft
draft_with w =
    record {
      number = 4006;
      revision = 1;
      tow = Some (unsigned 0);
      wnc = Some (unsigned 0);
      body =
          replicate 2 (Some (unsigned 0))
          ++ replicate 3 (Some (double 0))
          ++ replicate 5 (Some (single 0))
          ++ Some (double 0)
          ∷ Some (single 0)
          ∷ replicate 3 (Some (unsigned 0))
          ++ None
          ∷ replicate 2 (Some (unsigned 0))
          ++ replicate 3 None
          ++ w
          ∷ [];
      subs = [];
    }

-- a buffer one byte shorter than the block, so that an allowed draft is told by 12
abbrev pub short : List ℕ
short = replicate 87 7

abbrev pub info_written : Wanted → WriteOutcome
info_written w = written_of greatest_ceiling shipped (draft_with w) short

pub record PppInfoHolds : Type 0 where
  pub row : field21 (find_row shipped 4006) ≡ Some ppp_info_row
  pub read : map ppp_info (info0000 ∷ info0_fff ∷ info1_fff ∷ info2000 ∷ []) ≡ do_not_use ∷ do_not_use ∷ do_not_use ∷ unsigned 0x2000 ∷ []
  -- W5, W6: the bits that it is written with; there are none for what may not be given
  pub bits : map (bits_of ppp_info_row) infos_wanted ≡ Some 0 ∷ Some 0x2000 ∷ None ∷ None ∷ []
  -- R11: such a draft is refused
  pub drafts : map info_written infos_wanted ≡ refuses_write 12 short ∷ refuses_write 12 short ∷ refuses_write 11 short ∷ refuses_write 11 short ∷ []
