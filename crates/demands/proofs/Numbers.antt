-- The number of an answer that is a refusal: a field's value has none, and the refusals of a record call stand in a row.
-- Assumes nothing.
use Prim.Native.Nat.{ℕ, zero, suc}
use mathlib.Core.Path.{◌≡◌, refl, ap, ◌∙◌}
use mathlib.Core.Bool.{Bool, true, false, ◌&&◌, cond}
use mathlib.Core.List.{List}
use Rattle.std.proofs.Common.{Option, None, Some}
use lib.ListN.{length}
use lib.Dec.{leb, ltb}
use borrow.Author.Tests.{lt-ltb, le-ltb}
use Rattle.frame.specs.Frame.{whole_frame}
use Rattle.rows.specs.declared.FieldRow.{FieldRow}
use Rattle.table.specs.Lists.{pick}
use Rattle.table.specs.Lookup.{carried, find_row}
use Rattle.table.specs.Rows.{BlockRow, Table, first_rows}
use Rattle.record.specs.Answer.{FieldSaid, do_not_use, not_in_revision, field_refused}
use Rattle.kinds.specs.Marks.{is_do_not_use}
use Rattle.value.specs.Bits.{read_as, value_of, field_value}
use Rattle.block.specs.Block.{number_in, revision_in, sub_span, sub_count, body_fits, subs_fit, Seen, refused_by, row, seen_row, seen, seen_sub_row}
use Rattle.record.specs.Calls.{field_said, field_or9, body_by, sub_slice, sub_by, number_by, stamp}
use Rattle.reader.specs.Refusals.{need}
use Rattle.records.specs.Calls.{said_unless, first_of}
use Rattle.demands.specs.World.{field_refusal}
use Rattle.demands.proofs.Listed.{pick_there, pick_none}

-- ---- a field's value is no refusal

read_none : (kind x : ℕ) → field_refusal (read_as kind x) ≡ None
unfolding read_as
read_none zero x = refl
read_none (suc zero) x = refl
read_none (suc (suc zero)) x = refl
read_none (suc (suc (suc zero))) x = refl
read_none (suc (suc (suc (suc zero)))) x = refl
read_none (suc (suc (suc (suc (suc zero))))) x = refl
read_none (suc (suc (suc (suc (suc (suc zero)))))) x = refl
read_none (suc (suc (suc (suc (suc (suc (suc zero))))))) x = refl
read_none (suc (suc (suc (suc (suc (suc (suc (suc zero)))))))) x = refl
read_none (suc (suc (suc (suc (suc (suc (suc (suc (suc zero))))))))) x = refl
read_none (suc (suc (suc (suc (suc (suc (suc (suc (suc (suc zero)))))))))) x = refl
read_none (suc (suc (suc (suc (suc (suc (suc (suc (suc (suc (suc k))))))))))) x = refl

pub cond_none : (c : Bool) (a b : FieldSaid) → field_refusal a ≡ None → field_refusal b ≡ None → field_refusal (cond c a b) ≡ None
cond_none true a b e f = e
cond_none false a b e f = f

value_none : (s : List ℕ) (f : FieldRow) → field_refusal (field_value s f) ≡ None
unfolding field_value value_of
value_none s f = cond_none (is_do_not_use f.mark f.kind _) do_not_use (read_as f.kind _) refl (read_none f.kind _)

field_none : (revision : ℕ) (s : List ℕ) (f : FieldRow) → field_refusal (field_said revision s f) ≡ None
unfolding field_said
field_none revision s f = cond_none (carried revision f) (field_value s f) not_in_revision (value_none s f) refl

-- ---- 9 of a list of fields

nine_by : (revision : ℕ) (s : List ℕ) (o : Option FieldRow) (fs : List FieldRow) (i : ℕ) → pick fs i ≡ o
    → field_refusal (field_or9 revision s o) ≡ need (ltb i (length fs)) 9 None
nine_by revision s None fs i e = rw (le-ltb i (length fs) (pick_none fs i e))
nine_by revision s (Some f) fs i e = rw (lt-ltb i (length fs) (pick_there fs i e)) (field_none revision s f)

pub nine : (revision : ℕ) (s : List ℕ) (fs : List FieldRow) (i : ℕ) → field_refusal (field_or9 revision s (pick fs i)) ≡ need (ltb i (length fs)) 9 None
nine revision s fs i = nine_by revision s (pick fs i) fs i refl

-- ---- what was seen of the block, and then what is asked of its row

abbrev pub then_of : Seen → (BlockRow → Option ℕ) → Option ℕ
then_of (refused_by n) f = Some n
then_of (row r) f = f r

pub body_row : (b : List ℕ) (i : ℕ) (x : Seen) → field_refusal (body_by b i x) ≡ then_of x (λ r. need (ltb i (length r.body)) 9 None)
body_row b i (refused_by n) = refl
body_row b i (row r) = nine (revision_in b) b r.body i

-- 9 of the sub-block, and then 9 of the field, are one
two_nines : (c d : Bool) → need c 9 (need d 9 None) ≡ need (c && d) 9 None
two_nines true d = refl
two_nines false d = refl

sub_by_lem : (c : Bool) (b : List ℕ) (k j : ℕ) (r : BlockRow) → field_refusal (sub_by b k j (cond c (row r) (refused_by 9))) ≡ need (c && ltb j (length (first_rows r))) 9 None
sub_by_lem true b k j r = nine (revision_in b) (sub_slice b (sub_span r b k)) (first_rows r) j
sub_by_lem false b k j r = refl

pub sub_row : (b : List ℕ) (k j : ℕ) (x : Seen)
    → field_refusal (sub_by b k j (seen_sub_row b k x)) ≡ then_of x (λ r. need (ltb k (sub_count b r) && ltb j (length (first_rows r))) 9 None)
unfolding seen_sub_row
sub_row b k j (refused_by n) = refl
sub_row b k j (row r) = sub_by_lem (ltb k (sub_count b r)) b k j r

twin_by : (c : Bool) (r : BlockRow) → number_by (cond c (row r) (refused_by 9)) ≡ need c 9 None
twin_by true r = refl
twin_by false r = refl

pub twin_row : (b : List ℕ) (k : ℕ) (x : Seen) → number_by (seen_sub_row b k x) ≡ then_of x (λ r. need (ltb k (sub_count b r)) 9 None)
unfolding seen_sub_row
twin_row b k (refused_by n) = refl
twin_row b k (row r) = twin_by (ltb k (sub_count b r)) r

-- ---- rows of tests

then_cond : (c : Bool) (x : Seen) (n : ℕ) (f : BlockRow → Option ℕ) → then_of (cond c x (refused_by n)) f ≡ need c n (then_of x f)
then_cond true x n f = refl
then_cond false x n f = refl

pub seen_need : (t : Table) (b : List ℕ) (f : BlockRow → Option ℕ)
    → then_of (seen t b) f ≡ need (whole_frame b) 10 (then_of (seen_row b (find_row t (number_in b))) f)
unfolding seen
seen_need t b f = then_cond (whole_frame b) (seen_row b (find_row t (number_in b))) 10 f

pub row_less : (b : List ℕ) (f : BlockRow → Option ℕ) → then_of (seen_row b None) f ≡ need false 6 None
unfolding seen_row
row_less b f = refl

pub row_need : (b : List ℕ) (r : BlockRow) (f : BlockRow → Option ℕ) → then_of (seen_row b (Some r)) f ≡ need (body_fits b r) 7 (need (subs_fit b r) 8 (f r))
unfolding seen_row
row_need b r f = then_cond (body_fits b r) _ 7 f ∙ ap (need (body_fits b r) 7) (then_cond (subs_fit b r) (row r) 8 f)

pub stamp_need : (f : FieldRow) (b : List ℕ) → field_refusal (stamp f b) ≡ need (whole_frame b) 10 (need (leb 14 (length b)) 7 None)
unfolding stamp
stamp_need f b = by (whole_frame b) (leb 14 (length b)) where
  by : (c d : Bool) → field_refusal (cond c (cond d (field_value b f) (field_refused 7)) (field_refused 10)) ≡ need c 10 (need d 7 None)
  by true true = value_none b f
  by true false = refl
  by false d = refl

-- the first refusals, and then the others
pub first_need : (c : Bool) (n : ℕ) (o rest : Option ℕ) → first_of (need c n o) rest ≡ need c n (first_of o rest)
first_need true n o rest = refl
first_need false n o rest = refl

pub number_unless : (o : Option ℕ) (a : FieldSaid) → field_refusal (said_unless o a) ≡ first_of o (field_refusal a)
number_unless None a = refl
number_unless (Some n) a = refl
