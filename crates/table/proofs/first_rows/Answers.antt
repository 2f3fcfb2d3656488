-- `table::first_rows` meets its contract: of one level all rows, of two those before the second.
-- Assumes nothing.
use Rattle.std.proofs.Common.{sym}
use Rattle.std.proofs.lemmas.List.{take_min, take-map}
use borrow.Author.Tests.{ne_eqb}
use Rattle.rows.specs.Places.{field_of}
use Rattle.table.specs.Rows.{first_rows}
use Rattle.table.proofs.first_rows.Goals as goal

pub returns-then-s-eq0 : goal.returns-then-s-eq0
unfolding first_rows
returns-then-s-eq0 c = rw c.if-s-eq0.true

pub returns : goal.returns
unfolding first_rows
returns c =
    let s = c.args.s in
    rw (c.split.ensures, take_min s.firsts s.subs.now, ne_eqb s.firsts 0 c.if-s-eq0.false) (sym (take-map field_of s.firsts s.subs.now))
