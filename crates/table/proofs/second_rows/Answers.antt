-- `table::second_rows` meets its contract: of one level none, of two those behind the first.
-- Assumes nothing.
use Rattle.std.proofs.Common.{◌≡◌, ◌-◌, length, take, drop, sym, arith}
use Rattle.std.proofs.lemmas.Grind.{common_steps}
use Rattle.std.proofs.lemmas.List.{drop_min, drop-map}
use borrow.Author.Tests.{ne_eqb}
use Rattle.rows.specs.Places.{field_of}
use Rattle.table.specs.Rows.{second_rows}
use Rattle.table.proofs.second_rows.Goals as goal

pub returns-then-s-eq0 : goal.returns-then-s-eq0
unfolding second_rows
returns-then-s-eq0 c = rw c.if-s-eq0.true

pub returns : goal.returns
unfolding second_rows
returns c =
    let s = c.args.s in
    let k = c.split.result in
    let e : take (length s.subs.now - k) (drop k s.subs.now) ≡ drop k s.subs.now = grind (arith, common_steps) in
    rw (e, c.split.ensures, drop_min s.firsts s.subs.now, ne_eqb s.firsts 0 c.if-s-eq0.false) (sym (drop-map field_of s.firsts s.subs.now))
