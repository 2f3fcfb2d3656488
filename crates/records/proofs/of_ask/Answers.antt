-- `records::of_ask` meets its contract: refusals 1, 5 and 4, or the table in force.
-- Assumes nothing.
use mathlib.Core.Path.{refl, sym, ap, ◌∙◌}
use lib.Seq.{length-take-le}
use Rattle.std.proofs.lemmas.Result.{err_from_is_err_and}
use Rattle.refusal.specs.Numbers.{refusal_of}
use Rattle.table.proofs.Told.{version_passes, broken_breaks}
use Rattle.records.proofs.Asking.{bad_buffer, in_store, no_table, bad_table, good_table}
use Rattle.records.proofs.of_ask.Goals as goal

pub returns-then-not-is_sound-clause-refusal_value : goal.returns-then-not-is_sound-clause-refusal_value
returns-then-not-is_sound-clause-refusal_value c = bad_buffer _ _ (rw c.is_sound.ensures at c.then-not-is_sound.either)

pub returns-then-n-eq0-clause-refusal_value : goal.returns-then-n-eq0-clause-refusal_value
returns-then-n-eq0-clause-refusal_value c = no_table _ _ (sym c.if-not-is_sound.ensures) c.if-in_force-lt8192.false c.if-n-eq0.true

pub slice_bounds-table-end : goal.slice_bounds-table-end
slice_bounds-table-end c =
    sym (length-take-le _ _ (in_store _ _ (sym c.if-not-is_sound.ensures) c.if-in_force-lt8192.false))

pub returns-in_err-ok_or-clause-refusal_value : goal.returns-in_err-ok_or-clause-refusal_value
returns-in_err-ok_or-clause-refusal_value c =
    let p = err_from_is_err_and c.from_residual.result c.from_residual.ensures.1 in
    let r = c.in_err-ok_or.ensures in
    let four = bad_table _ _ (sym c.if-not-is_sound.ensures) c.if-in_force-lt8192.false c.if-n-eq0.false (broken_breaks _ c.check.ensures r.ok_part) in
    rw (p.1, p.2) (ap refusal_of (rw r.ok_part at r.value) ∙ four)

pub returns-clause-refusal_value : goal.returns-clause-refusal_value
returns-clause-refusal_value c =
    good_table _ _ (sym c.if-not-is_sound.ensures) c.if-in_force-lt8192.false c.if-n-eq0.false
    (version_passes _ c.check.ensures c.in_ok-ok_or.ensures.ok_part).0

pub returns-clause-table_value : goal.returns-clause-table_value
returns-clause-table_value c = (refl, (version_passes _ c.check.ensures c.in_ok-ok_or.ensures.ok_part).0)
