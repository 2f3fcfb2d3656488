-- `tables::opening::of_open` meets its contract.
-- Assumes nothing.
use Rattle.std.proofs.Common.{sym, ◌∙◌, arith}
use lib.Seq.{length-take-le}
use Rattle.reader.proofs.Laws.{with_stores}
use Rattle.tables.proofs.Saying.{open_one, open_two, open_thirteen, open_waiting, open_in_force, open_none}
use Rattle.tables.proofs.opening.of_open.Goals as goal

pub returns-then-not-is_sound-in_force : goal.returns-then-not-is_sound-in_force
returns-then-not-is_sound-in_force c = sym (open_one _ _ _ _ (rw c.is_sound.ensures at c.if-not-is_sound-in_force.true))

pub returns-then-not-is_closed : goal.returns-then-not-is_closed
returns-then-not-is_closed c = sym (open_two _ _ _ _ (rw c.is_sound.ensures at c.if-not-is_sound-in_force.false) (sym c.is_closed.ensures ∙ c.if-not-is_closed.true))

pub returns-then-not-ceiling_ok : goal.returns-then-not-ceiling_ok
returns-then-not-ceiling_ok c =
    sym
    (open_thirteen _ _ _ _ (rw c.is_sound.ensures at c.if-not-is_sound-in_force.false) (sym c.is_closed.ensures ∙ c.if-not-is_closed.false) (sym c.ceiling_ok.ensures ∙ c.if-not-ceiling_ok.true))

pub slice_bounds-version_or_four-end : goal.slice_bounds-version_or_four-end
slice_bounds-version_or_four-end c =
    let f = with_stores _ _ _ (rw c.is_sound.ensures at c.if-not-is_sound-in_force.false) in
    sym (length-take-le _ _ (omega (arith, f.0.waiting, f.2)))

pub returns-then-w-gt0 : goal.returns-then-w-gt0
returns-then-w-gt0 c =
    c.version_or_four.ensures
    ∙ sym
    (open_waiting _ _ _ _ (rw c.is_sound.ensures at c.if-not-is_sound-in_force.false) (sym c.is_closed.ensures ∙ c.if-not-is_closed.false) (sym c.ceiling_ok.ensures ∙ c.if-not-ceiling_ok.false) c.if-w-gt0.true)

pub slice_bounds-version_or_four-end-then-n-gt0 : goal.slice_bounds-version_or_four-end-then-n-gt0
slice_bounds-version_or_four-end-then-n-gt0 c =
    let f = with_stores _ _ _ (rw c.is_sound.ensures at c.if-not-is_sound-in_force.false) in
    sym (length-take-le _ _ (omega (arith, f.0.in_force, f.1)))

pub returns-then-n-gt0 : goal.returns-then-n-gt0
returns-then-n-gt0 c =
    c.version_or_four-then-n-gt0.ensures
    ∙ sym
    (open_in_force _ _ _ _ (rw c.is_sound.ensures at c.if-not-is_sound-in_force.false) (sym c.is_closed.ensures ∙ c.if-not-is_closed.false) (sym c.ceiling_ok.ensures ∙ c.if-not-ceiling_ok.false) c.if-w-gt0.false c.if-n-gt0.true)

pub returns : goal.returns
returns c =
    sym
    (open_none _ _ _ _ (rw c.is_sound.ensures at c.if-not-is_sound-in_force.false) (sym c.is_closed.ensures ∙ c.if-not-is_closed.false) (sym c.ceiling_ok.ensures ∙ c.if-not-ceiling_ok.false) c.if-w-gt0.false c.if-n-gt0.false)
