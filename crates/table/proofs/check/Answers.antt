-- `table::check` meets its contract: each return is one law of `check_of`.
-- Assumes nothing.
use mathlib.Core.Path.{◌∙◌, sym}
use native.Mathlib.Omega.{arith}
use Rattle.table.specs.Decode.{decode}
use Rattle.table.proofs.Laws.{told_file, told_rows, told_version}
use Rattle.table.proofs.Passed.{file}
use Rattle.table.proofs.check.Goals as goal
use Rattle.table.proofs.check.Goals.{then-not-file_ok-via-then-not-file_ok, then-not-file_ok-via-else-not-file_ok+then-not-rows_ok}

pub rows_ok-requires : goal.rows_ok-requires
rows_ok-requires c = sym c.file_ok.ensures ∙ c.if-not-file_ok.false

pub returns-then-not-file_ok : goal.returns-then-not-file_ok
returns-then-not-file_ok c =
    elim c.then-not-file_ok.branch [
      | then-not-file_ok-via-then-not-file_ok w ↦ told_file _ (sym c.file_ok.ensures ∙ w.if-not-file_ok.true)
      | then-not-file_ok-via-else-not-file_ok+then-not-rows_ok w ↦ told_rows _ (sym c.file_ok.ensures ∙ w.if-not-file_ok.false) w.rows_ok.ensures w.if-not-rows_ok.true
    ]

pub version-requires : goal.version-requires
version-requires c = omega (arith, file _ (sym c.file_ok.ensures ∙ c.if-not-file_ok.false))

pub returns : goal.returns
unfolding decode
returns c = told_version _ (sym c.file_ok.ensures ∙ c.if-not-file_ok.false) c.rows_ok.ensures c.if-not-rows_ok.false c.version.ensures
