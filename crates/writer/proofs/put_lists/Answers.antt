-- `writer::put_lists` meets its contract: the body, or N, SBLength and the sub-blocks.
-- Assumes nothing.
use mathlib.Core.Path.{ap, ◌∙◌}
use native.Mathlib.Omega.{arith}
use lib.ListN.{length}
use lib.Seq.{sets, length-sets}
use Rattle.writer.proofs.Parts.{body-allowed, body_fits_lem, body_out, subs_allowed_lem, subs_fit_lem, subs_out}
use Rattle.writer.proofs.put_lists.Goals as goal

pub fields-requires : goal.fields-requires
fields-requires c =
    let a = c.args in
    let r = c.requires in
    record { count_bound = omega arith; count_value = (r.body, body-allowed a.row r c.if-row-eq0.true); count_in_bounds = body_fits_lem a.row r }

pub returns-then-row-eq0 : goal.returns-then-row-eq0
returns-then-row-eq0 c =
    let a = c.args in
    c.fields.ensures.out_after ∙ ap (sets a.out.now 14) (body_out a.row c.requires c.if-row-eq0.true)

pub subs-requires : goal.subs-requires
subs-requires c =
    let a = c.args in
    let r = c.requires in
    let q = c.list_end-p.ensures a.bits.now in
    let z = c.if-row-eq0.false in
    let fits = subs_fit_lem a.row r z q.subs in
    let n = simp length-sets at (ap length c.little.ensures) in
    record { count_bound = (q.within, q.stops); count_value = (r.inner, subs_allowed_lem a.row r z c.list_end-p.result q.subs); count_in_bounds = omega (arith, fits, n) }

pub returns : goal.returns
returns c =
    let a = c.args in
    let q = c.list_end-p.ensures a.bits.now in
    subs_out a.row c.requires c.if-row-eq0.false q.subs a.out.now c.little.ensures c.subs.ensures
