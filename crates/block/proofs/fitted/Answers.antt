-- `block::fitted` meets its contract: each return is one law of `seen_row`.
-- Assumes nothing.
use mathlib.Core.Path.{◌≡◌, sym, ap, ◌∙◌}
use Prim.Native.Nat.{ℕ}
use native.Mathlib.Omega.{arith}
use Rattle.table.specs.Lists.{pick}
use Rattle.table.specs.Rows.{nested_row}
use Rattle.table.specs.declared.Shape.{Shape}
use Rattle.table.specs.Shape.{shape_says}
use Rattle.walk.specs.declared.Walked.{Walked}
use Rattle.walk.specs.Walk.{walk_end, any_second, nest_or, walked_of}
use Rattle.block.specs.Block.{offset_of, walk_of}
use Rattle.block.proofs.Blocks.{eight, sixteen, long, fit_7, fit_8_one, fit_8_two, fit_at_one, fit_at_two}
use Rattle.block.proofs.fitted.Goals as goal

-- what the walk found, by where N2 stands
module _ (n2 : ℕ) (b : _) (row : Shape) (k : ℕ) {w : Walked} (at : n2 ≡ offset_of (nested_row (shape_says row))) (found : w ≡ walked_of n2 b k) where
  end_is : w.end ≡ walk_end 20 (walk_of (shape_says row) b)
  unfolding walked_of
  end_is = rw (← at) (ap (λ (x : Walked). x.end) found)

  any_is : w.any ≡ any_second (walk_of (shape_says row) b)
  unfolding walked_of
  any_is = rw (← at) (ap (λ (x : Walked). x.any) found)

  nest_is : w.nest ≡ nest_or (pick (walk_of (shape_says row) b) k)
  unfolding walked_of
  nest_is = rw (← at) (ap (λ (x : Walked). x.nest) found)

pub body_fits-requires : goal.body_fits-requires
body_fits-requires c = eight _ c.requires.0

pub returns-then-not-body_fits : goal.returns-then-not-body_fits
returns-then-not-body_fits c = fit_7 _ c.args.row _ (sym c.body_fits.ensures ∙ c.if-not-body_fits.true)

pub subs_fit-requires : goal.subs_fit-requires
subs_fit-requires c = sixteen _ c.requires.0 (long _ c.args.row (sym c.body_fits.ensures ∙ c.if-not-body_fits.false))

pub returns-then-not-subs_fit : goal.returns-then-not-subs_fit
returns-then-not-subs_fit c = fit_8_one _ c.args.row _ (sym c.body_fits.ensures ∙ c.if-not-body_fits.false) c.if-row-eq0.true (sym c.subs_fit.ensures ∙ c.if-not-subs_fit.true)

pub one_nest-requires : goal.one_nest-requires
one_nest-requires c = sixteen _ c.requires.0 (long _ c.args.row (sym c.body_fits.ensures ∙ c.if-not-body_fits.false))

pub returns-then-row-eq0 : goal.returns-then-row-eq0
returns-then-row-eq0 c =
    fit_at_one _ c.args.row _ (sym c.body_fits.ensures ∙ c.if-not-body_fits.false) c.requires.0 c.requires.1 c.if-row-eq0.true (sym c.subs_fit.ensures ∙ c.if-not-subs_fit.false) c.one_nest.ensures

pub nest_fits-requires : goal.nest_fits-requires
nest_fits-requires c =
    record { in_bounds = eight _ c.requires.0; end_value = (end_is _ _ c.args.row _ c.nested_at.ensures.0 c.walk-w.ensures, any_is _ _ c.args.row _ c.nested_at.ensures.0 c.walk-w.ensures) }

pub returns-then-not-nest_fits : goal.returns-then-not-nest_fits
returns-then-not-nest_fits c =
    fit_8_two _ c.args.row _ (sym c.body_fits.ensures ∙ c.if-not-body_fits.false) (omega (arith, c.if-row-eq0.false)) (sym c.nest_fits.ensures ∙ c.if-not-nest_fits.true)

pub returns : goal.returns
returns c =
    fit_at_two _ c.args.row _ (sym c.body_fits.ensures ∙ c.if-not-body_fits.false) c.requires.0 c.requires.1 (omega (arith, c.if-row-eq0.false)) (sym c.nest_fits.ensures ∙ c.if-not-nest_fits.false)
    (nest_is _ _ c.args.row _ c.nested_at.ensures.0 c.walk-w.ensures)
