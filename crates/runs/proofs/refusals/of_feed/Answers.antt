-- `runs::refusals::of_feed` meets its contract.
-- Assumes nothing.
use Rattle.std.proofs.Common.{◌≡◌, refl, sym, ap, ◌∙◌, ℕ, Bool, true, false, ◌||◌, ltb, eqb, List, None, arith}
use Rattle.frame.specs.Judge.{judged}
use Rattle.scan.specs.Settle.{settle}
use Rattle.feed.specs.Hold.{rest_of}
use Rattle.reader.specs.State.{limit, ceiling_of}
use Rattle.reader.specs.declared.State.{State}
use Rattle.reader.specs.Refusals.{need}
use Rattle.reader.proofs.Laws.{with_hold}
use Rattle.runs.specs.Refusals.{is_some, feed_refusal}
use Rattle.runs.proofs.refusals.of_feed.Goals as goal

abbrev gives : State → List ℕ → Bool
gives s hold = is_some (settle (judged (ceiling_of s)) (rest_of hold s.run.held s.run.standing)).standing

-- where a run may take more, or no more is given, the held bytes are not looked at
open_or : (a b x : Bool) → (a || b) ≡ true → None ≡ need (a || (b || x)) 3 None
open_or true b x e = refl
open_or false true x e = refl
open_or false false x e = absurd cc

full_or : (a b x y : Bool) → (a || b) ≡ false → x ≡ y → need y 3 None ≡ need (a || (b || x)) 3 None
full_or true b x y e f = absurd cc
full_or false true x y e f = absurd cc
full_or false false x y e f = ap (λ (z : Bool). need z 3 None) (sym f)

pub returns-then-not-may_call : goal.returns-then-not-may_call
unfolding feed_refusal
returns-then-not-may_call c v e = simp (sym c.may_call.ensures ∙ c.if-not-may_call.true)

pub returns-then-not-is_feeding : goal.returns-then-not-is_feeding
unfolding feed_refusal
returns-then-not-is_feeding c v e =
    simp (sym c.may_call.ensures ∙ c.if-not-may_call.false, sym c.is_feeding.ensures ∙ c.if-not-is_feeding.true)

pub returns-then-run-piece : goal.returns-then-run-piece
unfolding feed_refusal
returns-then-run-piece c v e =
    simp (sym c.may_call.ensures ∙ c.if-not-may_call.false, sym c.is_feeding.ensures ∙ c.if-not-is_feeding.false, e)
    (open_or (ltb c.args.s.run.counts.taken limit) (eqb c.args.piece 0) (gives c.args.s c.args.hold.now) c.if-run-piece.true)

pub gives_block-requires : goal.gives_block-requires
gives_block-requires c =
    let a = c.args in
    let f = with_hold a.s a.hold.now (sym c.may_call.ensures ∙ c.if-not-may_call.false) in
    (f.0.front, omega (arith, f.0.held, f.1))

pub returns-then-gives_block : goal.returns-then-gives_block
unfolding feed_refusal
returns-then-gives_block c v e =
    simp
    (sym c.may_call.ensures ∙ c.if-not-may_call.false, sym c.is_feeding.ensures ∙ c.if-not-is_feeding.false, e)
    (full_or (ltb c.args.s.run.counts.taken limit) (eqb c.args.piece 0) (gives c.args.s c.args.hold.now) true c.if-run-piece.false (sym c.gives_block.ensures ∙ c.if-gives_block.true))

pub returns-else-gives_block : goal.returns-else-gives_block
unfolding feed_refusal
returns-else-gives_block c v e =
    simp
    (sym c.may_call.ensures ∙ c.if-not-may_call.false, sym c.is_feeding.ensures ∙ c.if-not-is_feeding.false, e)
    (full_or (ltb c.args.s.run.counts.taken limit) (eqb c.args.piece 0) (gives c.args.s c.args.hold.now) false c.if-run-piece.false (sym c.gives_block.ensures ∙ c.if-gives_block.false))
