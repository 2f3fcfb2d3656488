-- `value::read_as` meets its contract: each arm is its entry of `readings`.
-- Assumes nothing.
use mathlib.Core.Path.{refl, ap, ◌∙◌}
use mir.Syntax.{w64}
use mir.ValLaws.{to_z-of_z}
use native.Mathlib.Omega.{arith}
use Rattle.kinds.specs.Types.{size_of}
use Rattle.value.specs.Said.{signed}
use Rattle.value.specs.Bits.{read_as}
use Rattle.value.proofs.Types.{plain}
use borrow.Author.Rules.{rules}
use Rattle.value.proofs.read_as.Goals as goal

pub signed-requires : goal.signed-requires
unfolding size_of
signed-requires c = let h = rw c.in-5.is at c.requires in (omega (arith, h), search rules)

pub signed-requires-in-6 : goal.signed-requires-in-6
unfolding size_of
signed-requires-in-6 c = let h = rw c.in-6.is at c.requires in (omega (arith, h), search rules)

pub signed-requires-in-7 : goal.signed-requires-in-7
unfolding size_of
signed-requires-in-7 c = let h = rw c.in-7.is at c.requires in (omega (arith, h), search rules)

pub single_of-requires : goal.single_of-requires
unfolding size_of
single_of-requires c = rw c.in-9.is at c.requires

pub returns-in-5 : goal.returns-in-5
unfolding read_as
returns-in-5 c = rw c.in-5.is (let e = to_z-of_z w64 _ (record { sfits = c.signed.type_inv }) ∙ c.signed.ensures in record { says = ap signed e; case = refl })

pub returns-in-6 : goal.returns-in-6
unfolding read_as
returns-in-6 c = rw c.in-6.is (let e = to_z-of_z w64 _ (record { sfits = c.signed-in-6.type_inv }) ∙ c.signed-in-6.ensures in record { says = ap signed e; case = refl })

pub returns-in-7 : goal.returns-in-7
unfolding read_as
returns-in-7 c = rw c.in-7.is (let e = to_z-of_z w64 _ (record { sfits = c.signed-in-7.type_inv }) ∙ c.signed-in-7.ensures in record { says = ap signed e; case = refl })

pub returns-in-8 : goal.returns-in-8
unfolding read_as
returns-in-8 c = rw c.in-8.is (let e = to_z-of_z w64 _ (record { sfits = c.signed-in-8.type_inv }) ∙ c.signed-in-8.ensures in record { says = ap signed e; case = refl })

pub returns-in-9 : goal.returns-in-9
unfolding read_as
returns-in-9 c = rw c.in-9.is c.single_of.ensures

pub returns-in-10 : goal.returns-in-10
unfolding read_as
returns-in-10 c = rw c.in-10.is c.double_of.ensures

pub returns-in_default : goal.returns-in_default
returns-in_default c = let r = c.in_default.in_default-own.rest in let e = plain c.args.kind c.args.x r.0.0.0.0.0.1 r.0.0.0.0.1 r.0.0.0.1 r.0.0.1 r.0.1 r.1 in record { says = e; case = refl }
