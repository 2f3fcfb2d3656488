-- `entry::take` meets its contract: each return is one law of a place.
-- Assumes nothing.
use Rattle.std.proofs.Common.{◌≡◌, ◌≤◌, ◌<◌, length, get_or, sym, ◌∙◌, arith}
use Rattle.std.proofs.lemmas.Grind.{common_steps}
use Rattle.std.proofs.lemmas.Option.{gets}
use Rattle.entry.proofs.Places.{values_end, values_stop, takes_none, takes_one}
use Rattle.entry.proofs.take.Goals as goal

pub returns-in-Some : goal.returns-in-Some
returns-in-Some c =
    let a = c.args in
    let within : a.p < length a.kinds.now = grind (arith, common_steps) in
    let kind : c.in-Some.field-0.now ≡ get_or a.kinds.now a.p 0 = grind (arith, common_steps) in
    let bits : c.unwrap_or.result ≡ get_or a.bits.now a.p 0 = grind (arith, common_steps, gets) in
    takes_one a.kinds.now a.bits.now a.p _ _ within kind c.if-kind.true bits

pub returns-in_default : goal.returns-in_default
returns-in_default c =
    let a = c.args in
    let within : a.p < length a.kinds.now = grind (arith, common_steps) in
    let kind : c.in-Some.field-0.now ≡ get_or a.kinds.now a.p 0 = grind (arith, common_steps) in
    takes_none a.kinds.now a.bits.now a.p (values_stop a.kinds.now a.bits.now a.p within (sym kind ∙ c.if-kind.false)) (omega arith)

pub returns-in_default-2 : goal.returns-in_default-2
returns-in_default-2 c =
    let a = c.args in
    let past : length a.kinds.now ≤ a.p = grind (arith, common_steps) in
    takes_none a.kinds.now a.bits.now a.p (values_end a.kinds.now a.bits.now a.p past) (omega arith)
