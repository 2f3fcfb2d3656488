-- `capi::parts::alderflute_bytes` meets its contract: the part that stands, or an empty one.
-- Assumes nothing.
use mathlib.Core.Path.{◌≡◌, refl, sym, ap}
use mathlib.Core.Bool.{false}
use lib.ListN.{length}
use Rattle.reader.specs.State.{sound}
use Rattle.reader.specs.declared.State.{State}
use Rattle.runs.specs.Refusals.{bytes_refusal}
use Rattle.runs.specs.Calls.{bytes_of}
use Rattle.refusal.specs.Numbers.{number_for}
use Rattle.cform.specs.State.{state_of}
use Rattle.capi.specs.Calls.{bytes_c}
use Rattle.capi.proofs.Refusing.{bytes_one}
use Rattle.runs.proofs.Emptying.{bytes_empty}
use Rattle.capi.proofs.Handing.{hands_none, hands_it, bytes_cut}
use Rattle.capi.proofs.parts.alderflute_bytes.Goals as goal

pub returns-in-Err : goal.returns-in-Err
unfolding bytes_c
returns-in-Err c =
    let hold = c.args.hold.now in
    let t = c.state_of-t.result in
    let r = sym c.in-Err.ensures in
    hands_none (λ (t : State). bytes_refusal t hold) (λ (t : State). 0) (λ (t : State). bytes_of t hold) hold (λ (t : State) (e : sound t ≡ false). bytes_one t e hold) (state_of c.args.s) t (number_for c.in-Err.why) c.state_of-t.ensures r (bytes_empty t hold _ r) c.no_part.ensures

pub returns-in-Ok : goal.returns-in-Ok
unfolding bytes_c
returns-in-Ok c =
    let hold = c.args.hold.now in
    let t = c.state_of-t.result in
    let r = sym c.in-Ok.ensures in
    let l = ap length c.bytes-part.ensures.result_value in
    hands_it (λ (t : State). bytes_refusal t hold) (λ (t : State). 0) (λ (t : State). bytes_of t hold) hold (λ (t : State) (e : sound t ≡ false). bytes_one t e hold) (state_of c.args.s) t (length c.bytes-part.result.now) c.state_of-t.ensures r refl l (rw l (bytes_cut t hold r))
