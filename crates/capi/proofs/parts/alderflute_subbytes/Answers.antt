-- `capi::parts::alderflute_subbytes` meets its contract: the sub-block, or an empty part.
-- Assumes nothing.
use mathlib.Core.Path.{◌≡◌, sym, ap}
use mathlib.Core.Bool.{false}
use Rattle.std.proofs.Common.{None}
use Rattle.walk.specs.declared.Span.{Span}
use Rattle.reader.specs.State.{sound}
use Rattle.reader.specs.declared.State.{State}
use Rattle.records.specs.Calls.{sub_bytes_of, sub_place_of, sub_bytes_refusal}
use Rattle.refusal.specs.Numbers.{number_for}
use Rattle.cform.specs.State.{state_of}
use Rattle.cform.specs.Answer.{part_c}
use Rattle.capi.specs.Calls.{sub_bytes_c}
use Rattle.capi.proofs.Refusing.{sub_bytes_one}
use Rattle.records.proofs.Asking.{sub_bytes_empty}
use Rattle.capi.proofs.Handing as handing
use Rattle.capi.proofs.parts.alderflute_subbytes.Goals as goal

pub returns-in-Err : goal.returns-in-Err
unfolding sub_bytes_c
returns-in-Err c =
    let a = c.args in
    let force = a.in_force.now in
    let block = a.block.now in
    let t = c.state_of-t.result in
    let r = sym c.in-Err.ensures.handed_value in
    handing.hands_none (λ (t : State). sub_bytes_refusal t force block a.k) (λ (t : State). (sub_place_of t force block a.k).at) (λ (t : State). sub_bytes_of t force block a.k) block
    (λ (t : State) (e : sound t ≡ false). sub_bytes_one t e force block a.k) (state_of a.s) t (number_for c.in-Err.why) c.state_of-t.ensures r
    (sub_bytes_empty t force block a.k _ r) c.no_part.ensures

pub returns-in-Ok : goal.returns-in-Ok
unfolding sub_bytes_c
returns-in-Ok c =
    let a = c.args in
    let force = a.in_force.now in
    let block = a.block.now in
    let t = c.state_of-t.result in
    let p = c.in-Ok.ensures in
    handing.hands_it (λ (t : State). sub_bytes_refusal t force block a.k) (λ (t : State). (sub_place_of t force block a.k).at) (λ (t : State). sub_bytes_of t force block a.k) block
    (λ (t : State) (e : sound t ≡ false). sub_bytes_one t e force block a.k) (state_of a.s) t (sub_place_of t force block a.k).size c.state_of-t.ensures (sym p.handed_value)
    (ap (λ (x : Span). part_c None x.at x.size) p.span_value)
    (handing.sub-length t force block a.k p.span_value p.size_in_bounds)
    (handing.sub_cut t force block a.k)
