-- D3: where the unread rest is offered again first, the bytes taken are the front of the caller's stream; and all of it together.
-- Assumes nothing.
use Prim.Native.Nat.{ℕ, zero, suc}
use native.Mathlib.Omega.{arith}
use mathlib.Core.Path.{◌≡◌, refl, sym, ap, ap₂, ◌∙◌, subst}
use mathlib.Core.List.{List, [], ◌∷◌, ◌++◌}
use Rattle.std.proofs.Common.{unwrap_or}
use lib.ListN.{length, take, drop, length-append, length-take}
use lib.Seq.{take-take, take-add}
use Rattle.reader.specs.declared.Settings.{Settings}
use Rattle.demands.specs.World.{World, Call, told, step}
use Rattle.demands.specs.Sequence.{piece_of, Within, Closes, at_open, took_of, taken}
use Rattle.demands.specs.Demand3.{RunOf, Alike, Offers, Demand3}
use Rattle.demands.proofs.Reading.{of_the_whole}
use Rattle.demands.proofs.Force.{one_table}
use Rattle.demands.proofs.Moving.{moved}

cut : (n : ℕ) (p : List ℕ) → take n p ≡ take (length (take n p)) p
cut zero p = refl
cut (suc n) [] = refl
cut (suc n) (x ∷ xs) = ap (λ (r : List ℕ). x ∷ r) (cut n xs)

-- a front of a piece is a front of what the piece is the front of
front_of : (n : ℕ) (piece s : List ℕ) → piece ≡ take (length piece) s → take n piece ≡ take (length (take n piece)) s
front_of n piece s e =
    cut n piece ∙ ap (take (length (take n piece))) e ∙ take-take (length (take n piece)) (length piece) s (omega (arith, length-take n piece))

-- a front, and then a front of the rest
joined : (x y s : List ℕ) → x ≡ take (length x) s → y ≡ take (length y) (drop (length x) s) → x ++ y ≡ take (length (x ++ y)) s
joined x y s e f =
    ap₂ (λ (i j : List ℕ). i ++ j) e f ∙ sym (take-add (length x) (length y) s) ∙ ap (λ (k : ℕ). take k s) (sym (length-append x y))

takes_the_stream : (s : List ℕ) (cs : List Call) (w : World) → Offers s cs w → taken cs w ≡ take (length (taken cs w)) s
unfolding Offers taken
takes_the_stream s [] w o = refl
takes_the_stream s (c ∷ cs) w o =
    let x = took_of c (step c w).answer in
    joined x (taken cs (step c w).world) s (front_of (unwrap_or (told (step c w).answer).taken 0) (piece_of c) s o.0)
    (takes_the_stream (drop (length x) s) cs (step c w).world o.1)

-- both are the reading of the same bytes
alike : (v w : World) (earlier before : List Call) (x y : Settings) (cs ds : List Call) → Within v earlier x cs → Closes v earlier x cs
    → Within w before y ds → Closes w before y ds → x.ceiling ≡ y.ceiling → taken cs (at_open v earlier x) ≡ taken ds (at_open w before y)
    → Alike (at_open v earlier x) cs (at_open w before y) ds
alike v w earlier before x y cs ds h e k f c t =
    let run = taken ds (at_open w before y) in
    let a = subst (λ (n : ℕ). RunOf n run (at_open v earlier x) cs) c (of_the_whole run v earlier x cs h e t) in
    let b = of_the_whole run w before y ds k f refl in
    record { all = a.all ∙ sym b.all; shown = a.shown ∙ sym b.shown; counts = a.counts ∙ sym b.counts }

pub demand_3 : Demand3
demand_3 =
    record {
      whole = λ run w before x mid h e q. of_the_whole run w before x mid h e q;
      alike = alike;
      offered = λ s cs w o. takes_the_stream s cs w o;
      records = λ w before x mid h l. one_table w before x mid h l;
      moved = λ w before x mid after h. moved w before x mid after h;
    }
