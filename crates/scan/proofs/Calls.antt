-- One call of feed in numbers and bytes, over any judge: none is lost, and all that may be is taken unless a block came.
-- Assumes nothing.
use mathlib.Core.Path.{◌≡◌, refl, sym, ap, ◌∙◌, subst⁻¹}
use mathlib.Core.List.{List, [], ◌∷◌, ◌++◌, append-nil}
use Rattle.std.proofs.Common.{Option, None, Some}
use Prim.Native.Nat.{ℕ, zero, suc, min, ◌+◌, ◌≤◌}
use native.Mathlib.Omega.{arith}
use lib.ListN.{length, take, drop, length-drop, length-append}
use lib.Seq.{append_snoc, drop-drop, drop-append-le}
use Rattle.scan.specs.Settle.{Settled, settle}
use Rattle.scan.specs.Feed.{Intake, stop, unless_block, feed_by, size}
use Rattle.frame.specs.declared.Verdict.{Verdict}
use Rattle.scan.proofs.Judging.{Fits}
use Rattle.scan.proofs.Settling.{settle_rest, Stopped, settle_stopped, front_by}

-- one call in numbers
pub record CallFacts (h piece : List ℕ) (room : ℕ) (f : Intake) : Type 0 where
  pub sum : length h + f.taken ≡ length f.passed + length f.held
  pub taken : f.taken ≤ min room (length piece)
  pub front : size f.standing ≤ length f.held

-- all that there is to take is taken, unless a block came
abbrev pub Took : Option ℕ → ℕ → ℕ → Type 0
Took None t m = t ≡ m
Took (Some n) t m = t ≤ m

module _ (judge : List ℕ → Verdict) where
  -- ---- what is taken

  took_more : (o : Option ℕ) (t room m : ℕ) → Took o t (min room m) → Took o (suc t) (min (suc room) (suc m))
  took_more None t room m h = omega arith
  took_more (Some n) t room m h = omega arith

  took_by : (o : Option ℕ) (s : Settled) (next : Intake) (room m : ℕ) → s.standing ≡ o → Took next.standing next.taken (min room m)
      → Took (unless_block o s next).standing (unless_block o s next).taken (min (suc room) (suc m))
  took_by (Some n) s next room m e t = subst⁻¹ (λ (o : Option ℕ). Took o 0 (min (suc room) (suc m))) e (omega arith)
  took_by None s next room m e t = took_more next.standing next.taken room m t

  nothing_taken : (o : Option ℕ) (m : ℕ) → m ≡ 0 → Took o 0 m
  nothing_taken None m e = sym e
  nothing_taken (Some n) m e = omega arith

  pub fed_took : (piece : List ℕ) (room : ℕ) (h : List ℕ)
      → Took (feed_by judge h piece room).standing (feed_by judge h piece room).taken (min room (length piece))
  unfolding feed_by
  fed_took [] room h = nothing_taken (settle judge h).standing (min room 0) (omega arith)
  fed_took (b ∷ bs) zero h = nothing_taken (settle judge h).standing (min 0 (suc (length bs))) (omega arith)
  fed_took (b ∷ bs) (suc room) h =
      took_by (settle judge h).standing (settle judge h) (feed_by judge ((settle judge h).rest ++ b ∷ []) bs room) room (length bs) refl
      (fed_took bs room ((settle judge h).rest ++ b ∷ []))

  -- ---- what is held

  abbrev pub Holds : List ℕ → List ℕ → Intake → Type 0
  Holds h piece f = f.held ≡ drop (length f.passed) (h ++ take f.taken piece)

  settle_holds : (h piece : List ℕ) → Holds h piece (stop (settle judge h))
  settle_holds h piece = (settle_rest judge h).is ∙ ap (drop (length (settle judge h).passed)) (sym (append-nil h))

  holds_by : (o : Option ℕ) (h : List ℕ) (b : ℕ) (bs : List ℕ) (next : Intake) → Holds ((settle judge h).rest ++ b ∷ []) bs next
      → Holds h (b ∷ bs) (unless_block o (settle judge h) next)
  holds_by (Some n) h b bs next e = settle_holds h (b ∷ bs)
  holds_by None h b bs next e =
      let s = settle judge h in
      let r = settle_rest judge h in
      let p = length (settle judge h).passed in
      let q : p + length next.passed ≡ length (s.passed ++ next.passed) = sym (length-append s.passed next.passed) in
      e ∙ ap (drop (length next.passed))
      (append_snoc s.rest b (take next.taken bs) ∙ ap (λ (l : List ℕ). l ++ b ∷ take next.taken bs) r.is
      ∙ sym (drop-append-le p h (b ∷ take next.taken bs) r.few))
      ∙ drop-drop (length next.passed) p (h ++ b ∷ take next.taken bs)
      ∙ ap (λ (i : ℕ). drop i (h ++ b ∷ take next.taken bs)) q

  pub fed_holds : (piece : List ℕ) (room : ℕ) (h : List ℕ) → Holds h piece (feed_by judge h piece room)
  unfolding feed_by
  fed_holds [] room h = settle_holds h []
  fed_holds (b ∷ bs) zero h = settle_holds h (b ∷ bs)
  fed_holds (b ∷ bs) (suc room) h =
      holds_by (settle judge h).standing h b bs (feed_by judge ((settle judge h).rest ++ b ∷ []) bs room) (fed_holds bs room ((settle judge h).rest ++ b ∷ []))

  -- ---- how many bytes: none is lost

  abbrev Sum : List ℕ → Intake → Type 0
  Sum h f = length h + f.taken ≡ length f.passed + length f.held

  pub settle_sum : (h : List ℕ) → Sum h (stop (settle judge h))
  settle_sum h = let r = settle_rest judge h in omega (arith, r.few, ap length r.is, length-drop (length (settle judge h).passed) h)

  sum_by : (o : Option ℕ) (h : List ℕ) (b : ℕ) (next : Intake) → Sum ((settle judge h).rest ++ b ∷ []) next → Sum h (unless_block o (settle judge h) next)
  sum_by (Some n) h b next s = settle_sum h
  sum_by None h b next s =
      omega (arith, settle_sum h, length-append (settle judge h).rest (b ∷ []), length-append (settle judge h).passed next.passed)

  fed_sum : (piece : List ℕ) (room : ℕ) (h : List ℕ) → Sum h (feed_by judge h piece room)
  unfolding feed_by
  fed_sum [] room h = settle_sum h
  fed_sum (b ∷ bs) zero h = settle_sum h
  fed_sum (b ∷ bs) (suc room) h =
      sum_by (settle judge h).standing h b (feed_by judge ((settle judge h).rest ++ b ∷ []) bs room) (fed_sum bs room ((settle judge h).rest ++ b ∷ []))

  took_le : (o : Option ℕ) (t m : ℕ) → Took o t m → t ≤ m
  took_le None t m e = omega arith
  took_le (Some n) t m e = e

  -- ---- what stands at the front of what is held

  stopped_by : (o : Option ℕ) (s : Settled) (next : Intake) → Stopped judge s.standing s.rest → Stopped judge next.standing next.held
      → Stopped judge (unless_block o s next).standing (unless_block o s next).held
  stopped_by (Some n) s next h k = h
  stopped_by None s next h k = k

  pub fed_stopped : (piece : List ℕ) (room : ℕ) (h : List ℕ) → Stopped judge (feed_by judge h piece room).standing (feed_by judge h piece room).held
  unfolding feed_by
  fed_stopped [] room h = settle_stopped judge h
  fed_stopped (b ∷ bs) zero h = settle_stopped judge h
  fed_stopped (b ∷ bs) (suc room) h =
      stopped_by (settle judge h).standing (settle judge h) (feed_by judge ((settle judge h).rest ++ b ∷ []) bs room) (settle_stopped judge h)
      (fed_stopped bs room ((settle judge h).rest ++ b ∷ []))

  pub call : ((v : List ℕ) → Fits v (judge v)) → (h piece : List ℕ) (room : ℕ) → CallFacts h piece room (feed_by judge h piece room)
  call fits h piece room =
      let f = feed_by judge h piece room in
      record {
        sum = fed_sum piece room h;
        taken = took_le f.standing f.taken (min room (length piece)) (fed_took piece room h);
        front = front_by judge f.standing f.held (fits f.held) (fed_stopped piece room h);
      }
