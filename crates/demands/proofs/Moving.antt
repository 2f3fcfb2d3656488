-- The table calls of a run moved, in their order, to just after its end.
-- Assumes nothing.
use mathlib.Core.Path.{◌≡◌, refl, sym, ap, ap₂, ◌∙◌}
use mathlib.Core.Bool.{Bool, true, false, not, cond}
use mathlib.Core.List.{List, [], ◌∷◌, ◌++◌}
use borrow.Author.Tests.{not-true}
use Rattle.reader.specs.declared.Settings.{Settings}
use Rattle.demands.specs.World.{World, TableCall, Call, open_run, feed, finish, table, look, Reply, Step, step, end, Line, ◌⇒◌, trace}
use Rattle.demands.specs.Sequence.{NoEnd, Within, at_open}
use Rattle.demands.specs.Demand3.{is_table, those, tables, others, Same}
use Rattle.demands.proofs.Steps.{how}
use Rattle.demands.proofs.Reached.{Good, good_step, good_end}
use Rattle.demands.proofs.Live.{Live, live_step, live_end, stands}
use Rattle.demands.proofs.Untouched.{Waiting, waits, with, placed, Fit, mirror, base_by, apart, left_by, same_by, same_length}

-- ---- the two kinds

data Kind : Bool → Call → Type 0 where
  of_table : (t : TableCall) → Kind true (table t)
  of_other : {c : Call} → is_table c ≡ false → Kind false c

kind : (c : Call) → Kind (is_table c) c
kind (open_run x) = of_other refl
kind (feed piece) = of_other refl
kind finish = of_other refl
kind (table t) = of_table t
kind (look l) = of_other refl

abbrev table_answers : List Line → List Line
table_answers xs = those (λ (x : Line). is_table x.call) xs

abbrev other_answers : List Line → List Line
other_answers xs = those (λ (x : Line). not (is_table x.call)) xs

-- the others alone, with any waiting place
record Others (cs xs : List Call) (w : World) (t : List Line) (p : Waiting) : Type 0 where
  pub answers : t ≡ trace xs (with w p)
  pub last : end xs (with w p) ≡ with (end cs w) p

others_by : {b : Bool} {c : Call} (cs : List Call) (w : World) (p : Waiting) → Kind b c → Good w → Live w → Fit p (waits w) → (t : List Line)
    → Others cs (others cs) (step c w).world t p
    → Others (c ∷ cs) (cond (not b) (c ∷ others cs) (others cs)) w (cond (not b) (c ⇒ (step c w).answer ∷ t) t) p
unfolding end trace
others_by cs w p (of_table t) g l f k r =
    let e = base_by t w p (how (table t) w) in
    record { answers = r.answers ∙ ap (trace (others cs)) e; last = ap (end (others cs)) (sym e) ∙ r.last }
others_by cs w p (of_other {c = c} e) g l f k r =
    let a = apart c w p e g l f in
    record {
      answers = ap (λ (t : List Line). c ⇒ (step c w).answer ∷ t) r.answers
          ∙ ap (λ (x : Step). c ⇒ x.answer ∷ trace (others cs) x.world) (sym a);
      last = ap (λ (x : Step). end (others cs) x.world) a ∙ r.last;
    }

others_alone : (cs : List Call) (w : World) (p : Waiting) → Good w → Live w → NoEnd cs w → Fit p (waits w)
    → Others cs (others cs) w (other_answers (trace cs w)) p
unfolding end trace those NoEnd
others_alone [] w p g l q f = record { answers = refl; last = refl }
others_alone (c ∷ cs) w p g l q f =
    others_by cs w p (kind c) g l f (other_answers (trace cs (step c w).world))
    (others_alone cs (step c w).world p (good_step c w g) (live_step c w l q.0) q.1
    (record { few = f.few; long = f.long ∙ sym (same_by c w (how c w)) }))

-- the table calls alone, over another base
record Tables (cs xs : List Call) (w x : World) (t : List Line) : Type 0 where
  pub answers : t ≡ trace xs (with x (waits w))
  pub last : end xs (with x (waits w)) ≡ with x (waits (end cs w))

tables_by : {b : Bool} {c : Call} (cs : List Call) (w x : World) → Kind b c → Good w → Live w → Good x → (t : List Line)
    → Tables cs (tables cs) (step c w).world x t
    → Tables (c ∷ cs) (cond b (c ∷ tables cs) (tables cs)) w x (cond b (c ⇒ (step c w).answer ∷ t) t)
unfolding end trace
tables_by cs w x (of_table t) g l k y r =
    let a = mirror t w x g k in
    record {
      answers = ap (λ (i : List Line). table t ⇒ (step (table t) w).answer ∷ i) r.answers
          ∙ ap (λ (i : Step). table t ⇒ i.answer ∷ trace (tables cs) i.world) (sym a);
      last = ap (λ (i : Step). end (tables cs) i.world) a ∙ r.last;
    }
tables_by cs w x (of_other {c = c} e) g l k y r =
    let q = ap (with x) (left_by c w e l (how c w)) in
    record { answers = r.answers ∙ ap (trace (tables cs)) q; last = ap (end (tables cs)) (sym q) ∙ r.last }

tables_alone : (cs : List Call) (w x : World) → Good w → Live w → NoEnd cs w → Good x → Tables cs (tables cs) w x (table_answers (trace cs w))
unfolding end trace those NoEnd
tables_alone [] w x g l q k = record { answers = refl; last = refl }
tables_alone (c ∷ cs) w x g l q k =
    tables_by cs w x (kind c) g l k (table_answers (trace cs (step c w).world))
    (tables_alone cs (step c w).world x (good_step c w g) (live_step c w l q.0) q.1 k)

-- ---- traces

trace_append : (xs ys : List Call) (w : World) → trace (xs ++ ys) w ≡ trace xs w ++ trace ys (end xs w)
unfolding trace end
trace_append [] ys w = refl
trace_append (c ∷ cs) ys w = ap (λ (t : List Line). c ⇒ (step c w).answer ∷ t) (trace_append cs ys (step c w).world)

pub end_append : (xs ys : List Call) (w : World) → end (xs ++ ys) w ≡ end ys (end xs w)
unfolding end
end_append [] ys w = refl
end_append (c ∷ cs) ys w = end_append cs ys (step c w).world

-- ---- those that a test holds of

cond_append : {A : Type 0} (b : Bool) (x : A) (xs ys zs : List A) → xs ≡ ys ++ zs → cond b (x ∷ xs) xs ≡ cond b (x ∷ ys) ys ++ zs
cond_append true x xs ys zs e = ap (λ t. x ∷ t) e
cond_append false x xs ys zs e = e

those_append : {A : Type 0} (p : A → Bool) (xs ys : List A) → those p (xs ++ ys) ≡ those p xs ++ those p ys
unfolding those
those_append p [] ys = refl
those_append p (x ∷ xs) ys = cond_append (p x) x (those p (xs ++ ys)) (those p xs) (those p ys) (those_append p xs ys)

-- picked twice
again_by : {A : Type 0} (p : A → Bool) (b : Bool) (x : A) (ys : List A) → p x ≡ b → those p ys ≡ ys → those p (cond b (x ∷ ys) ys) ≡ cond b (x ∷ ys) ys
unfolding those
again_by p true x ys e r = ap (λ (b : Bool). cond b (x ∷ those p ys) (those p ys)) e ∙ ap (λ t. x ∷ t) r
again_by p false x ys e r = r

again : {A : Type 0} (p : A → Bool) (xs : List A) → those p (those p xs) ≡ those p xs
unfolding those
again p [] = refl
again p (x ∷ xs) = again_by p (p x) x (those p xs) refl (again p xs)

-- picked by tests of which one holds where the other does not
neither_by : {A : Type 0} (q : A → Bool) (b : Bool) (x : A) (ys : List A) → (b ≡ true → q x ≡ false) → those q ys ≡ [] → those q (cond b (x ∷ ys) ys) ≡ []
unfolding those
neither_by q true x ys h r = ap (λ (b : Bool). cond b (x ∷ those q ys) (those q ys)) (h refl) ∙ r
neither_by q false x ys h r = r

neither : {A : Type 0} (p q : A → Bool) → ((x : A) → p x ≡ true → q x ≡ false) → (xs : List A) → those q (those p xs) ≡ []
unfolding those
neither p q h [] = refl
neither p q h (x ∷ xs) = neither_by q (p x) x (those p xs) (h x) (neither p q h xs)

table_append : (xs ys : List Line) → table_answers (xs ++ ys) ≡ table_answers xs ++ table_answers ys
table_append = those_append (λ (x : Line). is_table x.call)

other_append : (xs ys : List Line) → other_answers (xs ++ ys) ≡ other_answers xs ++ other_answers ys
other_append = those_append (λ (x : Line). not (is_table x.call))

record Twice (xs : List Line) : Type 0 where
  pub tt_tables : table_answers (table_answers xs) ≡ table_answers xs
  pub to : table_answers (other_answers xs) ≡ []
  pub ot : other_answers (table_answers xs) ≡ []
  pub oo : other_answers (other_answers xs) ≡ other_answers xs

twice : (xs : List Line) → Twice xs
twice xs =
    let p : Line → Bool = λ x. is_table x.call in
    let q : Line → Bool = λ x. not (is_table x.call) in
    record {
      tt_tables = again p xs;
      to = neither q p (λ x e. not-true (is_table x.call) e) xs;
      ot = neither p q (λ x e. ap not e) xs;
      oo = again q xs;
    }

-- ---- the theorem

-- the same calls before
same_after : (xs ys zs : List Call) (w : World) → Same (end xs w) ys zs → Same w (xs ++ ys) (xs ++ zs)
same_after xs ys zs w s =
    let a : (ks : List Call) → table_answers (trace (xs ++ ks) w) ≡ table_answers (trace xs w) ++ table_answers (trace ks (end xs w)) =
    λ ks. ap table_answers (trace_append xs ks w) ∙ table_append (trace xs w) (trace ks (end xs w)) in
    let b : (ks : List Call) → other_answers (trace (xs ++ ks) w) ≡ other_answers (trace xs w) ++ other_answers (trace ks (end xs w)) =
    λ ks. ap other_answers (trace_append xs ks w) ∙ other_append (trace xs w) (trace ks (end xs w)) in
    record {
      tabled = a ys ∙ ap (λ (t : List Line). table_answers (trace xs w) ++ t) s.tabled ∙ sym (a zs);
      other = b ys ∙ ap (λ (t : List Line). other_answers (trace xs w) ++ t) s.other ∙ sym (b zs);
      last = end_append xs ys w ∙ s.last ∙ sym (end_append xs zs w);
    }

-- from an open run on
module _ (w : World) (mid after : List Call) (g : Good w) (l : Live w) (q : NoEnd mid w) where
  abbrev here : World
  here = end mid w

  abbrev x : World
  x = (step finish here).world

  good_here : Good (end mid w)
  good_here = good_end mid w g

  live_here : Live (end mid w)
  live_here = live_end mid w l q

  o : Others mid (others mid) w (other_answers (trace mid w)) (waits w)
  o = others_alone mid w (waits w) g l q (record { few = g.sound.wait; long = refl })

  t : Tables mid (tables mid) w x (table_answers (trace mid w))
  t = tables_alone mid w x g l q (good_step finish here good_here)

  fin : step finish (end (others mid) w) ≡ placed (step finish here) (waits w)
  fin =
      ap (step finish) o.last
      ∙ apart finish here (waits w) refl good_here live_here (record { few = g.sound.wait; long = sym (same_length mid w) })

  back : with x (waits here) ≡ x
  back = ap (with x) (sym (left_by finish here refl live_here (how finish here)))

  -- the world after the table calls that were moved
  rest : end (tables mid) (step finish (end (others mid) w)).world ≡ x
  rest = ap (λ (r : Step). end (tables mid) r.world) fin ∙ t.last ∙ back

  same_tables : trace (tables mid) (step finish (end (others mid) w)).world ≡ table_answers (trace mid w)
  same_tables = ap (λ (r : Step). trace (tables mid) r.world) fin ∙ sym t.answers

  left_trace : trace (mid ++ (finish ∷ after)) w ≡ trace mid w ++ (finish ⇒ (step finish here).answer ∷ trace after x)
  unfolding trace
  left_trace = trace_append mid (finish ∷ after) w

  right_trace : trace (others mid ++ (finish ∷ (tables mid ++ after))) w
      ≡ other_answers (trace mid w) ++ (finish ⇒ (step finish here).answer ∷ (table_answers (trace mid w) ++ trace after x))
  unfolding trace
  right_trace =
      let y = (step finish (end (others mid) w)).world in
      let more : trace (tables mid ++ after) (step finish (end (others mid) w)).world ≡ table_answers (trace mid w) ++ trace after x =
      trace_append (tables mid) after (step finish (end (others mid) w)).world
      ∙ ap₂ (λ (i : List Line) (k : World). i ++ trace after k) same_tables rest in
      trace_append (others mid) (finish ∷ (tables mid ++ after)) w
      ∙ ap₂ (λ (i k : List Line). i ++ k) (sym o.answers)
      (ap₂ (λ (a : Reply) (k : List Line). finish ⇒ a ∷ k) (ap (λ (r : Step). r.answer) fin) more)

  moved_table : table_answers (trace (mid ++ (finish ∷ after)) w) ≡ table_answers (trace (others mid ++ (finish ∷ (tables mid ++ after))) w)
  unfolding those
  moved_table =
      let m = twice (trace mid w) in
      let ta = table_answers (trace after x) in
      ap table_answers left_trace ∙ table_append (trace mid w) (finish ⇒ (step finish here).answer ∷ trace after x)
      ∙ sym
      (ap table_answers right_trace
      ∙ table_append (other_answers (trace mid w)) (finish ⇒ (step finish here).answer ∷ (table_answers (trace mid w) ++ trace after x))
      ∙ ap₂ (λ (i k : List Line). i ++ k) m.to
      (table_append (table_answers (trace mid w)) (trace after x) ∙ ap (λ (i : List Line). i ++ table_answers (trace after x)) m.tt_tables))

  moved_other : other_answers (trace (mid ++ (finish ∷ after)) w) ≡ other_answers (trace (others mid ++ (finish ∷ (tables mid ++ after))) w)
  unfolding those
  moved_other =
      let m = twice (trace mid w) in
      ap other_answers left_trace ∙ other_append (trace mid w) (finish ⇒ (step finish here).answer ∷ trace after x)
      ∙ sym
      (ap other_answers right_trace
      ∙ other_append (other_answers (trace mid w)) (finish ⇒ (step finish here).answer ∷ (table_answers (trace mid w) ++ trace after x))
      ∙ ap₂ (λ (i k : List Line). i ++ (finish ⇒ (step finish here).answer ∷ k)) m.oo
      (other_append (table_answers (trace mid w)) (trace after x) ∙ ap (λ (i : List Line). i ++ other_answers (trace after x)) m.ot))

  moved_last : end (mid ++ (finish ∷ after)) w ≡ end (others mid ++ (finish ∷ (tables mid ++ after))) w
  unfolding end
  moved_last =
      end_append mid (finish ∷ after) w
      ∙ sym
      (end_append (others mid) (finish ∷ (tables mid ++ after)) w
      ∙ end_append (tables mid) after (step finish (end (others mid) w)).world ∙ ap (end after) rest)

  pub moved_run : Same w (mid ++ (finish ∷ after)) (others mid ++ (finish ∷ (tables mid ++ after)))
  moved_run = record { tabled = moved_table; other = moved_other; last = moved_last }

pub moved : (w : World) (before : List Call) (x : Settings) (mid after : List Call) → Within w before x mid
    → Same w (before ++ (open_run x ∷ (mid ++ (finish ∷ after)))) (before ++ (open_run x ∷ (others mid ++ (finish ∷ (tables mid ++ after)))))
unfolding end
moved w before x mid after h =
    let s = stands w before x mid h in
    same_after before (open_run x ∷ (mid ++ (finish ∷ after))) (open_run x ∷ (others mid ++ (finish ∷ (tables mid ++ after)))) w
    (same_after (open_run x ∷ []) (mid ++ (finish ∷ after)) (others mid ++ (finish ∷ (tables mid ++ after))) (end before w)
    (moved_run (at_open w before x) mid after s.good s.live h.no_end))
