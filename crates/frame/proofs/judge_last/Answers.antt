-- `frame::judge_last` meets its contract: what is decided already stays, and the rest is told by how many bytes there are.
-- Assumes nothing.
use Rattle.std.proofs.Common.{◌≡◌, refl, sym, ap, ◌∙◌, arith, ℕ, List, [], ◌++◌, length}
use mathlib.Core.List.{append-nil}
use borrow.Author.Tests.{lt-ltb, le-ltb}
use Rattle.frame.specs.Judge.{judged}
use Rattle.frame.specs.declared.Verdict.{Verdict}
use Rattle.frame.proofs.Last.{last_ends, last_same}
use Rattle.frame.proofs.judge_last.Goals as goal

-- nothing follows
alone : (c : ℕ) (v : List ℕ) {r x : Verdict} → r ≡ judged c (v ++ []) → r ≡ x → judged c v ≡ x
alone c v e f = sym (e ∙ ap (judged c) (append-nil v)) ∙ f

pub returns-in_default : goal.returns-in_default
returns-in_default c =
    let a = c.args in
    sym (last_same a.ceiling a.s.now c.judge-v.result c.in_default.not-Undecided (alone a.ceiling a.s.now c.judge-v.ensures refl))

pub returns-in-0-to-1 : goal.returns-in-0-to-1
returns-in-0-to-1 c =
    let a = c.args in
    sym (last_ends a.ceiling a.s.now (alone a.ceiling a.s.now c.judge-v.ensures c.in-Undecided.is) (lt-ltb (length a.s.now) 2 (omega arith)) refl)

pub returns-in-2-to-7 : goal.returns-in-2-to-7
returns-in-2-to-7 c =
    let a = c.args in
    sym
    (last_ends a.ceiling a.s.now (alone a.ceiling a.s.now c.judge-v.ensures c.in-Undecided.is) (le-ltb (length a.s.now) 2 (omega arith))
    (lt-ltb (length a.s.now) 8 (omega arith)))

pub returns-in_default-len : goal.returns-in_default-len
returns-in_default-len c =
    let a = c.args in
    sym
    (last_ends a.ceiling a.s.now (alone a.ceiling a.s.now c.judge-v.ensures c.in-Undecided.is) (le-ltb (length a.s.now) 2 (omega arith))
    (le-ltb (length a.s.now) 8 (omega arith)))
