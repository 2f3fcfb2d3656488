-- `lists::read` meets its contract: four words, and the lists behind them.
-- Assumes nothing.
use Rattle.std.proofs.Common.{◌≡◌, ℕ, List, [], ◌∷◌, None, Some, ap, ◌∙◌, refl}
use Rattle.lists.proofs.Laws.{no_lists, one_word, two_words, three_words, line_read}
use Rattle.lists.proofs.read.Goals as goal

-- words of a text, and those behind one of them
behind : {t : List (List ℕ)} (v : List ℕ) {s u : List (List ℕ)} → t ≡ v ∷ s → s ≡ u → t ≡ v ∷ u
behind v e f = e ∙ ap (λ (ws : List (List ℕ)). v ∷ ws) f

pub returns-in_err-rest-clause-bits_after : goal.returns-in_err-rest-clause-bits_after
returns-in_err-rest-clause-bits_after c =
    let a = rw c.in_err-rest.was at c.cut.ensures.words in
    rw c.from_residual.ensures (one_word c.args.text.now c.cut.result.0.now a)

pub returns-in_err-rest-2-clause-bits_after : goal.returns-in_err-rest-2-clause-bits_after
returns-in_err-rest-2-clause-bits_after c =
    let a = rw c.in_ok-rest.was at c.cut.ensures.words in
    let b = rw c.in_err-rest-2.was at c.cut-2.ensures.words in
    rw c.from_residual-in_err-rest-2.ensures (two_words c.args.text.now _ _ (behind c.cut.result.0.now a b))

pub returns-in_err-rest-3-clause-bits_after : goal.returns-in_err-rest-3-clause-bits_after
returns-in_err-rest-3-clause-bits_after c =
    let a = rw c.in_ok-rest.was at c.cut.ensures.words in
    let b = rw c.in_ok-rest-2.was at c.cut-2.ensures.words in
    let d = rw c.in_err-rest-3.was at c.cut-3.ensures.words in
    rw c.from_residual-in_err-rest-3.ensures (three_words c.args.text.now _ _ _ (behind c.cut.result.0.now a (behind c.cut-2.result.0.now b d)))

pub returns-in_err-head-clause-bits_after : goal.returns-in_err-head-clause-bits_after
returns-in_err-head-clause-bits_after c =
    let a = rw c.in_ok-rest.was at c.cut.ensures.words in
    let b = rw c.in_ok-rest-2.was at c.cut-2.ensures.words in
    let d = rw c.in_ok-rest-3.was at c.cut-3.ensures.words in
    let w = behind c.cut.result.0.now a (behind c.cut-2.result.0.now b (behind c.cut-3.result.0.now d c.cut-4.ensures.words)) in
    rw c.from_residual-in_err-head.ensures (line_read c.args.text.now _ _ _ _ _ None _ w c.number.ensures c.number-2.ensures c.stamp.ensures c.stamp-2.ensures c.in_err-head.ensures refl)

pub returns-in_err-count-in-Some-clause-bits_after : goal.returns-in_err-count-in-Some-clause-bits_after
returns-in_err-count-in-Some-clause-bits_after c =
    let a = rw c.in_ok-rest.was at c.cut.ensures.words in
    let b = rw c.in_ok-rest-2.was at c.cut-2.ensures.words in
    let d = rw c.in_ok-rest-3.was at c.cut-3.ensures.words in
    let f = rw c.in-Some.is at c.cut-4.ensures.words in
    let w = behind c.cut.result.0.now a (behind c.cut-2.result.0.now b (behind c.cut-3.result.0.now d f)) in
    rw c.from_residual-in_err-count-in-Some.ensures (line_read c.args.text.now _ _ _ _ _ _ None w c.number.ensures c.number-2.ensures c.stamp.ensures c.stamp-2.ensures c.in_ok-head.ensures c.in_err-count-in-Some.ensures.bits_after)

pub returns-in_ok-count-in-Some-clause-bits_after : goal.returns-in_ok-count-in-Some-clause-bits_after
returns-in_ok-count-in-Some-clause-bits_after c =
    let a = rw c.in_ok-rest.was at c.cut.ensures.words in
    let b = rw c.in_ok-rest-2.was at c.cut-2.ensures.words in
    let d = rw c.in_ok-rest-3.was at c.cut-3.ensures.words in
    let f = rw c.in-Some.is at c.cut-4.ensures.words in
    let w = behind c.cut.result.0.now a (behind c.cut-2.result.0.now b (behind c.cut-3.result.0.now d f)) in
    line_read c.args.text.now _ _ _ _ _ _ _ w c.number.ensures c.number-2.ensures c.stamp.ensures c.stamp-2.ensures c.in_ok-head.ensures c.in_ok-count-in-Some.ensures.bits_after

pub returns-in-None-clause-bits_after : goal.returns-in-None-clause-bits_after
returns-in-None-clause-bits_after c =
    let a = rw c.in_ok-rest.was at c.cut.ensures.words in
    let b = rw c.in_ok-rest-2.was at c.cut-2.ensures.words in
    let d = rw c.in_ok-rest-3.was at c.cut-3.ensures.words in
    let f = rw c.in-None.is at c.cut-4.ensures.words in
    let w = behind c.cut.result.0.now a (behind c.cut-2.result.0.now b (behind c.cut-3.result.0.now d f)) in
    line_read c.args.text.now _ _ _ _ _ _ (Some ([], [])) w c.number.ensures c.number-2.ensures c.stamp.ensures c.stamp-2.ensures c.in_ok-head.ensures no_lists
