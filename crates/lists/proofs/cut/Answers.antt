-- `lists::cut` meets its contract: the first word, and the text behind its space.
-- Assumes nothing.
use Rattle.lists.proofs.Laws.{cut_words}
use Rattle.lists.proofs.cut.Goals as goal

pub returns-clause-words : goal.returns-clause-words
returns-clause-words c = cut_words c.args.text.now c.word_end-end.result c.get.result c.word_end-end.ensures.value c.get.ensures.lookup.0
