-- What is printed of a line, byte by byte (docs/REPLAY.md): the answer, the state, the CRCs. A bad line prints nothing here.
-- Assumes nothing.
use Rattle.std.specs.Prelude.{ℕ, List, [], ◌++◌}
use Rattle.reader.specs.declared.State.{State}
use Rattle.desk.specs.declared.Crcs.{Crcs}
use Rattle.play.specs.declared.Turn.{Turn}
use Rattle.play.specs.declared.Turn.TheVariants.{Quiet, Bad, Ran, Asked}
use Rattle.phrases.specs.Replies.{state_text}
use Rattle.show.specs.Lines.{run_text, crcs_text}
use Rattle.wording.specs.Lines.{ask_text, word_no_crcs}

abbrev pub printed : Turn → State → Crcs → List ℕ
printed Quiet s c = []
printed Bad s c = []
printed (Ran r) s c = run_text r ++ state_text s ++ crcs_text c
printed (Asked r) s c = ask_text r ++ state_text s ++ word_no_crcs
