-- How the answers of Feed and Finish are read (rule D9).
-- Assumes nothing.
use Rattle.std.specs.Prelude.{option_map, Result}
use Rattle.refusal.specs.declared.Refusal.{Refusal}
use Rattle.reader.specs.Said.{Said, report_of, said_of, took, found, ended}
use Rattle.runs.specs.declared.Fed.{Fed}
use Rattle.runs.specs.declared.Finished.{Finished}
use Rattle.runs.specs.declared.Finished.TheVariants as finished

-- C7: the bytes taken, with a block or with none
abbrev pub fed : Fed → Said
fed f = took f.taken (option_map report_of f.block)

-- C8: a block, or the end
abbrev pub ended_or_found : Finished → Said
ended_or_found (finished.Block b) = found (report_of b)
ended_or_found (finished.End c) = ended c

abbrev pub said_fed : Result Fed Refusal → Said
said_fed = said_of fed

abbrev pub said_finished : Result Finished Refusal → Said
said_finished = said_of ended_or_found
