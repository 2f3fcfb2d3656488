-- How a reply of Open, Feed, Finish, Stage or Withdraw is read (rule D9).
-- Assumes nothing.
use Rattle.std.specs.Prelude.{Bool, true, false, option_map, Result, Ok, Err}
use Rattle.refusal.specs.declared.Refusal.{Refusal}
use Rattle.reader.specs.Said.{Said, report_of, said_of, refused, version, took, found, ended, waited}
use Rattle.desk.specs.declared.RunReply.{RunReply}
use Rattle.desk.specs.declared.RunReply.TheVariants as run

abbrev pub run_says : RunReply → Said
run_says (run.Opened v) = version v
run_says (run.Staged v) = version v
run_says (run.Withdrawn b) = waited b
run_says (run.Fed t b) = took t (option_map report_of b)
run_says (run.Found b) = found (report_of b)
run_says (run.End c) = ended c

abbrev pub reply_says : Result RunReply Refusal → Said
reply_says = said_of run_says

-- Open and Stage both answer a version: whether it is Stage's
abbrev pub is_staged : Result RunReply Refusal → Bool
is_staged (Ok (run.Opened v)) = false
is_staged (Ok (run.Staged v)) = true
is_staged (Ok (run.Withdrawn b)) = false
is_staged (Ok (run.Fed t b)) = false
is_staged (Ok (run.Found b)) = false
is_staged (Ok (run.End c)) = false
is_staged (Err r) = false

-- whether a call answered a version at all
abbrev pub is_version : Said → Bool
is_version (refused n) = false
is_version (version v) = true
is_version (took t r) = false
is_version (found r) = false
is_version (ended c) = false
is_version (waited b) = false
