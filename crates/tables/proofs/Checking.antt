-- A table's check, in the reader's words.
-- Assumes nothing.
use Rattle.std.proofs.Common.{◌≡◌, refl, ap, ◌∙◌, ℕ, Bool, true, false, cond, List, Option, Some, None}
use Rattle.std.specs.Option.{ok_or}
use Rattle.refusal.specs.declared.Refusal.TheVariants.{BadTable}
use Rattle.table.specs.Rules.{table_ok}
use Rattle.table.specs.Decode.{decode}
use Rattle.table.specs.Answer.{CheckSaid, check_refused, check_version, check_says, check_of}
use Rattle.reader.specs.Said.{Said, refused, version}
use Rattle.tables.specs.Said.{said_version}
use Rattle.tables.specs.Code.{version_or4}

-- what the check told, in the reader's words
abbrev says : CheckSaid → Said
says (check_version v) = version v
says (check_refused n) = refused n

check_by : (b : Bool) (v : ℕ) → says (cond b (check_version v) (check_refused 4)) ≡ cond b (version v) (refused 4)
check_by true v = refl
check_by false v = refl

checked_by : (o : Option ℕ) → said_version (ok_or o BadTable) ≡ says (check_says o)
checked_by (Some v) = refl
checked_by None = refl

pub checked : (t : List ℕ) (o : Option ℕ) → check_says o ≡ check_of t → said_version (ok_or o BadTable) ≡ version_or4 t
unfolding check_of
checked t o e = checked_by o ∙ ap says e ∙ check_by (table_ok t) (decode t).version
