-- No reply carries a NaN as a float: it is carried as its bits (rule V2).
-- Assumes nothing.
use Rattle.std.specs.Prelude.{Bool, true, Result, Ok, Err}
use Rattle.refusal.specs.declared.Refusal.{Refusal}
use Rattle.value.specs.Said.{no_nan}
use Rattle.desk.specs.declared.AskReply.{AskReply}
use Rattle.desk.specs.declared.AskReply.TheVariants as reply

abbrev pub plainly : Result AskReply Refusal → Bool
plainly (Ok (reply.Field v)) = no_nan v
plainly (Ok (reply.Bytes b)) = true
plainly (Ok (reply.Written b)) = true
plainly (Err r) = true
