-- How a reply of Write is read (rules W1, D9).
-- Assumes nothing.
use Rattle.std.specs.Prelude.{ℕ, Option, None, Some, Result, Ok, Err}
use Rattle.refusal.specs.declared.Refusal.{Refusal}
use Rattle.refusal.specs.Numbers.{number_for}
use Rattle.writer.specs.Write.{WriteSaid, wrote, write_refused}
use Rattle.desk.specs.declared.AskReply.{AskReply}
use Rattle.desk.specs.declared.AskReply.TheVariants as reply

abbrev pub wrote_says : Result AskReply Refusal → Option WriteSaid
wrote_says (Ok (reply.Field v)) = None
wrote_says (Ok (reply.Bytes b)) = None
wrote_says (Ok (reply.Written b)) = Some (wrote b.count)
wrote_says (Err r) = Some (write_refused (number_for r))

-- the CRC that a reply of Write tells; where it tells none, the other one
abbrev pub crc_told : Result AskReply Refusal → ℕ → ℕ
crc_told (Ok (reply.Field v)) other = other
crc_told (Ok (reply.Bytes b)) other = other
crc_told (Ok (reply.Written b)) other = b.crc
crc_told (Err r) other = other
