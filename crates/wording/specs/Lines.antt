-- The lines of the calls that are lent none of the reader's buffers to write, byte by byte (docs/REPLAY.md).
-- Assumes nothing.
use Rattle.std.specs.Prelude.{ℕ, List, [], ◌∷◌, ◌++◌, Result, Ok, Err}
use Rattle.text.specs.Numbers.{spaced, crc_text}
use Rattle.phrases.specs.Replies.{refused_text}
use Rattle.refusal.specs.declared.Refusal.{Refusal}
use Rattle.refusal.specs.Numbers.{number_for}
use Rattle.value.specs.Said.{value_says}
use Rattle.wording.specs.Values.{field_text}
use Rattle.desk.specs.declared.PartCrc.{PartCrc}
use Rattle.desk.specs.declared.AskReply.{AskReply}
use Rattle.desk.specs.declared.AskReply.TheVariants as ask

-- `part`
abbrev pub word_part : List ℕ
word_part = 112 ∷ 97 ∷ 114 ∷ 116 ∷ []

-- `written`
abbrev pub word_written : List ℕ
word_written = 119 ∷ 114 ∷ 105 ∷ 116 ∷ 116 ∷ 101 ∷ 110 ∷ []

-- ` | - - -`, and the line's end
abbrev pub word_no_crcs : List ℕ
word_no_crcs = 32 ∷ 124 ∷ 32 ∷ 45 ∷ 32 ∷ 45 ∷ 32 ∷ 45 ∷ 10 ∷ []

-- a word, how many bytes, and a CRC
abbrev pub bytes_text : List ℕ → PartCrc → List ℕ
bytes_text w b = w ++ spaced b.count ++ crc_text b.crc

-- what such a call replies
abbrev pub ask_text : Result AskReply Refusal → List ℕ
ask_text (Ok (ask.Field v)) = field_text (value_says v)
ask_text (Ok (ask.Bytes b)) = bytes_text word_part b
ask_text (Ok (ask.Written b)) = bytes_text word_written b
ask_text (Err r) = refused_text (number_for r)
