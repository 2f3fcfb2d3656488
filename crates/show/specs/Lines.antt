-- The lines of the calls that may write, byte by byte (docs/REPLAY.md).
-- Assumes nothing.
use Rattle.std.specs.Prelude.{ℕ, Bool, true, false, cond, List, [], ◌∷◌, ◌++◌, None, Some, Result}
use Rattle.text.specs.Numbers.{spaced, crc_text}
use Rattle.phrases.specs.Lines.{newline, block_words, end_words}
use Rattle.phrases.specs.Replies.{refused_text, word_bar}
use Rattle.reader.specs.Said.{Said, refused, version, took, found, ended, waited}
use Rattle.refusal.specs.declared.Refusal.{Refusal}
use Rattle.desk.specs.declared.Crcs.{Crcs}
use Rattle.desk.specs.declared.RunReply.{RunReply}
use Rattle.desk.specs.Says.{reply_says, is_staged}

-- `opened`
abbrev pub word_opened : List ℕ
word_opened = 111 ∷ 112 ∷ 101 ∷ 110 ∷ 101 ∷ 100 ∷ []

-- `staged`
abbrev pub word_staged : List ℕ
word_staged = 115 ∷ 116 ∷ 97 ∷ 103 ∷ 101 ∷ 100 ∷ []

-- `withdrawn`
abbrev pub word_withdrawn : List ℕ
word_withdrawn = 119 ∷ 105 ∷ 116 ∷ 104 ∷ 100 ∷ 114 ∷ 97 ∷ 119 ∷ 110 ∷ []

-- `fed`
abbrev pub word_fed : List ℕ
word_fed = 102 ∷ 101 ∷ 100 ∷ []

-- `more`, a space before it
abbrev pub word_more : List ℕ
word_more = 32 ∷ 109 ∷ 111 ∷ 114 ∷ 101 ∷ []

-- ` `
abbrev pub word_gap : List ℕ
word_gap = 32 ∷ []

abbrev pub fed_text : ℕ → List ℕ
fed_text t = word_fed ++ spaced t

abbrev pub one_for : Bool → ℕ
one_for true = 1
one_for false = 0

-- what Open, Feed, Finish, Stage and Withdraw say; w is the word before a version
abbrev pub said_text : List ℕ → Said → List ℕ
said_text w (refused n) = refused_text n
said_text w (version v) = w ++ spaced v
said_text w (took t None) = fed_text t ++ word_more
said_text w (took t (Some r)) = fed_text t ++ word_gap ++ block_words r
said_text w (found r) = block_words r
said_text w (ended c) = end_words c
said_text w (waited b) = word_withdrawn ++ spaced (one_for b)

-- the CRCs of the three whole buffers, and the line's end
abbrev pub crcs_text : Crcs → List ℕ
crcs_text c = word_bar ++ crc_text c.hold ++ crc_text c.in_force ++ crc_text c.waiting ++ newline

-- what the call replies
abbrev pub run_text : Result RunReply Refusal → List ℕ
run_text r = said_text (cond (is_staged r) word_staged word_opened) (reply_says r)
