-- What a field answers (rule V7), byte by byte (docs/REPLAY.md).
-- Assumes nothing.
use Rattle.std.specs.Prelude.{ℕ, List, [], ◌∷◌, ◌++◌}
use Rattle.text.specs.Numbers.{spaced, integer_text}
use Rattle.phrases.specs.Replies.{refused_text}
use Rattle.value.specs.Said.{FieldSaid, do_not_use, double, field_refused, not_in_revision, signed, single, unsigned}

-- `unsigned`
abbrev pub word_unsigned : List ℕ
word_unsigned = 117 ∷ 110 ∷ 115 ∷ 105 ∷ 103 ∷ 110 ∷ 101 ∷ 100 ∷ []

-- `signed`
abbrev pub word_signed : List ℕ
word_signed = 115 ∷ 105 ∷ 103 ∷ 110 ∷ 101 ∷ 100 ∷ []

-- `single`
abbrev pub word_single : List ℕ
word_single = 115 ∷ 105 ∷ 110 ∷ 103 ∷ 108 ∷ 101 ∷ []

-- `double`
abbrev pub word_double : List ℕ
word_double = 100 ∷ 111 ∷ 117 ∷ 98 ∷ 108 ∷ 101 ∷ []

-- `do-not-use`
abbrev pub word_do_not_use : List ℕ
word_do_not_use = 100 ∷ 111 ∷ 45 ∷ 110 ∷ 111 ∷ 116 ∷ 45 ∷ 117 ∷ 115 ∷ 101 ∷ []

-- `not-in-this-revision`
abbrev pub word_not_in_revision : List ℕ
word_not_in_revision = 110 ∷ 111 ∷ 116 ∷ 45 ∷ 105 ∷ 110 ∷ 45 ∷ 116 ∷ 104 ∷ 105 ∷ 115 ∷ 45 ∷ 114 ∷ 101 ∷ 118 ∷ 105 ∷ 115 ∷ 105 ∷ 111 ∷ 110 ∷ []

-- V7, V2: each case by its word; a float by its bits, in decimal
abbrev pub field_text : FieldSaid → List ℕ
field_text (unsigned n) = word_unsigned ++ spaced n
field_text (signed z) = word_signed ++ integer_text z
field_text (single b) = word_single ++ spaced b
field_text (double b) = word_double ++ spaced b
field_text do_not_use = word_do_not_use
field_text not_in_revision = word_not_in_revision
field_text (field_refused n) = refused_text n
