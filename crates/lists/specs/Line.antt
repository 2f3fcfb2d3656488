-- A line of `write` behind its first word (docs/REPLAY.md): what Write is given by it (rule W1), with the two lists of W3.
-- Assumes nothing.
use Rattle.std.specs.Prelude.{ℕ, List, [], ◌∷◌, eqb, get_or, drop, Option, None, Some}
use Rattle.std.specs.List.{slice_split}
use Rattle.words.specs.Words.{decimal_in}
use Rattle.words.specs.Values.{value_in, stamp_in}
use Rattle.entry.specs.declared.Entry.{Entry}
use Rattle.draft.specs.declared.Head.{Head}

-- the words of a text: what stands between its spaces
unfoldable pub words_of : List ℕ → List (List ℕ)
words_of s = slice_split (λ c. eqb c 32) s

-- W3: kinds and bits
abbrev pub TwoLists : Type 0
TwoLists = List ℕ × List ℕ

abbrev pub value_before : Option (ℕ × ℕ) → Option TwoLists → Option TwoLists
value_before None l = None
value_before (Some v) None = None
value_before (Some v) (Some l) = Some (v.0 ∷ l.0, v.1 ∷ l.1)

-- words as values, in two lists; none where one is no value
unfoldable pub lists_in : List (List ℕ) → Option TwoLists
lists_in [] = Some ([], [])
lists_in (w ∷ ws) = value_before (value_in w) (lists_in ws)

-- W2: a value given as a kind and its bits
abbrev pub entry_of : ℕ × ℕ → Entry
entry_of v = record { kind = v.0; bits = v.1 }

-- W1: number, revision, TOW and WNc
abbrev pub head_by : Option ℕ → Option ℕ → Option (ℕ × ℕ) → Option (ℕ × ℕ) → Option Head
head_by None r t w = None
head_by (Some n) None t w = None
head_by (Some n) (Some r) None w = None
head_by (Some n) (Some r) (Some t) None = None
head_by (Some n) (Some r) (Some t) (Some w) = Some (record { number = n; revision = r; tow = entry_of t; wnc = entry_of w })

-- a word that is missing is read as an empty one, which is no number
unfoldable pub head_in : List (List ℕ) → Option Head
head_in ws = head_by (decimal_in (get_or ws 0 [])) (decimal_in (get_or ws 1 [])) (stamp_in (get_or ws 2 [])) (stamp_in (get_or ws 3 []))

abbrev pub both_in : Option Head → Option TwoLists → Option (Head × TwoLists)
both_in None l = None
both_in (Some h) None = None
both_in (Some h) (Some l) = Some (h, l)

-- NUMBER REVISION TOW WNC, and behind them the values
unfoldable pub line_in : List ℕ → Option (Head × TwoLists)
line_in text = both_in (head_in (words_of text)) (lists_in (drop 4 (words_of text)))
