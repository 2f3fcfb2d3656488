-- The words that a script's line is told by, each with its key, the number that `script` matches. No other word has that key:
-- `words::keys_apart`.
-- Assumes nothing.
use Rattle.std.specs.Prelude.{ℕ, ◌≡◌}
use Prim.Native.Char.{code}
use Prim.Native.String.{String, [], ◌∷◌}
use mathlib.Core.List as L
use Rattle.words.specs.Words.{key_of}

-- a word as its bytes
unfoldable pub letters_of : String → L.List ℕ
letters_of [] = L.[]
letters_of (c ∷ s) = L.◌∷◌ (code c) (letters_of s)

abbrev pub Key : String → ℕ → Type 0
Key word n = key_of (letters_of word) ≡ n

-- a line's first word, then the buffers, then the numbers of the state; `force` is a buffer and a number
abbrev pub KeysHold : Type 0
KeysHold =
    Key "open" 0x6f70656e
    × Key "finish" 0x66696e697368
    × Key "withdraw" 0x7769746864726177
    × Key "bytes" 0x6279746573
    × Key "feed" 0x66656564
    × Key "stage" 0x7374616765
    × Key "tow" 0x746f77
    × Key "wnc" 0x776e63
    × Key "body" 0x626f6479
    × Key "subbytes" 0x7375626279746573
    × Key "sub" 0x737562
    × Key "sub2" 0x73756232
    × Key "range" 0x72616e6765
    × Key "range2" 0x72616e676532
    × Key "write" 0x7772697465
    × Key "poke" 0x706f6b65
    × Key "put" 0x707574
    × Key "size" 0x73697a65
    × Key "hold" 0x686f6c64
    × Key "force" 0x666f726365
    × Key "waiting" 0x77616974696e67
    × Key "out" 0x6f7574
    × Key "phase" 0x7068617365
    × Key "waits" 0x7761697473
    × Key "held" 0x68656c64
    × Key "stands" 0x7374616e6473
    × Key "taken" 0x74616b656e
    × Key "blocks" 0x626c6f636b73
    × Key "skipped" 0x736b6970706564
    × Key "ceiling" 0x6365696c696e67
