-- What holds of the definitions of framing (rules F8, F11 to F13, F16, C14) under every ceiling c, as statements. Each is the
-- `ensures` of a function with no code, so that a check names it.
-- Assumes nothing.
use Rattle.std.specs.Prelude.{◌≡◌, List, ◌++◌, true, false, ℕ, ◌+◌, ◌≤◌, ◌<◌, min, length, get_or, take, drop, None, Some}
use Rattle.frame.specs.Frame.{sync_at, length_at, allowed, frame_at}
use Rattle.frame.specs.Judge.{judged, judged_last}
use Rattle.frame.specs.declared.Reason.TheVariants.{NoSync, FewLeft, PastEnd}
use Rattle.frame.specs.declared.Verdict.TheVariants.{NoFrame, Frame, Undecided}
use Rattle.scan.specs.Feed.{feed_lit}
use Rattle.framing.specs.ReadRun.{Reading, nothing_read, block_then, skip_then, block_at, read_run}

-- F8: a place is judged a frame of n bytes exactly where one of n bytes stands
pub record JudgedRight (c : ℕ) : Type 0 where
  pub frame : (w : List ℕ) (p : ℕ) → p < length w → frame_at c w p ≡ true → judged c (drop p w) ≡ Frame (length_at w p)
  pub stands : (w : List ℕ) (p n : ℕ) → p < length w → judged c (drop p w) ≡ Frame n → (frame_at c w p ≡ true) × (n ≡ length_at w p)

-- F12: the ways in which a place is decided
pub data Decided (c : ℕ) (v : List ℕ) : Type 0 where
  first_wrong : 0 < length v → (get_or v 0 0 ≡ 0x24 → ⊥) → Decided c v
  second_wrong : 1 < length v → (get_or v 1 0 ≡ 0x40 → ⊥) → Decided c v
  length_wrong : 8 ≤ length v → allowed c (length_at v 0) ≡ false → Decided c v
  all_there : 8 ≤ length v → length_at v 0 ≤ length v → Decided c v

-- F12: then, and not earlier; and what is decided is the same whatever stands behind
pub record DecidedExactly (c : ℕ) : Type 0 where
  pub once : (v : List ℕ) → Decided c v → judged c v ≡ Undecided → ⊥
  pub not_before : (v : List ℕ) → (judged c v ≡ Undecided → ⊥) → Decided c v
  pub alone : (xs ys zs : List ℕ) → Decided c xs → judged c (xs ++ ys) ≡ judged c (xs ++ zs)

-- F12: once a place is decided, bytes that follow do not change it
abbrev pub DecidedStays : ℕ → Type 0
DecidedStays c = (xs ys : List ℕ) → (judged c xs ≡ Undecided → ⊥) → judged c (xs ++ ys) ≡ judged c xs

-- the sync pair stands, and fewer than eight bytes are left
abbrev pub HasFew : List ℕ → Type 0
HasFew v = (sync_at v 0 ≡ true) × (length v < 8)

-- the sync pair stands, eight bytes are there, and the length is allowed and passes what is left
abbrev pub PassesEnd : ℕ → List ℕ → Type 0
PassesEnd c v = (sync_at v 0 ≡ true) × (8 ≤ length v) × (allowed c (length_at v 0) ≡ true) × (length v < length_at v 0)

-- F13: every place is decided, a frame where one was, and each of three reasons is given exactly where it holds; the last two
-- only at the run's end. A last byte alone is no pair
pub record LastRight (c : ℕ) : Type 0 where
  pub decides : (v : List ℕ) → judged_last c v ≡ Undecided → ⊥
  pub frame : (v : List ℕ) (n : ℕ) → judged c v ≡ Frame n → judged_last c v ≡ Frame n
  pub stands : (v : List ℕ) (n : ℕ) → judged_last c v ≡ Frame n → judged c v ≡ Frame n
  pub no_pair : (v : List ℕ) → sync_at v 0 ≡ false → judged_last c v ≡ NoFrame NoSync
  pub pair : (v : List ℕ) → judged_last c v ≡ NoFrame NoSync → sync_at v 0 ≡ false
  pub lone : (v : List ℕ) → length v ≡ 1 → judged_last c v ≡ NoFrame NoSync
  pub few_left : (v : List ℕ) → HasFew v → judged_last c v ≡ NoFrame FewLeft
  pub few : (v : List ℕ) → judged_last c v ≡ NoFrame FewLeft → HasFew v
  pub past_end : (v : List ℕ) → PassesEnd c v → judged_last c v ≡ NoFrame PastEnd
  pub past : (v : List ℕ) → judged_last c v ≡ NoFrame PastEnd → PassesEnd c v
  pub fed_not_few : (v : List ℕ) → judged c v ≡ NoFrame FewLeft → ⊥
  pub fed_not_past : (v : List ℕ) → judged c v ≡ NoFrame PastEnd → ⊥

-- the run w read from the place p on
abbrev pub read_at : ℕ → List ℕ → ℕ → Reading
read_at c w p = read_run c p (drop p w)

-- F11, by places of the whole run
pub record ReadByTheRule (c : ℕ) : Type 0 where
  pub end : (w : List ℕ) → read_at c w (length w) ≡ nothing_read
  pub block : (w : List ℕ) (p : ℕ) → p < length w → frame_at c w p ≡ true
      → read_at c w p ≡ block_then (block_at p (length_at w p) (drop p w)) (read_at c w (p + length_at w p))
  pub skip : (w : List ℕ) (p : ℕ) → p < length w → frame_at c w p ≡ false → read_at c w p ≡ skip_then p (read_at c w (p + 1))

-- C14, of More: all it may take is taken, and the held bytes are none or begin with an undecided place (F15)
abbrev pub MoreDecidesAll : ℕ → Type 0
MoreDecidesAll c =
    (held piece : List ℕ) (room : ℕ) → (feed_lit c held piece room).standing ≡ None
    → ((feed_lit c held piece room).taken ≡ min room (length piece)) × (judged c (feed_lit c held piece room).held ≡ Undecided)

-- C14, of a block: a frame of n bytes stands at the front of what is held, all bytes behind the skipped ones are held, and no
-- fewer bytes of the piece give a block
pub record BlockDecidesNoMore (c : ℕ) : Type 0 where
  pub stands : (held piece : List ℕ) (room n : ℕ) → (feed_lit c held piece room).standing ≡ Some n → judged c (feed_lit c held piece room).held ≡ Frame n
  pub held : (held piece : List ℕ) (room : ℕ)
      → (feed_lit c held piece room).held ≡ drop (length (feed_lit c held piece room).passed) (held ++ take (feed_lit c held piece room).taken piece)
  pub least : (held piece : List ℕ) (room t : ℕ) → t < (feed_lit c held piece room).taken → (feed_lit c held (take t piece) room).standing ≡ None
