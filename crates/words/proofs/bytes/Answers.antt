-- `words::bytes` meets its contract: each return is one law of `bytes_in`.
-- Assumes nothing.
use Rattle.std.proofs.Common.{◌≡◌, ◌<◌, sym, ◌∙◌, length, get_or, arith, rules}
use Rattle.words.proofs.Reading.{bytes_none, bytes_dash, bytes_hex}
use Rattle.words.proofs.bytes.Goals as goal
use Rattle.words.proofs.bytes.Goals.{in_default-via-then-word-lt2+in_default-1, in_default-via-else-word-lt2}

pub returns-in-empty-clause-given_after : goal.returns-in-empty-clause-given_after
returns-in-empty-clause-given_after c = sym (bytes_none c.args.word.now (omega arith))

pub returns-in-45-clause-given_after : goal.returns-in-45-clause-given_after
returns-in-45-clause-given_after c = sym (bytes_dash c.args.word.now (omega arith) (omega arith))

pub returns-in_default-clause-given_after : goal.returns-in_default-clause-given_after
returns-in_default-clause-given_after c =
    let w = c.args.word.now in
    let l : 0 < length w = search rules in
    let n : length w ≡ 1 → get_or w 0 0 ≡ 45 → ⊥ = elim c.in_default.branch [ in_default-via-then-word-lt2+in_default-1 w ↦ λ h e. search rules | in_default-via-else-word-lt2 w ↦ λ h e. search rules ] in
    c.hex_pairs.ensures.given_after ∙ sym (bytes_hex w l n)
