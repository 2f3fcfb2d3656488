-- A transcript: calls on a new reader, each with what it answers. It is true when the definitions answer the same.
-- Assumes nothing.
use Rattle.std.specs.Prelude.{ℕ, List, map, replicate, None, Some}
use Rattle.record.specs.Answer.{field_refused}
use Rattle.reader.specs.Said.{Report, refused, version, took, found, ended}
use Rattle.reader.specs.State.{new_state}
use Rattle.writer.specs.Write.{wrote, write_outcome, refuses_write}
use Rattle.demands.specs.World.{World, Reply, said, value, penned, Line, trace}

-- C2, C15: a new reader, lent the shortest buffers allowed, full of bytes 7
unfoldable pub new_world : World
new_world = record { state = new_state; hold = replicate 65536 7; force = replicate 8192 7; wait = replicate 8192 7 }

abbrev pub Transcript : Type 0
Transcript = List Line

-- the same calls on a new reader, each with what the definitions answer
unfoldable pub replayed : Transcript → Transcript
replayed t = trace (map (λ (x : Line). x.call) t) new_world

-- C5, C10: Open and Stage answer a version
abbrev pub version_is : ℕ → Reply
version_is v = said (version v)

-- R21: a call that goes on with the state is refused
abbrev pub refused_is : ℕ → Reply
refused_is n = said (refused n)

-- C7: Feed answers More
abbrev pub more_is : ℕ → Reply
more_is taken = said (took taken None)

-- C7: Feed answers Block
abbrev pub block_is : ℕ → Report → Reply
block_is taken b = said (took taken (Some b))

-- C8: Finish answers Block
abbrev pub found_is : Report → Reply
found_is b = said (found b)

-- C8: Finish answers End
abbrev pub end_is : ℕ → ℕ → ℕ → Reply
end_is bytes blocks skipped = said (ended (record { taken = bytes; blocks = blocks; skipped = skipped }))

-- V7: a record call is refused
abbrev pub refusal_is : ℕ → Reply
refusal_is n = value (field_refused n)

-- W1: Write answers a length, and leaves this buffer
abbrev pub wrote_is : ℕ → List ℕ → Reply
wrote_is n buffer = penned (write_outcome (wrote n) buffer)

-- R21: Write is refused, and leaves this buffer
abbrev pub unwritten_is : ℕ → List ℕ → Reply
unwritten_is n buffer = penned (refuses_write n buffer)

-- C7: what Block has
abbrev pub report : ℕ → ℕ → ℕ → ℕ → Report
report place number revision size = record { place = place; number = number; revision = revision; size = size }
