-- A sink that takes every piece: the bytes that it keeps, its room, and what it tells.
-- Source: this project's rule for a sink in memory.
use Rattle.std.specs.Prelude.{ℕ, List, [], Option, None, Some, if◌then◌else◌}
use Rattle.outside_io.specs.Sink.{SinkSeen}
use Rattle.outside_io.specs.declared.steady_sink.SteadySink.{SteadySink}

-- the bytes that it keeps
abbrev pub kept_by : SteadySink → List ℕ
kept_by sink = sink.bytes.items

-- how many bytes it keeps at most
abbrev pub room_of : SteadySink → ℕ
room_of sink = sink.room

-- the bytes taken so far, as long as all of them fit in the room
abbrev pub told_by : SteadySink → Option (List ℕ)
told_by sink = if sink.is_over then None else Some (kept_by sink)

-- nothing waits in it, and it never fails
abbrev pub seen_of : SteadySink → SinkSeen
seen_of sink = record { handed = told_by sink; waiting = []; faults = 0 }
