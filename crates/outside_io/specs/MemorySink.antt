-- A sink in memory: the bytes taken, the calls made, how much a call takes, and which calls fail.
-- Source: this project's rule for a sink in memory.
use Rattle.std.specs.Prelude.{◌≡◌, ◌⊎◌, ℕ, ◌-◌, List, [], Some, Contains, length, min}
use Rattle.outside_io.specs.Count.{one_more}
use Rattle.outside_io.specs.Sink.{SinkSeen}
use Rattle.outside_io.specs.declared.memory_sink.MemorySink.{MemorySink}

-- the bytes taken so far
abbrev pub taken_by : MemorySink → List ℕ
taken_by sink = sink.bytes.items

-- the most bytes that it ever takes
abbrev pub room_of : MemorySink → ℕ
room_of sink = sink.room

-- the most bytes that one call takes
abbrev pub piece_of : MemorySink → ℕ
piece_of sink = sink.piece

-- how many puts were called, whatever they answered
abbrev pub calls_of : MemorySink → ℕ
calls_of sink = sink.calls

-- the numbers, from 1, of the calls that are to fail
abbrev pub failing_of : MemorySink → List ℕ
failing_of sink = sink.failing

-- how many puts failed
abbrev pub faults_of : MemorySink → ℕ
faults_of sink = sink.faults

-- nothing waits in it
abbrev pub seen_of : MemorySink → SinkSeen
seen_of sink = record { handed = Some (taken_by sink); waiting = []; faults = faults_of sink }

abbrev pub room_left : MemorySink → ℕ
room_left sink = room_of sink - length (taken_by sink)

-- how many bytes of a piece of this length the next put takes, if it doesn't fail
abbrev pub takes_of : MemorySink → ℕ → ℕ
takes_of sink len = min (min len (piece_of sink)) (room_left sink)

-- the next put is a listed call, or no room is left
abbrev pub Fails : MemorySink → Type 0
Fails sink = Contains (failing_of sink) (one_more (calls_of sink)) ⊎ (room_left sink ≡ 0)

-- no put was made yet
pub record IsNew (size most : ℕ) (listed : List ℕ) (sink : MemorySink) : Type 0 where
  pub empty : taken_by sink ≡ []
  pub no_fault : faults_of sink ≡ 0
  pub no_call : calls_of sink ≡ 0
  pub room : room_of sink ≡ size
  pub piece : piece_of sink ≡ most
  pub failing : failing_of sink ≡ listed

-- what a sink was made with is as before
pub record SameBounds (before after : MemorySink) : Type 0 where
  pub room : room_of after ≡ room_of before
  pub piece : piece_of after ≡ piece_of before
  pub failing : failing_of after ≡ failing_of before
