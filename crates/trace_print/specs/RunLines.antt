-- How many bytes a line of a run has.
-- Source: this simulator's trace format, under this profile's limits: numbers of 32 bits, at most 32 partitions, and handles of messages below 0x40000000.
use Rattle.std.specs.Prelude.{◌≤◌, ℕ, List, length}
use Rattle.std.specs.List.{AllByRecursion}
use Rattle.ffm_model.specs.declared.system.System.{System}
use Rattle.ffm_model.specs.declared.machine.Entry.{Entry}
use Rattle.ffm_model.specs.Actors.{counts_of}
use Rattle.ffm_model.specs.Memory.{ByteMap}
use Rattle.ffm_model.specs.Step.{Run}
use Rattle.ffm_model.specs.TraceText.{entry_text, line, EntryFits}

-- a psa_get that gives a message: an actor of 3 bytes, a call of 26, ` ->`, an outcome of 142 and a line feed
abbrev pub most_bytes_in_runs : ℕ
most_bytes_in_runs = 175

-- no line of the entries is longer
abbrev pub AreShortLines : System → List Entry → Type 0
AreShortLines s es = AllByRecursion (λ e. length (line (entry_text (counts_of s) e)) ≤ most_bytes_in_runs) es

-- entries that are a run and whose numbers are values of their types have no longer line
abbrev pub RunsHaveShortLines : System → ByteMap → List Entry → Type 0
RunsHaveShortLines s m es = Run s m es → AllByRecursion (EntryFits (counts_of s)) es → AreShortLines s es
