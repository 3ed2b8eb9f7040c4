-- Files in memory: what each name holds, the calls made, the names that were read, and which calls fail.
-- Source: this project's rule for files in memory.
use Rattle.std.specs.Prelude.{◌≡◌, ◌⊎◌, ℕ, List, Option, None, Some, Contains, map, string_bytes}
use Rattle.std.specs.Option.{option_map}
use Rattle.std.specs.BTreeMap.{get_by_text}
use Rattle.outside_io.specs.Count.{one_more}
use Rattle.outside_io.specs.Files.{FilesSeen}
use Rattle.outside_io.specs.declared.memory_files.MemoryFiles.{MemoryFiles}

-- what the name holds
abbrev pub held_by : MemoryFiles → List ℕ → Option (List ℕ)
held_by files name = option_map (λ bytes. bytes.items) (get_by_text files.files name)

-- how many reads were called, whatever they answered
abbrev pub calls_of : MemoryFiles → ℕ
calls_of files = files.calls

-- the names that were read, in order: those of the calls that found memory to keep the name
abbrev pub reads_of : MemoryFiles → List (List ℕ)
reads_of files = map string_bytes files.reads.items

-- the numbers, from 1, of the calls that are to fail
abbrev pub failing_of : MemoryFiles → List ℕ
failing_of files = files.failing

-- how many reads failed
abbrev pub faults_of : MemoryFiles → ℕ
faults_of files = files.faults

-- the name of the last failed read
abbrev pub last_failed_of : MemoryFiles → Option (List ℕ)
last_failed_of files = option_map (λ name. string_bytes name) files.last_failed

-- the next read of this name is a listed call, or the name isn't held
abbrev pub Fails : MemoryFiles → List ℕ → Type 0
Fails files name = Contains (failing_of files) (one_more (calls_of files)) ⊎ (held_by files name ≡ None)

-- no read was called between the two, and the same calls are to fail
pub record SameCalls (before after : MemoryFiles) : Type 0 where
  pub calls : calls_of after ≡ calls_of before
  pub reads : reads_of after ≡ reads_of before
  pub failing : failing_of after ≡ failing_of before
  pub faults : faults_of after ≡ faults_of before
  pub last_failed : last_failed_of after ≡ last_failed_of before

-- it tells all that files may tell
abbrev pub seen_of : MemoryFiles → FilesSeen
seen_of files = record { held = Some (held_by files); reads = Some (reads_of files); faults = faults_of files; last_failed = Some (last_failed_of files) }
