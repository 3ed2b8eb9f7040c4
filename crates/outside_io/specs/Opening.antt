-- Files that are opened by their names: what opens them, how often that or a read failed, and what they tell.
-- Source: this project's rule for its trusted edge.
use Rattle.std.specs.Prelude.{ℕ, List, Option, None, Some, string_bytes}
use Rattle.std.specs.Option.{option_map}
use Rattle.ffm_model.specs.Reading.{Contents}
use Rattle.outside_io.specs.Counted.{count_of, value_of}
use Rattle.outside_io.specs.Files.{FilesSeen}
use Rattle.outside_io.specs.declared.opening.OpenedFiles.{OpenedFiles}

abbrev pub opening_of : {O : Type 0} → OpenedFiles O → O
opening_of files = value_of files.opening

abbrev pub faults_of : {O : Type 0} → OpenedFiles O → ℕ
faults_of files = count_of files.opening

-- the name of the last failed read
abbrev pub last_failed_of : {O : Type 0} → OpenedFiles O → Option (List ℕ)
last_failed_of files = option_map (λ name. string_bytes name) files.last_failed

-- what the opening tells, and not which read failed last
abbrev pub seen_but_failed : {O : Type 0} → (O → Option Contents) → (O → Option (List (List ℕ))) → OpenedFiles O → FilesSeen
seen_but_failed holds opened files = record { held = holds (opening_of files); reads = opened (opening_of files); faults = faults_of files; last_failed = None }

-- what the opening tells, and which read failed last
abbrev pub seen_through : {O : Type 0} → (O → Option Contents) → (O → Option (List (List ℕ))) → OpenedFiles O → FilesSeen
seen_through holds opened files = record { held = holds (opening_of files); reads = opened (opening_of files); faults = faults_of files; last_failed = Some (last_failed_of files) }
