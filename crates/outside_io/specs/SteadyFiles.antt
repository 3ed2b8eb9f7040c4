-- Files in memory, none of whose reads fails: what each name reads as, and the names that were read.
-- Source: this project's rule for files in memory.
use Rattle.std.specs.Prelude.{ℕ, List, [], None, Some}
use Rattle.std.specs.Option.{unwrap_or}
use Rattle.outside_io.specs.MemoryFiles.{held_by, reads_of as reads_in}
use Rattle.outside_io.specs.Files.{FilesSeen}
use Rattle.outside_io.specs.declared.steady_files.SteadyFiles.{SteadyFiles}

-- what the name is held to have, and no byte where it isn't held
abbrev pub content_of : SteadyFiles → List ℕ → List ℕ
content_of files name = unwrap_or (held_by files.files name) []

-- the names that were read, in order
abbrev pub reads_of : SteadyFiles → List (List ℕ)
reads_of files = reads_in files.files

-- it tells what each name holds, which names were read, and that no read failed
abbrev pub seen_of : SteadyFiles → FilesSeen
seen_of files = record {
  held = Some (λ name. Some (content_of files name));
  reads = Some (reads_of files);
  faults = 0;
  last_failed = Some None;
}
