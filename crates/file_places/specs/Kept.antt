-- What was read of files, held against what their names hold.
-- Source: this simulator's.
use Rattle.std.specs.Prelude.{ℕ, List, Bool, false, Option, None, Some, string_bytes}
use Rattle.std.specs.Str.{bytes_eq}
use Rattle.ffm_model.specs.Reading.{Contents}
use Rattle.file_places.specs.declared.kept.KeptFile.{KeptFile}

-- these bytes are held
abbrev pub is_content : Option (List ℕ) → List ℕ → Bool
is_content None bytes = false
is_content (Some held) bytes = bytes_eq held bytes

-- a file's name holds what was read of it
abbrev pub is_held : Contents → KeptFile → Bool
is_held of file = is_content (of (string_bytes file.name)) file.bytes.items
