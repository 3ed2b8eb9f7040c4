-- What files tell that keep what is read of them.
-- Source: this simulator's.
use Rattle.std.specs.Prelude.{◌≡◌, ℕ, List, [], ◌∷◌, ◌++◌, Option, None, Some, if◌then◌else◌, string_bytes}
use Rattle.std.specs.List.{list_all}
use Rattle.ffm_model.specs.Reading.{Contents}
use Rattle.outside_io.specs.Files.{FilesSeen}
use Rattle.file_places.specs.Kept.{is_held}
use Rattle.file_places.specs.declared.kept.KeptFile.{KeptFile}
use Rattle.file_places.specs.declared.kept.KeptFiles.{KeptFiles}

abbrev pub kept_by : {F : Type 0} → KeptFiles F → List KeptFile
kept_by files = files.kept.items

-- what names hold, told as long as they hold all that was kept
abbrev pub held_beside : Option Contents → List KeptFile → Option Contents
held_beside None kept = None
held_beside (Some of) kept = if list_all (is_held of) kept then Some of else None

-- what files tell beside what was kept of them
abbrev pub told_beside : FilesSeen → List KeptFile → FilesSeen
told_beside told kept = record told { held = held_beside told.held kept }

-- what the files below tell
abbrev pub seen_through : {F : Type 0} → (F → FilesSeen) → KeptFiles F → FilesSeen
seen_through seen files = told_beside (seen files.files) (kept_by files)

-- one more file was kept, with this name and these bytes
pub record KeepsOne (before after : List KeptFile) (name bytes : List ℕ) : Type 0 where
  pub file : KeptFile
  pub name_is : string_bytes file.name ≡ name
  pub bytes_are : file.bytes.items ≡ bytes
  pub last : after ≡ before ++ file ∷ []
