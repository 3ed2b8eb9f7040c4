-- A scenario's file with an order of turns as its schedule, put before the bracket that ends it. Where a file names an attribute twice the last value counts.
-- Source: this simulator's.
use Rattle.std.specs.Prelude.{ℕ, ◌-◌, ◌==◌, ◌++◌, ◌∷◌, [], Bool, List, Option, codes, find, if◌then◌else◌, length, option_map, slice_index, string_bytes, take}
use Rattle.std.specs.Char.{is_ascii_whitespace}
use Rattle.std.specs.List.{flat_map, suffix_len}
use Rattle.std.specs.Str.{bytes_eq}
use Rattle.ffm_model.specs.declared.machine.ActorId.{ActorId}
use Rattle.ffm_model.specs.declared.system.System.{System}
use Rattle.file_places.specs.declared.kept.KeptFile.{KeptFile}
use Rattle.view_texts.specs.Names.{actor_name}

-- what was read of the file of this name
abbrev pub bytes_kept : List KeptFile → List ℕ → Option (List ℕ)
bytes_kept kept name = option_map (λ file. file.bytes.items) (find (λ file. bytes_eq (string_bytes file.name) name) kept)

-- a text up to the blanks at its end
abbrev pub trimmed : List ℕ → List ℕ
trimmed text = take (length text - suffix_len is_ascii_whitespace text) text

-- a text without its last byte
abbrev pub without_last : List ℕ → List ℕ
without_last text = take (length text - 1) text

-- a file up to the last thing before the bracket that ends it
unfoldable pub front_of : List ℕ → List ℕ
front_of bytes = trimmed (without_last (trimmed bytes))

-- no attribute stands behind the bracket that begins it
abbrev pub is_opened : List ℕ → Bool
is_opened front = slice_index front (length front - 1) == 123

-- behind an attribute a comma stands before the next one
unfoldable pub before_schedule : List ℕ → List ℕ
before_schedule front = if is_opened front then codes "\n  \"schedule\": [" else codes ",\n  \"schedule\": ["

-- an actor's name in quotation marks, after a text
abbrev pub named : System → List ℕ → ActorId → List ℕ
named s before a = before ++ 34 ∷ (actor_name s a.0 ++ 34 ∷ [])

unfoldable pub names_text : System → List ActorId → List ℕ
names_text s [] = []
names_text s (a ∷ turns) = named s [] a ++ flat_map (named s (codes ", ")) turns

unfoldable pub rescheduled : System → List ℕ → List ActorId → List ℕ
rescheduled s bytes turns = front_of bytes ++ (before_schedule (front_of bytes) ++ (names_text s turns ++ codes "]\n}\n"))
