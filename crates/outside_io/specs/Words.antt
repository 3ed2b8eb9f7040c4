-- The words that a program was given, and what it takes of them.
-- Source: this project's rule for the command line.
use Rattle.std.specs.Prelude.{◌≡◌, ◌⊎◌, ℕ, ◌<◌, List, [], length, take, All, IsUtf8, IsSomeAnd, Option, None, Some, Result, Ok, Err}
use Rattle.std.specs.declared.env.FillError.{FillError}
use Rattle.std.specs.declared.env.FillError.TheVariants.{NotPresent, TooLong}

-- the word stands at the start of the room; or there is none, or it is longer than the room
abbrev pub FillsWord : Option (List ℕ) → Result ℕ FillError → List ℕ → Type 0
FillsWord word (Ok count) room = word ≡ Some (take count room)
FillsWord word (Err NotPresent) room = word ≡ None
FillsWord word (Err TooLong) room = IsSomeAnd word (λ bytes. length room < length bytes)

-- all words as they are, or none where one of them isn't UTF-8
abbrev pub AreGiven : List (List ℕ) → List (List ℕ) → Type 0
AreGiven words given = (given ≡ words) ⊎ ((All IsUtf8 words → ⊥) × (given ≡ []))
