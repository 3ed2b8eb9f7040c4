-- A text that is left as the words, or the lines, that are left.
-- Source: this simulator's.
use Rattle.std.specs.Prelude.{ℕ, ◌==◌, List, [], Option, None, Some}
use Rattle.std.specs.Borrow.{Bor}
use Rattle.std.specs.List.{slice_split}
use Rattle.ffm_model.specs.TraceText.{Word}

-- the parts of a text between separators
abbrev pub parts : ℕ → List ℕ → List Word
parts separator text = slice_split (λ b. b == separator) text

abbrev pub parts_left : ℕ → Option (Bor (List ℕ)) → List Word
parts_left separator None = []
parts_left separator (Some text) = parts separator text.now

abbrev pub words_of : Option (Bor (List ℕ)) → List Word
words_of rest = parts_left 32 rest

-- a value, and the words that are left
abbrev pub seen : {A : Type 0} → A × Option (Bor (List ℕ)) → A × List Word
seen p = (p.0, words_of p.1)

-- a word, and the words that are left
abbrev pub seen_word : Bor (List ℕ) × Option (Bor (List ℕ)) → Word × List Word
seen_word p = (p.0.now, words_of p.1)
