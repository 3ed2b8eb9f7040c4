-- Columns and lists of words in a text.
-- Source: this simulator's.
use Rattle.std.specs.Prelude.{ℕ, ◌-◌, max, List, [], ◌∷◌, ◌++◌, length, replicate, fold, codes}
use Rattle.std.specs.List.{flat_map}
use Rattle.std.specs.Fmt.{decimal}
use Rattle.ffm_model.specs.TraceText.{Word}

-- so many spaces
abbrev pub spaces : ℕ → List ℕ
spaces count = replicate count 32

-- a word and spaces, together at least so many bytes
unfoldable pub left : ℕ → Word → List ℕ
left width word = word ++ spaces (width - length word)

-- spaces and a number in decimal, together at least so many bytes
unfoldable pub right : ℕ → ℕ → List ℕ
right width n = spaces (width - length (decimal n)) ++ decimal n

-- words with nothing between them
abbrev pub joined : List Word → List ℕ
joined words = flat_map (λ word. word) words

-- a word after `, `
abbrev pub after_comma : Word → List ℕ
after_comma word = codes ", " ++ word

-- words with `, ` between each two; where there is none, this
abbrev pub listed : List ℕ → List Word → List ℕ
listed none [] = none
listed none (w ∷ ws) = w ++ flat_map after_comma ws

-- the bytes of the longest of these words, or as many as this where all are shorter
abbrev pub widest : ℕ → List Word → ℕ
widest least words = fold (λ n word. max n (length word)) least words
