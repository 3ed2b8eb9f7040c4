-- Which lines of an SFN partition's script stand before the first function, and which belong to each function.
-- Source: FF-M 1.1, the SFN model: each RoT Service is a function. The head lines are this simulator's script language.
use Rattle.std.specs.Prelude.{ℕ, ◌+◌, List, [], ◌∷◌, ◌++◌, Bool, true, false, Option, Some, None, option_and_then, codes, if◌then◌else◌}
use Rattle.std.specs.Option.{option_map, option_map_or, option_to_list}
use Rattle.std.specs.Str.{bytes_eq}
use Rattle.script_asm.specs.Lines.{Line, passed, label, order, two_words}
use Rattle.script_asm.specs.Words.{Word}

-- `sfn NAME`, and nothing else
abbrev pub named_by : Word × Word → Option Word
named_by ws = if bytes_eq ws.0 (codes "sfn") then Some ws.1 else None

-- the service that a head line names; nothing where a line is no head
unfoldable pub head_name : Line → Option Word
head_name passed = None
head_name (label n) = None
head_name (order ws) = option_and_then named_by (two_words ws)

-- the lines before the first head
unfoldable pub before : List Line → List Line
before [] = []
before (l ∷ ls) = option_map_or (λ name. []) (head_name l) (l ∷ before ls)

-- a head: its line, the name there, and the lines below it, which are those of its function
pub record Section : Type 0 where
  pub line : ℕ
  pub name : Word
  pub lines : List Line

-- the section that begins at a line with this place, above these lines; nothing where it is no head
abbrev pub section_at : ℕ → Line → List Line → Option Section
section_at i l ls = option_map (λ name. record { line = i; name = name; lines = before ls }) (head_name l)

-- the sections of lines, the first of which has this place
unfoldable pub sections : ℕ → List Line → List Section
sections i [] = []
sections i (l ∷ ls) = option_to_list (section_at i l ls) ++ sections (i + 1) ls

-- it has words, or is a label
abbrev pub is_used : Line → Bool
is_used passed = false
is_used (label n) = true
is_used (order ws) = true
