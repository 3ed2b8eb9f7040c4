-- The first labels of the lines of a script, in an ordered map by their names.
-- Source: this simulator's script language.
use Rattle.std.specs.Prelude.{ℕ, ◌≡◌, nat_lt, Bool, false, List, Option, is_some, take}
use Rattle.std.specs.BTreeMap as tree
use Rattle.std.specs.BTreeMap.{BTreeMap}
use Rattle.std.specs.Borrow.{Bor}
use Rattle.std.specs.Cmp.Lexicographic.{slice_cmp}
use Rattle.std.specs.Option.{option_map, option_map_or}
use Rattle.std.specs.Ordering.{nat_cmp}
use Rattle.script_asm.specs.declared.labels.FirstLabel.{FirstLabel}
use Rattle.script_asm.specs.Lines.{Line, place_of}
use Rattle.script_asm.specs.Words.{Word}

-- what the map has for a name
abbrev pub label_in : BTreeMap (Bor Word) FirstLabel → Word → Option FirstLabel
label_in labels name = tree.get_by (λ k. slice_cmp nat_cmp name k.now) labels

-- there is such a label, in a line before line i
abbrev pub is_before : ℕ → Option FirstLabel → Bool
is_before i label = option_map_or (λ l. nat_lt l.line i) label false

-- the map has where each label of these lines leads
abbrev pub HasPlaces : BTreeMap (Bor Word) FirstLabel → List Line → Type 0
HasPlaces labels lines = (name : Word) → option_map (λ l. l.place) (label_in labels name) ≡ place_of name lines

-- the map has the line of the first label of each name
abbrev pub HasLines : BTreeMap (Bor Word) FirstLabel → List Line → Type 0
HasLines labels lines = (name : Word) (i : ℕ) → is_before i (label_in labels name) ≡ is_some (place_of name (take i lines))
