-- Where a value stands in the text of a file.
-- Source: this simulator's; which tree a text spells is `tree_of` of the files.
use Rattle.std.specs.Prelude.{◌≡◌, ℕ, List, [], ◌∷◌, ◌++◌, take, drop, Option, Some, codes, option_and_then, true}
use Rattle.serde_json.specs.Data.{Data, null, boolean}
use Rattle.serde_json.specs.Find.{at, get}
use Rattle.ffm_model.specs.Keys.{key_text}
use Rattle.ffm_model.specs.Trees.{tree_of}
use Rattle.ffm_model.specs.declared.place.PathStep.{PathStep}
use Rattle.ffm_model.specs.declared.place.PathStep.TheVariants as step

-- the value that a step leads to
abbrev pub part_at : PathStep → Data → Option Data
part_at (step.Key key) tree = get (key_text key) tree
part_at (step.Index i) tree = at i tree

-- the value at a place
abbrev pub value_at : List PathStep → Data → Option Data
value_at [] tree = Some tree
value_at (s ∷ steps) tree = option_and_then (value_at steps) (part_at s tree)

-- a text spells a tree with this value at a place
abbrev pub IsAt : List ℕ → List PathStep → Data → Type 0
IsAt text steps value = option_and_then (value_at steps) (tree_of text) ≡ Some value

-- a text with these bytes in place of those from one place up to another
abbrev pub replaced : List ℕ → ℕ → ℕ → List ℕ → List ℕ
replaced text from to by = take from text ++ (by ++ drop to text)

-- the bytes from one place up to another are the value at a place: what is written in place of them is there
pub record Stands (text : List ℕ) (steps : List PathStep) (from to : ℕ) : Type 0 where
  pub with_null : IsAt (replaced text from to (codes "null")) steps null
  pub with_true : IsAt (replaced text from to (codes "true")) steps (boolean true)
