-- Values of JSON, and the line that one is written as.
-- Source: RFC 8259, as `serde_json` defines values and their texts.
use Rattle.std.specs.Prelude.{◌≡◌, ℕ, ◌-◌, ◌==◌, if◌then◌else◌, List, [], ◌∷◌, ◌++◌, length, map, take, codes, Option, None, Some}
use Rattle.std.specs.Str.Lossy.{utf8_lossy}
use Rattle.json.specs.Lex.{tokens}
use Rattle.json.specs.Print.{print}
use Rattle.serde_json.specs.Data.{Data, Members, array, no_members, null, number, object, put, string, unsigned}
use Rattle.serde_json.specs.Find.{of_integer}
use Rattle.serde_json.specs.View.{items_of}
use Rattle.serde_json.specs.Written.{IsInOrder}
use Rattle.ffm_model.specs.declared.machine.Handle.{Handle}
use Rattle.ffm_model.specs.declared.system.System.{System}
use Rattle.ffm_model.specs.Actors.{counts_of}
use Rattle.ffm_model.specs.TraceText.{Word, actor_word, hexadecimal_word}
use Rattle.view_texts.specs.Names.{actor_name}

-- ---- values

abbrev pub with_members : Members → List (Word × Data) → Members
with_members ms [] = ms
with_members ms (m ∷ more) = with_members (put m.0 m.1 ms) more

-- an object with these members
abbrev pub object_of : List (Word × Data) → Data
object_of ms = object (with_members no_members ms)

abbrev pub array_of : List Data → Data
array_of ds = array (items_of ds)

-- bytes as a text: those that aren't UTF-8 are replaced
abbrev pub text_of : List ℕ → Data
text_of bytes = string (utf8_lossy bytes)

-- ---- what is told alike everywhere

-- the place of an entry; none is 0
abbrev pub place_json : ℕ → Data
place_json place = if place == 0 then null else number (unsigned place)

abbrev pub handle_json : Option Handle → Data
handle_json (Some h) = number (of_integer h.0)
handle_json None = null

-- a word of signals, as in a trace
abbrev pub signals_text : ℕ → Data
signals_text signals = text_of (hexadecimal_word signals)

-- an actor's word in a trace
abbrev pub id_json : System → ℕ → Data
id_json s a = text_of (actor_word (counts_of s) a)

-- an actor by its name and its word in a trace
unfoldable pub actor_json : System → ℕ → Data
actor_json s a = object_of ((codes "name", string (actor_name s a)) ∷ (codes "id", id_json s a) ∷ [])

abbrev pub actors_json : System → List ℕ → Data
actors_json s actors = array_of (map (actor_json s) actors)

-- ---- lines

-- the text is that of the value, with each item and member once and in order, and nothing between them
pub record IsTextOf (d : Data) (text : List ℕ) : Type 0 where
  pub order : IsInOrder text d
  pub compact : text ≡ print (tokens text)

-- its text and a line feed
pub record IsLineOf (d : Data) (line : List ℕ) : Type 0 where
  pub text : List ℕ
  pub is : line ≡ text ++ codes "\n"
  pub is_text : IsTextOf d text

-- a line without its line feed
abbrev pub bare : List ℕ → List ℕ
bare line = take (length line - 1) line

-- a line that says why nothing is shown
abbrev pub error_json : List ℕ → Data
error_json line = object_of ((codes "error", text_of (bare line)) ∷ [])
