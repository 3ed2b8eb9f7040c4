-- Which part of a trace and which actors a diagram is asked for, and how it is written.
-- Source: this simulator's.
use Rattle.std.specs.Prelude.{◌≡◌, ℕ, ◌==◌, nat_lt, Bool, false, if◌then◌else◌, List, find, string_bytes, is_none, Option, None, Some}
use Rattle.std.specs.Borrow.{Bor}
use Rattle.std.specs.List.{filter_map, range_with_len, slice_split}
use Rattle.std.specs.Option.{option_map, option_map_or, unwrap_or}
use Rattle.std.specs.Str.{bytes_eq}
use Rattle.ffm_model.specs.declared.system.System.{System}
use Rattle.ffm_model.specs.Actors.{actor_count}
use Rattle.ffm_model.specs.TraceText.{Word}
use Rattle.view_texts.specs.Names.{actor_name}
use Rattle.view_diagram.specs.declared.formats.Format as drawn
use Rattle.view_diagram.specs.declared.formats.Format.TheVariants as drawn_as
use Rattle.view_diagram.specs.declared.gathering.Part.{Part}
use Rattle.view_aspects.specs.declared.choosing.Choice.{Choice}
use Rattle.view_aspects.specs.declared.choosing.Choice.TheVariants as choice
use Rattle.program_words.specs.declared.view.Format.{Format}
use Rattle.program_words.specs.declared.view.Format.TheVariants as format

-- a place is asked for, and a trace of so many entries doesn't have it
abbrev pub is_beyond : ℕ → Option ℕ → Bool
is_beyond total place = option_map_or (λ k. nat_lt total k) place false

-- the place that the trace doesn't have: the second, or else the first
abbrev pub place_beyond : ℕ → Option ℕ → Option ℕ → Option ℕ
place_beyond total from to = if is_beyond total to then to else (if is_beyond total from then from else None)

-- from the first entry, and to the last, where no place is asked for
abbrev pub part_asked : ℕ → Option ℕ → Option ℕ → Part
part_asked total from to = record { from = unwrap_or from 1; to = unwrap_or to total }

-- the actor of a name: the first, where several have it
abbrev pub actor_named : System → Word → Option ℕ
actor_named s name = find (λ a. bytes_eq (actor_name s a) name) (range_with_len 0 (actor_count s))

-- names that are separated by commas
abbrev pub names_in : List ℕ → List Word
names_in text = slice_split (λ b. b == 44) text

-- no actor has the name
abbrev pub is_unknown : System → Word → Bool
is_unknown s name = is_none (actor_named s name)

-- each of these names is an actor's, and these are the actors
abbrev pub AreNamed : System → List Word → List ℕ → Type 0
AreNamed s names actors = (find (is_unknown s) names ≡ None) × (actors ≡ filter_map (actor_named s) names)

-- all actors, where none are named
abbrev pub AreChosen : System → Option (Bor (List ℕ)) → Option (List ℕ) → Type 0
AreChosen s None None = Unit {0}
AreChosen s (Some text) (Some actors) = AreNamed s (names_in text.now) actors
AreChosen s _ _ = ⊥

-- the first of the names that no actor has
abbrev pub IsUnknown : System → Option (Bor (List ℕ)) → Word → Type 0
IsUnknown s None name = ⊥
IsUnknown s (Some text) name = find (is_unknown s) (names_in text.now) ≡ Some name

abbrev pub format_of : Format → drawn.Format
format_of format.Mermaid = drawn_as.Mermaid
format_of format.Html = drawn_as.Html

-- ---- what the code answers on the way

abbrev pub IsNamingOf : System → List Word → Choice → Type 0
IsNamingOf s names (choice.Actors (Some actors)) = AreNamed s names actors.items
IsNamingOf s names (choice.Actors None) = ⊥
IsNamingOf s names (choice.Unknown name) = find (is_unknown s) names ≡ Some (string_bytes name)

abbrev pub IsChoiceOf : System → Option (Bor (List ℕ)) → Choice → Type 0
IsChoiceOf s text (choice.Actors actors) = AreChosen s text (option_map (λ v. v.items) actors)
IsChoiceOf s text (choice.Unknown name) = IsUnknown s text (string_bytes name)
