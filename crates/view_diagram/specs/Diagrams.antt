-- What a diagram of a part of a trace shows, perhaps of some of its actors alone.
-- Source: this simulator's.
use Rattle.std.specs.Prelude.{ℕ, ◌≡◌, ◌==◌, ◌&&◌, ◌||◌, Bool, true, List, filter, Option, None, Some}
use Rattle.std.specs.List.{list_any, range_with_len}
use Rattle.std.specs.Option.{option_map}
use Rattle.ffm_model.specs.Actors.{actor_count}
use Rattle.ffm_model.specs.declared.system.System.{System}
use Rattle.ffm_model.specs.declared.machine.Entry.{Entry}
use Rattle.ffm_model.specs.declared.machine.Verdict.{Verdict}
use Rattle.ffm_model.specs.Memory.{ByteMap}
use Rattle.ffm_model.specs.Verdicts.{judged}
use Rattle.machine_check.specs.Answers.{judgement}
use Rattle.view_diagram.specs.declared.formats.SequenceDiagram.{SequenceDiagram}
use Rattle.view_diagram.specs.declared.formats.Format.{Format}
use Rattle.view_diagram.specs.declared.formats.Format.TheVariants as format
use Rattle.view_diagram.specs.declared.gathering.Part.{Part}
use Rattle.view_diagram.specs.declared.gathering.PlacedArrow.{PlacedArrow}
use Rattle.view_diagram.specs.Ends.{EndsIn, end_text, mermaid_tail, page_tail}
use Rattle.view_diagram.specs.Gathering.{arrows_in}

-- ---- the actors

abbrev pub is_among : List ℕ → ℕ → Bool
is_among actors a = list_any (λ x. x == a) actors

-- the actor is one of those that were chosen; where none were, each is
abbrev pub is_chosen : Option (List ℕ) → ℕ → Bool
is_chosen None a = true
is_chosen (Some actors) a = is_among actors a

-- both ends of an arrow were chosen; those of a mark are the same
abbrev pub is_between : Option (List ℕ) → PlacedArrow → Bool
is_between chosen x = is_chosen chosen x.arrow.from.0 && is_chosen chosen x.arrow.to.0

abbrev pub arrows_between : Option (List ℕ) → List PlacedArrow → List PlacedArrow
arrows_between chosen xs = filter (is_between chosen) xs

abbrev pub is_end : ℕ → PlacedArrow → Bool
is_end a x = x.arrow.from.0 == a || x.arrow.to.0 == a

-- the actor has a lane: it was chosen, or where none were an arrow comes from it or goes to it
abbrev pub has_lane : Option (List ℕ) → List PlacedArrow → ℕ → Bool
has_lane None xs a = list_any (is_end a) xs
has_lane (Some actors) xs a = is_among actors a

-- the lanes, in the order of the actors
abbrev pub lanes_of : System → Option (List ℕ) → List PlacedArrow → List ℕ
lanes_of s chosen xs = filter (has_lane chosen xs) (range_with_len 0 (actor_count s))

-- ---- the diagram

-- exactly the arrows of the legal entries in the part between the actors that were chosen, and the judgement of the whole trace
pub record IsDiagram (s : System) (m : ByteMap) (limit : ℕ) (es : List Entry) (v : Verdict) (part : Part) (chosen : Option (List ℕ)) (format : Format) (d : SequenceDiagram) : Type 0 where
  pub part_is : d.part ≡ part
  pub chosen_is : option_map (λ actors. actors.items) d.chosen ≡ chosen
  pub format_is : d.format ≡ format
  pub arrows : d.arrows ≡ arrows_between chosen (arrows_in s m limit part es)
  pub judged_as : judgement d.judged ≡ judged s m limit es v

abbrev pub tail_of : Format → List ℕ
tail_of format.Mermaid = mermaid_tail
tail_of format.Html = page_tail

-- the text of a diagram of a trace with this verdict and so many entries ends with how the trace ended,
-- the place at which it is illegal, or how far the part goes
abbrev pub IsDiagramText : SequenceDiagram → Verdict → ℕ → List ℕ → Type 0
IsDiagramText d verdict count text = EndsIn (end_text verdict count d.judged d.part) (tail_of d.format) text
