-- What is shown of a trace: the record that a text is written of.
-- Source: this simulator's.
use Rattle.std.specs.Prelude.{◌≡◌, ◌<◌, ◌≤◌, ◌-◌, ◌⊎◌, ◌++◌, ℕ, List, codes, length, slice_get, take, Option, None, Some, IsSome, string_bytes}
use Rattle.std.specs.Option.{option_map}
use Rattle.ffm_model.specs.declared.machine.Entry.{Entry}
use Rattle.ffm_model.specs.Actors.{counts_of}
use Rattle.ffm_model.specs.Counts.{ActorCounts}
use Rattle.ffm_model.specs.Step.{after}
use Rattle.ffm_model.specs.TraceText.{EntryFits, entry_text}
use Rattle.view_texts.specs.Counted.{IsCounted}
use Rattle.view_diagram.specs.Diagrams.{IsDiagram}
use Rattle.view_diagram.specs.declared.formats.Format.{Format}
use Rattle.view_diagram.specs.declared.formats.SequenceDiagram.{SequenceDiagram}
use Rattle.view_diagram.specs.declared.gathering.Part.{Part}
use Rattle.view_places.specs.Asking.{IsCallAfter}
use Rattle.view_places.specs.Showing.{IsIllegalAt, IsLastLegal, IsPlace}
use Rattle.view_places.specs.Why.{IsFinding}
use Rattle.view_places.specs.declared.asking.CallAfter.{CallAfter}
use Rattle.view_scripts.specs.Rows.{AreRows}
use Rattle.view_scripts.specs.declared.rows.ScriptRow.{ScriptRow}
use Rattle.view_places.specs.declared.behind.Place.{Place}
use Rattle.view_places.specs.declared.behind.Place.TheVariants as behind
use Rattle.view_places.specs.declared.reasons.Finding.{Finding}
use Rattle.view_aspects.specs.Traces.{memory_of}
use Rattle.view_aspects.specs.declared.traces.TraceFiles.{TraceFiles}
use Rattle.view_aspects.specs.declared.view.View.{View}
use Rattle.view_aspects.specs.declared.view.View.TheVariants as view
use Rattle.program_words.specs.declared.view.Aspect.{Aspect}
use Rattle.program_words.specs.declared.view.Aspect.TheVariants as aspect
use Rattle.view_aspects.specs.Diagrams.{AreChosen, IsUnknown, format_of, part_asked, place_beyond}

-- the state after a place of the files' trace, or why there is none
abbrev pub IsPlaceOf : TraceFiles → ℕ → Place → Type 0
IsPlaceOf f k p = IsPlace f.work.system (memory_of f) f.work.scenario.limit f.trace.entries k p

-- the diagram of a part of the files' trace, of some actors or of all
abbrev pub IsDiagramOf : TraceFiles → Part → Option (List ℕ) → Format → SequenceDiagram → Type 0
IsDiagramOf f part chosen format drawn = IsDiagram f.work.system (memory_of f) f.work.scenario.limit f.trace.entries f.trace.verdict part chosen format drawn

-- the actors that a diagram shows, where not all
abbrev pub chosen_in : SequenceDiagram → Option (List ℕ)
chosen_in drawn = option_map (λ actors. actors.items) drawn.chosen

-- the text of an entry's actor and call: the entry's line up to its outcome, which is `done`
abbrev pub IsCallText : ActorCounts → List ℕ → Entry → Type 0
IsCallText counts text e = EntryFits counts e × (text ++ codes " -> done" ≡ entry_text counts e)

-- what is told of an entry's call after a place of the files' trace
abbrev pub IsCallOf : TraceFiles → ℕ → Entry → CallAfter → Type 0
IsCallOf f k e t = IsCallAfter f.work.system (memory_of f) f.work.scenario.limit f.trace.entries k e t

-- how the files' trace is judged, and why
abbrev pub IsFindingOf : TraceFiles → Finding → Type 0
IsFindingOf f found = IsFinding f.work.system (memory_of f) f.work.scenario.limit f.trace.entries f.trace.verdict found

-- the entries up to place k are legal
abbrev pub IsLegalTo : TraceFiles → ℕ → Type 0
IsLegalTo f k = (k ≤ f.work.scenario.limit) × IsSome (after f.work.system (memory_of f) (take k f.trace.entries))

-- one of the entries up to place k is illegal
abbrev pub IsIllegalTo : TraceFiles → ℕ → Type 0
IsIllegalTo f k = (n : ℕ) × (n ≤ k) × IsIllegalAt f.work.system (memory_of f) f.work.scenario.limit f.trace.entries n

-- where the scripts stand after the first k entries
abbrev pub AreScriptsAfter : TraceFiles → ℕ → Option (List ScriptRow) → Type 0
AreScriptsAfter f k rows = AreRows f.work.system f.work.scenario (take k f.trace.entries) rows

-- the files' trace has an entry at place k, counted from 1
abbrev pub HasEntryAt : TraceFiles → ℕ → Type 0
HasEntryAt f k = (0 < k) × (k ≤ length f.trace.entries)

-- what an aspect shows of the files of a trace
abbrev pub IsView : TraceFiles → Aspect → View → Type 0
IsView f (aspect.State None) (view.State b scripts) = IsLastLegal f.work.system (memory_of f) f.work.scenario.limit f.trace.entries b × AreScriptsAfter f b.checker.count (option_map (λ rows. rows.items) scripts)
IsView f (aspect.State (Some k)) (view.State b scripts) = IsPlaceOf f k (behind.State b) × AreScriptsAfter f b.checker.count (option_map (λ rows. rows.items) scripts)
IsView f (aspect.State (Some k)) (view.NoPlace place total) = (place ≡ k) × ((total ≡ length f.trace.entries) × IsPlaceOf f k behind.Beyond)
IsView f (aspect.State (Some k)) (view.NoState illegal place) = (place ≡ k) × IsPlaceOf f k (behind.Illegal illegal)
IsView f (aspect.Why None) (view.Why found) = IsFindingOf f found
IsView f (aspect.Why (Some k)) (view.LegalEntry place t) = (place ≡ k) × (HasEntryAt f k × IsLegalTo f k × ((slice_get f.trace.entries (k - 1) ≡ Some t.entry) × IsCallOf f (k - 1) t.entry t))
IsView f (aspect.Why (Some k)) (view.Why found) = HasEntryAt f k × IsFindingOf f found × IsIllegalTo f k
IsView f (aspect.Why (Some k)) (view.NoPlace place total) = (place ≡ k) × ((total ≡ length f.trace.entries) × ((k ≡ 0) ⊎ (length f.trace.entries < k)))
IsView f (aspect.Ask k text) view.NoCall = (e : Entry) → IsCallText (counts_of f.work.system) text.now e → ⊥
IsView f (aspect.Ask k text) (view.Call t) = IsCallText (counts_of f.work.system) text.now t.entry × IsCallOf f k t.entry t
IsView f (aspect.Ask k text) (view.NoPlace place total) = (place ≡ k) × ((total ≡ length f.trace.entries) × IsPlaceOf f k behind.Beyond)
IsView f (aspect.Ask k text) (view.NoState illegal place) = (place ≡ k) × IsPlaceOf f k (behind.Illegal illegal)
IsView f aspect.Stats (view.Stats counts) = IsCounted f.work.system (memory_of f) f.work.scenario.limit f.trace.entries counts
IsView f (aspect.Diagram from to format names) (view.NoPlace place total) = (total ≡ length f.trace.entries) × (place_beyond total from to ≡ Some place)
IsView f (aspect.Diagram from to format names) (view.NoActor name) = (place_beyond (length f.trace.entries) from to ≡ None) × IsUnknown f.work.system names (string_bytes name)
IsView f (aspect.Diagram from to format names) (view.Diagram drawn) =
    (place_beyond (length f.trace.entries) from to ≡ None)
    × (AreChosen f.work.system names (chosen_in drawn)
    × IsDiagramOf f (part_asked (length f.trace.entries) from to) (chosen_in drawn) (format_of format) drawn)
IsView _ _ _ = ⊥
