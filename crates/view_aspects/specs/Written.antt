-- How what is shown of a trace is written: the lines that are no record's, the texts, and the status.
-- Source: this simulator's.
use Rattle.std.specs.Prelude.{◌≡◌, ◌++◌, ℕ, List, codes, length, string_bytes}
use Rattle.std.specs.Option.{option_map}
use Rattle.std.specs.Fmt.{decimal}
use Rattle.serde_json.specs.Data.{Data}
use Rattle.program_words.specs.declared.view.Request.{Request}
use Rattle.program_words.specs.declared.view.Writing.{Writing}
use Rattle.program_words.specs.declared.view.Writing.TheVariants as writing
use Rattle.view_texts.specs.CountsText.{counts_text}
use Rattle.view_diagram.specs.Diagrams.{IsDiagramText}
use Rattle.view_places.specs.AskText.{ask_text, legal_entry_text}
use Rattle.view_places.specs.StateText.{text_of_state}
use Rattle.view_places.specs.WhyText.{why_text}
use Rattle.view_places.specs.declared.reasons.Finding.TheVariants as finding
use Rattle.view_json.specs.StateJson.{json_of_state}
use Rattle.view_json.specs.StatsJson.{stats_json}
use Rattle.view_json.specs.Values.{IsLineOf, error_json}
use Rattle.view_json.specs.WhyJson.{legal_entry_json, why_json}
use Rattle.view_scripts.specs.ScriptsText.{scripts_text}
use Rattle.view_aspects.specs.Views.{IsView}
use Rattle.view_aspects.specs.declared.traces.TraceFiles.{TraceFiles}
use Rattle.view_aspects.specs.declared.view.View.{View}
use Rattle.view_aspects.specs.declared.view.View.TheVariants as view

-- the line that the trace has no such place, but so many entries
abbrev pub no_place_line : ℕ → ℕ → List ℕ
no_place_line place total = codes "no entry " ++ (decimal place ++ (codes ": the trace has " ++ (decimal total ++ codes "\n")))

-- the line that there is no state after a place
abbrev pub no_state_line : ℕ → ℕ → List ℕ
no_state_line illegal place = codes "entry " ++ (decimal illegal ++ (codes " is illegal: no state after entry " ++ (decimal place ++ codes "; ffm_view why tells more\n")))

-- the line that a text is no call
abbrev pub no_call_line : List ℕ
no_call_line = codes "no call: it takes an actor of the system and a call, in one word, as a trace has them before ->\n"

-- the line that no actor has a name
abbrev pub no_actor_line : List ℕ → List ℕ
no_actor_line name = codes "no actor " ++ (name ++ codes "\n")

-- this text, or this value as a line of JSON
abbrev pub IsWritten : Writing → List ℕ → Data → List ℕ → Type 0
IsWritten writing.Text plain json text = text ≡ plain
IsWritten writing.Json plain json text = IsLineOf json text

-- what is shown of the files of a trace, as it is to be written; calls that are asked about and diagrams have no JSON
abbrev pub IsViewText : TraceFiles → Writing → View → List ℕ → Type 0
IsViewText f w (view.NoPlace place total) text = IsWritten w (no_place_line place total) (error_json (no_place_line place total)) text
IsViewText f w (view.NoState illegal place) text = IsWritten w (no_state_line illegal place) (error_json (no_state_line illegal place)) text
IsViewText f w (view.State b scripts) text =
    IsWritten w (text_of_state f.work.system b ++ scripts_text f.work.system (option_map (λ rows. rows.items) scripts))
    (json_of_state f.work.system b (option_map (λ rows. rows.items) scripts)) text
IsViewText f w (view.Why found) text = IsWritten w (why_text f.work.system found) (why_json f.work.system found) text
IsViewText f w (view.LegalEntry place t) text = IsWritten w (legal_entry_text f.work.system place t) (legal_entry_json f.work.system place t) text
IsViewText f w (view.Stats counts) text = IsWritten w (counts_text f.work.system counts) (stats_json f.work.system counts) text
IsViewText f w (view.Call t) text = text ≡ ask_text f.work.system t
IsViewText f w view.NoCall text = text ≡ no_call_line
IsViewText f w (view.NoActor name) text = text ≡ no_actor_line (string_bytes name)
IsViewText f w (view.Diagram drawn) text = IsDiagramText drawn f.trace.verdict (length f.trace.entries) text

-- 0: it is shown, and a trace of which `why` tells is legal. 2: the trace has no such place, no actor has a name, or a text is no call. 6: the trace is illegal
abbrev pub status_of : View → ℕ
status_of (view.NoPlace place total) = 2
status_of (view.NoState illegal place) = 6
status_of view.NoCall = 2
status_of (view.NoActor name) = 2
status_of (view.Why (finding.Legal count)) = 0
status_of (view.Why _) = 6
status_of _ = 0

-- what is asked for of the files' trace, as it is to be written, and its status
abbrev pub Shows : TraceFiles → Request → List ℕ → ℕ → Type 0
Shows files r text status =
    (v : View) × IsView files r.aspect v × IsViewText files r.writing v text × (status ≡ status_of v)
