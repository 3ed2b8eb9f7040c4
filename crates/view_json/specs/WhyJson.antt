-- How a trace is judged, and why, as a value of JSON.
-- Source: this simulator's; each fact is one of the text of `why`, in its words.
use Rattle.std.specs.Prelude.{ℕ, Bool, true, false, List, [], ◌∷◌, codes, map, Option, None, Some}
use Rattle.serde_json.specs.Data.{Data, boolean, null, number, string, unsigned}
use Rattle.ffm_model.specs.declared.machine.Entry.{Entry}
use Rattle.ffm_model.specs.declared.machine.Outcome.{Outcome}
use Rattle.ffm_model.specs.declared.machine.Verdict.{Verdict}
use Rattle.ffm_model.specs.declared.system.System.{System}
use Rattle.ffm_model.specs.TraceText.{verdict_word}
use Rattle.view_places.specs.declared.asking.CallAfter.{CallAfter}
use Rattle.view_places.specs.declared.asking.Reply.{Reply}
use Rattle.view_places.specs.declared.asking.Reply.TheVariants as reply
use Rattle.view_places.specs.declared.condition.Condition.{Condition}
use Rattle.view_places.specs.declared.reasons.Finding.{Finding}
use Rattle.view_places.specs.declared.reasons.Finding.TheVariants as finding
use Rattle.view_places.specs.declared.reasons.IllegalEntry.{IllegalEntry}
use Rattle.view_places.specs.declared.reasons.Rule.{Rule}
use Rattle.view_places.specs.declared.reasons.Rule.TheVariants as rule
use Rattle.view_places.specs.WhyText.{answer_due, known_or, rule_words, where_not_looked}
use Rattle.view_texts.specs.Outcomes.{entry_line}
use Rattle.view_json.specs.Values.{actor_json, array_of, bare, object_of, text_of}

-- ---- the conditions of a call

-- none where that isn't known
abbrev pub holds_json : Option Bool → Data
holds_json (Some holds) = boolean holds
holds_json None = null

unfoldable pub condition_json : Option Bool → Condition → Data
condition_json otherwise c =
    object_of ((codes "text", string c.words.now) ∷ (codes "holds", holds_json (known_or c.holds otherwise)) ∷ [])

abbrev pub all_conditions : List Condition → Option Bool → List Data
all_conditions cs is_refused = map (condition_json (where_not_looked cs is_refused)) cs

-- they are told where an answer is due
abbrev pub conditions_json : Option Outcome → List Condition → Option Bool → List Data
conditions_json (Some o) cs is_refused = all_conditions cs is_refused
conditions_json None cs is_refused = []

-- ---- entries

-- the line of an entry
abbrev pub entry_json : System → Entry → Data
entry_json s e = text_of (bare (entry_line s e))

-- the line of the entry with the outcome that is due
abbrev pub due_json : System → Entry → Option Outcome → Data
due_json s e (Some o) = entry_json s (record { actor = record { 0 = e.actor.0 }; call = e.call; outcome = o })
due_json s e None = null

-- an answer that shows a handle may show any fresh one
abbrev pub any_handle : Rule → Bool
any_handle (rule.StaleHandle o) = true
any_handle (rule.OtherHandle o) = true
any_handle _ = false

-- ---- how a trace is judged

unfoldable pub legal_json : ℕ → Data
legal_json count = object_of ((codes "judgement", string (codes "legal")) ∷ (codes "entries", number (unsigned count)) ∷ [])

unfoldable pub illegal_json : System → IllegalEntry → Data
illegal_json s i =
    object_of ((codes "judgement", string (codes "illegal")) ∷ (codes "place", number (unsigned i.place))
    ∷ (codes "entry", entry_json s i.entry)
    ∷ (codes "actor", actor_json s i.entry.actor.0)
    ∷ (codes "before", text_of i.doing.items)
    ∷ (codes "rule", string (rule_words i.rule))
    ∷ (codes "due", due_json s i.entry (answer_due i.rule))
    ∷ (codes "any_fresh_handle", boolean (any_handle i.rule))
    ∷ (codes "conditions", array_of (conditions_json (answer_due i.rule) i.conditions.items i.is_refused)) ∷ [])

-- the verdict that is due; none where some actor can go on
abbrev pub verdict_due : Option Verdict → Data
verdict_due (Some verdict) = string (verdict_word verdict)
verdict_due None = null

unfoldable pub verdict_json : ℕ → Verdict → Option Verdict → Data
verdict_json place told due =
    object_of ((codes "judgement", string (codes "illegal")) ∷ (codes "place", number (unsigned place))
    ∷ (codes "verdict", string (verdict_word told)) ∷ (codes "due", verdict_due due) ∷ [])

abbrev pub why_json : System → Finding → Data
why_json s (finding.Legal count) = legal_json count
why_json s (finding.Entry i) = illegal_json s i
why_json s (finding.Verdict place told due) = verdict_json place told due

-- ---- a legal entry by its call

abbrev pub outcome_due : Reply → Option Outcome
outcome_due (reply.Answer o gives_handle) = Some o
outcome_due (reply.Refused r) = None

abbrev pub gives_handle : Reply → Bool
gives_handle (reply.Answer o gives) = gives
gives_handle (reply.Refused r) = false

-- the legal entry at a place
unfoldable pub legal_entry_json : System → ℕ → CallAfter → Data
legal_entry_json s place t =
    object_of ((codes "judgement", string (codes "legal")) ∷ (codes "place", number (unsigned place))
    ∷ (codes "entries", number (unsigned t.total))
    ∷ (codes "entry", entry_json s t.entry)
    ∷ (codes "actor", actor_json s t.entry.actor.0)
    ∷ (codes "before", text_of t.doing.items)
    ∷ (codes "due", due_json s t.entry (outcome_due t.reply))
    ∷ (codes "any_fresh_handle", boolean (gives_handle t.reply))
    ∷ (codes "conditions", array_of (conditions_json (outcome_due t.reply) t.conditions.items t.is_refused)) ∷ [])
