-- The text that says how a trace is judged, and why.
-- Source: this simulator's; entries, answers and verdicts are told as a trace has them.
use Rattle.std.specs.Prelude.{ℕ, ◌==◌, Bool, true, false, if◌then◌else◌, List, [], ◌∷◌, ◌++◌, codes, length, Option, Some, None}
use Rattle.std.specs.Fmt.{decimal}
use Rattle.std.specs.List.{flat_map, list_any}
use Rattle.view_places.specs.declared.condition.Condition.{Condition}
use Rattle.ffm_model.specs.declared.machine.Call.{Call}
use Rattle.ffm_model.specs.declared.machine.Entry.{Entry}
use Rattle.ffm_model.specs.declared.machine.Outcome.{Outcome}
use Rattle.ffm_model.specs.declared.machine.Verdict.{Verdict}
use Rattle.ffm_model.specs.declared.system.System.{System}
use Rattle.ffm_model.specs.Actors.{counts_of}
use Rattle.ffm_model.specs.TraceText.{Word, actor_word, verdict_word}
use Rattle.view_places.specs.declared.reasons.Finding.{Finding}
use Rattle.view_places.specs.declared.reasons.Finding.TheVariants as finding
use Rattle.view_places.specs.declared.reasons.IllegalEntry.{IllegalEntry}
use Rattle.view_places.specs.declared.reasons.Rule.{Rule}
use Rattle.view_places.specs.declared.reasons.Rule.TheVariants as rule
use Rattle.view_texts.specs.Calls.{call_name}
use Rattle.view_texts.specs.Columns.{joined}
use Rattle.view_texts.specs.Names.{actor_name}
use Rattle.view_texts.specs.Outcomes.{entry_line}

abbrev pub rule_words : Rule → Word
rule_words rule.BeyondLimit = codes "the run has as many entries as the scenario allows"
rule_words rule.NoSuchActor = codes "the system has no such actor"
rule_words rule.NotEnabled = codes "the actor isn't enabled"
rule_words rule.ReturnDue = codes "the actor has to return from a call first, by resume"
rule_words rule.NoReturnDue = codes "the actor isn't to return from a call"
rule_words rule.NoHandleLeft = codes "no handle is left to be given"
rule_words (rule.StaleHandle o) = codes "the handle isn't fresh: a fresh one is from 1 to 0x3fffffff, and no event gave it before"
rule_words (rule.OtherHandle o) = codes "another answer is due"
rule_words (rule.OtherAnswer o) = codes "another answer is due"

-- the answer that is due, where the call may be made
abbrev pub answer_due : Rule → Option Outcome
answer_due (rule.StaleHandle o) = Some o
answer_due (rule.OtherHandle o) = Some o
answer_due (rule.OtherAnswer o) = Some o
answer_due _ = None

-- the line of the entry with this outcome
abbrev pub due_line : System → Entry → Outcome → List ℕ
due_line s e o = codes "due     " ++ entry_line s (record { actor = record { 0 = e.actor.0 }; call = e.call; outcome = o })

-- an answer that shows a handle may show any fresh one
abbrev pub handle_line : Rule → List ℕ
handle_line (rule.StaleHandle o) = codes "        with this handle or any other fresh one\n"
handle_line (rule.OtherHandle o) = codes "        with this handle or any other fresh one\n"
handle_line _ = []

-- ---- the conditions of a call

-- it holds, it doesn't, or that isn't known
abbrev pub mark : Option Bool → Word
mark (Some true) = codes "  [x] "
mark (Some false) = codes "  [ ] "
mark None = codes "  [?] "

abbrev pub does_hold : Option Bool → Bool
does_hold (Some true) = true
does_hold _ = false

-- what was looked at, or else this
abbrev pub known_or : Option Bool → Option Bool → Option Bool
known_or (Some holds) otherwise = Some holds
known_or None otherwise = otherwise

abbrev pub condition_line : Option Bool → Condition → List ℕ
condition_line otherwise c = joined (mark (known_or c.holds otherwise) ∷ c.words.now ∷ codes "\n" ∷ [])

-- a condition that wasn't looked at holds exactly where the call is refused, unless another one holds
abbrev pub where_not_looked : List Condition → Option Bool → Option Bool
where_not_looked cs is_refused = if list_any (λ c. does_hold c.holds) cs then None else is_refused

unfoldable pub conditions_heading : Call → List ℕ
conditions_heading call = joined (call_name call ∷ codes " is a PROGRAMMER ERROR where one of these holds ([x]: holds here)\n" ∷ [])

unfoldable pub some_conditions : Call → List Condition → Option Bool → List ℕ
some_conditions call cs is_refused =
    conditions_heading call ++ flat_map (condition_line (where_not_looked cs is_refused)) cs

unfoldable pub condition_lines : Call → List Condition → Option Bool → List ℕ
condition_lines call cs is_refused = if length cs == 0 then [] else some_conditions call cs is_refused

-- ---- the lines

-- an actor, and what it does
unfoldable pub actor_line : System → ℕ → List ℕ → List ℕ
actor_line s a doing =
    codes "actor   " ++ (actor_name s a ++ (codes " (" ++ (actor_word (counts_of s) a ++ (codes "), before: " ++ (doing ++ codes "\n")))))

abbrev pub due_lines : System → IllegalEntry → Option Outcome → List ℕ
due_lines s i None = []
due_lines s i (Some o) =
    due_line s i.entry o ++ (handle_line i.rule ++ condition_lines i.entry.call i.conditions.items i.is_refused)

unfoldable pub illegal_text : System → IllegalEntry → List ℕ
illegal_text s i =
    joined (codes "illegal " ∷ decimal i.place ∷ codes "\nentry   " ∷ [])
    ++ (entry_line s i.entry
    ++ (actor_line s i.entry.actor.0 i.doing.items
    ++ (joined (codes "rule    " ∷ rule_words i.rule ∷ codes "\n" ∷ [])
    ++ due_lines s i (answer_due i.rule))))

abbrev pub verdict_due_text : Option Verdict → List ℕ
verdict_due_text (Some verdict) = joined (verdict_word verdict ∷ codes "\n" ∷ [])
verdict_due_text None = codes "another entry: some actor can go on\n"

unfoldable pub verdict_text : ℕ → Verdict → Option Verdict → List ℕ
verdict_text place told due =
    joined (codes "illegal " ∷ decimal place ∷ codes "\nverdict " ∷ verdict_word told ∷ codes "\ndue     " ∷ []) ++ verdict_due_text due

-- how a trace is judged, and why
abbrev pub why_text : System → Finding → List ℕ
why_text s (finding.Legal count) = joined (codes "legal " ∷ decimal count ∷ codes "\n" ∷ [])
why_text s (finding.Entry i) = illegal_text s i
why_text s (finding.Verdict place told due) = verdict_text place told due
