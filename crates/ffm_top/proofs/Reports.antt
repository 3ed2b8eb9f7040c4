-- Runs that ended are due, and which statuses come with what was done.
use Rattle.std.proofs.Common.{ℕ, Bool, true, false, ◌≡◌, ◌⊎◌, ◌-◌, List, [], ◌∷◌, length, map, inl, inr, refl, ap, ◌∙◌, arith, append-nil, subst, sym}
use Rattle.std.specs.Prelude.{Option, Some, None, IfSome, slice_get}
use Rattle.std.specs.Option.{option_map, option_map_or}
use Rattle.std.proofs.lemmas.List.{length-map}
use Rattle.std.proofs.lemmas.Option.{slice_get-map}
use Rattle.ffm_model.specs.declared.scenario.Scenario.{Scenario}
use Rattle.ffm_model.specs.declared.machine.Verdict.{Verdict}
use Rattle.ffm_model.specs.declared.machine.Verdict.TheVariants.{Quiet, Stalled, Full}
use Rattle.ffm_model.specs.declared.machine.Entry.{Entry}
use Rattle.ffm_model.specs.declared.system.System.{System}
use Rattle.ffm_model.specs.declared.trace.Trace.{Trace}
use Rattle.ffm_model.specs.Actors.{counts_of}
use Rattle.ffm_model.specs.Counts.{ActorCounts}
use Rattle.ffm_model.specs.Restarts.{FinishedRun}
use Rattle.ffm_model.specs.TraceText.{trace_text}
use Rattle.work_orders.specs.Work.{Work, listing_of, run_of, judge_of, make_of}
use Rattle.ffm_top.specs.Due.{IsValidWork, LeftBy, WorkDue}
use Rattle.judge_command.proofs.Replays.{status_of_text, status_of_trace}
use Rattle.ffm_top.specs.declared.report.Report.TheVariants as report
use Rattle.scenario_runs.specs.declared.restarting.Runs.{Runs}
use Rattle.actor_programs.specs.declared.program.Program.{Program}
use Rattle.scenario_runs.specs.Restarting.{AreRuns, finished}
use Rattle.ffm_top.specs.Answers.{IsDoneStatus}
use Rattle.ffm_top.specs.Runs.{RunDue, last_status, restart_line, runs_text, verdict_status}
use Rattle.ffm_top.specs.Report.{text_of}

verdict_done : (v : Verdict) → IsDoneStatus (verdict_status v)
verdict_done Quiet = inl refl
verdict_done Stalled = inr (omega arith, omega arith)
verdict_done Full = inr (omega arith, omega arith)

done_by : (o : Option FinishedRun) → IsDoneStatus (option_map_or (λ r. verdict_status r.verdict) o 0)
done_by None = inl refl
done_by (Some r) = verdict_done r.verdict

pub run_due : (s : System) (c : Scenario) (programs : List Program) (threads : Bool) (runs : Runs) → runs.system ≡ s → AreRuns s c programs threads c.restarts (map finished runs.traces.items)
    → RunDue s c programs threads (text_of (report.Ran runs)) (last_status (map finished runs.traces.items))
unfolding text_of
run_due s c programs threads runs system_is are = record {
  runs = map finished runs.traces.items;
  ran = are;
  text_is = ap (λ (x : System). runs_text (counts_of x) 0 (map finished runs.traces.items)) system_is;
  status_is = refl;
}

-- the status of runs is that of what was done
pub last_done : (rs : List FinishedRun) → IsDoneStatus (last_status rs)
last_done rs = done_by (slice_get rs (length rs - 1))

-- ---- what was done

ran_done : (s : System) (c : Scenario) (programs : List Program) (threads : Bool) (text : List ℕ) (status : ℕ) → RunDue s c programs threads text status → IsDoneStatus status
ran_done s c programs threads text status due = subst IsDoneStatus (sym due.status_is) (last_done due.runs)

judged_done : (status : ℕ) → (status ≡ 0) ⊎ (status ≡ 6) → IsDoneStatus status
judged_done status (inl legal) = inl legal
judged_done status (inr illegal) = inr (omega arith, omega arith)

text_done : (status : ℕ) → (status ≡ 1) ⊎ ((status ≡ 0) ⊎ (status ≡ 6)) → (status ≡ 1) ⊎ IsDoneStatus status
text_done status (inl one) = inl one
text_done status (inr done) = inr (judged_done status done)

-- work that was done, or a text that is no trace's
pub work_status : (w : Work) (text : List ℕ) (status : ℕ) → WorkDue w text status → (status ≡ 1) ⊎ IsDoneStatus status
work_status (listing_of s) text status due = inr (inl due.1)
work_status (run_of threads s c programs) text status due = inr (ran_done s c programs threads text status due)
work_status (judge_of how s c bytes) text status due = text_done status (status_of_text how s c bytes text status due)
work_status (make_of rounds) text status due = inr (inl due.status_is)

-- work whose text is a trace's, where there is one
pub valid_done : (w : Work) (text : List ℕ) (status : ℕ) → WorkDue w text status → IsValidWork w → IsDoneStatus status
valid_done (listing_of s) text status due valid = inl due.1
valid_done (run_of threads s c programs) text status due valid = ran_done s c programs threads text status due
valid_done (judge_of how s c bytes) text status due valid = judged_done status (status_of_trace how s c bytes text status due valid)
valid_done (make_of rounds) text status due valid = inl due.status_is

-- ---- the run that threads left

one_run : (counts : ActorCounts) (ts : List Trace) (es : List Entry) → map (λ (t : Trace). t.entries) ts ≡ es ∷ [] → (v : Verdict) × (runs_text counts 0 (map finished ts) ≡ trace_text counts es v)
unfolding restart_line
one_run counts [] es is = absurd cc
one_run counts (t ∷ []) es is =
    let here : t.entries ≡ es = cc in
    (t.verdict, append-nil (trace_text counts t.entries t.verdict) ∙ ap (λ (xs : List Entry). trace_text counts xs t.verdict) here)
one_run counts (t ∷ u ∷ ts) es is = absurd cc

-- its text is that of these entries
pub left_text : (threads : Bool) (ended : Option (List Entry)) (runs : Runs) (status : ℕ) → (threads ≡ true → IfSome ended (λ es. map (λ (t : Trace). t.entries) runs.traces.items ≡ es ∷ []))
    → LeftBy threads ended (text_of (report.Ran runs)) status
unfolding text_of
left_text false ended runs status is = tt
left_text true None runs status is = λ _. tt
left_text true (Some es) runs status is = λ _. let one = one_run (counts_of runs.system) runs.traces.items es (is refl) in (counts_of runs.system, one.0, one.1)

-- no threads left it
pub not_left : (threads : Bool) (ended : Option (List Entry)) (text : List ℕ) (status : ℕ) → threads ≡ false → LeftBy threads ended text status
not_left false ended text status no_threads = tt
not_left true ended text status no_threads = absurd cc

-- ---- the last run

verdict_of_some : (o : Option Trace) → option_map_or (λ (r : FinishedRun). verdict_status r.verdict) (option_map finished o) 0 ≡ option_map_or (λ (t : Trace). verdict_status t.verdict) o 0
verdict_of_some None = refl
verdict_of_some (Some t) = refl

-- the status of runs is that of the last trace
pub last_of : (ts : List Trace) → last_status (map finished ts) ≡ option_map_or (λ (t : Trace). verdict_status t.verdict) (slice_get ts (length ts - 1)) 0
last_of ts =
    ap (λ (n : ℕ). option_map_or (λ (r : FinishedRun). verdict_status r.verdict) (slice_get (map finished ts) (n - 1)) 0) (length-map ts finished)
    ∙ ap (λ (o : Option FinishedRun). option_map_or (λ (r : FinishedRun). verdict_status r.verdict) o 0) (slice_get-map finished ts (length ts - 1))
    ∙ verdict_of_some (slice_get ts (length ts - 1))
