-- A run of a script, told by the points where it stands.
use Rattle.std.proofs.Common.{◌≡◌, List, [], ◌∷◌, ◌++◌, ap, ap₂, sym, ◌∙◌, Bool}
use Rattle.std.specs.Prelude.{if◌then◌else◌}
use Rattle.ffm_model.proofs.RecordLemmas.{ends_blocked-push, engine_after-push}
use Rattle.ffm_model.specs.declared.machine.Entry.{Entry}
use Rattle.ffm_model.specs.declared.machine.Call.{Call}
use Rattle.ffm_model.specs.declared.machine.Call.TheVariants as call
use Rattle.ffm_model.specs.declared.machine.Outcome.{Outcome}
use Rattle.ffm_model.specs.declared.script.Instruction.{Instruction}
use Rattle.ffm_model.specs.Plans.{RunFrom, engine_answered, plan_of}
use Rattle.ffm_model.specs.Records.{is_blocked_outcome, ends_blocked}
use Rattle.ffm_model.specs.ScriptRuns.{Point, start, arrived, call_at, point_after, script_engine, script_plan}

-- the point after an outcome
abbrev pub answered : List Instruction → Outcome → Point → Point
answered code o p = engine_answered (script_engine code) o p

-- the call that a script makes at a point, where its last call is blocked or not
abbrev pub due : List Instruction → Bool → Point → Call
due code blocked p = if blocked then call.Resume else call_at code (arrived code p)

abbrev pub RunAt : List Instruction → Bool → Point → List Entry → Type 0
RunAt code blocked p [] = Unit {0}
RunAt code blocked p (e ∷ es) = (e.call ≡ due code blocked p) × RunAt code (is_blocked_outcome e.outcome) (answered code e.outcome p) es

same-call : (code : List Instruction) (os : List Outcome) (b : Bool) (p : Point) → ends_blocked os ≡ b → point_after code os ≡ p → script_plan code os ≡ due code b p
unfolding plan_of
same-call code os b p eb ep = ap₂ (due code) eb ep

pub run-to : (code : List Instruction) (es : List Entry) (os : List Outcome) (b : Bool) (p : Point) → ends_blocked os ≡ b → point_after code os ≡ p
    → RunFrom (script_plan code) os es → RunAt code b p es
run-to code [] os b p eb ep h = tt
run-to code (e ∷ es) os b p eb ep h = (
  h.0 ∙ same-call code os b p eb ep,
  run-to code es (os ++ e.outcome ∷ []) _ _ (ends_blocked-push os e.outcome) (engine_after-push (script_engine code) start os e.outcome ∙ ap (answered code e.outcome) ep) h.1,
)

pub run-from : (code : List Instruction) (es : List Entry) (os : List Outcome) (b : Bool) (p : Point) → ends_blocked os ≡ b → point_after code os ≡ p
    → RunAt code b p es → RunFrom (script_plan code) os es
run-from code [] os b p eb ep h = tt
run-from code (e ∷ es) os b p eb ep h = (
  h.0 ∙ sym (same-call code os b p eb ep),
  run-from code es (os ++ e.outcome ∷ []) _ _ (ends_blocked-push os e.outcome) (engine_after-push (script_engine code) start os e.outcome ∙ ap (answered code e.outcome) ep) h.1,
)
