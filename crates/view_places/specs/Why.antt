-- Why a trace is illegal.
-- Source: this simulator's; `judged` and `step` of the model.
use Rattle.std.specs.Prelude.{ℕ, ◌+◌, ◌≡◌, ◌<◌, ◌≤◌, ◌⊎◌, Bool, false, true, not, ◌&&◌, if◌then◌else◌, List, [], length, map, take, slice_get, Option, None, Some, IfSome, IsSome, IsSomeAnd}
use Rattle.std.specs.Ordering.{int_eq}
use Rattle.view_places.specs.Conditions.{SayWhen, conditions_of, told}
use Rattle.ffm_model.specs.declared.constants.TheConstants.{PSA_ERROR_PROGRAMMER_ERROR}
use Rattle.ffm_model.specs.declared.machine.Call.{Call}
use Rattle.ffm_model.specs.declared.machine.Call.TheVariants as call
use Rattle.ffm_model.specs.declared.system.System.{System}
use Rattle.ffm_model.specs.declared.machine.Entry.{Entry}
use Rattle.ffm_model.specs.declared.machine.Handle.{Handle}
use Rattle.ffm_model.specs.declared.machine.Outcome.{Outcome}
use Rattle.ffm_model.specs.declared.machine.Outcome.TheVariants.{Value, Got, Panicked}
use Rattle.ffm_model.specs.declared.machine.Verdict.{Verdict}
use Rattle.ffm_model.specs.Actors.{actor_count}
use Rattle.ffm_model.specs.Calls.{programmer_error}
use Rattle.ffm_model.specs.Memory.{ByteMap}
use Rattle.ffm_model.specs.Signals.{enabled, may_resume}
use Rattle.ffm_model.specs.State.{State, fresh, phase_of}
use Rattle.ffm_model.specs.Step.{after, gives_handle, handle_shown, may_call, returns_when_due, step}
use Rattle.ffm_model.specs.Verdicts.{Legal, IllegalAt, judged, verdict_of}
use Rattle.machine_calls.specs.Machine.{state_of}
use Rattle.machine_check.specs.declared.judging.Checker.{Checker}
use Rattle.machine_check.specs.Performed.{Knows}
use Rattle.view_places.specs.StateText.{phase_text}
use Rattle.view_places.specs.declared.reasons.Finding.{Finding}
use Rattle.view_places.specs.declared.reasons.Finding.TheVariants as finding
use Rattle.view_places.specs.declared.reasons.IllegalEntry.{IllegalEntry}
use Rattle.view_places.specs.declared.reasons.Rule.{Rule}
use Rattle.view_places.specs.declared.reasons.Rule.TheVariants as rule

-- ---- the answer that is due

-- with this outcome the entry is a step
abbrev pub IsStepWith : System → State → Entry → Outcome → Type 0
IsStepWith s st e o = IsSome (step s st (record { actor = record { 0 = e.actor.0 }; call = e.call; outcome = o }))

-- the outcome with another handle, where it shows one
abbrev pub with_handle : Handle → Outcome → Outcome
with_handle h (Value z) = Value h.0
with_handle h (Got m) = Got (record m { handle = h })
with_handle h o = o

-- the call gives a handle: it is psa_get, or the return of psa_connect, and no PROGRAMMER ERROR
abbrev pub gives : System → State → Entry → Bool
gives s st e = gives_handle (phase_of st.spm e.actor.0) e.call && not (programmer_error s st e.actor.0 e.call)

-- the answer o, with the handle that the outcome p shows where the call gives one
abbrev pub answer_like : System → State → Entry → Outcome → Outcome → Outcome
answer_like s st e p o = if gives s st e then with_handle (handle_shown p) o else o

-- the outcome is the one with which the entry is a step; where the call gives a handle, it shows a fresh one, and any other fresh one would do
pub record IsAnswer (s : System) (st : State) (e : Entry) (o : Outcome) : Type 0 where
  pub is_step : IsStepWith s st e o
  pub only : (p : Outcome) → IsStepWith s st e p → p ≡ answer_like s st e p o
  pub shows_fresh : gives s st e ≡ true → fresh st (handle_shown o) ≡ true
  pub any_fresh : gives s st e ≡ true → (h : Handle) → fresh st h ≡ true → IsStepWith s st e (with_handle h o)

-- ---- the rules

-- the actor is there and can go on
abbrev pub CanAct : System → State → Entry → Type 0
CanAct s st e = (e.actor.0 < actor_count s) × (enabled s st.spm e.actor.0 ≡ true)

-- the call may be made, but no handle is left that it could give
pub record HasNoHandle (s : System) (st : State) (e : Entry) : Type 0 where
  pub may : may_call s st.spm e.actor.0 e.call ≡ true
  pub giving : gives s st e ≡ true
  pub none_fresh : (h : Handle) → fresh st h ≡ false

-- the call may be made, and the outcome is the answer but for its handle, which isn't fresh
pub record IsStale (s : System) (st : State) (e : Entry) (answer : Outcome) : Type 0 where
  pub may : may_call s st.spm e.actor.0 e.call ≡ true
  pub is_answer : IsAnswer s st e answer
  pub giving : gives s st e ≡ true
  pub like : e.outcome ≡ with_handle (handle_shown e.outcome) answer
  pub stale : fresh st (handle_shown e.outcome) ≡ false

-- the call may be made, and the outcome isn't the answer, whatever handle that shows
pub record IsOther (s : System) (st : State) (e : Entry) (answer : Outcome) : Type 0 where
  pub may : may_call s st.spm e.actor.0 e.call ≡ true
  pub is_answer : IsAnswer s st e answer
  pub unlike : e.outcome ≡ answer_like s st e e.outcome answer → ⊥

-- what a rule says of an entry that is no step after a state; no two of them hold of one entry
abbrev pub Breaks : System → State → Entry → Rule → Type 0
Breaks s st e rule.BeyondLimit = ⊥
Breaks s st e rule.NoSuchActor = actor_count s ≤ e.actor.0
Breaks s st e rule.NotEnabled = (e.actor.0 < actor_count s) × (enabled s st.spm e.actor.0 ≡ false)
Breaks s st e rule.ReturnDue = CanAct s st e × ((returns_when_due e.call (phase_of st.spm e.actor.0) ≡ false) × (may_resume (phase_of st.spm e.actor.0) ≡ true))
Breaks s st e rule.NoReturnDue = CanAct s st e × ((returns_when_due e.call (phase_of st.spm e.actor.0) ≡ false) × (may_resume (phase_of st.spm e.actor.0) ≡ false))
Breaks s st e rule.NoHandleLeft = HasNoHandle s st e
Breaks s st e (rule.StaleHandle answer) = IsStale s st e answer
Breaks s st e (rule.OtherHandle answer) = IsOther s st e answer × (gives s st e ≡ true)
Breaks s st e (rule.OtherAnswer answer) = IsOther s st e answer × (gives s st e ≡ false)

-- the rule by which an entry after n others that led to a state is illegal: it exceeds the limit, or it is no step
abbrev pub IsRule : System → ℕ → ℕ → State → Entry → Rule → Type 0
IsRule s limit n st e rule.BeyondLimit = limit ≤ n
IsRule s limit n st e r = (n < limit) × ((step s st e ≡ None) × Breaks s st e r)

-- the entry is illegal after n others that led to a state
abbrev pub IsIllegal : System → ℕ → ℕ → State → Entry → Type 0
IsIllegal s limit n st e = (limit ≤ n) ⊎ (step s st e ≡ None)

-- ---- the conditions of the call

-- the answer to psa_call that tells of a PROGRAMMER ERROR
abbrev pub is_refusal : Outcome → Bool
is_refusal Panicked = true
is_refusal (Value z) = int_eq z PSA_ERROR_PROGRAMMER_ERROR
is_refusal _ = false

-- whether psa_call is a PROGRAMMER ERROR, where a rule shows the answer that is due
abbrev pub refusal_shown : Call → Rule → Option Bool
refusal_shown (call.Invoke h kind in_vec in_len out_vec out_len) (rule.OtherAnswer answer) = Some (is_refusal answer)
refusal_shown _ _ = None

-- what is told of the call of an entry after a state: what its actor does there, the call's conditions, which mean what they say, and whether it is a PROGRAMMER ERROR, where the rule shows that
pub record TellsOfCall (s : System) (st : State) (e : Entry) (i : IllegalEntry) : Type 0 where
  pub doing : i.doing.items ≡ phase_text s st.spm e.actor.0
  pub table : e.actor.0 < actor_count s → map told i.conditions.items ≡ conditions_of s st.spm e.actor.0 e.call
  pub none : actor_count s ≤ e.actor.0 → i.conditions.items ≡ []
  pub shown : i.is_refused ≡ refusal_shown e.call i.rule
  pub conditions : e.actor.0 < actor_count s → SayWhen s st e.actor.0 e.call (map told i.conditions.items)
  pub refused : IfSome i.is_refused (λ refused. refused ≡ programmer_error s st e.actor.0 e.call)

-- ---- the first illegal entry, and the verdict

-- the entry after these others, and, where it is illegal, the rule by which it is
pub record BreaksRule (s : System) (limit : ℕ) (r : Checker) (e : Entry) (i : IllegalEntry) : Type 0 where
  pub place : i.place ≡ r.count + 1
  pub entry : i.entry ≡ e
  pub rule : (handles : List Handle) → Knows r.given handles → IsIllegal s limit r.count (state_of r.machine handles) e → IsRule s limit r.count (state_of r.machine handles) e i.rule
  pub call : (handles : List Handle) → Knows r.given handles → IsIllegal s limit r.count (state_of r.machine handles) e → TellsOfCall s (state_of r.machine handles) e i

-- the first illegal entry of a trace, after n others
pub record IsIllegalEntry (s : System) (m : ByteMap) (limit : ℕ) (es : List Entry) (v : Verdict) (i : IllegalEntry) : Type 0 where
  pub before : ℕ
  pub place : i.place ≡ before + 1
  pub first : judged s m limit es v ≡ IllegalAt i.place
  pub entry : slice_get es before ≡ Some i.entry
  pub rule : IsSomeAnd (after s m (take before es)) (λ st. IsRule s limit before st i.entry i.rule)
  pub call : IsSomeAnd (after s m (take before es)) (λ st. TellsOfCall s st i.entry i)

-- how the trace is judged, and why; a wrong verdict is told with the one that is due
abbrev pub IsFinding : System → ByteMap → ℕ → List Entry → Verdict → Finding → Type 0
IsFinding s m limit es v (finding.Legal n) = (judged s m limit es v ≡ Legal) × (n ≡ length es)
IsFinding s m limit es v (finding.Entry i) = IsIllegalEntry s m limit es v i
IsFinding s m limit es v (finding.Verdict n told due) = (judged s m limit es v ≡ IllegalAt n) × ((n ≡ length es + 1) × ((told ≡ v) × (due ≡ verdict_of s m limit es)))
