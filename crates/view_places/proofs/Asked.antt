-- What is told of a call at a place of a trace.
use Rattle.std.proofs.Common.{ℕ, ◌≡◌, ◌<◌, ◌≤◌, ◌∙◌, Bool, List, length, refl, subst, sym, true}
use Rattle.std.specs.Prelude.{IfSome, IsSomeAnd, None, Some}
use Rattle.ffm_model.specs.declared.machine.Call.{Call}
use Rattle.ffm_model.specs.declared.machine.Call.TheVariants as call
use Rattle.ffm_model.specs.declared.machine.Entry.{Entry}
use Rattle.ffm_model.specs.declared.machine.Outcome.{Outcome}
use Rattle.ffm_model.specs.declared.system.System.{System}
use Rattle.ffm_model.specs.Calls.{programmer_error}
use Rattle.ffm_model.specs.Memory.{ByteMap}
use Rattle.ffm_model.specs.State.{State, phase_of}
use Rattle.ffm_model.specs.Step.{may_call}
use Rattle.machine_calls.specs.Machine.{state_of}
use Rattle.machine_check.specs.Performed.{gave_handle}
use Rattle.machine_check.specs.Reaching.{IsDue}
use Rattle.view_places.specs.declared.asking.CallAfter.{CallAfter}
use Rattle.view_places.specs.declared.asking.Reply.{Reply}
use Rattle.view_places.specs.declared.asking.Reply.TheVariants as reply
use Rattle.view_places.specs.declared.behind.StateAfter.{StateAfter}
use Rattle.view_places.specs.declared.reasons.Rule.TheVariants as rule
use Rattle.view_places.specs.Asking.{IsCallAfter, IsReply, Tells, TellsAfter, error_shown}
use Rattle.view_places.specs.Showing.{IsStateAfter}
use Rattle.view_places.proofs.Answers.{gives_by, no_handle, the_answer}
use Rattle.view_places.proofs.Refusals.{refusal_by}

-- the call may be made, and has this answer
pub answered : (s : System) (limit n : ℕ) (st : State) (e : Entry) (o : Outcome) (g : Bool) → n < limit → IsDue s st e.actor.0 e.call (Some o)
    → g ≡ gave_handle (phase_of st.spm e.actor.0) e.call o → IsReply s limit n st e (reply.Answer o g)
answered s limit n st e o g below due gave = (below, (the_answer s st e o due, gave ∙ sym (gives_by s st e o due)))

-- the call may be made, and no handle is left
pub none_left : (s : System) (limit n : ℕ) (st : State) (e : Entry) → n < limit → may_call s st.spm e.actor.0 e.call ≡ true → IsDue s st e.actor.0 e.call None
    → IsReply s limit n st e (reply.Refused rule.NoHandleLeft)
none_left s limit n st e below may due = (below, (due e.outcome, no_handle s st e may due))

told_by : (s : System) (limit n : ℕ) (st : State) (e : Entry) (c : Call) (r : Reply) → e.call ≡ c → IsReply s limit n st e r → IfSome (error_shown c r) (λ refused. refused ≡ programmer_error s st e.actor.0 c)
told_by s limit n st e (call.Invoke h kind in_vec in_len out_vec out_len) (reply.Answer o g) same is = refusal_by s st e h kind in_vec in_len out_vec out_len o same is.1.0.is_step
told_by s limit n st e c r same is = tt

-- the answer to psa_call shows whether it is a PROGRAMMER ERROR
pub error_told : (s : System) (limit n : ℕ) (st : State) (e : Entry) (r : Reply) → IsReply s limit n st e r → IfSome (error_shown e.call r) (λ refused. refused ≡ programmer_error s st e.actor.0 e.call)
error_told s limit n st e r is = told_by s limit n st e e.call r refl is

-- what is told after the entries that were followed is told at their place
pub told_at : (s : System) (m : ByteMap) (limit : ℕ) (es : List Entry) (k : ℕ) (b : StateAfter) (e : Entry) (t : CallAfter) → k ≤ length es → IsStateAfter s m limit es k b
    → TellsAfter s limit b.checker b.total e t → IsCallAfter s m limit es k e t
told_at s m limit es k b e t there is told = record {
  count = told.count ∙ is.count;
  total = told.total ∙ is.total;
  entry = told.entry;
  there = there;
  tells = subst (λ o. IsSomeAnd o (λ st. Tells s limit k st e t)) (sym is.behind.state)
      (subst (λ n. Tells s limit n (state_of b.checker.machine is.behind.handles) e t) is.count (told.tells is.behind.handles is.behind.knows));
}
