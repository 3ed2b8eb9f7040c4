-- What the calls make of the checker's state, with what a PROGRAMMER ERROR does.
use Rattle.std.proofs.Common.{ℕ, ◌≡◌, Bool, true, false, refl, ap, sym, subst, ◌∙◌}
use Rattle.std.specs.Prelude.{Option, None, Result, Ok, Err, if◌then◌else◌}
use Rattle.std.proofs.lemmas.Option.{none-some}
use Rattle.ffm_model.specs.declared.system.System.{System}
use Rattle.ffm_model.specs.declared.system.ActorKind.{ActorKind}
use Rattle.ffm_model.specs.declared.machine.Call.{Call}
use Rattle.ffm_model.specs.declared.machine.Call.TheVariants as call
use Rattle.ffm_model.specs.declared.machine.Handle.{Handle}
use Rattle.ffm_model.specs.declared.machine.Memory.{Memory}
use Rattle.ffm_model.specs.declared.machine.Outcome.{Outcome}
use Rattle.ffm_model.specs.declared.objects.ActorPhase.{ActorPhase}
use Rattle.ffm_model.specs.Actors.{kind_of}
use Rattle.ffm_model.specs.State.{State}
use Rattle.ffm_model.specs.ClientCalls.{Effect, effect}
use Rattle.ffm_model.specs.Calls.{call_case, effect_or_error, error_effect, has_call}
use Rattle.machine_calls.specs.declared.machine.Machine.{Machine}
use Rattle.machine_calls.specs.Machine.{state_of}
use Rattle.machine_check.specs.Performed.{gave_handle, given_after, phase_in, Attempts, Performs, Refuses}
use Rattle.machine_check.proofs.Allowed.{error_gives_none}

-- nothing is due: the effect is the error's
error_due : (x : Option Effect) (b : Bool) (k : ActorKind) (s : System) (st : State) (a : ℕ) (c : Call) → x ≡ None → effect_or_error (if b then x else None) k s st a c ≡ error_effect k s st a c
error_due x true k s st a c h = rw h refl
error_due x false k s st a c h = refl

-- a PROGRAMMER ERROR gives no handle
error_gave : (k : ActorKind) (s : System) (st new : State) (a : ℕ) (c : Call) (h : Handle) (o : Outcome) (p : ActorPhase) → call_case s st a c h ≡ None → error_effect k s st a c ≡ effect o new → gave_handle p c o ≡ false
error_gave k s st new a (call.Get signal msg) h o p none e = sym (ap (λ x. gave_handle p (call.Get signal msg) x.outcome) e) ∙ error_gives_none s st a signal msg p k
error_gave k s st new a call.Resume h o p none e = absurd (none-some _ (sym none))
error_gave k s st new a c h o p none e = refl

-- what a PROGRAMMER ERROR does is what is due, where the call's case says nothing
pub by_refusal : (s : System) (k : ActorKind) (a : ℕ) (c : Call) (h : Handle) (old mid new : Machine) (r : Result Outcome Memory) → k ≡ kind_of s a
    → Attempts s a c h old (Ok None) mid → Refuses s k a c mid r new → Performs s a c h old r new
by_refusal s k a c h old mid new (Ok o) kind none refused = λ given.
    let st : State = state_of old given in
    let e : error_effect (kind_of s a) s st a c ≡ effect o (state_of new given) = subst (λ q. error_effect q s st a c ≡ effect o (state_of new given)) kind (subst (λ m. error_effect k s (state_of m given) a c ≡ effect o (state_of new given)) none.1 (refused given)) in
    error_due (call_case s st a c h) (has_call (kind_of s a) c) (kind_of s a) s st a c (none.0 given) ∙ e
    ∙ ap (λ b. effect o (state_of new (given_after b given h))) (sym (error_gave (kind_of s a) s st (state_of new given) a c h o (phase_in old a) (none.0 given) e))
by_refusal s k a c h old mid new (Err x) kind none refused = tt
