-- Which answers leave an actor without a further entry.
use Rattle.std.proofs.Common.{◌≡◌, ℕ, zero, suc, ◌≤◌, Bool, true, false, true≢false, List, [], ◌∷◌, length, set, get_or, Option, Some, None, sym, refl, ap, ◌∙◌, subst}
use Rattle.std.specs.Prelude.{nat_le, if◌then◌else◌, option_and_then, IsSome}
use Rattle.std.specs.Option.{option_map_or}
use Rattle.spm_core.proofs.Refusals.{by_tests, full_has_verdict, gone_is, over_has_verdict}
use Rattle.ffm_model.specs.declared.system.System.{System}
use Rattle.ffm_model.specs.declared.system.ActorKind.{ActorKind}
use Rattle.ffm_model.specs.declared.system.ActorKind.TheVariants.{Partition, Client, Device}
use Rattle.ffm_model.specs.declared.machine.Entry.{Entry}
use Rattle.ffm_model.specs.declared.machine.Call.{Call}
use Rattle.ffm_model.specs.declared.machine.Call.TheVariants as call
use Rattle.ffm_model.specs.declared.machine.Handle.{Handle}
use Rattle.ffm_model.specs.declared.machine.Answer.TheVariants as answer
use Rattle.ffm_model.specs.declared.objects.ActorPhase.{ActorPhase}
use Rattle.ffm_model.specs.declared.objects.ActorPhase.TheVariants as phase
use Rattle.ffm_model.specs.Actors.{kind_of}
use Rattle.ffm_model.specs.Calls.{has_call, call_case, effect_or_error, effect_of}
use Rattle.ffm_model.specs.Plans.{is_stop}
use Rattle.ffm_model.specs.State.{State, phase_of}
use Rattle.ffm_model.specs.Signals.{enabled}
use Rattle.ffm_model.specs.Step.{step, handle_shown}
use Rattle.ffm_model.specs.Verdicts.{some_enabled}
use Rattle.spm_core.specs.Manager.{Opening, IsMade, IsRefused, is_gone, is_actor_gone, refusal_at, state_after}
use Rattle.spm_lock.specs.Passes.{has_verdict}
use Rattle.ffm_model.proofs.StepLemmas.{step-leaves}

-- ---- refusals

at_gone : (s : System) (limit count a : ℕ) (st : Option State) → option_and_then (λ x. refusal_at s limit count x.spm a) st ≡ Some answer.Gone
    → option_map_or (λ x. is_gone (phase_of x.spm a)) st false ≡ true
unfolding by_tests
at_gone s limit count a None h = cc
at_gone s limit count a (Some x) h = gone_is (is_gone (phase_of x.spm a)) (some_enabled s x.spm) (nat_le limit count) (enabled s x.spm a) h

pub gone_refused : (o : Opening) (old new : List Entry) (a : ℕ) → IsRefused o old a answer.Gone new → is_actor_gone o new a ≡ true
gone_refused o old new a r = ap (λ (h : List Entry). is_actor_gone o h a) r.unchanged ∙ at_gone o.system o.limit (length old) a (state_after o old) r.due

pub over_refused : (o : Opening) (old new : List Entry) (a : ℕ) → IsRefused o old a answer.Over new → has_verdict o new
over_refused o old new a r = subst (has_verdict o) (sym r.unchanged) (over_has_verdict o.system o.limit (length old) a (state_after o old) r.due)

pub full_refused : (o : Opening) (old new : List Entry) (a : ℕ) → length new ≤ o.limit → IsRefused o old a answer.Full new → has_verdict o new
full_refused o old new a within r =
    subst (has_verdict o) (sym r.unchanged) (full_has_verdict o.system o.limit (length old) a (state_after o old) (subst (λ (h : List Entry). length h ≤ o.limit) r.unchanged within) r.due)

-- ---- a stop

set_ended : (phases : List ActorPhase) (a : ℕ) → get_or (set phases a phase.Ended) a phase.Ended ≡ phase.Ended
set_ended [] a = refl
set_ended (p ∷ ps) zero = refl
set_ended (p ∷ ps) (suc a) = set_ended ps a

-- every kind of actor may stop
may_stop : (k : ActorKind) (spent : Bool) → has_call k (call.Stop spent) ≡ true
may_stop Partition spent = refl
may_stop _ spent = refl

stop_effect : (s : System) (st : State) (a : ℕ) (spent : Bool) (h : Handle) → is_gone (phase_of (effect_of s st a (call.Stop spent) h).state.spm a) ≡ true
stop_effect s st a spent h =
    ap (λ (b : Bool). is_gone (phase_of (effect_or_error (if b then call_case s st a (call.Stop spent) h else None) (kind_of s a) s st a (call.Stop spent)).state.spm a)) (may_stop (kind_of s a) spent)
    ∙ ap is_gone (set_ended st.spm.phases a)

stop_leaves : (s : System) (st : State) (a : ℕ) (c : Call) (h : Handle) → is_stop c ≡ true → is_gone (phase_of (effect_of s st a c h).state.spm a) ≡ true
stop_leaves s st a (call.Stop spent) h is = stop_effect s st a spent h
stop_leaves s st a _ h is = absurd (true≢false (sym is))

stopped : (s : System) (st new : Option State) (e : Entry) (a : ℕ) → e.actor.0 ≡ a → is_stop e.call ≡ true → new ≡ option_and_then (λ x. step s x e) st → IsSome new
    → option_map_or (λ x. is_gone (phase_of x.spm a)) new false ≡ true
stopped s st None e a whose stop is made = absurd (true≢false (sym made))
stopped s None (Some x) e a whose stop is made = cc
stopped s (Some st) (Some x) e a whose stop is made =
    subst (λ (y : State). is_gone (phase_of y.spm a) ≡ true) (step-leaves s st x e (sym is))
    (subst (λ (n : ℕ). is_gone (phase_of (effect_of s st e.actor.0 e.call (handle_shown e.outcome)).state.spm n) ≡ true) whose (stop_leaves s st e.actor.0 e.call (handle_shown e.outcome) stop))

pub stop_made : (o : Opening) (old new : List Entry) (a place : ℕ) (c : Call) (e : Entry) → IsMade o old a c place e new → is_stop c ≡ true → is_actor_gone o new a ≡ true
stop_made o old new a place c e m stop = stopped o.system (state_after o old) (state_after o new) e a m.actor (ap is_stop m.called ∙ stop) m.stepped m.is_state
