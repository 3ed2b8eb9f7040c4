-- An entry that answers Panicked is the panic of its caller, and no other entry is.
use Rattle.std.proofs.Common.{ℕ, ◌≡◌, ◌==◌, Bool, true, false, ◌&&◌, ◌∙◌, ap, sym, refl, List}
use Rattle.std.specs.Prelude.{Some, if◌then◌else◌}
use Rattle.ffm_model.specs.declared.constants.TheConstants.{PSA_ERROR_COMMUNICATION_FAILURE}
use Rattle.ffm_model.specs.declared.system.System.{System}
use Rattle.ffm_model.specs.declared.machine.Handle.{Handle}
use Rattle.ffm_model.specs.declared.machine.Entry.{Entry}
use Rattle.ffm_model.specs.declared.machine.Call.{Call}
use Rattle.ffm_model.specs.declared.machine.Outcome.{Outcome}
use Rattle.ffm_model.specs.declared.machine.Outcome.TheVariants as outcome
use Rattle.ffm_model.specs.declared.objects.PendingMessage.{PendingMessage}
use Rattle.ffm_model.specs.declared.objects.ActorPhase.TheVariants.{Running}
use Rattle.ffm_model.specs.Actors.{is_service_of}
use Rattle.ffm_model.specs.State.{SpmState, State, phase_of}
use Rattle.ffm_model.specs.Panic.{is_dead, panic_effect}
use Rattle.ffm_model.specs.ClientCalls.{Move, is_service_panicked, move}
use Rattle.ffm_model.specs.Step.{step}
use Rattle.law_counting.specs.Pending.{is_panicked_outcome}
use Rattle.law_counting.proofs.Events.{EachKind}
use Rattle.law_counting.proofs.Parts.{is_plain}
use Rattle.law_counting.proofs.Returns.{panicked-alike}
use Rattle.law_counting.proofs.Steps.{step-kind}
use Rattle.law_counting.proofs.Turns.{is_sound}

-- a message of the actor a that a panic of p drops
abbrev pub is_lost : System → ℕ → ℕ → PendingMessage → Bool
is_lost s p a m = is_service_of s p m.service && (m.client.0 == a)

abbrev Panics : System → SpmState → ℕ → Outcome → SpmState → Type 0
Panics s b a o new = is_panicked_outcome o ≡ true → (phase_of b a ≡ Running) × (new ≡ panic_effect s b a)

no-panic : (s : System) (b : SpmState) (a : ℕ) (o : Outcome) (new : SpmState) → is_plain o ≡ true → Panics s b a o new
no-panic s b a outcome.Panicked new plain panicked = cc
no-panic s b a _ new plain panicked = cc

called-panic : (s : System) (b : SpmState) (a : ℕ) (x : Bool) (y z : SpmState) (o : Outcome) → is_plain o ≡ true → (let m : Move = if x then move o y else move outcome.Blocked z in Panics s b a m.outcome m.spm)
called-panic s b a true y z o plain = no-panic s b a o y plain
called-panic s b a false y z o plain = λ panicked. cc

kinds-panic : (s : System) (b : SpmState) (given : List Handle) (a : ℕ) (d : Call) → is_sound (phase_of b a) ≡ true → EachKind s b given a d (λ o new all. Panics s b a o new)
kinds-panic s b given a d sound = record {
  beside = λ running o doorbells sources plain. no-panic s b a o _ plain;
  waits = λ running mask panicked. cc;
  ends = λ running panicked. cc;
  wakes = λ mask n e panicked. cc;
  returns = λ o e. no-panic s b a o _ (sym (ap is_sound e) ∙ sound);
  joins = λ is n k e new panicked. cc;
  connects = λ running v free panicked. cc;
  calls = λ running k c n v held takes. called-panic s b a (is_dead c.phase) b _ (outcome.Value PSA_ERROR_COMMUNICATION_FAILURE) refl;
  asks = λ running v n vs stateless may. called-panic s b a (is_service_panicked s b v) b _ (outcome.Value PSA_ERROR_COMMUNICATION_FAILURE) refl;
  closes = λ running k c held. called-panic s b a (is_dead c.phase) _ _ outcome.Done refl;
  gets = λ running signal msg v is has first at k shown tells new panicked. cc;
  moves = λ running o k v plain. no-panic s b a o _ plain;
  marks = λ running n r panicked. cc;
  replies = λ running k status m held panicked. cc;
  owes = λ running k status m n held kind panicked. cc;
  panics = λ running panicked. (running, refl);
}

pub own-panic : (s : System) (st new : State) (e : Entry) → is_sound (phase_of st.spm e.actor.0) ≡ true → step s st e ≡ Some new → e.outcome ≡ outcome.Panicked → (phase_of st.spm e.actor.0 ≡ Running) × (new.spm ≡ panic_effect s st.spm e.actor.0)
own-panic s st new e sound is gone =
    let it = step-kind s st new e (λ o spm given. Panics s st.spm e.actor.0 o spm) (kinds-panic s st.spm st.handles_given e.actor.0 e.call sound) is in
    it.2 (panicked-alike it.0 e.outcome it.1 ∙ ap is_panicked_outcome gone)
