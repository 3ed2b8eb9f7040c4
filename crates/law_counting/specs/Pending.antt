-- What an actor's last entry says of its phase.
-- Source: this simulator's: a call that waits is answered Blocked, and the actor's next entry is its return.
use Rattle.std.specs.Prelude.{ℕ, ◌≡◌, Bool, true, false, not, ◌&&◌, ◌||◌, List, [], ◌∷◌}
use Rattle.ffm_model.specs.declared.system.System.{System}
use Rattle.ffm_model.specs.declared.machine.Entry.{Entry}
use Rattle.ffm_model.specs.declared.machine.Outcome.{Outcome}
use Rattle.ffm_model.specs.declared.machine.Outcome.TheVariants as outcome
use Rattle.ffm_model.specs.declared.objects.ActorPhase.{ActorPhase}
use Rattle.ffm_model.specs.declared.objects.ActorPhase.TheVariants.{Blocked, Waiting, Ready, Connected}
use Rattle.ffm_model.specs.State.{State, phase_of}
use Rattle.ffm_model.specs.Signals.{enabled, is_panicked, may_resume}
use Rattle.ffm_model.specs.Records.{entries_of, outcomes_of, ends_blocked}

-- a call of the actor waits for its return
abbrev pub is_pending : ActorPhase → Bool
is_pending Blocked = true
is_pending (Waiting mask) = true
is_pending (Ready o) = true
is_pending (Connected c) = true
is_pending _ = false

abbrev pub is_panicked_outcome : Outcome → Bool
is_panicked_outcome outcome.Panicked = true
is_panicked_outcome _ = false

-- the last outcome is Panicked, so the actor panicked at its own call
unfoldable pub ends_panicked : List Outcome → Bool
ends_panicked [] = false
ends_panicked (o ∷ []) = is_panicked_outcome o
ends_panicked (o ∷ p ∷ os) = ends_panicked (p ∷ os)

-- what an actor was answered, in order
abbrev pub answers_to : ℕ → List Entry → List Outcome
answers_to a es = outcomes_of (entries_of a es)

pub record ReturnsDue (s : System) (es : List Entry) (st : State) : Type 0 where
  -- an actor's last entry is Blocked exactly where its phase is Blocked, Waiting, Ready or Connected, or it is Panicked and not at its own call, but for another's reply
  pub last : (a : ℕ) → ends_blocked (answers_to a es) ≡ (is_pending (phase_of st.spm a) || (is_panicked (phase_of st.spm a) && not (ends_panicked (answers_to a es))))
  -- so an actor that is enabled returns from a call exactly where its last entry is Blocked
  pub enabled_actors : (a : ℕ) → enabled s st.spm a ≡ true → may_resume (phase_of st.spm a) ≡ ends_blocked (answers_to a es)
