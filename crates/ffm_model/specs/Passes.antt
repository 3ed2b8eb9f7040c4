-- What a simulated actor sees of a shared manager: a pass has an actor and a record, the entries that it was answered.
-- Source: this simulator's.
use Rattle.std.specs.Prelude.{◌≡◌, ℕ, List, [], ◌∷◌, ◌++◌, true, false}
use Rattle.ffm_model.specs.declared.machine.Entry.{Entry}
use Rattle.ffm_model.specs.declared.machine.Call.{Call}
use Rattle.ffm_model.specs.declared.machine.Call.TheVariants as call
use Rattle.ffm_model.specs.declared.machine.Answer.{Answer}
use Rattle.ffm_model.specs.declared.machine.Answer.TheVariants as answer
use Rattle.ffm_model.specs.Records.{outcomes_of, ends_blocked}
use Rattle.ffm_model.specs.Plans.{is_stop}

-- a new call may be made: none of the actor's waits for its return, and it isn't a return
abbrev pub MayIssue : List Entry → Call → Type 0
MayIssue own c = (ends_blocked (outcomes_of own) ≡ false) × (c ≡ call.Resume → ⊥)

abbrev pub MayResume : List Entry → Type 0
MayResume own = ends_blocked (outcomes_of own) ≡ true

-- the entry is added, is the actor's and has the call; a stop makes the pass done
pub record AddsEntry (a : ℕ) (c : Call) (e : Entry) (old new : List Entry) (done : Type 0) : Type 0 where
  pub added : new ≡ old ++ e ∷ []
  pub actor : e.actor.0 ≡ a
  pub called : e.call ≡ c
  pub stopped : is_stop c ≡ true → done

-- the record after an answer to the actor's call, and when it makes the pass done
abbrev pub IsAnswered : ℕ → Call → Answer → List Entry → List Entry → Type 0 → Type 0
IsAnswered a c (answer.Made place e) old new done = AddsEntry a c e old new done
IsAnswered a c answer.Gone old new done = (new ≡ old) × done
IsAnswered a c answer.Over old new done = (new ≡ old) × done
IsAnswered a c answer.Full old new done = (new ≡ old) × done
IsAnswered a c answer.NotYet old new done = new ≡ old
