-- Each entry of a run is a step from the state after those before it.
use Rattle.std.proofs.Common.{◌≡◌, List, [], ◌∷◌, ◌++◌, refl, subst}
use Rattle.std.specs.Prelude.{Option, Some, None, IsSome, fold}
use Rattle.ffm_model.proofs.RunLemmas.{none-stays}
use Rattle.ffm_model.specs.declared.machine.Entry.{Entry}
use Rattle.ffm_model.specs.declared.system.System.{System}
use Rattle.ffm_model.specs.Memory.{ByteMap}
use Rattle.ffm_model.specs.State.{State, opening}
use Rattle.ffm_model.specs.Step.{Run, after, step, step_on}
use Rattle.law_counting.proofs.Rooms.{fitting-room}
use Rattle.law_counting.proofs.Runs.{run-objects}
use Rattle.law_calls.proofs.Changed.{step-outside}
use Rattle.law_calls.proofs.Told.{step-alike}
use Rattle.law_calls.proofs.Within.{run-four}
use Rattle.law_calls.specs.Promises.{IsNextEntry, KeepsHeadline}
use Rattle.law_calls.proofs.Busy.{step-busy}

-- a run goes on from a step
went_on : (s : System) (o : Option State) (es : List Entry) → IsSome (fold (step_on s) o es) → (new : State) × (o ≡ Some new)
went_on s (Some new) es h = (new, refl)
went_on s None es h = absurd (let none = none-stays s es in cc)

next_from : (s : System) (o : Option State) (before later : List Entry) (st : State) (e : Entry) → fold (step_on s) o before ≡ Some st → IsSome (fold (step_on s) o (before ++ e ∷ later)) → (new : State) × (step s st e ≡ Some new)
next_from s o [] later st e here h = went_on s (step s st e) later (subst (λ (x : Option State). IsSome (fold (step_on s) (step_on s x e) later)) here h)
next_from s o (x ∷ xs) later st e here h = next_from s (step_on s o x) xs later st e here h

next_step : (s : System) (m : ByteMap) (es : List Entry) (st : State) (e : Entry) → Run s m es → IsNextEntry s m es st e → (new : State) × (step s st e ≡ Some new)
next_step s m es st e run at = next_from s (Some (opening s m)) at.before at.later st e at.reached (subst (λ (xs : List Entry). IsSome (after s m xs)) at.split run)

pub run_keeps : (s : System) (m : ByteMap) (es : List Entry) → Run s m es → KeepsHeadline s m es
run_keeps s m es run = record {
  objects = λ st e at. fitting-room s st.spm (run-objects s m at.before st at.reached);
  busy = λ st e sid version at calls answers. let next = next_step s m es st e run at in step-busy s st next.0 e sid version next.1 calls answers;
  changed = λ st new e at goes. step-outside s st (run-four s m at.before st at.reached) e new goes;
  read = λ st other e at agree. step-alike s st other e agree;
}
