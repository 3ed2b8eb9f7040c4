-- What a step leaves.
use Rattle.std.proofs.Common.{◌≡◌, List, [], ◌∷◌, refl, subst}
use Rattle.std.specs.Prelude.{Option, Some, None, fold}
use Rattle.ffm_model.specs.declared.system.System.{System}
use Rattle.ffm_model.specs.declared.machine.Call.{Call}
use Rattle.ffm_model.specs.declared.machine.Entry.{Entry}
use Rattle.ffm_model.specs.declared.machine.Handle.{Handle}
use Rattle.ffm_model.specs.Calls.{effect_of}
use Rattle.ffm_model.specs.Memory.{ByteMap}
use Rattle.ffm_model.specs.State.{State, opening}
use Rattle.ffm_model.specs.Step.{step, step_on, after, handle_shown}
use Rattle.ffm_model.proofs.StepLemmas.{step-leaves}

-- what holds of what each call leaves, holds of what a step leaves
pub step-has : (P : State → Type 0) (s : System) (st new : State) (e : Entry) → step s st e ≡ Some new → ((c : Call) (h : Handle) → P (effect_of s st e.actor.0 c h).state) → P new
step-has P s st new e h each = subst P (step-leaves s st new e h) (each e.call (handle_shown e.outcome))

fold-has : (P : State → Type 0) (s : System) → ((st new : State) (e : Entry) → P st → step s st e ≡ Some new → P new)
    → (es : List Entry) (o : Option State) (new : State) → ((st : State) → o ≡ Some st → P st) → fold (step_on s) o es ≡ Some new → P new
fold-has P s keeps [] o new here h = here new h
fold-has P s keeps (e ∷ es) o new here h =
    let next : (o : Option State) → ((st : State) → o ≡ Some st → P st) → (y : State) → step_on s o e ≡ Some y → P y =
    elim [ None ↦ λ here y k. absurd (cc) | Some st ↦ λ here y k. keeps st y e (here st refl) k ] in
    fold-has P s keeps es (step_on s o e) new (next o here) h

-- what holds of the opening and through each step, holds in each state of a run
pub run-has : (P : State → Type 0) (s : System) (m : ByteMap) → P (opening s m) → ((st new : State) (e : Entry) → P st → step s st e ≡ Some new → P new)
    → (es : List Entry) (st : State) → after s m es ≡ Some st → P st
run-has P s m first keeps es st h = fold-has P s keeps es (Some (opening s m)) st (λ x e. let it : opening s m ≡ x = cc in subst P it first) h
