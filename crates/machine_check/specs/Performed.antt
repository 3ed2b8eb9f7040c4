-- What a call makes of the checker's state.
-- Source: FF-M 1.0, by the machine's definitions. Public contracts cite `Knows` and `Performs`; the others serve the checker's own proof.
use Rattle.std.specs.Prelude.{ℕ, ℤ, pos, int_le, not, ◌≡◌, ◌&&◌, Bool, true, false, List, [], ◌∷◌, ◌++◌, Option, Some, None, Result, Ok, Err, if◌then◌else◌}
use Rattle.std.specs.List.{list_any}
use Rattle.std.specs.BTreeSet.{BTreeSet, contains}
use Rattle.std.specs.Ordering.{int_cmp}
use Rattle.ffm_model.specs.declared.system.System.{System}
use Rattle.ffm_model.specs.declared.system.ActorKind.{ActorKind}
use Rattle.ffm_model.specs.declared.machine.Entry.{Entry}
use Rattle.ffm_model.specs.declared.machine.Handle.{Handle}
use Rattle.ffm_model.specs.declared.machine.Memory.{Memory}
use Rattle.ffm_model.specs.declared.machine.Call.{Call}
use Rattle.ffm_model.specs.declared.machine.Call.TheVariants as call
use Rattle.ffm_model.specs.declared.machine.Outcome.{Outcome}
use Rattle.ffm_model.specs.declared.machine.Outcome.TheVariants.{Got}
use Rattle.ffm_model.specs.declared.objects.ActorPhase.{ActorPhase}
use Rattle.ffm_model.specs.declared.objects.ActorPhase.TheVariants as phase
use Rattle.ffm_model.specs.State.{phase_of, handle_eq}
use Rattle.ffm_model.specs.ClientCalls.{effect}
use Rattle.ffm_model.specs.Calls.{call_case, effect_of, error_effect}
use Rattle.ffm_model.specs.Step.{step}
use Rattle.machine_calls.specs.declared.machine.Machine.{Machine}
use Rattle.machine_calls.specs.Machine.{spm_of_objects, state_of}

-- a call with this outcome gave a handle: psa_get, or the return of psa_connect
abbrev pub gave_handle : ActorPhase → Call → Outcome → Bool
gave_handle p (call.Get signal msg) (Got m) = true
gave_handle (phase.Connected c) call.Resume o = true
gave_handle _ _ _ = false

abbrev pub given_after : Bool → List Handle → Handle → List Handle
given_after gave given h = if gave then given ++ h ∷ [] else given

abbrev pub phase_in : Machine → ℕ → ActorPhase
phase_in m a = phase_of (spm_of_objects m.objects) a

-- the outcome and the state are those due, and the handle is given where the call gives one; nothing is due at a PROGRAMMER ERROR
abbrev pub Attempts : System → ℕ → Call → Handle → Machine → Result (Option Outcome) Memory → Machine → Type 0
Attempts s a c h old (Ok (Some o)) new = (given : List Handle) → call_case s (state_of old given) a c h ≡ Some (effect o (state_of new (given_after (gave_handle (phase_in old a) c o) given h)))
Attempts s a c h old (Ok None) new = ((given : List Handle) → call_case s (state_of old given) a c h ≡ None) × (new ≡ old)
Attempts s a c h old (Err e) new = Unit {0}

-- the same with what a PROGRAMMER ERROR does
abbrev pub Performs : System → ℕ → Call → Handle → Machine → Result Outcome Memory → Machine → Type 0
Performs s a c h old (Ok o) new = (given : List Handle) → effect_of s (state_of old given) a c h ≡ effect o (state_of new (given_after (gave_handle (phase_in old a) c o) given h))
Performs s a c h old (Err e) new = Unit {0}

-- the number is one that a handle may have, and no handle of the set has it
abbrev pub is_left : BTreeSet ℤ → Handle → Bool
is_left set h = int_le (pos 1) h.0 && int_le h.0 (pos 0x3fffffff) && not (contains int_cmp set h.0)

-- the set has exactly the handles of the list
abbrev pub Knows : BTreeSet ℤ → List Handle → Type 0
Knows set given = (h : Handle) → contains int_cmp set h.0 ≡ list_any (handle_eq h) given

-- the entry is a step to the state that is kept, or it is none
abbrev pub Steps : System → Machine → List Handle → Entry → Result Bool Memory → Machine → BTreeSet ℤ → Type 0
Steps s old given e (Ok true) new known = (all : List Handle) × Knows known all × (step s (state_of old given) e ≡ Some (state_of new all))
Steps s old given e (Ok false) new known = step s (state_of old given) e ≡ None
Steps s old given e (Err x) new known = Unit {0}

-- what a PROGRAMMER ERROR of that kind of actor answers and leaves
abbrev pub Refuses : System → ActorKind → ℕ → Call → Machine → Result Outcome Memory → Machine → Type 0
Refuses s kind a c old (Ok o) new = (given : List Handle) → error_effect kind s (state_of old given) a c ≡ effect o (state_of new given)
Refuses s kind a c old (Err e) new = Unit {0}
