-- Which bytes the events of actors change.
-- Source: FF-M 1.0, isolation of partitions.
use Rattle.std.specs.Prelude.{ℕ, ◌≡◌, false, Some}
use Rattle.ffm_model.specs.declared.system.System.{System}
use Rattle.ffm_model.specs.declared.machine.Call.{Call}
use Rattle.ffm_model.specs.declared.machine.Entry.{Entry}
use Rattle.ffm_model.specs.declared.machine.Handle.{Handle}
use Rattle.ffm_model.specs.State.{State}
use Rattle.ffm_model.specs.Calls.{effect_of}
use Rattle.ffm_model.specs.Step.{step}
use Rattle.ffm_model.specs.Reach.{write_reach}

-- no entry that is a step changes a byte outside of its actor's reach
abbrev pub StepsChangeReach : System → State → Type 0
StepsChangeReach s st = (e : Entry) (new : State) → step s st e ≡ Some new → (x : ℕ) → write_reach s st.spm e.actor.0 x ≡ false → new.memory x ≡ st.memory x

-- no call of an actor does, with PROGRAMMER ERRORs and panics
abbrev pub CallsChangeReach : System → State → Type 0
CallsChangeReach s st = (a : ℕ) (c : Call) (h : Handle) (x : ℕ) → write_reach s st.spm a x ≡ false → (effect_of s st a c h).state.memory x ≡ st.memory x
