-- The handles that a named run shows: no two slots have one name, and a name that is due was never shown.
-- Source: this profile's choice of handles; FF-M 1.0 asks that a handle that was closed is told from later ones.
use Rattle.std.specs.Prelude.{ℕ, pos, int_le, ◌≡◌, ◌+◌, ◌≤◌, true, List, length, count_by, Some}
use Rattle.ffm_model.specs.declared.constants.TheConstants.{MAX_ENTRIES}
use Rattle.ffm_model.specs.declared.system.System.{System}
use Rattle.ffm_model.specs.declared.machine.Call.{Call}
use Rattle.ffm_model.specs.declared.machine.Entry.{Entry}
use Rattle.ffm_model.specs.declared.machine.Handle.{Handle}
use Rattle.ffm_model.specs.State.{fresh, handle_eq}
use Rattle.ffm_model.specs.Names.{NamedState, NamesSoFar, name_due, name_of}

-- how many of the slots ever taken have the handle as their name
abbrev pub slots_named : NamesSoFar → Handle → ℕ
slots_named k h = count_by (λ t. handle_eq h (name_of 0 t)) k.connections + count_by (λ t. handle_eq h (name_of 512 t)) k.past_messages

pub record NamesFit (s : System) (es : List Entry) (w : NamedState) : Type 0 where
  -- no two slots that were ever taken have one name
  pub distinct : (h : Handle) → slots_named w.names h ≤ 1
  -- each handle given is the name of a slot that was taken
  pub given : (h : Handle) → count_by (handle_eq h) w.state.handles_given ≤ slots_named w.names h
  -- the name that a call has to show was never given, so it is a fresh handle where it is one at all
  pub new : (a : ℕ) (c : Call) (h : Handle) → name_due s w.state a c w.names ≡ Some h → int_le h.0 (pos 0x3fffffff) ≡ true → fresh w.state h ≡ true
  -- and so it is in a run of at most so many entries, which can go on with names
  pub due : (a : ℕ) (c : Call) (h : Handle) → length es ≤ MAX_ENTRIES → name_due s w.state a c w.names ≡ Some h → fresh w.state h ≡ true
