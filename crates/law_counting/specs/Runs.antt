-- What holds in each run of the machine.
-- Source: this simulator's reading of FF-M 1.0: a run may come to any order of enabled actors.
use Rattle.std.specs.Prelude.{◌≡◌, List, Some}
use Rattle.ffm_model.specs.declared.system.System.{System}
use Rattle.ffm_model.specs.declared.machine.Entry.{Entry}
use Rattle.ffm_model.specs.Memory.{ByteMap}
use Rattle.ffm_model.specs.State.{State}
use Rattle.ffm_model.specs.Step.{after}
use Rattle.ffm_model.specs.Names.{NamedState, named_after}

-- for every system, opening memory and run, P holds of the system, the entries and the state after them
abbrev pub InEachRun : (System → List Entry → State → Type 0) → Type 0
InEachRun P = (s : System) (m : ByteMap) (es : List Entry) (st : State) → after s m es ≡ Some st → P s es st

-- the same for the runs in which each handle shown is a name, and their names
abbrev pub InEachNamedRun : (System → List Entry → NamedState → Type 0) → Type 0
InEachNamedRun P = (s : System) (m : ByteMap) (es : List Entry) (w : NamedState) → named_after s m es ≡ Some w → P s es w
