-- The state of the machine that the tables and the image of a manager stand for.
-- Source: this manager's; FF-M 1.0 leaves open how a manager keeps its objects, and which numbers its handles are.
use Rattle.std.specs.Prelude.{◌≡◌, ℕ, ◌≤◌, is_some, List, get_or, All}
use Rattle.ffm_model.specs.declared.machine.Handle.{Handle}
use Rattle.ffm_model.specs.declared.scenario.Bytes.{Bytes}
use Rattle.ffm_model.specs.State.{State}
use Rattle.memory_image.specs.Pieces.{byte_at}
use Rattle.object_pools.specs.declared.slot.Slot.{Slot}
use Rattle.handle_table.specs.declared.handles.Family.{Family}
use Rattle.handle_table.specs.declared.handles.Family.TheVariants.{Connection, Message}
use Rattle.handle_table.specs.Handles.{GivesFresh, handle_at, indices_of}
use Rattle.spm_tables.specs.TablesView.{TablesView, spm_of}

-- the last generation that each index of a family has had
abbrev pub generations_of : TablesView → Family → List ℕ
generations_of d Connection = d.connections.generations
generations_of d Message = d.messages.generations

-- the handle names a slot with a generation that was taken
pub record NamesTaken (d : TablesView) (h : Handle) : Type 0 where
  pub family : Family
  pub slot : Slot
  pub named : h ≡ handle_at family slot
  pub first : 1 ≤ slot.generation
  pub taken : slot.generation ≤ get_or (generations_of d family) slot.index 0

pub record Stands (d : TablesView) (bytes : List Bytes) (st : State) : Type 0 where
  -- the connections and messages, in the order of their making and arrival, with equal fields, a connection with the handle kept beside it, a delivered message with that of its slot; how many connections were made; phases, doorbells and flags
  pub spm : st.spm ≡ spm_of d
  -- each byte
  pub memory : st.memory ≡ byte_at bytes
  -- each given handle names a slot with a generation that was taken
  pub given : All (NamesTaken d) st.handles_given
  -- and none is that of a generation still to come, or of a live slot whose connection has no handle
  pub connections : GivesFresh Connection (indices_of Connection) (λ c. is_some c.handle) d.connections st.handles_given
  -- or whose message has none
  pub messages : GivesFresh Message (indices_of Message) (λ m. m.delivered) d.messages st.handles_given
