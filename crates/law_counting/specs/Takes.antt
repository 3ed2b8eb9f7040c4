-- How often the objects of a run are taken: connections and messages ever made, against the entries of the run.
-- Source: this profile's handles, whose generations end at 0xfffff; the standard leaves psa_handle_t open.
use Rattle.std.specs.Prelude.{ℕ, ◌≡◌, ◌+◌, ◌≤◌, Bool, not, List, length, count_by}
use Rattle.ffm_model.specs.declared.machine.Entry.{Entry}
use Rattle.ffm_model.specs.declared.objects.OpenConnection.{OpenConnection}
use Rattle.ffm_model.specs.State.{SpmState, phase_of}
use Rattle.ffm_model.specs.Signals.{is_panicked}
use Rattle.ffm_model.specs.Names.{NamedState}

-- the connection's client has not panicked
abbrev pub is_owned : SpmState → OpenConnection → Bool
is_owned b c = not (is_panicked (phase_of b c.client.0))

-- how many connections have such a client
abbrev pub owned : SpmState → ℕ
owned b = count_by (is_owned b) b.connections

-- the greatest generation that a handle below 0x40000000 can show
abbrev pub last_generation : ℕ
last_generation = 0xfffff

-- the slots that a run took, one for each connection and one for each message, against its entries
pub record TakesFew (es : List Entry) (w : NamedState) : Type 0 where
  -- each entry makes one connection at most
  pub connections : w.state.spm.connections_made ≤ length es
  -- each connection ever made took one slot
  pub connection_slots : length w.names.connections ≡ w.state.spm.connections_made
  -- each message of the state has one slot
  pub message_slots : length w.names.messages ≡ length w.state.spm.messages
  -- each entry makes one message at most, and a panic one more for each connection of the partition, which then has no owner any more
  pub messages : length w.names.past_messages + owned w.state.spm ≤ length es + w.state.spm.connections_made
