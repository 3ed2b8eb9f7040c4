-- The connections of a pool, as the machine's state has them.
-- Source: FF-M 1.0, IPC model: a connection from psa_connect to psa_close.
use Rattle.std.specs.Prelude.{◌≡◌, ℕ, ◌+◌, ◌==◌, nat_le, Bool, ◌&&◌, List, [], ◌∷◌, map, All, IfSome, ◌++◌}
use Rattle.ffm_model.specs.declared.objects.OpenConnection.{OpenConnection}
use Rattle.ffm_model.specs.State.{Rises, SpmState}
use Rattle.object_pools.specs.Pool.{Places}
use Rattle.handle_table.specs.declared.connections.Connection.{Connection as TheConnection}
use Rattle.handle_table.specs.declared.handles.Family.TheVariants.{Connection}
use Rattle.handle_table.specs.Handles.{handle_at}

-- the connections in the order of their making
abbrev pub connections : Places OpenConnection → List OpenConnection
connections p = map (λ h. h.item) p.held

-- a state that has these connections and nothing else
abbrev pub spm_of_connections : Places OpenConnection → SpmState
spm_of_connections p = record { connections = connections p; connections_made = p.takes; messages = []; phases = []; doorbells = []; sources = [] }

-- a connection is added last
abbrev pub with_started : SpmState → OpenConnection → SpmState
with_started b c = record b { connections = b.connections ++ c ∷ []; connections_made = b.connections_made + 1 }

-- what is told of a connection
abbrev pub connection_of : OpenConnection → TheConnection
connection_of c = record { owner = c.client; service = c.service; phase = c.phase; rhandle = c.rhandle; serial = c.serial }

-- a connection of this owner with a serial number from this one on
abbrev pub is_owned_from : ℕ → ℕ → OpenConnection → Bool
is_owned_from owner from c = (c.client.0 == owner) && nat_le from c.serial

-- what every table of connections keeps
pub record IsTable (p : Places OpenConnection) : Type 0 where
  pub rising : Rises 0 (connections p) p.takes
  -- the handle that a client was told is that of the connection's slot
  pub told : All (λ h. IfSome h.item.handle (λ k. k ≡ handle_at Connection h.slot)) p.held
