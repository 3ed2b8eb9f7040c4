-- Words for the entries of a written trace, and for what the machine says of it.
-- Source: this simulator's.
use Rattle.std.specs.Prelude.{ℕ, ℤ, zero, suc, ◌-◌, pos, negsuc, Bool, not, ◌&&◌, List, [], ◌∷◌, ◌++◌, take, drop, replicate, map, Option, is_some}
use Rattle.std.specs.Option.{option_map}
use Rattle.ffm_model.specs.declared.system.System.{System}
use Rattle.ffm_model.specs.declared.machine.Call.{Call}
use Rattle.ffm_model.specs.declared.machine.Entry.{Entry}
use Rattle.ffm_model.specs.declared.machine.Handle.{Handle}
use Rattle.ffm_model.specs.declared.machine.Message.{Message}
use Rattle.ffm_model.specs.declared.machine.Outcome.{Outcome}
use Rattle.ffm_model.specs.declared.machine.Sid.{Sid}
use Rattle.ffm_model.specs.declared.machine.Status.{Status}
use Rattle.ffm_model.specs.Memory.{ByteMap}
use Rattle.ffm_model.specs.Reach.{read_reach, write_reach}
use Rattle.ffm_model.specs.Step.{after}

-- an actor's call, and what the machine answers
abbrev pub entry : ℕ → Call → Outcome → Entry
entry actor c o = record { actor = record { 0 = actor }; call = c; outcome = o }

abbrev pub handle : ℕ → Handle
handle n = record { 0 = pos n }

abbrev pub sid : ℕ → Sid
sid n = record { 0 = n }

abbrev pub status : ℤ → Status
status z = record { 0 = z }

-- four sizes, of which these are given
abbrev pub four : List ℕ → List ℕ
four sizes = take 4 (sizes ++ replicate 4 0)

-- what psa_get tells: the kind, the handle, the client ID, the rhandle, and the sizes of the given vectors
abbrev pub message : ℤ → ℕ → ℤ → ℕ → List ℕ → List ℕ → Message
message kind h client rhandle input output =
    record { kind = kind; handle = handle h; client_id = client; rhandle = rhandle; in_size = four input; out_size = four output }

-- memory with nothing in it
abbrev pub zeros : ByteMap
zeros = λ x. 0

-- the entries are a run, and after them the machine takes this entry
abbrev pub takes_next : System → ByteMap → List Entry → Entry → Bool
takes_next s m es e = is_some (after s m (es ++ e ∷ []))

-- the entries are a run, and after them the machine doesn't take this entry
abbrev pub refuses_next : System → ByteMap → List Entry → Entry → Bool
refuses_next s m es e = is_some (after s m es) && not (takes_next s m es e)

-- the entries with another one at a place, counted from 1
abbrev pub with_entry : ℕ → Entry → List Entry → List Entry
with_entry place e es = take (place - 1) es ++ e ∷ drop place es

-- the clients of the connections that a run leaves, in the order of their making
abbrev pub clients_left : System → ByteMap → List Entry → Option (List ℕ)
clients_left s m es = option_map (λ st. map (λ c. c.client.0) st.spm.connections) (after s m es)

-- whether an actor reaches an address after a run, to read
abbrev pub may_read_after : System → ByteMap → List Entry → ℕ → ℕ → Option Bool
may_read_after s m es a x = option_map (λ st. read_reach s st.spm a x) (after s m es)

-- whether it reaches the address to write
abbrev pub may_write_after : System → ByteMap → List Entry → ℕ → ℕ → Option Bool
may_write_after s m es a x = option_map (λ st. write_reach s st.spm a x) (after s m es)
