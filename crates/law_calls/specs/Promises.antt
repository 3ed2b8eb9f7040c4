-- What every run of the machine keeps, in the words of the headline: no call lacks a connection or message object;
-- CONNECTION_BUSY comes only where the client's declared connections to the service are in use; and every byte read or
-- changed lies within its actor's reach.
-- Source: FF-M 1.0, psa_connect and the isolation of partitions; the declared number of connections is this profile's.
use Rattle.std.specs.Prelude.{ℕ, ◌≡◌, ◌++◌, ◌∷◌, List, Some, false}
use Rattle.ffm_model.specs.declared.constants.TheConstants.{PSA_ERROR_CONNECTION_BUSY}
use Rattle.ffm_model.specs.declared.machine.Call.TheVariants as call
use Rattle.ffm_model.specs.declared.machine.Entry.{Entry}
use Rattle.ffm_model.specs.declared.machine.Outcome.TheVariants as outcome
use Rattle.ffm_model.specs.declared.machine.Sid.{Sid}
use Rattle.ffm_model.specs.declared.system.System.{System}
use Rattle.ffm_model.specs.Actors.{budget_of, service_at}
use Rattle.ffm_model.specs.ClientCalls.{is_service_panicked}
use Rattle.ffm_model.specs.Memory.{ByteMap}
use Rattle.ffm_model.specs.Reach.{AgreeWithin, StepsAlike, write_reach}
use Rattle.ffm_model.specs.State.{SpmState, State, in_use}
use Rattle.ffm_model.specs.Step.{after, step}
use Rattle.law_counting.specs.Rooms.{RoomFor}

-- the actor's connections to the service are as many as were declared, and the service's partition isn't panicked
pub record AllInUse (s : System) (b : SpmState) (a : ℕ) (sid : Sid) : Type 0 where
  pub service : ℕ
  pub found : service_at s sid ≡ Some service
  pub declared : budget_of s a service ≡ Some (in_use b a service)
  pub alive : is_service_panicked s b service ≡ false

-- the state after some entries, and the entry that comes next
pub record IsNextEntry (s : System) (m : ByteMap) (es : List Entry) (st : State) (e : Entry) : Type 0 where
  pub before : List Entry
  pub later : List Entry
  pub split : es ≡ before ++ e ∷ later
  pub reached : after s m before ≡ Some st

-- what these entries keep, from that memory on
pub record KeepsHeadline (s : System) (m : ByteMap) (es : List Entry) : Type 0 where
  -- at each entry, no call lacks a connection or message object
  pub objects : (st : State) (e : Entry) → IsNextEntry s m es st e → RoomFor s st.spm
  -- each psa_connect that the manager answers with CONNECTION_BUSY: the client's declared connections to the service are in use
  pub busy : (st : State) (e : Entry) (sid : Sid) (version : ℕ) → IsNextEntry s m es st e → e.call ≡ call.Connect sid version → e.outcome ≡ outcome.Value PSA_ERROR_CONNECTION_BUSY → AllInUse s st.spm e.actor.0 sid
  -- a byte outside of the actor's reach isn't changed
  pub changed : (st new : State) (e : Entry) → IsNextEntry s m es st e → step s st e ≡ Some new → (x : ℕ) → write_reach s st.spm e.actor.0 x ≡ false → new.memory x ≡ st.memory x
  -- bytes outside of it tell nothing: over any other memory that agrees within it, the same entry is a step, and makes no other difference
  pub read : (st other : State) (e : Entry) → IsNextEntry s m es st e → AgreeWithin s e.actor.0 st other → StepsAlike st other (step s st e) (step s other e)
