-- Who the actors of a system are, which services they may use, and which versions of a service are accepted.
-- Source: FF-M 1.0, client IDs and RoT Service access (`psa/client.h`, `psa_connect` and `psa_version`; the manifest's `dependencies`, `non_secure_clients`, `version_policy`); FF-M 1.1 Extensions, stateless RoT Services, with handles of this profile. The device and the numbers of connections are this profile's.
use Rattle.std.specs.Prelude.{ℕ, ℤ, pos, negsuc, ◌+◌, ◌-◌, ◌==◌, nat_lt, nat_le, int_lt, int_le, Bool, true, false, not, ◌&&◌, if◌then◌else◌, List, [], ◌∷◌, length, Option, Some, None, position, find, is_some, slice_get}
use Rattle.std.specs.Option.{option_map, option_map_or}
use Rattle.std.specs.Int.{w32, cast_unsigned}
use Rattle.ffm_model.specs.declared.constants.TheConstants.{MAX_STATELESS, STATELESS_BASE}
use Rattle.ffm_model.specs.declared.system.System.{System}
use Rattle.ffm_model.specs.declared.system.Source.{Source}
use Rattle.ffm_model.specs.declared.system.Policy.{Policy}
use Rattle.ffm_model.specs.declared.system.Policy.TheVariants.{Strict, Relaxed}
use Rattle.ffm_model.specs.declared.system.ActorKind.{ActorKind}
use Rattle.ffm_model.specs.declared.system.ActorKind.TheVariants.{Partition, Client, Device}
use Rattle.ffm_model.specs.declared.machine.Handle.{Handle}
use Rattle.ffm_model.specs.declared.machine.Sid.{Sid}
use Rattle.ffm_model.specs.Counts.{ActorCounts}

-- there is a device where there is an interrupt source
abbrev pub has_device : List Source → Bool
has_device [] = false
has_device (x ∷ xs) = true

abbrev pub device_count : List Source → ℕ
device_count [] = 0
device_count (x ∷ xs) = 1

-- actors are numbered from 0: partitions, then non-secure clients, then the device
abbrev pub actor_count : System → ℕ
actor_count s = length s.partitions + length s.clients + device_count s.sources

abbrev pub counts_of : System → ActorCounts
counts_of s = record { partitions = length s.partitions; clients = length s.clients; device = has_device s.sources }

abbrev pub kind_of : System → ℕ → ActorKind
kind_of s a =
    if nat_lt a (length s.partitions)
    then Partition
    else (if nat_lt a (length s.partitions + length s.clients) then Client else Device)

abbrev pub is_partition : ActorKind → Bool
is_partition Partition = true
is_partition _ = false

abbrev pub is_client : ActorKind → Bool
is_client Client = true
is_client _ = false

-- a partition's client ID is its place plus one, that of the k-th non-secure client is -k, and the device has none
abbrev pub id_of_kind : ActorKind → ℕ → ℕ → ℤ
id_of_kind Partition partitions a = pos (a + 1)
id_of_kind Client partitions a = negsuc (a - partitions)
id_of_kind Device partitions a = pos 0

-- the client_id of psa_msg_t
abbrev pub client_id_of : System → ℕ → ℤ
client_id_of s a = id_of_kind (kind_of s a) (length s.partitions) a

-- the place of the service with a SID
abbrev pub service_at : System → Sid → Option ℕ
service_at s sid = position (λ v. v.sid.0 == sid.0) s.services

-- how many connections an actor may have to a service, where it may use it at all
abbrev pub budget_of : System → ℕ → ℕ → Option ℕ
budget_of s a service = option_map (λ b. b.count) (find (λ b. (b.client.0 == a) && (b.service == service)) s.budgets)

-- a partition may use the services that it depends on, and a non-secure client those for non-secure clients
abbrev pub permits : System → ℕ → ℕ → Bool
permits s a service = is_some (budget_of s a service)

-- version_policy: STRICT takes the service's own version alone, RELAXED each one up to it
abbrev pub version_fits : Policy → ℕ → ℕ → Bool
version_fits Strict own asked = own == asked
version_fits Relaxed own asked = nat_le asked own

-- clients call a stateless service by its handle, and don't connect to it
abbrev pub is_stateless : System → ℕ → Bool
is_stateless s service = option_map_or (λ v. not (v.stateless == 0)) (slice_get s.services service) false

-- the place of the stateless service with an index
abbrev pub stateless_at : System → ℕ → Option ℕ
stateless_at s index = if index == 0 then None else position (λ v. v.stateless == index) s.services

-- the index that a stateless handle shows: it is that above 0x40000000, from 1 to 32
abbrev pub stateless_index : Handle → Option ℕ
stateless_index h = if int_lt (pos STATELESS_BASE) h.0 && int_le h.0 (pos (STATELESS_BASE + MAX_STATELESS)) then Some (cast_unsigned w32 h.0 - STATELESS_BASE) else None

-- the partition that a service belongs to
abbrev pub owner_of : System → ℕ → Option ℕ
owner_of s service = option_map (λ v. v.owner) (slice_get s.services service)

abbrev pub is_service_of : System → ℕ → ℕ → Bool
is_service_of s p service = option_map_or (λ v. v.owner == p) (slice_get s.services service) false
