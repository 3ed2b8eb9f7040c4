-- How texts about a trace name a system's actors, services and signals.
-- Source: this simulator's; the names are those of the manifests of FF-M 1.0, the calls those of `psa/client.h`.
use Rattle.std.specs.Prelude.{ℕ, ℤ, if◌then◌else◌, List, [], ◌∷◌, ◌++◌, map, slice_get, codes}
use Rattle.std.specs.Option.{option_map_or}
use Rattle.std.specs.Ordering.{int_eq}
use Rattle.std.specs.Str.{bytes_eq}
use Rattle.ffm_model.specs.declared.constants.TheConstants.{PSA_IPC_CONNECT, PSA_IPC_DISCONNECT}
use Rattle.ffm_model.specs.declared.system.System.{System}
use Rattle.ffm_model.specs.declared.system.Source.{Source}
use Rattle.ffm_model.specs.Actors.{counts_of}
use Rattle.ffm_model.specs.TraceText.{Word, actor_word}
use Rattle.view_texts.specs.Columns.{left, widest}

-- the name of a partition or a client, or `device`
unfoldable pub actor_name : System → ℕ → Word
actor_name s a = option_map_or (λ n. n) (slice_get (map (λ p. p.name) s.partitions ++ s.clients) a) (codes "device")

-- the bytes of the device's name, where there is one
abbrev pub device_width : List Source → ℕ
device_width [] = 0
device_width (x ∷ xs) = 6

-- the bytes of an actor's longest name
unfoldable pub actor_width : System → ℕ
actor_width s = widest (widest (device_width s.sources) (map (λ p. p.name) s.partitions)) s.clients

-- the bytes of the longest name of an actor or a service
unfoldable pub name_width : System → ℕ
name_width s = widest (actor_width s) (map (λ v. v.name) s.services)

-- an actor's name, and its word in a trace
unfoldable pub actor_column : System → ℕ → ℕ → List ℕ
actor_column s width a = left width (actor_name s a) ++ (codes "  " ++ left 3 (actor_word (counts_of s) a))

-- the name of the service at a place
unfoldable pub service_name : System → ℕ → Word
service_name s service = option_map_or (λ v. v.name) (slice_get s.services service) (codes "no service")

-- a name, and that of its owner where it is another
abbrev pub name_of_owner : Word → Word → List ℕ
name_of_owner name owner = if bytes_eq owner name then name else name ++ (codes " of " ++ owner)

-- a service's name, and its partition's where that is another
unfoldable pub service_text : System → ℕ → List ℕ
service_text s service = option_map_or (λ v. name_of_owner v.name (actor_name s v.owner)) (slice_get s.services service) (codes "no service")

-- the call by which a message of that kind was made
unfoldable pub call_of_kind : ℤ → Word
call_of_kind kind =
    if int_eq kind PSA_IPC_CONNECT then codes "psa_connect" else (if int_eq kind PSA_IPC_DISCONNECT then codes "psa_close" else codes "psa_call")
