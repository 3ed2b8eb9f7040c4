-- Which actors may use which services, and how many connections each may have.
-- Source: FF-M 1.0, a manifest's `dependencies` and `non_secure_clients`, and FF-M 1.1, `connection_based`; the declared
-- number of connections is this profile's.
use Rattle.std.specs.Prelude.{ℕ, Bool, ◌&&◌, if◌then◌else◌, List, ◌++◌, length, Some, None, map, fold}
use Rattle.std.specs.List.{list_any, filter_map, flat_map, enumerate_from}
use Rattle.std.specs.Str.{bytes_eq}
use Rattle.ffm_model.specs.declared.system.Budget.{Budget}
use Rattle.ffm_model.specs.ManifestItems.{ManifestRecord, ServiceRecord}
use Rattle.ffm_model.specs.PartsItems.{PartsRecord, ConnectionRecord}
use Rattle.ffm_model.specs.Layout.{Located, located_from}

-- the services of all partitions, in manifest order
abbrev pub services_in : PartsRecord → List (Located ServiceRecord)
services_in p = located_from (λ m. m.services) 0 p.manifests

-- an actor that may use a service, by their places and their names, and whether it connects to it
pub record Permitted : Type 0 where
  pub client : ℕ
  pub client_name : List ℕ
  pub service : ℕ
  pub service_name : List ℕ
  pub connects : Bool

-- the services that an actor may use, in order
abbrev pub permitted_to : ℕ → List ℕ → (ServiceRecord → Bool) → List (Located ServiceRecord) → List Permitted
permitted_to client name may_use services =
    filter_map (λ e. if may_use e.1.value then Some (record { client = client; client_name = name; service = e.0; service_name = e.1.value.name; connects = e.1.value.connection_based }) else None)
    (enumerate_from 0 services)

-- the partition lists the service among its dependencies
abbrev pub depends_on : ManifestRecord → ServiceRecord → Bool
depends_on m v = list_any (bytes_eq v.name) m.dependencies

-- a partition may use the services that it depends on
abbrev pub permitted_to_partition : List (Located ServiceRecord) → ℕ × ManifestRecord → List Permitted
permitted_to_partition services e = permitted_to e.0 e.1.name (depends_on e.1) services

-- the service is for non-secure clients
abbrev pub permitted_to_client : List (Located ServiceRecord) → ℕ × List ℕ → List Permitted
permitted_to_client services e = permitted_to e.0 e.1 (λ v. v.nonsecure) services

-- all pairs of an actor and a service that it may use, in the order of actors and then of services
abbrev pub permitted : PartsRecord → List Permitted
permitted p =
    flat_map (permitted_to_partition (services_in p)) (enumerate_from 0 p.manifests)
    ++ flat_map (permitted_to_client (services_in p)) (enumerate_from (length p.manifests) p.clients)

-- the item of `connections` is for this pair
abbrev pub is_for : Permitted → ConnectionRecord → Bool
is_for pair c = bytes_eq c.client pair.client_name && bytes_eq c.service pair.service_name

-- one connection, unless `connections` says otherwise; of several items the last one counts; none to a stateless service
abbrev pub count_for : List ConnectionRecord → Permitted → ℕ
count_for connections pair = if pair.connects then fold (λ count c. if is_for pair c then c.count else count) 1 connections else 0

-- how many connections each permitted pair may have
abbrev pub budgets_of : PartsRecord → List Budget
budgets_of p = map (λ pair. record { client = record { 0 = pair.client }; service = pair.service; count = count_for p.connections pair }) (permitted p)
