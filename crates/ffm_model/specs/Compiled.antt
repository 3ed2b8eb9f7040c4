-- The system that a system file with its manifests stands for, where no rule is broken.
-- Source: FF-M 1.0 and 1.1, manifests; `psa/service.h`, signals of services and interrupts; the indices of stateless handles
-- are this profile's.
use Rattle.std.specs.Prelude.{ℕ, ◌+◌, ◌^◌, ◌==◌, not, if◌then◌else◌, List, [], ◌∷◌, length, find, Option, Some, None, map, Result, Ok, Err}
use Rattle.std.specs.List.{list_any, flat_map, enumerate_from, range_with_len}
use Rattle.std.specs.Option.{option_map_or}
use Rattle.ffm_model.specs.declared.constants.TheConstants.{MAX_STATELESS}
use Rattle.ffm_model.specs.declared.place.Refusal.{Refusal}
use Rattle.ffm_model.specs.declared.system.System.{System}
use Rattle.ffm_model.specs.declared.system.Partition.{Partition}
use Rattle.ffm_model.specs.declared.system.Service.{Service}
use Rattle.ffm_model.specs.declared.system.Source.{Source}
use Rattle.ffm_model.specs.ManifestItems.{ManifestRecord, ServiceRecord, IrqRecord}
use Rattle.ffm_model.specs.PartsItems.{PartsRecord}
use Rattle.ffm_model.specs.Parts.{SystemParts, system_from}
use Rattle.ffm_model.specs.Reading.{Stop, refused, missing}
use Rattle.ffm_model.specs.Layout.{Located, domain_at, regions_laid_out}
use Rattle.ffm_model.specs.Permissions.{services_in, budgets_of}
use Rattle.ffm_model.specs.Rules.{broken}

-- the bit of a partition's signal at a place; bits 0 to 3 are kept for the framework
abbrev pub signal_at : ℕ → ℕ
signal_at place = 2 ^ (4 + place)

-- the regions begin with the RAM of the partitions, in order
abbrev pub partition_of : ℕ → ℕ × ManifestRecord → Partition
partition_of level e = record {
  name = e.1.name;
  rot = e.1.rot;
  priority = e.1.priority;
  domain = domain_at level e.1.rot (e.0 + 1);
  ram = e.0;
  sfn = e.1.sfn;
  heap = e.1.heap_size;
}

-- the partitions, in manifest order
abbrev pub partitions_of : PartsRecord → List Partition
partitions_of p = map (partition_of p.level) (enumerate_from 0 p.manifests)

-- ---- services

-- the least index from 1 that isn't taken; where at most 32 services want one, there is one for each
abbrev pub free_index : List ℕ → ℕ
free_index taken = option_map_or (λ i. i) (find (λ i. not (list_any (λ t. t == i) taken)) (range_with_len 1 MAX_STATELESS)) 0

-- a service that clients connect to has no index; another one has the index that it states, or the least free one
abbrev pub index_for : List ℕ → ServiceRecord → ℕ
index_for taken v = if v.connection_based then 0 else (if v.stateless_handle == 0 then free_index taken else v.stateless_handle)

-- the service at a place of its manifest, which is its signal's place too
abbrev pub service_of : ℕ → Located ServiceRecord → Service
service_of index x = record {
  name = x.value.name;
  sid = x.value.sid;
  owner = x.manifest;
  nonsecure = x.value.nonsecure;
  version = x.value.version;
  policy = x.value.policy;
  signal = signal_at x.item;
  stateless = index;
  mm = x.value.mm;
}

-- services in order, where these indices are taken: each takes its own
abbrev pub services_from : List ℕ → List (Located ServiceRecord) → List Service
services_from taken [] = []
services_from taken (x ∷ xs) = service_of (index_for taken x.value) x ∷ services_from (index_for taken x.value ∷ taken) xs

-- the indices that services state
abbrev pub stated_indices : PartsRecord → List ℕ
stated_indices p = map (λ x. x.value.stateless_handle) (services_in p)

-- the services of all partitions, in manifest order; those of a partition have its first signals, in order
abbrev pub services_of : PartsRecord → List Service
services_of p = services_from (stated_indices p) (services_in p)

-- ---- interrupts

-- the interrupt source that has a place among its partition's signals; it starts enabled in version 1.0 alone
abbrev pub source_of : ℕ → ℕ → ℕ × IrqRecord → Source
source_of framework owner e = record {
  name = e.1.source;
  signal_name = e.1.signal;
  owner = owner;
  signal = signal_at e.0;
  flih = e.1.flih;
  enabled = framework == 256;
}

-- a partition's interrupts have the signals after those of its services
abbrev pub sources_of_manifest : ℕ × ManifestRecord → List Source
sources_of_manifest e = map (source_of e.1.framework e.0) (enumerate_from (length e.1.services) e.1.irqs)

-- the interrupt sources of all partitions, in manifest order
abbrev pub sources_of : PartsRecord → List Source
sources_of p = flat_map sources_of_manifest (enumerate_from 0 p.manifests)

-- ---- the system

-- what the system is made of
abbrev pub system_parts : PartsRecord → SystemParts
system_parts p = record {
  level = p.level;
  partitions = partitions_of p;
  services = services_of p;
  sources = sources_of p;
  regions = regions_laid_out p;
  clients = p.clients;
  budgets = budgets_of p;
}

-- where no rule is broken these parts fit each other (a law of crate law_systems), so the last case never comes
abbrev pub compiled_by : List Refusal → Option System → Result System Stop
compiled_by (r ∷ rs) s = Err (refused r)
compiled_by [] (Some s) = Ok s
compiled_by [] None = Err missing

-- the system of a system file, or the refusal for the first rule that is broken
unfoldable pub compiled : PartsRecord → Result System Stop
compiled p = compiled_by (broken p) (system_from (system_parts p))
