-- What a system file says, as plain records, and the ranges that they keep.
-- Source: this simulator's system file.
use Rattle.std.specs.Prelude.{ℕ, ◌+◌, ◌^◌, ◌<◌, ◌≤◌, List, length}
use Rattle.std.specs.List.{AllByRecursion}
use Rattle.ffm_model.specs.ManifestItems.{IsName, ManifestRecord, IsManifest}

-- ---- regions that manifests name

pub record RegionRecord : Type 0 where
  pub name : List ℕ
  pub base : ℕ
  pub size : ℕ

-- at least one byte, and the end by 2 ^ 32
pub record IsRegion (r : RegionRecord) : Type 0 where
  pub name : IsName r.name
  pub size : 0 < r.size
  pub ends : r.base + r.size ≤ 2 ^ 32

-- ---- how many connections a client may have to a service

pub record ConnectionRecord : Type 0 where
  pub client : List ℕ
  pub service : List ℕ
  pub count : ℕ

pub record IsConnection (c : ConnectionRecord) : Type 0 where
  pub client : IsName c.client
  pub service : IsName c.service
  pub count : c.count ≤ 256

-- ---- a system file

pub record PartsRecord : Type 0 where
  pub level : ℕ
  pub manifests : List ManifestRecord
  pub regions : List RegionRecord
  pub non_secure_ram : ℕ
  pub clients : List (List ℕ)
  pub connections : List ConnectionRecord

pub record IsParts (p : PartsRecord) : Type 0 where
  pub level : 0 < p.level
  pub level_end : p.level ≤ 3
  pub manifests : AllByRecursion IsManifest p.manifests
  pub manifest_count : length p.manifests ≤ 256
  pub regions : AllByRecursion IsRegion p.regions
  pub clients : AllByRecursion IsName p.clients
  pub client_count : length p.clients ≤ 16
  pub connections : AllByRecursion IsConnection p.connections
