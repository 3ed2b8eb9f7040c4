-- What a manifest says, as plain records, and the ranges that they keep.
-- Source: FF-M 1.0 and 1.1, the attributes of a Secure Partition's manifest.
use Rattle.std.specs.Prelude.{ℕ, ◌≡◌, ◌+◌, ◌^◌, ◌<◌, ◌≤◌, List, [], length, Bool, true, IsTrue, ◌⊎◌}
use Rattle.std.specs.List.{AllByRecursion}
use Rattle.std.specs.Fmt.{decimal}
use Rattle.ffm_model.specs.declared.machine.Sid.{Sid}
use Rattle.ffm_model.specs.declared.system.RotType.{RotType}
use Rattle.ffm_model.specs.declared.system.Policy.{Policy}
use Rattle.ffm_model.specs.declared.system.Priority.{Priority}
use Rattle.ffm_model.specs.declared.manifest.Location.{Location}
use Rattle.ffm_model.specs.declared.manifest.Location.TheVariants.{Named, Numbered}
use Rattle.ffm_model.specs.Texts.{is_name}

abbrev pub IsName : List ℕ → Type 0
IsName text = IsTrue (is_name text)

-- ---- MMIO regions

pub record MmioRecord : Type 0 where
  pub location : Location
  pub writable : Bool

-- a name, or a range of at least one byte that ends by 2 ^ 32
abbrev pub IsLocation : Location → Type 0
IsLocation (Named name) = IsName name
IsLocation (Numbered base size) = (0 < size) × (base + size ≤ 2 ^ 32)

pub record IsMmio (m : MmioRecord) : Type 0 where
  pub location : IsLocation m.location

-- ---- services

pub record ServiceRecord : Type 0 where
  pub name : List ℕ
  pub sid : Sid
  pub nonsecure : Bool
  pub version : ℕ
  pub policy : Policy
  pub connection_based : Bool
  pub stateless_handle : ℕ
  pub mm : Bool

pub record IsService (s : ServiceRecord) : Type 0 where
  pub name : IsName s.name
  pub version : 0 < s.version
  pub index : s.stateless_handle ≤ 32
  -- a service that clients connect to states none
  pub unstated : s.connection_based ≡ true → s.stateless_handle ≡ 0

-- ---- interrupts

pub record IrqRecord : Type 0 where
  pub source : List ℕ
  pub signal : List ℕ
  pub flih : Bool

-- a name, or the decimal text of a number below 2 ^ 32
abbrev pub IsSource : List ℕ → Type 0
IsSource text = IsName text ⊎ ((n : ℕ) × (n < 2 ^ 32) × (text ≡ decimal n))

pub record IsIrq (i : IrqRecord) : Type 0 where
  pub source : IsSource i.source
  pub signal : IsName i.signal

-- ---- a manifest

pub record ManifestRecord : Type 0 where
  pub framework : ℕ
  pub name : List ℕ
  pub rot : RotType
  pub priority : Priority
  pub sfn : Bool
  pub entry_point : List ℕ
  pub stack_size : ℕ
  pub heap_size : ℕ
  pub mmio : List MmioRecord
  pub services : List ServiceRecord
  pub dependencies : List (List ℕ)
  pub irqs : List IrqRecord

-- version 1.0 or 1.1, as psa_framework_version tells them
abbrev pub IsFramework : ℕ → Type 0
IsFramework n = (n ≡ 256) ⊎ (n ≡ 257)

-- a name; where services are functions, nothing will do too
abbrev pub IsEntryPoint : Bool → List ℕ → Type 0
IsEntryPoint sfn text = IsName text ⊎ ((sfn ≡ true) × (text ≡ []))

-- where services are functions, their messages are read into the stack
abbrev pub IsStack : Bool → ℕ → Type 0
IsStack sfn size = sfn ≡ true → 48 ≤ size

-- where services are functions, there is one
abbrev pub HasService : Bool → List ServiceRecord → Type 0
HasService sfn services = sfn ≡ true → 0 < length services

-- where services are functions, there are no interrupts
abbrev pub HasNoIrqs : Bool → List IrqRecord → Type 0
HasNoIrqs sfn irqs = sfn ≡ true → length irqs ≡ 0

pub record IsManifest (m : ManifestRecord) : Type 0 where
  pub framework : IsFramework m.framework
  pub name : IsName m.name
  pub entry_point : IsEntryPoint m.sfn m.entry_point
  pub stack_size : IsStack m.sfn m.stack_size
  pub has_service : HasService m.sfn m.services
  pub no_irqs : HasNoIrqs m.sfn m.irqs
  pub mmio : AllByRecursion IsMmio m.mmio
  pub services : AllByRecursion IsService m.services
  pub dependencies : AllByRecursion IsName m.dependencies
  pub irqs : AllByRecursion IsIrq m.irqs
