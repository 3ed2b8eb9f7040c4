-- A manifest and its items as tables: one line for each attribute, in the order in which they are read. The first
-- refusal counts. Unknown attributes pass unread.
-- Source: FF-M 1.0 and 1.1, the attributes of a Secure Partition's manifest; which of them are optional, places and codes
-- are this simulator's.
use Rattle.std.specs.Prelude.{ℕ, ◌+◌, ◌^◌, List, [], ◌∷◌, ◌++◌, Bool, true, false, ◌&&◌, nat_le, nat_lt, ◌==◌, is_some, Option, Some, None, Result, Ok, if◌then◌else◌, codes, length}
use Rattle.std.specs.Str.{bytes_eq}
use Rattle.std.specs.Fmt.{decimal}
use Rattle.serde_json.specs.Data.{Data}
use Rattle.serde_json.specs.Find.{get, as_str}
use Rattle.ffm_model.specs.Keys.{key_text}
use Rattle.ffm_model.specs.declared.codes.TheConstants.{WRONG_TYPE, BAD_VALUE}
use Rattle.ffm_model.specs.declared.key.Key.TheVariants as key
use Rattle.ffm_model.specs.declared.manifest.Manifest.{Manifest}
use Rattle.ffm_model.specs.declared.manifest.ServiceItem.{ServiceItem}
use Rattle.ffm_model.specs.declared.manifest.MmioItem.{MmioItem}
use Rattle.ffm_model.specs.declared.manifest.IrqItem.{IrqItem}
use Rattle.ffm_model.specs.declared.manifest.Location.{Location}
use Rattle.ffm_model.specs.declared.manifest.Location.TheVariants.{Named, Numbered}
use Rattle.ffm_model.specs.declared.system.RotType.{RotType}
use Rattle.ffm_model.specs.declared.system.RotType.TheVariants.{PsaRot, ApplicationRot}
use Rattle.ffm_model.specs.declared.system.Policy.{Policy}
use Rattle.ffm_model.specs.declared.system.Policy.TheVariants.{Strict, Relaxed}
use Rattle.ffm_model.specs.declared.system.Priority.{Priority}
use Rattle.ffm_model.specs.declared.system.Priority.TheVariants.{Low, Normal, High}
use Rattle.ffm_model.specs.declared.place.PartRefusal.{PartRefusal}
use Rattle.ffm_model.specs.declared.place.PathStep.TheVariants as step
use Rattle.ffm_model.specs.declared.place.Refusal.{Refusal}
use Rattle.ffm_model.specs.declared.place.Root.TheVariants as root
use Rattle.ffm_model.specs.Attributes.{◌>>=◌, refuse, within, placed, whole, if_there, required, optional, list_of, list_up_to, list_of_some, text_as, name_of, number_of, boolean_of, object_of}
use Rattle.ffm_model.specs.Texts.{is_name}

-- ---- texts that stand for something

-- the version that the manifest is written for, as psa_framework_version tells it: 256 for 1.0, 257 for 1.1
abbrev pub framework_text : List ℕ → Option ℕ
framework_text s = if bytes_eq s (codes "1.0") then Some 256 else (if bytes_eq s (codes "1.1") then Some 257 else None)

abbrev pub rot_text : List ℕ → Option RotType
rot_text s = if bytes_eq s (codes "PSA-ROT") then Some PsaRot else (if bytes_eq s (codes "APPLICATION-ROT") then Some ApplicationRot else None)

abbrev pub priority_text : List ℕ → Option Priority
priority_text s = if bytes_eq s (codes "LOW") then Some Low else (if bytes_eq s (codes "NORMAL") then Some Normal else (if bytes_eq s (codes "HIGH") then Some High else None))

abbrev pub policy_text : List ℕ → Option Policy
policy_text s = if bytes_eq s (codes "STRICT") then Some Strict else (if bytes_eq s (codes "RELAXED") then Some Relaxed else None)

-- whether a region may be written
abbrev pub permission_text : List ℕ → Option Bool
permission_text s = if bytes_eq s (codes "READ-ONLY") then Some false else (if bytes_eq s (codes "READ-WRITE") then Some true else None)

-- whether each service is a function, from the message to a status
abbrev pub model_text : List ℕ → Option Bool
model_text s = if bytes_eq s (codes "IPC") then Some false else (if bytes_eq s (codes "SFN") then Some true else None)

-- whether a service's vectors may be mapped
abbrev pub mapping_text : List ℕ → Option Bool
mapping_text s = if bytes_eq s (codes "enable") then Some true else (if bytes_eq s (codes "disable") then Some false else None)

-- whether an interrupt has a first-level handler
abbrev pub handling_text : List ℕ → Option Bool
handling_text s = if bytes_eq s (codes "FLIH") then Some true else (if bytes_eq s (codes "SLIH") then Some false else None)

-- the signal of an interrupt with this name, of at most 57 characters
abbrev pub signal_text : List ℕ → Option (List ℕ)
signal_text s = if is_name s && nat_le (length s) 57 then Some (s ++ codes "_SIGNAL") else None

-- an attribute of 1.1; in a manifest of 1.0 it passes unread
abbrev pub since_1_1 : {A : Type 0} → ℕ → A → Result A PartRefusal → Result A PartRefusal
since_1_1 framework default read = if framework == 257 then read else Ok default

-- ---- MMIO regions

-- at least one byte, and the end by 2 ^ 32; else the size is refused
abbrev pub range_of : ℕ → ℕ → Result Location PartRefusal
range_of base size = if nat_lt 0 size && nat_le (base + size) (2 ^ 32) then Ok (Numbered base size) else within (step.Key key.Size) (refuse BAD_VALUE)

unfoldable pub numbered_of : Data → Result Location PartRefusal
numbered_of d = do
  base ← required number_of key.Base d
  size ← required number_of key.Size d
  range_of base size

unfoldable pub named_of : Data → Result Location PartRefusal
named_of d = do
  name ← required name_of key.Name d
  Ok (Named name)

-- by its name, or, where it has none, by base and size
unfoldable pub location_of : Data → Result Location PartRefusal
location_of d = if is_some (get (key_text key.Name) d) then named_of d else numbered_of d

unfoldable pub mmio_of : Data → Result MmioItem PartRefusal
mmio_of d = do
  object ← object_of d
  location ← location_of d
  writable ← required (text_as permission_text) key.Permission d
  Ok (record { location = location; writable = writable })

-- ---- services

-- a number, and not 0
unfoldable pub version_of : Data → Result ℕ PartRefusal
version_of d = do
  n ← number_of d
  if n == 0 then refuse BAD_VALUE else Ok n

abbrev pub index_from : Option ℕ → Option (List ℕ) → Result ℕ PartRefusal
index_from (Some n) text = if nat_le 1 n && nat_le n 32 then Ok n else refuse BAD_VALUE
index_from None (Some text) = if bytes_eq text (codes "auto") then Ok 0 else refuse BAD_VALUE
index_from None None = refuse WRONG_TYPE

-- the index of a stateless handle, from 1 to 32, or 0 for the text "auto"
unfoldable pub index_of : Data → Result ℕ PartRefusal
index_of d = index_from (whole d) (as_str d)

-- an index is read of a service that clients don't connect to
abbrev pub stateless_of : Bool → Data → Result ℕ PartRefusal
stateless_of connection_based d = if connection_based then Ok 0 else optional index_of 0 key.StatelessHandle d

-- a service of a manifest that is written for this version
unfoldable pub service_of : ℕ → Data → Result ServiceItem PartRefusal
service_of framework d = do
  object ← object_of d
  name ← required name_of key.Name d
  sid ← required number_of key.Sid d
  nonsecure ← required boolean_of key.NonSecureClients d
  version ← optional version_of 1 key.Version d
  policy ← optional (text_as policy_text) Strict key.VersionPolicy d
  connection_based ← since_1_1 framework true (optional boolean_of true key.ConnectionBased d)
  stateless_handle ← stateless_of connection_based d
  mm ← since_1_1 framework false (optional (text_as mapping_text) false key.MmIovec d)
  Ok (record { name = name; sid = record { 0 = sid }; nonsecure = nonsecure; version = version; policy = policy; connection_based = connection_based; stateless_handle = stateless_handle; mm = mm })

-- ---- interrupts

abbrev pub source_from : Option ℕ → Data → Result (List ℕ) PartRefusal
source_from (Some n) d = if nat_lt n (2 ^ 32) then Ok (decimal n) else refuse BAD_VALUE
source_from None d = name_of d

-- a name, or a whole number below 2 ^ 32 that stands for its decimal text
unfoldable pub source_of : Data → Result (List ℕ) PartRefusal
source_of d = source_from (whole d) d

-- 1.0: the signal has its own name, and the interrupt no first-level handler
unfoldable pub first_irq_of : Data → Result IrqItem PartRefusal
first_irq_of d = do
  object ← object_of d
  source ← required source_of key.Source d
  signal ← required name_of key.Signal d
  Ok (record { source = source; signal = signal; flih = false })

-- 1.1: the signal is named after the interrupt
unfoldable pub second_irq_of : Data → Result IrqItem PartRefusal
second_irq_of d = do
  object ← object_of d
  source ← required source_of key.Source d
  signal ← required (text_as signal_text) key.Name d
  flih ← required (text_as handling_text) key.Handling d
  Ok (record { source = source; signal = signal; flih = flih })

-- an interrupt of a manifest that is written for this version
abbrev pub irq_of : ℕ → Data → Result IrqItem PartRefusal
irq_of framework d = if framework == 257 then second_irq_of d else first_irq_of d

-- ---- what a partition whose services are functions has otherwise

-- no entry point has to be named
abbrev pub entry_point_of : Bool → Data → Result (List ℕ) PartRefusal
entry_point_of sfn d = if sfn then optional name_of [] key.EntryPoint d else required name_of key.EntryPoint d

-- the stack has at least 48 bytes, where messages are read
unfoldable pub stack_of : Bool → Data → Result ℕ PartRefusal
stack_of sfn d = do
  n ← number_of d
  if sfn && nat_lt n 48 then refuse BAD_VALUE else Ok n

-- there is a service
abbrev pub services_of : Bool → ℕ → Data → Result (List ServiceItem) PartRefusal
services_of sfn framework d =
    if sfn
    then within (step.Key key.Services) (if_there (list_of_some (service_of framework)) (refuse BAD_VALUE) (get (key_text key.Services) d))
    else optional (list_of (service_of framework)) [] key.Services d

-- there is no interrupt
abbrev pub irqs_of : Bool → ℕ → Data → Result (List IrqItem) PartRefusal
irqs_of sfn framework d =
    if sfn
    then optional (list_up_to 0 (irq_of framework)) [] key.Irqs d
    else optional (list_of (irq_of framework)) [] key.Irqs d

-- ---- a manifest

unfoldable pub manifest_of : Data → Result Manifest PartRefusal
manifest_of d = do
  object ← object_of d
  framework ← required (text_as framework_text) key.PsaFrameworkVersion d
  name ← required name_of key.Name d
  rot ← required (text_as rot_text) key.RotKind d
  priority ← required (text_as priority_text) key.Priority d
  sfn ← since_1_1 framework false (optional (text_as model_text) false key.Model d)
  entry_point ← entry_point_of sfn d
  stack_size ← required (stack_of sfn) key.StackSize d
  heap_size ← optional number_of 0 key.HeapSize d
  mmio ← optional (list_of mmio_of) [] key.MmioRegions d
  services ← services_of sfn framework d
  dependencies ← optional (list_of name_of) [] key.Dependencies d
  irqs ← irqs_of sfn framework d
  Ok (record { framework = framework; name = name; rot = rot; priority = priority; sfn = sfn; entry_point = entry_point; stack_size = stack_size; heap_size = heap_size; mmio = mmio; services = services; dependencies = dependencies; irqs = irqs })

-- the manifest with this place in the system file
abbrev pub manifest_at : ℕ → Data → Result Manifest Refusal
manifest_at number d = placed root.System (step.Key key.Manifests ∷ step.Index number ∷ []) (manifest_of d)
