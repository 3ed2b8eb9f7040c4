-- A system file's attributes beside the manifests as tables: one line for each attribute, in the order in which they are
-- read. The first refusal counts. Unknown attributes pass unread.
-- Source: this simulator's system file.
use Rattle.std.specs.Prelude.{ℕ, ◌+◌, ◌^◌, List, [], ◌&&◌, nat_lt, nat_le, Result, Ok, if◌then◌else◌}
use Rattle.serde_json.specs.Data.{Data, Items}
use Rattle.ffm_model.specs.declared.codes.TheConstants.{JSON, BAD_VALUE}
use Rattle.ffm_model.specs.declared.key.Key.TheVariants as key
use Rattle.ffm_model.specs.declared.manifest.Manifest.{Manifest}
use Rattle.ffm_model.specs.declared.parts.RegionItem.{RegionItem}
use Rattle.ffm_model.specs.declared.parts.ConnectionItem.{ConnectionItem}
use Rattle.ffm_model.specs.declared.parts.Parts.{Parts}
use Rattle.ffm_model.specs.declared.place.PartRefusal.{PartRefusal}
use Rattle.ffm_model.specs.declared.place.PathStep.TheVariants as step
use Rattle.ffm_model.specs.Attributes.{◌>>=◌, refuse, or_refuse, within, required, optional, list_of, items_up_to, list_up_to, whole_between, name_of, number_of, object_of}
use Rattle.ffm_model.specs.Manifests.{manifest_of}
use Rattle.ffm_model.specs.Trees.{tree_of}

-- ---- regions and connections

unfoldable pub region_of : Data → Result RegionItem PartRefusal
region_of d = do
  object ← object_of d
  name ← required name_of key.Name d
  base ← required number_of key.Base d
  size ← required number_of key.Size d
  if nat_lt 0 size && nat_le (base + size) (2 ^ 32) then Ok (record { name = name; base = base; size = size }) else within (step.Key key.Size) (refuse BAD_VALUE)

unfoldable pub connection_of : Data → Result ConnectionItem PartRefusal
connection_of d = do
  object ← object_of d
  client ← required name_of key.Client d
  service ← required name_of key.Service d
  count ← required (whole_between 0 256) key.Count d
  Ok (record { client = client; service = service; count = count })

-- ---- a manifest in a file of its own

-- the manifest that a file's bytes spell
unfoldable pub manifest_in : List ℕ → Result Manifest PartRefusal
manifest_in bytes = do
  d ← or_refuse JSON (tree_of bytes)
  manifest_of d

-- ---- the file

-- what stands before the manifests
unfoldable pub level_of : Data → Result ℕ PartRefusal
level_of d = do
  object ← object_of d
  required (whole_between 1 3) key.IsolationLevel d

-- the list of the manifests
abbrev pub manifest_items_of : Data → Result Items PartRefusal
manifest_items_of d = required (items_up_to 256) key.Manifests d

-- what stands after the manifests, and the whole
unfoldable pub parts_with : ℕ → List Manifest → Data → Result Parts PartRefusal
parts_with level manifests d = do
  regions ← optional (list_of region_of) [] key.Regions d
  non_secure_ram ← optional number_of 65536 key.NonSecureRam d
  clients ← optional (list_up_to 16 name_of) [] key.Clients d
  connections ← optional (list_of connection_of) [] key.Connections d
  Ok (record { level = level; manifests = manifests; regions = regions; non_secure_ram = non_secure_ram; clients = clients; connections = connections })
