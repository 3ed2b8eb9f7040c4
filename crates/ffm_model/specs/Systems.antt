-- A system file with its manifests, which stand in it or in files of their own: what it says, or the first refusal, and
-- the names of the files that it asks for until then.
-- Source: this simulator's system file.
use Rattle.std.specs.Prelude.{ℕ, ◌+◌, List, [], ◌∷◌, ◌++◌, Option, Some, None, Result, Ok, Err}
use Rattle.serde_json.specs.Data.{Data, Items, no_items, item}
use Rattle.serde_json.specs.Find.{as_str}
use Rattle.ffm_model.specs.declared.codes.TheConstants.{JSON}
use Rattle.ffm_model.specs.declared.manifest.Manifest.{Manifest}
use Rattle.ffm_model.specs.declared.parts.Parts.{Parts}
use Rattle.ffm_model.specs.declared.place.PartRefusal.{PartRefusal}
use Rattle.ffm_model.specs.declared.place.PathStep.{PathStep}
use Rattle.ffm_model.specs.declared.place.Place.{Place}
use Rattle.ffm_model.specs.declared.place.Refusal.{Refusal}
use Rattle.ffm_model.specs.declared.place.Root.TheVariants as root
use Rattle.ffm_model.specs.Attributes.{or_refuse, placed}
use Rattle.ffm_model.specs.Manifests.{manifest_of}
use Rattle.ffm_model.specs.Trees.{tree_of}
use Rattle.ffm_model.specs.SystemAttributes.{manifest_in, level_of, manifest_items_of, parts_with}
use Rattle.ffm_model.specs.Reading.{Contents, Reading, Stop, refused, ◌>>=◌, asks_nothing, file_at}
use Rattle.ffm_model.specs.Rules.{at_manifest}

abbrev pub stopped : {A : Type 0} → Result A Refusal → Result A Stop
stopped (Ok x) = Ok x
stopped (Err r) = Err (refused r)

-- what a part gives, its refusal placed after these steps of the system file
abbrev pub behind : {A : Type 0} → List PathStep → Result A PartRefusal → Result A Stop
behind front r = stopped (placed root.System front r)

-- the place of a manifest is the same wherever it stands
abbrev pub manifest_place : ℕ → Place
manifest_place k = record { root = root.System; steps = at_manifest k }

-- a manifest that stands in the system file
abbrev pub manifest_here : ℕ → Data → Reading Manifest
manifest_here k d = asks_nothing (behind (at_manifest k) (manifest_of d))

-- a manifest that stands in a file of its own, which has at most 1 MiB
unfoldable pub manifest_named : Contents → ℕ → List ℕ → Reading Manifest
manifest_named of k name = do
  bytes ← file_at of (manifest_place k) 1048576 name
  asks_nothing (behind (at_manifest k) (manifest_in bytes))

abbrev pub manifest_from : Contents → ℕ → Option (List ℕ) → Data → Reading Manifest
manifest_from of k (Some name) d = manifest_named of k name
manifest_from of k None d = manifest_here k d

-- a text is the name of a file
abbrev pub manifest_item : Contents → ℕ → Data → Reading Manifest
manifest_item of k d = manifest_from of k (as_str d) d

-- the manifests after those in front, each in its turn
unfoldable pub manifests_after : Contents → List Manifest → ℕ → Items → Reading (List Manifest)
manifests_after of front k no_items = asks_nothing (Ok front)
manifests_after of front k (item d ds) = do
  manifest ← manifest_item of k d
  manifests_after of (front ++ manifest ∷ []) (k + 1) ds

unfoldable pub manifests_of : Contents → Data → Reading (List Manifest)
manifests_of of d = do
  ds ← asks_nothing (behind [] (manifest_items_of d))
  manifests_after of [] 0 ds

-- a system file's tree
unfoldable pub parts_of : Contents → Data → Reading Parts
parts_of of d = do
  level ← asks_nothing (behind [] (level_of d))
  manifests ← manifests_of of d
  asks_nothing (behind [] (parts_with level manifests d))

-- a system file's bytes
unfoldable pub system_of : Contents → List ℕ → Reading Parts
system_of of bytes = do
  d ← asks_nothing (behind [] (or_refuse JSON (tree_of bytes)))
  parts_of of d
