-- The versions of the services of a system that was read are values of a u32.
use Rattle.std.proofs.Common.{ℕ, ◌≡◌, ◌<◌, ◌+◌, ◌^◌, Bool, true, false, List, [], ◌∷◌, ◌++◌, arith, refl}
use Rattle.std.specs.Prelude.{Option, Some, None, Result, Ok, Err, IfOk, IfSome, if◌then◌else◌, nat_lt, ◌==◌}
use Rattle.std.specs.List.{AllByRecursion}
use Rattle.std.proofs.lemmas.Bool.Decides.{nat_tests}
use Rattle.serde_json.specs.Data.{Data, Items, no_items, item}
use Rattle.serde_json.specs.Find.{as_str, get}
use Rattle.law_lists.proofs.Lists.{AllByRecursion-append, AllByRecursion-push}
use Rattle.ffm_model.specs.declared.codes.TheConstants.{BAD_VALUE, JSON}
use Rattle.ffm_model.specs.declared.key.Key.TheVariants as key
use Rattle.ffm_model.specs.declared.manifest.Manifest.{Manifest}
use Rattle.ffm_model.specs.declared.place.PartRefusal.{PartRefusal}
use Rattle.ffm_model.specs.declared.place.PathStep.{PathStep}
use Rattle.ffm_model.specs.declared.place.PathStep.TheVariants as step
use Rattle.ffm_model.specs.declared.place.Refusal.{Refusal}
use Rattle.ffm_model.specs.declared.place.Root.TheVariants as root
use Rattle.ffm_model.specs.declared.system.Policy.TheVariants.{Strict}
use Rattle.ffm_model.specs.declared.system.System.{System}
use Rattle.ffm_model.specs.Attributes.{boolean_of, if_there, list_of, list_of_some, list_up_to, name_of, number_from, number_of, object_of, optional, or_refuse, refuse, required, text_as, whole}
use Rattle.ffm_model.specs.Compiled.{compiled, compiled_by, index_for, services_from, stated_indices, system_parts}
use Rattle.ffm_model.specs.Keys.{key_text}
use Rattle.ffm_model.specs.Layout.{Located, located_from, located_in}
use Rattle.ffm_model.specs.ManifestItems.{ManifestRecord, ServiceRecord}
use Rattle.ffm_model.specs.Manifests.{entry_point_of, framework_text, irqs_of, manifest_of, mapping_text, mmio_of, model_text, policy_text, priority_text, rot_text, service_of, services_of as services_read, since_1_1, stack_of, stateless_of, version_of}
use Rattle.ffm_model.specs.Parts.{SystemParts, are_numbered, do_fit, system_by, system_from}
use Rattle.ffm_model.specs.PartsItems.{PartsRecord}
use Rattle.ffm_model.specs.Permissions.{services_in}
use Rattle.ffm_model.specs.Reading.{Contents, Reading, Stop, ◌>>=◌, asks_nothing, file_at, go_on}
use Rattle.ffm_model.specs.Rules.{at_manifest, broken}
use Rattle.ffm_model.specs.SystemAttributes.{connection_of, level_of, manifest_in, manifest_items_of, parts_with, region_of}
use Rattle.ffm_model.specs.Systems.{behind, manifest_from, manifest_item, manifest_named, manifest_place, manifests_after, manifests_of, parts_of, stopped, system_of}
use Rattle.ffm_model.specs.Texts.{hex_number}
use Rattle.ffm_model.specs.TraceText.{IsU32}
use Rattle.ffm_model.specs.Trees.{tree_of}
use Rattle.law_scenarios.specs.Ranges.{VersionsFit}
use Rattle.law_scenarios.proofs.Digits.{hex-fits}
use Rattle.law_scenarios.proofs.Results.{knows, list-has, optional-has, or_refuse-has, past, placed-has, some-list-has, within-has}

-- ---- numbers

number-fits : (o : Option ℕ) (text : Option (List ℕ)) → ((t : List ℕ) → IfSome (hex_number t) IsU32) → IfOk (number_from o text) IsU32
number-fits (Some n) text hex =
    let go : (b : Bool) → nat_lt n (2 ^ 32) ≡ b → IfOk (if b then Ok n else refuse BAD_VALUE) IsU32 = elim [ true ↦ λ e. (let below : n < 2 ^ 32 = grind (arith, nat_tests) in below) | false ↦ λ e. tt ] in
    go (nat_lt n (2 ^ 32)) refl
number-fits None (Some t) hex = or_refuse-has IsU32 BAD_VALUE (hex_number t) (hex t)
number-fits None None hex = tt

pub number-of-fits : (d : Data) → IfOk (number_of d) IsU32
unfolding number_of
number-of-fits d = number-fits (whole d) (as_str d) hex-fits

version-of-fits : (d : Data) → IfOk (version_of d) IsU32
unfolding version_of
version-of-fits d =
    knows IsU32 IsU32 (number_of d) _ (number-of-fits d) (λ n h. elim (n == 0) as (λ (b : Bool). IfOk (if b then refuse BAD_VALUE else Ok n) IsU32) [ true ↦ tt | false ↦ h ])

-- ---- manifests

abbrev ServiceFits : ServiceRecord → Type 0
ServiceFits v = IsU32 v.version

abbrev ManifestFits : ManifestRecord → Type 0
ManifestFits m = AllByRecursion ServiceFits m.services

service-fits : (framework : ℕ) (d : Data) → IfOk (service_of framework d) ServiceFits
unfolding service_of
service-fits framework d =
    past ServiceFits (object_of d) _ (λ object. past ServiceFits (required name_of key.Name d) _ (λ name. past ServiceFits (required number_of key.Sid d) _ (λ sid. past ServiceFits (required boolean_of key.NonSecureClients d) _ (λ nonsecure.
    knows IsU32 ServiceFits (optional version_of 1 key.Version d) _ (optional-has IsU32 version_of 1 key.Version d (omega arith) version-of-fits) (λ version h.
    past ServiceFits (optional (text_as policy_text) Strict key.VersionPolicy d) _ (λ policy. past ServiceFits (since_1_1 framework true (optional boolean_of true key.ConnectionBased d)) _ (λ connection_based.
    past ServiceFits (stateless_of connection_based d) _ (λ stateless. past ServiceFits (since_1_1 framework false (optional (text_as mapping_text) false key.MmIovec d)) _ (λ mm. h)))))))))

services-fit : (sfn : Bool) (framework : ℕ) (d : Data) → IfOk (services_read sfn framework d) (AllByRecursion ServiceFits)
services-fit true framework d =
    within-has (AllByRecursion ServiceFits) (step.Key key.Services) (if_there (list_of_some (service_of framework)) (refuse BAD_VALUE) (get (key_text key.Services) d))
    (elim (get (key_text key.Services) d) as (λ (o : Option Data). IfOk (if_there (list_of_some (service_of framework)) (refuse BAD_VALUE) o) (AllByRecursion ServiceFits)) [
      | None ↦ tt
      | Some x ↦ some-list-has ServiceFits (service_of framework) (service-fits framework) x
    ])
services-fit false framework d = optional-has (AllByRecursion ServiceFits) (list_of (service_of framework)) [] key.Services d tt (λ x. list-has ServiceFits (λ front. service_of framework) (λ front. service-fits framework) x)

manifest-fits : (d : Data) → IfOk (manifest_of d) ManifestFits
unfolding manifest_of
manifest-fits d =
    past ManifestFits (object_of d) _ (λ object. past ManifestFits (required (text_as framework_text) key.PsaFrameworkVersion d) _ (λ framework. past ManifestFits (required name_of key.Name d) _ (λ name.
    past ManifestFits (required (text_as rot_text) key.RotKind d) _ (λ rot. past ManifestFits (required (text_as priority_text) key.Priority d) _ (λ priority.
    past ManifestFits (since_1_1 framework false (optional (text_as model_text) false key.Model d)) _ (λ sfn. past ManifestFits (entry_point_of sfn d) _ (λ entry_point. past ManifestFits (required (stack_of sfn) key.StackSize d) _ (λ stack_size.
    past ManifestFits (optional number_of 0 key.HeapSize d) _ (λ heap_size. past ManifestFits (optional (list_of mmio_of) [] key.MmioRegions d) _ (λ mmio.
    knows (AllByRecursion ServiceFits) ManifestFits (services_read sfn framework d) _ (services-fit sfn framework d) (λ services h.
    past ManifestFits (optional (list_of name_of) [] key.Dependencies d) _ (λ dependencies. past ManifestFits (irqs_of sfn framework d) _ (λ irqs. h)))))))))))))

-- ---- readings of files

reads : {A B : Type 0} (Q : A → Type 0) (P : B → Type 0) (r : Reading A) (f : A → Reading B) → IfOk r.gives Q → ((x : A) → Q x → IfOk (f x).gives P) → IfOk (r >>= f).gives P
reads {A} {B} Q P r f own each =
    let go : (o : Result A Stop) → IfOk o Q → IfOk (go_on r.names o f).gives P = elim [ Ok x ↦ λ h. each x h | Err e ↦ λ h. tt ] in
    go r.gives own

reads-past : {A B : Type 0} (P : B → Type 0) (r : Reading A) (f : A → Reading B) → ((x : A) → IfOk (f x).gives P) → IfOk (r >>= f).gives P
reads-past {A} {B} P r f each =
    let go : (o : Result A Stop) → IfOk (go_on r.names o f).gives P = elim [ Ok x ↦ each x | Err e ↦ tt ] in
    go r.gives

stopped-has : {A : Type 0} (P : A → Type 0) (r : Result A Refusal) → IfOk r P → IfOk (stopped r) P
stopped-has P (Ok x) h = h
stopped-has P (Err e) h = tt

after-has : {A : Type 0} (P : A → Type 0) (front : List PathStep) (r : Result A PartRefusal) → IfOk r P → IfOk (behind front r) P
after-has P front r h = stopped-has P _ (placed-has P root.System front r h)

manifest-in-fits : (bytes : List ℕ) → IfOk (manifest_in bytes) ManifestFits
unfolding manifest_in
manifest-in-fits bytes = past ManifestFits (or_refuse JSON (tree_of bytes)) _ manifest-fits

named-fits : (of : Contents) (k : ℕ) (name : List ℕ) → IfOk (manifest_named of k name).gives ManifestFits
unfolding manifest_named
named-fits of k name = reads-past ManifestFits (file_at of (manifest_place k) 1048576 name) _ (λ bytes. after-has ManifestFits (at_manifest k) (manifest_in bytes) (manifest-in-fits bytes))

item-fits : (of : Contents) (k : ℕ) (d : Data) → IfOk (manifest_item of k d).gives ManifestFits
item-fits of k d =
    let go : (o : Option (List ℕ)) → IfOk (manifest_from of k o d).gives ManifestFits = elim [ Some name ↦ named-fits of k name | None ↦ after-has ManifestFits (at_manifest k) (manifest_of d) (manifest-fits d) ] in
    go (as_str d)

manifests-fit : (of : Contents) (ds : Items) (front : List Manifest) (k : ℕ) → AllByRecursion ManifestFits front → IfOk (manifests_after of front k ds).gives (AllByRecursion ManifestFits)
unfolding manifests_after
manifests-fit of no_items front k all = all
manifests-fit of (item d ds) front k all =
    reads ManifestFits (AllByRecursion ManifestFits) (manifest_item of k d) _ (item-fits of k d) (λ m h. manifests-fit of ds (front ++ m ∷ []) (k + 1) (AllByRecursion-push ManifestFits front m all h))

all-manifests-fit : (of : Contents) (d : Data) → IfOk (manifests_of of d).gives (AllByRecursion ManifestFits)
unfolding manifests_of
all-manifests-fit of d = reads-past (AllByRecursion ManifestFits) (asks_nothing (behind [] (manifest_items_of d))) _ (λ ds. manifests-fit of ds [] 0 tt)

abbrev pub PartsFit : PartsRecord → Type 0
PartsFit p = AllByRecursion ManifestFits p.manifests

parts-with-fit : (level : ℕ) (manifests : List Manifest) (d : Data) → AllByRecursion ManifestFits manifests → IfOk (parts_with level manifests d) PartsFit
unfolding parts_with
parts-with-fit level manifests d h =
    past PartsFit (optional (list_of region_of) [] key.Regions d) _ (λ regions. past PartsFit (optional number_of 65536 key.NonSecureRam d) _ (λ ram.
    past PartsFit (optional (list_up_to 16 name_of) [] key.Clients d) _ (λ clients. past PartsFit (optional (list_of connection_of) [] key.Connections d) _ (λ connections. h))))

parts-fit : (of : Contents) (d : Data) → IfOk (parts_of of d).gives PartsFit
unfolding parts_of
parts-fit of d =
    reads-past PartsFit (asks_nothing (behind [] (level_of d))) _ (λ level.
    reads (AllByRecursion ManifestFits) PartsFit (manifests_of of d) _ (all-manifests-fit of d) (λ manifests h. after-has PartsFit [] (parts_with level manifests d) (parts-with-fit level manifests d h)))

pub system-of-fits : (of : Contents) (bytes : List ℕ) → IfOk (system_of of bytes).gives PartsFit
unfolding system_of
system-of-fits of bytes = reads-past PartsFit (asks_nothing (behind [] (or_refuse JSON (tree_of bytes)))) _ (parts-fit of)

-- ---- the compiled system

located-in-fit : (manifest i : ℕ) (vs : List ServiceRecord) → AllByRecursion ServiceFits vs → AllByRecursion (λ x. ServiceFits x.value) (located_in manifest i vs)
located-in-fit manifest i [] h = tt
located-in-fit manifest i (v ∷ vs) h = (h.0, located-in-fit manifest (i + 1) vs h.1)

located-fit : (k : ℕ) (ms : List ManifestRecord) → AllByRecursion ManifestFits ms → AllByRecursion (λ x. ServiceFits x.value) (located_from (λ m. m.services) k ms)
located-fit k [] h = tt
located-fit k (m ∷ ms) h = AllByRecursion-append (λ (x : Located ServiceRecord). ServiceFits x.value) (located_in k 0 m.services) (located_from (λ m. m.services) (k + 1) ms) (located-in-fit k 0 m.services h.0) (located-fit (k + 1) ms h.1)

from-fit : (taken : List ℕ) (xs : List (Located ServiceRecord)) → AllByRecursion (λ x. ServiceFits x.value) xs → AllByRecursion (λ v. IsU32 v.version) (services_from taken xs)
from-fit taken [] h = tt
from-fit taken (x ∷ xs) h = (h.0, from-fit (index_for taken x.value ∷ taken) xs h.1)

by-fits : (p : SystemParts) (m f : Bool) (is_m : are_numbered p ≡ m) (is_f : do_fit p ≡ f) → AllByRecursion (λ v. IsU32 v.version) p.services → IfSome (system_by p m f is_m is_f) VersionsFit
by-fits p true true is_m is_f h = h
by-fits p true false is_m is_f h = tt
by-fits p false f is_m is_f h = tt

from-parts : (p : SystemParts) → AllByRecursion (λ v. IsU32 v.version) p.services → IfSome (system_from p) VersionsFit
unfolding system_from
from-parts p h = by-fits p (are_numbered p) (do_fit p) refl refl h

compiled-by-fits : (rs : List Refusal) (o : Option System) → IfSome o VersionsFit → IfOk (compiled_by rs o) VersionsFit
compiled-by-fits (r ∷ rs) o h = tt
compiled-by-fits [] (Some s) h = h
compiled-by-fits [] None h = tt

pub compiled-fits : (p : PartsRecord) → PartsFit p → IfOk (compiled p) VersionsFit
unfolding compiled
compiled-fits p h = compiled-by-fits (broken p) (system_from (system_parts p)) (from-parts (system_parts p) (from-fit (stated_indices p) (services_in p) (located-fit 0 p.manifests h)))

-- the parts that were read, compiled
pub read-fits : (of : Contents) (bytes : List ℕ) → IfOk ((system_of of bytes) >>= (λ parts. asks_nothing (compiled parts))).gives VersionsFit
read-fits of bytes = reads PartsFit VersionsFit (system_of of bytes) _ (system-of-fits of bytes) (λ parts h. compiled-fits parts h)
