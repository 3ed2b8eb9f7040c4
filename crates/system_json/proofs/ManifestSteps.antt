-- Reading the manifests of a list one after the other, in the system file or in files of their own.
use Rattle.std.proofs.Common.{◌≡◌, ℕ, ◌+◌, ◌<◌, ◌≤◌, List, [], ◌∷◌, ◌++◌, length, drop, get_or, Some, Result, Ok, Err, refl, sym}
use Rattle.std.proofs.lemmas.List.{drop_all}
use Rattle.serde_json.specs.Data.{Data, Items}
use Rattle.serde_json.specs.Find.{get, as_array}
use Rattle.serde_json.specs.View.{view, items_view}
use Rattle.serde_json.specs.declared.value.Value.{Value}
use Rattle.ffm_model.specs.declared.codes.TheConstants.{BAD_VALUE, FILE_TOO_LONG}
use Rattle.ffm_model.specs.declared.key.Key.TheVariants as key
use Rattle.ffm_model.specs.declared.manifest.Manifest.{Manifest}
use Rattle.ffm_model.specs.declared.place.ReadError.{ReadError}
use Rattle.ffm_model.specs.declared.place.ReadError.TheVariants as read_error
use Rattle.ffm_model.specs.declared.place.PathStep.TheVariants as step
use Rattle.ffm_model.specs.declared.place.Root.TheVariants as root
use Rattle.ffm_model.specs.Keys.{key_text}
use Rattle.ffm_model.specs.Reading.{Contents, Reading, ◌>>=◌, asks_nothing, parts_error_of, refused_at, Reads}
use Rattle.ffm_model.specs.Rules.{at_manifest}
use Rattle.ffm_model.specs.SystemAttributes.{manifest_in, manifest_items_of}
use Rattle.ffm_model.specs.Systems.{behind, manifest_place, manifest_item, manifests_after}
use Rattle.ffm_model.specs.Manifests.{manifest_of}
use Rattle.ffm_model.specs.Trees.{tree_of}
use Rattle.outside_io.specs.Files.{Asks, FilesSeen, NoValue, no_value_of, no_memory, stopped}
use Rattle.outside_io.proofs.FilesSteps.{asks_as, asks_given, asks_stops, asks_then, asks_unread, asks_unrefused}
use Rattle.manifest_json.specs.Trees.{FailsTree}
use Rattle.system_json.specs.Refused.{IsReadRefusal}
use Rattle.manifest_json.proofs.ShortLists.{items_short, items_long}
use Rattle.law_lists.proofs.Lists.{drop-item}

-- ---- a manifest in a file of its own

pub no_manifest : (k : ℕ) (bytes : List ℕ) (e : ReadError) → FailsTree (manifest_place k) e (tree_of bytes) → Reads (λ (m : Manifest). m) (Err e) (behind (at_manifest k) (manifest_in bytes))
unfolding manifest_in
no_manifest k bytes read_error.Memory failed = tt
no_manifest k bytes (read_error.Refused r) failed = rw (failed.0, failed.1) refl

pub manifest_at_tree : (bytes : List ℕ) (d : Data) → tree_of bytes ≡ Some d → manifest_in bytes ≡ manifest_of d
unfolding manifest_in
manifest_at_tree bytes d is = rw is refl

-- the refusal of a manifest file's length
pub refused_long : {X : Type 0} (a b : FilesSeen) (k : ℕ) (e : ReadError) (asked : Contents → Reading X) → IsReadRefusal e (record { code = FILE_TOO_LONG; place = manifest_place k; cycle = [] })
    → Asks {A = X} a b (Err (stopped (refused_at FILE_TOO_LONG (manifest_place k)))) asked → Asks {A = X} a b (Err (no_value_of (parts_error_of e))) asked
refused_long a b k read_error.Memory asked refusal p = asks_unrefused a b _ asked p
refused_long a b k (read_error.Refused r) asked refusal p = rw refusal p

-- ---- the list

-- what is still to be read after the manifests that were found
abbrev pub rest_of : Contents → List Manifest → ℕ → List Value → Reading (List Manifest)
rest_of of found i vs = manifests_after of found i (items_view (drop i vs))

abbrev pub whole_of : Contents → List Value → Reading (List Manifest)
whole_of of vs = manifests_after of [] 0 (items_view vs)

-- whatever the rest asks for from here on, the whole list asks for from its start on
abbrev pub Leads : FilesSeen → FilesSeen → List Manifest → ℕ → List Value → Type 0
Leads before here found i vs = (after : FilesSeen) (r : Result (List Manifest) NoValue) → Asks here after r (λ of. rest_of of found i vs) → Asks before after r (λ of. whole_of of vs)

one_step : (of : Contents) (found : List Manifest) (vs : List Value) (i : ℕ) (v : Value) → i < length vs → v ≡ get_or vs i v
    → rest_of of found i vs ≡ (manifest_item of i (view v) >>= λ m. rest_of of (found ++ m ∷ []) (i + 1) vs)
unfolding manifests_after
one_step of found vs i v lt is = rw (drop-item vs i v lt is) refl

-- a manifest more
pub goes_on : (a b c : FilesSeen) (found : List Manifest) (vs : List Value) (i : ℕ) (v : Value) (m : Manifest) → i < length vs → v ≡ get_or vs i v
    → Leads a b found i vs → Asks b c (Ok m) (λ of. manifest_item of i (view v)) → Leads a c (found ++ m ∷ []) (i + 1) vs
goes_on a b c found vs i v m lt is so_far item = λ after r p.
    so_far after r (asks_as b after r (λ of. manifest_item of i (view v) >>= λ n. rest_of of (found ++ n ∷ []) (i + 1) vs) (λ of. rest_of of found i vs) (λ of. sym (one_step of found vs i v lt is))
    (asks_then b c after r (λ of. manifest_item of i (view v)) (λ of n. rest_of of (found ++ n ∷ []) (i + 1) vs) m item p))

-- the next manifest ends it
pub ends : (a b c : FilesSeen) (e : NoValue) (found : List Manifest) (vs : List Value) (i : ℕ) (v : Value) → i < length vs → v ≡ get_or vs i v
    → Leads a b found i vs → Asks {A = Manifest} b c (Err e) (λ of. manifest_item of i (view v)) → Asks {A = List Manifest} a c (Err e) (λ of. whole_of of vs)
ends a b c e found vs i v lt is so_far item =
    so_far c (Err e) (asks_as b c (Err e) (λ of. manifest_item of i (view v) >>= λ n. rest_of of (found ++ n ∷ []) (i + 1) vs) (λ of. rest_of of found i vs) (λ of. sym (one_step of found vs i v lt is))
    (asks_stops b c e (λ of. manifest_item of i (view v)) (λ of n. rest_of of (found ++ n ∷ []) (i + 1) vs) item))

-- no memory is found for what was read so far
pub lost : (a b : FilesSeen) (found : List Manifest) (vs : List Value) (i : ℕ) → Leads a b found i vs → Asks {A = List Manifest} a b (Err no_memory) (λ of. whole_of of vs)
lost a b found vs i so_far = so_far b (Err no_memory) (asks_unread b (λ of. rest_of of found i vs))

nothing_left : (of : Contents) (found : List Manifest) (vs : List Value) (i : ℕ) → length vs ≤ i → rest_of of found i vs ≡ asks_nothing (Ok found)
unfolding manifests_after
nothing_left of found vs i past = rw (drop_all i vs past) refl

-- after the last manifest
pub is_done : (a b : FilesSeen) (found : List Manifest) (vs : List Value) (i : ℕ) → length vs ≤ i → Leads a b found i vs → Asks a b (Ok found) (λ of. whole_of of vs)
is_done a b found vs i past so_far =
    so_far b (Ok found) (asks_as b b (Ok found) (λ of. asks_nothing (Ok found)) (λ of. rest_of of found i vs) (λ of. sym (nothing_left of found vs i past)) (asks_given b found))

-- ---- the list's items

pub items_at : (d list : Data) (vs : List Value) → get (key_text key.Manifests) d ≡ Some list → Some (items_view vs) ≡ as_array list → length vs ≤ 256 → behind [] (manifest_items_of d) ≡ Ok (items_view vs)
items_at d list vs there is few = rw (there, items_short 256 list vs is few) refl

pub too_many : (d list : Data) (vs : List Value) (e : ReadError) → get (key_text key.Manifests) d ≡ Some list → Some (items_view vs) ≡ as_array list → 256 < length vs
    → IsReadRefusal e (record { code = BAD_VALUE; place = record { root = root.System; steps = step.Key key.Manifests ∷ [] }; cycle = [] }) → Reads (λ (items : Items). items) (Err e) (behind [] (manifest_items_of d))
too_many d list vs read_error.Memory there is many refusal = tt
too_many d list vs (read_error.Refused r) there is many refusal = rw (there, items_long 256 list vs is many, refusal) refl
