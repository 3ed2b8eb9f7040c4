-- The items of manifests, with their places.
use Rattle.std.proofs.Common.{ℕ, ◌+◌, ◌<◌, ◌≤◌, length, List, [], ◌∷◌}
use Rattle.std.specs.List.{AllByRecursion as Each, enumerate_from}
use Rattle.law_lists.proofs.Lists.{AllByRecursion-all, AllByRecursion-append, AllByRecursion-weaker}
use Rattle.ffm_model.specs.ManifestItems.{ManifestRecord}
use Rattle.ffm_model.specs.Layout.{located_in, located_from}
use Rattle.law_systems.proofs.Lists.{each_split}
use Rattle.law_systems.proofs.Numbered.{numbers_of}

each_in : {A : Type 0} (P : ℕ → A → Type 0) (k i : ℕ) (xs : List A) → Each (λ x. P x.manifest x.value) (located_in k i xs) → Each (P k) xs
each_in P k i [] h = tt
each_in P k i (x ∷ xs) h = (h.0, each_in P k (i + 1) xs h.1)

in_each : {A : Type 0} (P : ℕ → A → Type 0) (k i : ℕ) (xs : List A) → Each (P k) xs → Each (λ x. P x.manifest x.value) (located_in k i xs)
in_each P k i [] h = tt
in_each P k i (x ∷ xs) h = (h.0, in_each P k (i + 1) xs h.1)

-- what holds of each located item holds of each item of each numbered manifest
pub each_item : {A : Type 0} (P : ℕ → A → Type 0) (items : ManifestRecord → List A) (k : ℕ) (ms : List ManifestRecord)
    → Each (λ x. P x.manifest x.value) (located_from items k ms) → Each (λ e. Each (P e.0) (items e.1)) (enumerate_from k ms)
each_item P items k [] h = tt
each_item P items k (m ∷ ms) h =
    let s : Each (λ x. P x.manifest x.value) (located_in k 0 (items m)) × Each (λ x. P x.manifest x.value) (located_from items (k + 1) ms) = each_split (λ x. P x.manifest x.value) _ _ h in
    (each_in P k 0 (items m) s.0, each_item P items (k + 1) ms s.1)

-- and the other way
pub item_each : {A : Type 0} (P : ℕ → A → Type 0) (items : ManifestRecord → List A) (k : ℕ) (ms : List ManifestRecord)
    → Each (λ e. Each (P e.0) (items e.1)) (enumerate_from k ms) → Each (λ x. P x.manifest x.value) (located_from items k ms)
item_each P items k [] h = tt
item_each P items k (m ∷ ms) h = AllByRecursion-append (λ x. P x.manifest x.value) _ _ (in_each P k 0 (items m) h.0) (item_each P items (k + 1) ms h.1)

-- an item's manifest is one of those
pub items_below : {A : Type 0} (items : ManifestRecord → List A) (k : ℕ) (ms : List ManifestRecord) → Each (λ x. x.manifest < k + length ms) (located_from items k ms)
items_below items k ms =
    item_each (λ j v. j < k + length ms) items k ms
    (AllByRecursion-weaker (λ e. (k ≤ e.0) × (e.0 < k + length ms)) (λ e. Each (λ v. e.0 < k + length ms) (items e.1)) (λ e l. AllByRecursion-all (λ v. e.0 < k + length ms) (λ v. l.1) (items e.1)) (enumerate_from k ms) (numbers_of k ms))
