-- The first that is too large.
use Rattle.std.proofs.Common.{ℕ, ◌≡◌, ◌≤◌, ◌+◌, List, [], ◌∷◌, ◌++◌, map, filter, arith, ◌∙◌, ap, sym, refl, Bool, true, false, cond, Option, Some, None, option_map}
use Rattle.std.specs.Prelude.{nat_le, nat_lt, find, sum_by, IfSome, is_some}
use Rattle.std.specs.List.{filter_map, cons_option, position_from}
use Rattle.std.specs.Option.{option_or, option_map_or}
use Rattle.std.proofs.lemmas.List.Elements.{filter_map-append}
use Rattle.std.proofs.lemmas.List.Folds.{find-append}
use Rattle.std.proofs.lemmas.List.Sums.{sum_by-cons, sum_by-append}
use Rattle.std.proofs.lemmas.Bool.{le-leb, lt-leb}
use Rattle.std.proofs.lemmas.Option.{IfSome_then}
use Rattle.ffm_model.specs.declared.constants.TheConstants.{MAX_IMAGE_BYTES, RAM_BASE}
use Rattle.ffm_model.specs.declared.system.Region.{Region}
use Rattle.ffm_model.specs.declared.system.Class.TheVariants.{Ram, Mmio}
use Rattle.ffm_model.specs.ManifestItems.{ManifestRecord, MmioRecord}
use Rattle.ffm_model.specs.PartsItems.{PartsRecord, RegionRecord}
use Rattle.ffm_model.specs.Repeats.{first, only_if}
use Rattle.ffm_model.specs.Layout.{Located, domain_at, located_in, located_from, range_named, mmio_placed, mmio_of, rams_from, rams_of, non_secure_of, regions_laid_out, ram_needed, rounded, is_large, is_large_item, large_from, too_large, TooLarge, partition_ram, mmio_item, non_secure_ram, all_regions}
use Rattle.region_map.specs.Seen.{spot}
use Rattle.region_map.specs.declared.place.Placed.{Placed}
use Rattle.region_map.specs.declared.error.LayoutError.{LayoutError}
use Rattle.region_map.specs.Layouts.{large_error}
use Rattle.region_map.specs.Placements.{located_of}
use Rattle.region_map.specs.Sizes.{has_large_ram, is_large_region, earlier_of}

-- the place of the first large region among those of the items
abbrev large_place : List RegionRecord → List (Located MmioRecord) → Option (ℕ × ℕ)
large_place regions xs = option_map spot (find is_large_region (filter_map (mmio_placed regions) xs))

-- the region of an item at a range
abbrev region_at : Located MmioRecord → ℕ × ℕ → Located Region
region_at x e = record { manifest = x.manifest; item = x.item; value = record { base = e.0; size = e.1; class = Mmio x.manifest x.value.writable } }

abbrev item_at : ℕ × ℕ → TooLarge
item_at e = mmio_item e.0 e.1

abbrev mmio : ManifestRecord → List MmioRecord
mmio m = m.mmio

-- ---- options

map_or : {A B : Type 0} (f : A → B) (a b : Option A) → option_map f (option_or a b) ≡ option_or (option_map f a) (option_map f b)
map_or f None b = refl
map_or f (Some x) b = refl

either_some : {A : Type 0} (P : A → Type 0) (a b : Option A) → IfSome a P → IfSome b P → IfSome (option_or a b) P
either_some P None b p q = q
either_some P (Some x) b p q = p

first_append : {A : Type 0} (xs ys : List A) → first (xs ++ ys) ≡ option_or (first xs) (first ys)
first_append [] ys = refl
first_append (x ∷ xs) ys = refl

first_only : {A : Type 0} (b : Bool) (x : A) → first (only_if b x) ≡ cond b (Some x) None
first_only true x = refl
first_only false x = refl

-- ---- items

item_case : (x : Located MmioRecord) (o : Option (ℕ × ℕ)) (F : List TooLarge) (xs : List (Located MmioRecord)) (G : List (Located Region))
    → first (map (λ (y : Located MmioRecord). mmio_item y.manifest y.item) xs) ≡ option_map item_at (option_map spot (find is_large_region G))
    → first (map (λ (y : Located MmioRecord). mmio_item y.manifest y.item) (cond (option_map_or (λ e. is_large e.1) o false) (x ∷ xs) xs))
    ≡ option_map item_at (option_map spot (find is_large_region (cons_option (option_map (region_at x) o) G)))
item_case x None F xs G h = h
item_case x (Some e) F xs G h =
    elim (is_large e.1) as (λ b. first (map (λ (y : Located MmioRecord). mmio_item y.manifest y.item) (cond b (x ∷ xs) xs)) ≡ option_map item_at (option_map spot (cond b (Some (region_at x e)) (find is_large_region G))))
    [ true ↦ refl | false ↦ h ]

first_item : (regions : List RegionRecord) (xs : List (Located MmioRecord))
    → first (map (λ (x : Located MmioRecord). mmio_item x.manifest x.item) (filter (is_large_item regions) xs)) ≡ option_map item_at (large_place regions xs)
first_item regions [] = refl
first_item regions (x ∷ xs) = item_case x (range_named regions x.value.location) [] (filter (is_large_item regions) xs) (filter_map (mmio_placed regions) xs) (first_item regions xs)

place_case : (P : ℕ × ℕ → Type 0) (x : Located MmioRecord) (o : Option (ℕ × ℕ)) (G : List (Located Region)) → P (spot x)
    → IfSome (option_map spot (find is_large_region G)) P → IfSome (option_map spot (find is_large_region (cons_option (option_map (region_at x) o) G))) P
place_case P x None G p h = h
place_case P x (Some e) G p h = elim (is_large e.1) as (λ b. IfSome (option_map spot (cond b (Some (region_at x e)) (find is_large_region G))) P) [ true ↦ p | false ↦ h ]

place_in : (regions : List RegionRecord) (k i : ℕ) (items : List MmioRecord) → IfSome (large_place regions (located_in k i items)) (λ e. e.0 ≡ k)
place_in regions k i [] = tt
place_in regions k i (m ∷ ms) =
    place_case (λ e. e.0 ≡ k) (record { manifest = k; item = i; value = m }) (range_named regions m.location) (filter_map (mmio_placed regions) (located_in k (i + 1) ms)) refl (place_in regions k (i + 1) ms)

split : (regions : List RegionRecord) (xs ys : List (Located MmioRecord)) → large_place regions (xs ++ ys) ≡ option_or (large_place regions xs) (large_place regions ys)
split regions xs ys =
    ap (λ t. option_map spot (find is_large_region t)) (filter_map-append (mmio_placed regions) xs ys)
    ∙ ap (option_map spot) (find-append is_large_region (filter_map (mmio_placed regions) xs) (filter_map (mmio_placed regions) ys))
    ∙ map_or spot (find is_large_region (filter_map (mmio_placed regions) xs)) (find is_large_region (filter_map (mmio_placed regions) ys))

place_from : (regions : List RegionRecord) (k : ℕ) (ms : List ManifestRecord) → IfSome (large_place regions (located_from mmio k ms)) (λ e. k ≤ e.0)
place_from regions k [] = tt
place_from regions k (m ∷ ms) =
    let here : IfSome (large_place regions (located_in k 0 m.mmio)) (λ e. k ≤ e.0) = IfSome_then (large_place regions (located_in k 0 m.mmio)) (place_in regions k 0 m.mmio) (λ e h. omega arith) in
    let later : IfSome (large_place regions (located_from mmio (k + 1) ms)) (λ e. k ≤ e.0) = IfSome_then (large_place regions (located_from mmio (k + 1) ms)) (place_from regions (k + 1) ms) (λ e h. omega arith) in
    rw (split regions (located_in k 0 m.mmio) (located_from mmio (k + 1) ms))
    (either_some (λ e. k ≤ e.0) (large_place regions (located_in k 0 m.mmio)) (large_place regions (located_from mmio (k + 1) ms)) here later)

-- ---- RAM

ram_from : (k : ℕ) (ms : List ManifestRecord) → IfSome (position_from has_large_ram k ms) (λ a. k ≤ a)
ram_from k [] = tt
ram_from k (m ∷ ms) =
    let later : IfSome (position_from has_large_ram (k + 1) ms) (λ a. k ≤ a) = IfSome_then (position_from has_large_ram (k + 1) ms) (ram_from (k + 1) ms) (λ a h. omega arith) in
    let here : k ≤ k = omega arith in
    elim (has_large_ram m) as (λ b. IfSome (cond b (Some k) (position_from has_large_ram (k + 1) ms)) (λ a. k ≤ a)) [ true ↦ here | false ↦ later ]

-- ---- the first of all manifests

choose : (k a : ℕ) (e : ℕ × ℕ) (b : Bool) → nat_le a e.0 ≡ b → Some (cond b (partition_ram a) (item_at e)) ≡ earlier_of (Some a) (Some e)
choose k a e b h = ap (λ t. Some (cond t (partition_ram a) (item_at e))) (sym h)

combine : (b : Bool) (k : ℕ) (here later : Option (ℕ × ℕ)) (ram : Option ℕ) → IfSome here (λ e. e.0 ≡ k) → IfSome later (λ e. k + 1 ≤ e.0) → IfSome ram (λ a. k + 1 ≤ a)
    → option_or (cond b (Some (partition_ram k)) None) (option_or (option_map item_at here) (earlier_of ram later)) ≡ earlier_of (cond b (Some k) ram) (option_or here later)
combine true k (Some e) later ram p q s = choose k k e true (le-leb k e.0 (omega arith))
combine true k None (Some e) ram p q s = choose k k e true (le-leb k e.0 (omega arith))
combine true k None None ram p q s = refl
combine false k (Some e) later (Some a) p q s = choose k a e false (lt-leb a e.0 (omega arith))
combine false k (Some e) later None p q s = refl
combine false k None later ram p q s = refl

pub first_large : (regions : List RegionRecord) (k : ℕ) (ms : List ManifestRecord)
    → first (large_from regions k ms) ≡ earlier_of (position_from has_large_ram k ms) (large_place regions (located_from mmio k ms))
first_large regions k [] = refl
first_large regions k (m ∷ ms) =
    let ram : Option TooLarge = cond (has_large_ram m) (Some (partition_ram k)) None in
    let rams : List TooLarge = only_if (has_large_ram m) (partition_ram k) in
    let items : List TooLarge = map (λ (x : Located MmioRecord). mmio_item x.manifest x.item) (filter (is_large_item regions) (located_in k 0 m.mmio)) in
    let others : List TooLarge = large_from regions (k + 1) ms in
    first_append rams (items ++ others)
    ∙ ap (λ o. option_or o (first (items ++ others))) (first_only (has_large_ram m) (partition_ram k))
    ∙ ap (option_or ram) (first_append items others)
    ∙ ap (λ o. option_or ram (option_or o (first others))) (first_item regions (located_in k 0 m.mmio))
    ∙ ap (λ o. option_or ram (option_or (option_map item_at (large_place regions (located_in k 0 m.mmio))) o)) (first_large regions (k + 1) ms)
    ∙ combine (has_large_ram m) k (large_place regions (located_in k 0 m.mmio)) (large_place regions (located_from mmio (k + 1) ms)) (position_from has_large_ram (k + 1) ms)
    (place_in regions k 0 m.mmio) (place_from regions (k + 1) ms) (ram_from (k + 1) ms)
    ∙ ap (earlier_of (cond (has_large_ram m) (Some k) (position_from has_large_ram (k + 1) ms))) (sym (split regions (located_in k 0 m.mmio) (located_from mmio (k + 1) ms)))

-- ---- all regions

pub sum_rams : (level k base : ℕ) (ms : List ManifestRecord) → sum_by (λ r. r.size) (rams_from level k base ms) ≡ sum_by ram_needed ms
sum_rams level k base [] = refl
sum_rams level k base (m ∷ ms) =
    sum_by-cons (λ (r : Region). r.size) (record { base = base; size = ram_needed m; class = Ram (domain_at level m.rot (k + 1)) }) (rams_from level (k + 1) (base + ram_needed m) ms)
    ∙ ap (λ n. ram_needed m + n) (sum_rams level (k + 1) (base + ram_needed m) ms)
    ∙ sym (sum_by-cons ram_needed m ms)

sum_placed : (xs : List Placed) → sum_by (λ r. r.size) (map (λ (x : Located Region). x.value) (map located_of xs)) ≡ sum_by (λ x. x.region.size) xs
sum_placed [] = refl
sum_placed (x ∷ xs) =
    sum_by-cons (λ (r : Region). r.size) x.region (map (λ (y : Located Region). y.value) (map located_of xs))
    ∙ ap (λ n. x.region.size + n) (sum_placed xs)
    ∙ sym (sum_by-cons (λ (y : Placed). y.region.size) x xs)

pub sum_regions : (p : PartsRecord) (xs : List Placed) → map located_of xs ≡ mmio_of p
    → sum_by (λ r. r.size) (regions_laid_out p) ≡ sum_by ram_needed p.manifests + rounded p.non_secure_ram + sum_by (λ x. x.region.size) xs
sum_regions p xs placed =
    let size : Region → ℕ = λ r. r.size in
    let rest : List Region = map (λ (x : Located Region). x.value) (mmio_of p) in
    let tail : sum_by size rest ≡ sum_by (λ x. x.region.size) xs = ap (λ (t : List (Located Region)). sum_by size (map (λ (x : Located Region). x.value) t)) (sym placed) ∙ sum_placed xs in
    let rams : sum_by size (rams_of p) ≡ sum_by ram_needed p.manifests = sum_rams p.level 0 RAM_BASE p.manifests in
    let head : sum_by size (non_secure_of p ∷ rest) ≡ rounded p.non_secure_ram + sum_by size rest = sum_by-cons size (non_secure_of p) rest in
    let all : sum_by size (regions_laid_out p) ≡ sum_by size (rams_of p) + sum_by size (non_secure_of p ∷ rest) = sum_by-append size (rams_of p) (non_secure_of p ∷ rest) in
    omega arith

-- ---- the first of all

abbrev pub chosen : Option TooLarge → Bool → Bool → Option TooLarge
chosen (Some x) a b = Some x
chosen None true b = Some non_secure_ram
chosen None false true = Some all_regions
chosen None false false = None

by_three : (o : Option TooLarge) (a b : Bool) → option_or o (option_or (cond a (Some non_secure_ram) None) (cond b (Some all_regions) None)) ≡ chosen o a b
by_three (Some x) a b = refl
by_three None true b = refl
by_three None false true = refl
by_three None false false = refl

pub first_too_large_is : (p : PartsRecord) (xs : List Placed) → map located_of xs ≡ mmio_of p
    → first (too_large p) ≡ chosen (earlier_of (position_from has_large_ram 0 p.manifests) (option_map spot (find is_large_region (map located_of xs))))
    (is_large (rounded p.non_secure_ram)) (nat_lt MAX_IMAGE_BYTES (sum_by ram_needed p.manifests + rounded p.non_secure_ram + sum_by (λ x. x.region.size) xs))
first_too_large_is p xs placed =
    let low : List TooLarge = large_from p.regions 0 p.manifests in
    let a : Bool = is_large (rounded p.non_secure_ram) in
    let b : Bool = nat_lt MAX_IMAGE_BYTES (sum_by (λ r. r.size) (regions_laid_out p)) in
    first_append low (only_if a non_secure_ram ++ only_if b all_regions)
    ∙ ap (option_or (first low)) (first_append (only_if a non_secure_ram) (only_if b all_regions))
    ∙ ap (λ o. option_or (first low) (option_or o (first (only_if b all_regions)))) (first_only a non_secure_ram)
    ∙ ap (λ o. option_or (first low) (option_or (cond a (Some non_secure_ram) None) o)) (first_only b all_regions)
    ∙ by_three (first low) a b
    ∙ ap (λ o. chosen o a b) (first_large p.regions 0 p.manifests)
    ∙ ap (λ (t : List (Located Region)). chosen (earlier_of (position_from has_large_ram 0 p.manifests) (option_map spot (find is_large_region t))) a b) (sym placed)
    ∙ ap (λ n. chosen (earlier_of (position_from has_large_ram 0 p.manifests) (option_map spot (find is_large_region (map located_of xs)))) a (nat_lt MAX_IMAGE_BYTES n)) (sum_regions p xs placed)

chosen_some : (o : Option TooLarge) (a b : Bool) → is_some (option_map large_error o) ≡ true → chosen o a b ≡ o
chosen_some (Some x) a b h = refl
chosen_some None a b h = cc

chosen_none : (o : Option TooLarge) (a b : Bool) → is_some (option_map large_error o) ≡ false → chosen o a b ≡ chosen None a b
chosen_none (Some x) a b h = cc
chosen_none None a b h = refl

-- ---- what the code finds

-- the first of the manifests was found, if there is one
pub record Finds (p : PartsRecord) (xs : List Placed) (found : Option LayoutError) : Type 0 where
  pub placed : map located_of xs ≡ mmio_of p
  pub is : found ≡ option_map large_error (earlier_of (position_from has_large_ram 0 p.manifests) (option_map spot (find is_large_region (map located_of xs))))

pub finds : (p : PartsRecord) (xs : List Placed) (found : Option LayoutError) (ms : List ManifestRecord) (ram : Option ℕ) (item : Option (ℕ × ℕ))
    → map located_of xs ≡ mmio_of p → ms ≡ p.manifests → ram ≡ position_from has_large_ram 0 ms → item ≡ option_map spot (find is_large_region (map located_of xs))
    → found ≡ option_map large_error (earlier_of ram item) → Finds p xs found
finds p xs found ms ram item placed same rams items is = record {
  placed = placed;
  is = is
      ∙ ap (λ r. option_map large_error (earlier_of r item)) (rams ∙ ap (position_from has_large_ram 0) same)
      ∙ ap (λ i. option_map large_error (earlier_of (position_from has_large_ram 0 p.manifests) i)) items;
}

pub told_some : (p : PartsRecord) (xs : List Placed) (found : Option LayoutError) → Finds p xs found → is_some found ≡ true → found ≡ option_map large_error (first (too_large p))
told_some p xs found f some =
    f.is ∙ ap (option_map large_error) (sym (chosen_some _ (is_large (rounded p.non_secure_ram)) _ (ap is_some (sym f.is) ∙ some)) ∙ sym (first_too_large_is p xs f.placed))

-- nothing was found in the manifests: a and b tell of non-secure RAM and of all together
pub told_none : (p : PartsRecord) (xs : List Placed) (found : Option LayoutError) (non_secure : ℕ) (a b : Bool) → Finds p xs found → is_some found ≡ false
    → non_secure ≡ rounded p.non_secure_ram → is_large non_secure ≡ a
    → nat_lt MAX_IMAGE_BYTES (sum_by ram_needed p.manifests + non_secure + sum_by (λ x. x.region.size) xs) ≡ b
    → option_map large_error (chosen None a b) ≡ option_map large_error (first (too_large p))
told_none p xs found non_secure a b f none same is_a is_b =
    ap (λ t. option_map large_error (chosen None t b)) (sym is_a)
    ∙ ap (λ t. option_map large_error (chosen None (is_large non_secure) t)) (sym is_b)
    ∙ ap (λ n. option_map large_error (chosen None (is_large n) (nat_lt MAX_IMAGE_BYTES (sum_by ram_needed p.manifests + n + sum_by (λ x. x.region.size) xs)))) same
    ∙ ap (option_map large_error) (sym (chosen_none _ _ _ (ap is_some (sym f.is) ∙ none)) ∙ sym (first_too_large_is p xs f.placed))
