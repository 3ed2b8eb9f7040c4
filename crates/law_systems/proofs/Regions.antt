-- The regions: their sizes and ends, that they lie apart, and how many there are at most.
use Rattle.std.proofs.Common.{ℕ, suc, ◌≡◌, ◌+◌, ◌*◌, ◌<◌, ◌≤◌, Bool, true, false, not, cond, ◌&&◌, ◌==◌, List, [], ◌∷◌, ◌++◌, map, filter, length, Option, Some, None, IfSome, option_map, find, refl, ap, arith, nat_lt, nat_le, sum_by, count_by, append_assoc, subst, le_refl, le-leb, ltb-false, lt-ltb, eq-eqb, length-append}
use Rattle.std.specs.List.{AllByRecursion as Each, list_any, list_all}
use Rattle.std.specs.Option.{option_map_or}
use Rattle.std.specs.Str.{bytes_eq}
use Rattle.std.proofs.lemmas.List.Sums.{sum_by-append, sum_by-cons}
use Rattle.std.proofs.lemmas.Bool.{not-false, or_left, or_right}
use Rattle.law_lists.proofs.Lists.{append_nil, map_nil, AllByRecursion-weaker, AllByRecursion-all, AllByRecursion-append}
use Rattle.ffm_model.specs.declared.constants.TheConstants.{MAX_IMAGE_BYTES, RAM_BASE}
use Rattle.ffm_model.specs.declared.manifest.Location.{Location}
use Rattle.ffm_model.specs.declared.manifest.Location.TheVariants.{Named, Numbered}
use Rattle.ffm_model.specs.declared.system.Region.{Region}
use Rattle.ffm_model.specs.declared.system.Class.TheVariants.{Mmio}
use Rattle.ffm_model.specs.ManifestItems.{ManifestRecord, MmioRecord, IsManifest, IsMmio, IsLocation}
use Rattle.ffm_model.specs.PartsItems.{PartsRecord, RegionRecord, IsRegion, IsParts}
use Rattle.ffm_model.specs.Repeats.{only_if}
use Rattle.ffm_model.specs.WellFormed.{apart, each_pair, is_nonsecure, is_ram, owner_below, regions_fit}
use Rattle.ffm_model.specs.Layout.{Located, located_in, located_from, ram_needed, rounded, rams_from, rams_of, non_secure_of, range_named, mmio_placed, mmio_items, mmio_of, regions_laid_out, overlapping, overlaps, is_large, is_large_item, large_from, partition_ram, mmio_item, non_secure_ram, all_regions}
use Rattle.ffm_model.specs.Rules.{overlapping_regions, memory_too_large}
use Rattle.law_systems.proofs.Lists.{three, four, filter_nil, none_any, each_both, each_split, each_map, each_filter_map, all_from, Pairs, pairs_test, pairs_weaker, pairs_map, pairs_append, Across, across_cons}
use Rattle.law_systems.proofs.Numbered.{each_numbered}
use Rattle.law_systems.proofs.Located.{item_each, items_below}
use Rattle.ffm_model.proofs.RuleLemmas.{only_if_nil}

-- ---- a region within the limits

-- a region that isn't non-secure RAM
pub record Secure (n : ℕ) (r : Region) : Type 0 where
  pub owner : owner_below n r.class ≡ true
  pub secure : is_nonsecure r.class ≡ false
  pub some : 0 < r.size
  pub size : r.size ≤ 1048576
  pub ends : r.base + r.size ≤ 4294967296

abbrev InFront : Region → Region → Type 0
InFront r q = r.base + r.size ≤ q.base

front_apart : (r q : Region) → InFront r q → apart r q ≡ true
front_apart r q h = or_right _ _ (or_right _ _ (or_left _ _ (le-leb _ _ h)))

behind_apart : (r q : Region) → InFront q r → apart r q ≡ true
behind_apart r q h = or_right (r.size == 0) _ (or_right (q.size == 0) _ (or_right (nat_le (r.base + r.size) q.base) _ (le-leb _ _ h)))

-- ---- RAM of partitions

abbrev Small : ManifestRecord → Type 0
Small m = ram_needed m ≤ 1048576

pub record RamBetween (low high : ℕ) (r : Region) : Type 0 where
  pub owner : (n : ℕ) → owner_below n r.class ≡ true
  pub secure : is_nonsecure r.class ≡ false
  pub from : low ≤ r.base
  pub size : r.size ≤ 1048576
  pub ends : r.base + r.size ≤ high

rams_between : (level k base : ℕ) (ms : List ManifestRecord) → Each Small ms → Each (RamBetween base (base + 1048576 * length ms)) (rams_from level k base ms)
rams_between level k base [] h = tt
rams_between level k base (m ∷ ms) h =
    let high : ℕ = base + 1048576 * length (m ∷ ms) in
    let size : ram_needed m ≤ 1048576 = h.0 in (
      record { owner = λ n. refl; secure = refl; from = le_refl base; size = size; ends = omega arith },
      AllByRecursion-weaker (RamBetween (base + ram_needed m) (base + ram_needed m + 1048576 * length ms)) (RamBetween base (base + 1048576 * length (m ∷ ms)))
          (λ r p. record { owner = p.owner; secure = p.secure; from = let l : base + ram_needed m ≤ r.base = p.from in omega arith; size = p.size; ends = let l : r.base + r.size ≤ base + ram_needed m + 1048576 * length ms = p.ends in omega arith })
          (rams_from level (k + 1) (base + ram_needed m) ms) (rams_between level (k + 1) (base + ram_needed m) ms h.1),
    )

rams_in_front : (level k base : ℕ) (ms : List ManifestRecord) → Each Small ms → Pairs InFront (rams_from level k base ms)
rams_in_front level k base [] h = tt
rams_in_front level k base (m ∷ ms) h = (
  AllByRecursion-weaker (RamBetween (base + ram_needed m) (base + ram_needed m + 1048576 * length ms)) (λ r. base + ram_needed m ≤ r.base) (λ r p. p.from)
      (rams_from level (k + 1) (base + ram_needed m) ms) (rams_between level (k + 1) (base + ram_needed m) ms h.1),
  rams_in_front level (k + 1) (base + ram_needed m) ms h.1,
)

-- ---- what is too large

not_large : (size : ℕ) → is_large size ≡ false → size ≤ 1048576
not_large size e = ltb-false _ _ e

none_large : (regions : List RegionRecord) (k : ℕ) (ms : List ManifestRecord) → large_from regions k ms ≡ []
    → Each Small ms × Each (λ x. is_large_item regions x ≡ false) (located_from (λ m. m.mmio) k ms)
none_large regions k [] e = (tt, tt)
none_large regions k (m ∷ ms) e =
    let first : (only_if (is_large (ram_needed m)) (partition_ram k) ≡ []) × (map (λ x. mmio_item x.manifest x.item) (filter (is_large_item regions) (located_in k 0 m.mmio)) ++ large_from regions (k + 1) ms ≡ []) = append_nil _ _ e in
    let second : (map (λ x. mmio_item x.manifest x.item) (filter (is_large_item regions) (located_in k 0 m.mmio)) ≡ []) × (large_from regions (k + 1) ms ≡ []) = append_nil _ _ first.1 in
    let rest : Each Small ms × Each (λ x. is_large_item regions x ≡ false) (located_from (λ m. m.mmio) (k + 1) ms) = none_large regions (k + 1) ms second.1 in (
      (not_large (ram_needed m) (only_if_nil _ _ first.0), rest.0),
      AllByRecursion-append (λ x. is_large_item regions x ≡ false) (located_in k 0 m.mmio) (located_from (λ m. m.mmio) (k + 1) ms) (filter_nil (is_large_item regions) (located_in k 0 m.mmio) (map_nil _ _ second.0)) rest.1,
    )

-- what the rule on sizes says
pub record Sizes (p : PartsRecord) : Type 0 where
  pub rams : Each (λ m. ram_needed m ≤ 1048576) p.manifests
  pub items : Each (λ x. is_large_item p.regions x ≡ false) (mmio_items p)
  pub non_secure : rounded p.non_secure_ram ≤ 1048576
  pub together : sum_by (λ r. r.size) (regions_laid_out p) ≤ 16777216

pub sizes_of : (p : PartsRecord) → memory_too_large p ≡ [] → Sizes p
sizes_of p e =
    let first : (large_from p.regions 0 p.manifests ≡ []) × (only_if (is_large (rounded p.non_secure_ram)) non_secure_ram ++ only_if (nat_lt MAX_IMAGE_BYTES (sum_by (λ r. r.size) (regions_laid_out p))) all_regions ≡ []) = append_nil _ _ (map_nil _ _ e) in
    let second : (only_if (is_large (rounded p.non_secure_ram)) non_secure_ram ≡ []) × (only_if (nat_lt MAX_IMAGE_BYTES (sum_by (λ r. r.size) (regions_laid_out p))) all_regions ≡ []) = append_nil _ _ first.1 in
    let large : Each Small p.manifests × Each (λ x. is_large_item p.regions x ≡ false) (mmio_items p) = none_large p.regions 0 p.manifests first.0 in
    record {
      rams = large.0;
      items = large.1;
      non_secure = not_large (rounded p.non_secure_ram) (only_if_nil _ _ second.0);
      together = ltb-false _ _ (only_if_nil _ _ second.1);
    }

-- ---- MMIO

found : (p : RegionRecord → Bool) (regions : List RegionRecord) → Each IsRegion regions → IfSome (find p regions) IsRegion
found p [] h = tt
found p (r ∷ rs) h = elim (p r) as (λ b. IfSome (cond b (Some r) (find p rs)) IsRegion) [ true ↦ h.0 | false ↦ found p rs h.1 ]

-- at least one byte, and the end by 2 ^ 32
abbrev IsRange : ℕ × ℕ → Type 0
IsRange e = (0 < e.1) × (e.0 + e.1 ≤ 4294967296)

range_of : (r : Option RegionRecord) → IfSome r IsRegion → IfSome (option_map (λ r. (r.base, r.size)) r) IsRange
range_of None h = tt
range_of (Some r) h = (h.size, h.ends)

is_range : (regions : List RegionRecord) (location : Location) → Each IsRegion regions → IsLocation location → IfSome (range_named regions location) IsRange
is_range regions (Named name) h k = range_of _ (found (λ r. bytes_eq r.name name) regions h)
is_range regions (Numbered base size) h k = k

placed_by : (n : ℕ) (x : Located MmioRecord) (range : Option (ℕ × ℕ)) → x.manifest < n → option_map_or (λ e. is_large e.1) range false ≡ false → IfSome range IsRange
    → IfSome (option_map (λ e. record { manifest = x.manifest; item = x.item; value = record { base = e.0; size = e.1; class = Mmio x.manifest x.value.writable } }) range)
    (λ (y : Located Region). Secure n y.value × (is_ram y.value.class ≡ false))
placed_by n x None below small right = tt
placed_by n x (Some e) below small right = (record { owner = lt-ltb _ _ below; secure = refl; some = right.0; size = not_large e.1 small; ends = right.1 }, refl)

items_right : (ms : List ManifestRecord) → Each IsManifest ms → Each (λ x. IsMmio x.value) (located_from (λ m. m.mmio) 0 ms)
items_right ms h =
    item_each (λ j v. IsMmio v) (λ m. m.mmio) 0 ms
    (each_numbered (λ m. Each IsMmio m.mmio) 0 ms (AllByRecursion-weaker IsManifest (λ m. Each IsMmio m.mmio) (λ m r. r.mmio) ms h))

abbrev MmioRight : ℕ → Located Region → Type 0
MmioRight n y = Secure n y.value × (is_ram y.value.class ≡ false)

pub mmio_right : (p : PartsRecord) → IsParts p → Sizes p → Each (λ y. Secure (length p.manifests) y.value × (is_ram y.value.class ≡ false)) (mmio_of p)
mmio_right p parts sizes =
    let n : ℕ = length p.manifests in
    each_filter_map (λ y. Secure (length p.manifests) y.value × (is_ram y.value.class ≡ false)) (mmio_placed p.regions) (mmio_items p)
    (AllByRecursion-weaker (λ x. (x.manifest < 0 + length p.manifests) × ((is_large_item p.regions x ≡ false) × IsMmio x.value))
    (λ x. IfSome (mmio_placed p.regions x) (λ y. Secure (length p.manifests) y.value × (is_ram y.value.class ≡ false)))
    (λ x h. placed_by (length p.manifests) x (range_named p.regions x.value.location) (let l : x.manifest < 0 + length p.manifests = h.0 in omega arith) h.1.0 (is_range p.regions x.value.location parts.regions h.1.1.location))
    (mmio_items p)
    (each_both (λ x. x.manifest < 0 + length p.manifests) (λ x. (is_large_item p.regions x ≡ false) × IsMmio x.value) (mmio_items p) (items_below (λ m. m.mmio) 0 p.manifests)
    (each_both (λ x. is_large_item p.regions x ≡ false) (λ x. IsMmio x.value) (mmio_items p) sizes.items (items_right p.manifests parts.manifests))))

none_overlaps : (front : List Region) (xs : List (Located Region)) → overlapping front xs ≡ []
    → Across (λ r x. apart r x.value ≡ true) front xs × Pairs (λ x y. apart x.value y.value ≡ true) xs
none_overlaps front [] e = (AllByRecursion-all (λ r. Unit {0}) (λ r. tt) front, tt)
none_overlaps front (x ∷ xs) e =
    let here : (only_if (list_any (λ r. not (apart r x.value)) front) x ≡ []) × (overlapping (front ++ x.value ∷ []) xs ≡ []) = append_nil _ _ e in
    let new : Each (λ r. not (apart r x.value) ≡ false) front = none_any (λ r. not (apart r x.value)) front (only_if_nil _ _ here.0) in
    let rest : Across (λ r y. apart r y.value ≡ true) (front ++ x.value ∷ []) xs × Pairs (λ y z. apart y.value z.value ≡ true) xs = none_overlaps (front ++ x.value ∷ []) xs here.1 in
    let parts : Across (λ r y. apart r y.value ≡ true) front xs × Across (λ r y. apart r y.value ≡ true) (x.value ∷ []) xs = each_split (λ r. Each (λ y. apart r y.value ≡ true) xs) front (x.value ∷ []) rest.0 in
    (across_cons (λ r y. apart r y.value ≡ true) x xs front (AllByRecursion-weaker (λ r. not (apart r x.value) ≡ false) (λ r. apart r x.value ≡ true) (λ r. not-false _) front new) parts.0, (parts.1.0, rest.1))

-- ---- all regions

abbrev IsRamOf : PartsRecord → Region → Type 0
IsRamOf p = RamBetween RAM_BASE (RAM_BASE + 1048576 * length p.manifests)

rams_are_between : (p : PartsRecord) → Sizes p → Each (IsRamOf p) (rams_of p)
rams_are_between p sizes = rams_between p.level 0 RAM_BASE p.manifests sizes.rams

front_pairs : (p : PartsRecord) → Sizes p → Pairs (λ r q. apart r q ≡ true) (rams_of p ++ non_secure_of p ∷ [])
front_pairs p sizes =
    pairs_append (λ r q. apart r q ≡ true) (rams_of p) (non_secure_of p ∷ [])
    (pairs_weaker InFront (λ r q. apart r q ≡ true) front_apart (rams_of p) (rams_in_front p.level 0 RAM_BASE p.manifests sizes.rams))
    (tt, tt)
    (AllByRecursion-weaker (IsRamOf p) (λ r. Each (λ q. apart r q ≡ true) (non_secure_of p ∷ []))
    (λ r b. (behind_apart r (non_secure_of p) (let l : RAM_BASE ≤ r.base = b.from in let m : rounded p.non_secure_ram ≤ 1048576 = sizes.non_secure in omega arith), tt)) (rams_of p) (rams_are_between p sizes))

regions_apart : (p : PartsRecord) → Sizes p → overlaps p ≡ [] → each_pair apart (regions_laid_out p) ≡ true
regions_apart p sizes e =
    let none : Across (λ r x. apart r x.value ≡ true) (rams_of p ++ non_secure_of p ∷ []) (mmio_of p) × Pairs (λ x y. apart x.value y.value ≡ true) (mmio_of p) = none_overlaps (rams_of p ++ non_secure_of p ∷ []) (mmio_of p) e in
    let pairs : Pairs (λ r q. apart r q ≡ true) ((rams_of p ++ non_secure_of p ∷ []) ++ map (λ x. x.value) (mmio_of p)) =
    pairs_append (λ r q. apart r q ≡ true) (rams_of p ++ non_secure_of p ∷ []) (map (λ x. x.value) (mmio_of p)) (front_pairs p sizes)
    (pairs_map (λ r q. apart r q ≡ true) (λ x. x.value) (mmio_of p) none.1)
    (AllByRecursion-weaker (λ r. Each (λ x. apart r x.value ≡ true) (mmio_of p)) (λ r. Each (λ q. apart r q ≡ true) (map (λ x. x.value) (mmio_of p)))
    (λ r. each_map (λ q. apart r q ≡ true) (λ x. x.value) (mmio_of p)) (rams_of p ++ non_secure_of p ∷ []) none.0) in
    pairs_test (λ r q. apart r q ≡ true) apart (λ r q h. h) (regions_laid_out p)
    (subst (Pairs (λ r q. apart r q ≡ true)) (append_assoc (rams_of p) (non_secure_of p ∷ []) (map (λ x. x.value) (mmio_of p))) pairs)

none_counted : (xs : List Region) → Each (λ r. is_nonsecure r.class ≡ false) xs → count_by (λ r. is_nonsecure r.class) xs ≡ 0
none_counted [] h = refl
none_counted (x ∷ xs) h = rw h.0 (none_counted xs h.1)

one_non_secure : (p : PartsRecord) → IsParts p → Sizes p → count_by (λ r. is_nonsecure r.class) (regions_laid_out p) ≡ 1
one_non_secure p parts sizes =
    let rams : count_by (λ r. is_nonsecure r.class) (rams_of p) ≡ 0 =
    none_counted (rams_of p) (AllByRecursion-weaker (IsRamOf p) (λ r. is_nonsecure r.class ≡ false) (λ r b. b.secure) (rams_of p) (rams_are_between p sizes)) in
    let mmio : count_by (λ r. is_nonsecure r.class) (map (λ x. x.value) (mmio_of p)) ≡ 0 =
    none_counted (map (λ x. x.value) (mmio_of p)) (each_map (λ r. is_nonsecure r.class ≡ false) (λ x. x.value) (mmio_of p)
    (AllByRecursion-weaker (MmioRight (length p.manifests)) (λ y. is_nonsecure y.value.class ≡ false) (λ y h. h.0.secure) (mmio_of p) (mmio_right p parts sizes))) in
    let one : count_by (λ r. is_nonsecure r.class) (regions_laid_out p) ≡ count_by (λ r. is_nonsecure r.class) (rams_of p) + count_by (λ r. is_nonsecure r.class) (non_secure_of p ∷ map (λ x. x.value) (mmio_of p)) =
    sum_by-append (λ r. cond (is_nonsecure r.class) 1 0) (rams_of p) (non_secure_of p ∷ map (λ x. x.value) (mmio_of p)) in
    let two : count_by (λ r. is_nonsecure r.class) (non_secure_of p ∷ map (λ x. x.value) (mmio_of p)) ≡ 1 + count_by (λ r. is_nonsecure r.class) (map (λ x. x.value) (mmio_of p)) =
    sum_by-append (λ r. cond (is_nonsecure r.class) 1 0) (non_secure_of p ∷ []) (map (λ x. x.value) (mmio_of p)) in
    omega arith

abbrev Within : ℕ → Region → Type 0
Within n r = (owner_below n r.class ≡ true) × ((r.size ≤ 1048576) × (r.base + r.size ≤ 4294967296))

regions_within : (p : PartsRecord) (n : ℕ) → n ≡ length p.manifests → IsParts p → length p.manifests ≤ 32 → Sizes p
    → list_all (λ r. owner_below n r.class && nat_le r.size 1048576 && nat_le (r.base + r.size) 4294967296) (regions_laid_out p) ≡ true
regions_within p n counted parts few sizes =
    all_from (Within n) (λ r. owner_below n r.class && nat_le r.size 1048576 && nat_le (r.base + r.size) 4294967296)
    (λ r h. three _ _ _ h.0 (le-leb _ _ h.1.0) (le-leb _ _ h.1.1)) (regions_laid_out p)
    (AllByRecursion-append (Within n) (rams_of p) (non_secure_of p ∷ map (λ x. x.value) (mmio_of p))
    (AllByRecursion-weaker (IsRamOf p) (Within n)
    (λ r b. (b.owner n, (b.size, let l : r.base + r.size ≤ RAM_BASE + 1048576 * length p.manifests = b.ends in omega arith))) (rams_of p) (rams_are_between p sizes)) (
      (refl, (sizes.non_secure, let l : rounded p.non_secure_ram ≤ 1048576 = sizes.non_secure in omega arith)),
      each_map (Within n) (λ x. x.value) (mmio_of p)
          (AllByRecursion-weaker (MmioRight (length p.manifests)) (λ y. Within n y.value)
          (λ y h. (rw counted h.0.owner, (h.0.size, h.0.ends))) (mmio_of p) (mmio_right p parts sizes)),
    ))

pub regions_do_fit : (p : PartsRecord) (n : ℕ) → n ≡ length p.manifests → IsParts p → length p.manifests ≤ 32 → overlapping_regions p ≡ [] → memory_too_large p ≡ [] → regions_fit n (regions_laid_out p) ≡ true
regions_do_fit p n counted parts few apart_rule size_rule =
    let sizes : Sizes p = sizes_of p size_rule in
    four _ _ _ _ (eq-eqb _ _ (one_non_secure p parts sizes)) (regions_within p n counted parts few sizes) (le-leb _ _ sizes.together) (regions_apart p sizes (map_nil _ _ apart_rule))

-- ---- how many there are at most

pub length_rams : (level k base : ℕ) (ms : List ManifestRecord) → length (rams_from level k base ms) ≡ length ms
length_rams level k base [] = refl
length_rams level k base (m ∷ ms) = ap suc (length_rams level (k + 1) (base + ram_needed m) ms)

-- where each has a byte, they are no more than their bytes
at_most_bytes : (rs : List Region) → Each (λ r. 0 < r.size) rs → length rs ≤ sum_by (λ r. r.size) rs
at_most_bytes [] h = le_refl 0
at_most_bytes (r ∷ rs) h = omega (arith, h.0, at_most_bytes rs h.1, sum_by-cons (λ r. r.size) r rs)

pub few_regions : (p : PartsRecord) → IsParts p → memory_too_large p ≡ [] → length (regions_laid_out p) ≤ length p.manifests + 1 + 16777216
few_regions p parts size_rule =
    let sizes : Sizes p = sizes_of p size_rule in
    let mmio : List Region = map (λ x. x.value) (mmio_of p) in
    let few : length mmio ≤ sum_by (λ r. r.size) mmio =
    at_most_bytes mmio (each_map (λ r. 0 < r.size) (λ x. x.value) (mmio_of p)
    (AllByRecursion-weaker (MmioRight (length p.manifests)) (λ y. 0 < y.value.size) (λ y h. h.0.some) (mmio_of p) (mmio_right p parts sizes))) in
    let counted : length (regions_laid_out p) ≡ length (rams_of p) + suc (length mmio) = length-append (rams_of p) (non_secure_of p ∷ mmio) in
    let bytes : sum_by (λ r. r.size) (regions_laid_out p) ≡ sum_by (λ r. r.size) (rams_of p) + sum_by (λ r. r.size) (non_secure_of p ∷ mmio) =
    sum_by-append (λ r. r.size) (rams_of p) (non_secure_of p ∷ mmio) in
    omega (arith, few, counted, bytes, sum_by-cons (λ r. r.size) (non_secure_of p) mmio, length_rams p.level 0 RAM_BASE p.manifests, sizes.together)
