-- Each partition has the RAM at its own place among the regions.
use Rattle.std.proofs.Common.{ℕ, suc, ◌≡◌, ◌+◌, ◌<◌, ◌≤◌, ◌⊎◌, inl, inr, ⊎_elim, Bool, true, false, not, ◌||◌, ◌==◌, List, [], ◌∷◌, ◌++◌, map, length, Option, Some, slice_get, refl, ap, sym, arith, append_assoc, subst, eq-eqb, ne_eqb, length-append}
use Rattle.std.specs.List.{AllByRecursion as Each, enumerate_from, list_any}
use Rattle.std.specs.Option.{option_map_or}
use Rattle.std.proofs.lemmas.Bool.{not_from_false, or_left, or_right, cases_eq}
use Rattle.law_lists.proofs.Lists.{slice_get-after, AllByRecursion-weaker}
use Rattle.ffm_model.specs.declared.constants.TheConstants.{RAM_BASE}
use Rattle.ffm_model.specs.declared.system.Region.{Region}
use Rattle.ffm_model.specs.declared.system.Partition.{Partition}
use Rattle.ffm_model.specs.declared.system.Class.TheVariants.{Ram}
use Rattle.ffm_model.specs.ManifestItems.{ManifestRecord}
use Rattle.ffm_model.specs.PartsItems.{PartsRecord, IsParts}
use Rattle.ffm_model.specs.WellFormed.{is_ram_in, is_ram, partitions_fit}
use Rattle.ffm_model.specs.Layout.{ram_needed, domain_at, rams_from, rams_of, non_secure_of, mmio_of, regions_laid_out}
use Rattle.ffm_model.specs.Compiled.{partition_of, partitions_of}
use Rattle.ffm_model.specs.Rules.{memory_too_large}
use Rattle.law_systems.proofs.Lists.{three, each_map, all_from, pairs_test, pairs_map}
use Rattle.law_systems.proofs.Numbered.{each_numbered, numbers_rise}
use Rattle.law_systems.proofs.Regions.{Secure, length_rams, sizes_of, mmio_right}

abbrev HasRam : List Region → Partition → Type 0
HasRam regions p = option_map_or (λ r. is_ram_in p.domain r.class) (slice_get regions p.ram) false ≡ true

own_domain : (domain : ℕ) (r : Option Region) (x : Region) → r ≡ Some x → is_ram_in domain x.class ≡ true → option_map_or (λ q. is_ram_in domain q.class) r false ≡ true
own_domain domain r x e h = rw e h

rams_found : (level k base : ℕ) (ms : List ManifestRecord) (front rest : List Region) → length front ≡ k
    → Each (HasRam (front ++ (rams_from level k base ms ++ rest))) (map (partition_of level) (enumerate_from k ms))
rams_found level k base [] front rest e = tt
rams_found level k base (m ∷ ms) front rest e =
    let ram : Region = record { base = base; size = ram_needed m; class = Ram (domain_at level m.rot (k + 1)) } in
    let behind = rams_from level (k + 1) (base + ram_needed m) ms ++ rest in (
      own_domain (domain_at level m.rot (k + 1)) (slice_get (front ++ ram ∷ behind) k) ram (slice_get-after front ram behind k e) (eq-eqb _ _ refl),
      subst (λ (regions : List Region). Each (HasRam regions) (map (partition_of level) (enumerate_from (k + 1) ms))) (append_assoc front (ram ∷ []) behind)
          (rams_found level (k + 1) (base + ram_needed m) ms (front ++ ram ∷ []) rest (let l = length-append front (ram ∷ []) in omega arith)),
    )

-- the regions after the RAM aren't RAM
front_or_other : (Q : Region → Type 0) (k : ℕ) (xs ys : List Region) → Each Q ys → Each (λ e. (e.0 < k + length xs) ⊎ Q e.1) (enumerate_from k (xs ++ ys))
front_or_other Q k [] ys h = AllByRecursion-weaker (λ e. Q e.1) (λ e. (e.0 < k + 0) ⊎ Q e.1) (λ e q. inr q) (enumerate_from k ys) (each_numbered Q k ys h)
front_or_other Q k (x ∷ xs) ys h = (
  inl (omega arith),
  AllByRecursion-weaker (λ e. (e.0 < k + 1 + length xs) ⊎ Q e.1) (λ e. (e.0 < k + length (x ∷ xs)) ⊎ Q e.1)
      (λ e s. ⊎_elim (λ (l : e.0 < k + 1 + length xs). inl (omega arith)) (λ (q : Q e.1). inr q) s) (enumerate_from (k + 1) (xs ++ ys)) (front_or_other Q (k + 1) xs ys h),
)

its_partition : (level k i : ℕ) (ms : List ManifestRecord) → k ≤ i → i < k + length ms → list_any (λ p. p.ram == i) (map (partition_of level) (enumerate_from k ms)) ≡ true
its_partition level k i [] from below = absurd (omega arith)
its_partition level k i (m ∷ ms) from below =
    ⊎_elim (λ (s : k ≡ i). or_left _ _ (eq-eqb k i s))
    (λ (d : k ≡ i → ⊥). or_right (k == i) _ (its_partition level (k + 1) i ms (omega arith) (omega arith))) (cases_eq k i)

owned : (a b : Bool) → (b ≡ true) ⊎ (a ≡ false) → (not a || b) ≡ true
owned a b h = ⊎_elim (λ (s : b ≡ true). or_right (not a) b s) (λ (s : a ≡ false). or_left (not a) b (not_from_false a s)) h

count : (level k : ℕ) (ms : List ManifestRecord) → length (map (partition_of level) (enumerate_from k ms)) ≡ length ms
count level k [] = refl
count level k (m ∷ ms) = ap suc (count level (k + 1) ms)

pub length_partitions : (p : PartsRecord) → length p.manifests ≡ length (map (partition_of p.level) (enumerate_from 0 p.manifests))
length_partitions p = sym (count p.level 0 p.manifests)

pub partitions_do_fit : (p : PartsRecord) → IsParts p → memory_too_large p ≡ [] → partitions_fit (partitions_of p) (regions_laid_out p) ≡ true
partitions_do_fit p parts size_rule =
    three _ _ _
    (all_from (HasRam (regions_laid_out p)) (λ q. option_map_or (λ r. is_ram_in q.domain r.class) (slice_get (regions_laid_out p) q.ram) false) (λ q h. h) (partitions_of p)
    (rams_found p.level 0 RAM_BASE p.manifests [] (non_secure_of p ∷ map (λ x. x.value) (mmio_of p)) refl))
    (pairs_test (λ q s. q.ram < s.ram) (λ q s. not (q.ram == s.ram)) (λ q s l. not_from_false _ (ne_eqb _ _ (λ (e : q.ram ≡ s.ram). omega arith))) (partitions_of p)
    (pairs_map (λ q s. q.ram < s.ram) (partition_of p.level) (enumerate_from 0 p.manifests) (numbers_rise 0 p.manifests)))
    (all_from (λ e. (e.0 < 0 + length (rams_of p)) ⊎ (is_ram e.1.class ≡ false)) (λ e. not (is_ram e.1.class) || list_any (λ q. q.ram == e.0) (partitions_of p))
    (λ e h. owned (is_ram e.1.class) (list_any (λ q. q.ram == e.0) (partitions_of p))
    (⊎_elim (λ (l : e.0 < 0 + length (rams_of p)). inl (its_partition p.level 0 e.0 p.manifests (omega arith) (let s = length_rams p.level 0 RAM_BASE p.manifests in omega arith))) (λ (s : is_ram e.1.class ≡ false). inr s) h))
    (enumerate_from 0 (regions_laid_out p))
    (front_or_other (λ r. is_ram r.class ≡ false) 0 (rams_of p) (non_secure_of p ∷ map (λ x. x.value) (mmio_of p)) (
      refl,
      each_map (λ r. is_ram r.class ≡ false) (λ x. x.value) (mmio_of p)
          (AllByRecursion-weaker (λ y. Secure (length p.manifests) y.value × (is_ram y.value.class ≡ false)) (λ y. is_ram y.value.class ≡ false) (λ y h. h.1) (mmio_of p) (mmio_right p parts (sizes_of p size_rule))),
    )))
