-- The signals of services and interrupt sources: one bit each, and different in one partition.
use Rattle.std.proofs.Common.{ℕ, zero, suc, ◌≡◌, ◌+◌, ◌^◌, ◌<◌, ◌≤◌, Bool, true, false, not, ◌&&◌, ◌==◌, List, [], ◌∷◌, map, flat_map, length, refl, sym, ◌∙◌, arith, nat_lt, add-zero, ltb-false, eq-eqb, eqb-true, lt-ltb, ⊎_elim}
use Rattle.std.specs.List.{AllByRecursion as Each, enumerate_from, list_all, list_any, range_with_len}
use Rattle.std.proofs.Math.Pow.{pow-lt}
use Rattle.std.proofs.lemmas.Bool.{and_from, cases_order, false_from_ne_true, not_from_false, and_parts, or_left, or_right}
use Rattle.law_lists.proofs.Lists.{map_nil, AllByRecursion-weaker}
use Rattle.ffm_model.specs.declared.constants.TheConstants.{MAX_SIGNALS}
use Rattle.ffm_model.specs.declared.system.Service.{Service}
use Rattle.ffm_model.specs.ManifestItems.{ManifestRecord, ServiceRecord}
use Rattle.ffm_model.specs.PartsItems.{PartsRecord}
use Rattle.ffm_model.specs.WellFormed.{is_signal_bit, signal_fits, signals_fit}
use Rattle.ffm_model.specs.Compiled.{signal_at, service_of, source_of, sources_of_manifest, sources_of}
use Rattle.ffm_model.specs.Rules.{too_many_signals}
use Rattle.law_systems.proofs.Lists.{five, filter_nil, all_from, Pairs, pairs_test, across_from}
use Rattle.law_systems.proofs.Numbered.{Among, flat_each, flat_pairs, flat_across}

-- ---- bits

pub same_power : (a b : ℕ) → 2 ^ a ≡ 2 ^ b → a ≡ b
same_power a b e =
    ⊎_elim (λ (s : a ≡ b). s) (λ o. ⊎_elim (λ (l : a < b). absurd (let p : 2 ^ a < 2 ^ b = pow-lt l in omega arith)) (λ (l : b < a). absurd (let p : 2 ^ b < 2 ^ a = pow-lt l in omega arith)) o) (cases_order a b)

any_in_range : (p : ℕ → Bool) (a n i : ℕ) → i < n → p (a + i) ≡ true → list_any p (range_with_len a n) ≡ true
any_in_range p a zero i below h = absurd (omega arith)
any_in_range p a (suc n) zero below h = or_left _ _ (rw add-zero at h)
any_in_range p a (suc n) (suc i) below h = or_right _ _ (any_in_range p (a + 1) n i (omega arith) (let e : a + suc i ≡ a + 1 + i = omega arith in rw e at h))

place_is_bit : (place : ℕ) → place < 28 → is_signal_bit (signal_at place) ≡ true
place_is_bit place below = any_in_range (λ k. 2 ^ k == 2 ^ (4 + place)) 4 28 place below (eq-eqb _ _ refl)

-- ---- of one partition

-- the k-th partition's, with the signal of a place
pub record Placed (k low high owner signal : ℕ) : Type 0 where
  pub place : ℕ
  pub owned : owner ≡ k
  pub from : low ≤ place
  pub below : place < high
  pub is : signal ≡ signal_at place

abbrev Different : ℕ → ℕ → ℕ → ℕ → Type 0
Different a s b t = a ≡ b → s ≡ t → ⊥

different_from : (k i j u v : ℕ) (a s b t : ℕ) → Placed k i j a s → Placed k u v b t → j ≤ u → Different a s b t
different_from k i j u v a s b t p q apart o e =
    let places : 4 + p.place ≡ 4 + q.place = same_power (4 + p.place) (4 + q.place) (sym p.is ∙ e ∙ q.is) in
    let l : p.place < j = p.below in let m : u ≤ q.place = q.from in omega arith

module _ {A B : Type 0} (f : ℕ × A → B) (owner signal : B → ℕ) (k : ℕ) (owned : (e : ℕ × A) → owner (f e) ≡ k) (signalled : (e : ℕ × A) → signal (f e) ≡ signal_at e.0) where
  each_placed : (i : ℕ) (xs : List A) → Each (λ v. Placed k i (i + length xs) (owner v) (signal v)) (map f (enumerate_from i xs))
  each_placed i [] = tt
  each_placed i (x ∷ xs) = (
    record { place = i; owned = owned (i, x); from = omega arith; below = omega arith; is = signalled (i, x) },
    AllByRecursion-weaker (λ v. Placed k (i + 1) (i + 1 + length xs) (owner v) (signal v)) (λ v. Placed k i (i + length (x ∷ xs)) (owner v) (signal v))
        (λ v p. record { place = p.place; owned = p.owned; from = let l : i + 1 ≤ p.place = p.from in omega arith; below = let l : p.place < i + 1 + length xs = p.below in omega arith; is = p.is })
        (map f (enumerate_from (i + 1) xs)) (each_placed (i + 1) xs),
  )

  pairs_different : (i : ℕ) (xs : List A) → Pairs (λ v w. Different (owner v) (signal v) (owner w) (signal w)) (map f (enumerate_from i xs))
  pairs_different i [] = tt
  pairs_different i (x ∷ xs) = (
    AllByRecursion-weaker (λ v. Placed k (i + 1) (i + 1 + length xs) (owner v) (signal v)) (λ v. Different (owner (f (i, x))) (signal (f (i, x))) (owner v) (signal v))
        (λ v p. different_from k i (i + 1) (i + 1) (i + 1 + length xs) (owner (f (i, x))) (signal (f (i, x))) (owner v) (signal v) (record { place = i; owned = owned (i, x); from = omega arith; below = omega arith; is = signalled (i, x) }) p (omega arith))
        (map f (enumerate_from (i + 1) xs)) (each_placed (i + 1) xs),
    pairs_different (i + 1) xs,
  )

-- ---- of all partitions

-- a service with no index, by its partition and its place
abbrev pub plain_service : ℕ → ℕ × ServiceRecord → Service
plain_service owner e = service_of 0 (record { manifest = owner; item = e.0; value = e.1 })

abbrev pub services_of_manifest : ℕ × ManifestRecord → List Service
services_of_manifest e = map (plain_service e.0) (enumerate_from 0 e.1.services)

abbrev plain_services : PartsRecord → List Service
plain_services p = flat_map services_of_manifest (enumerate_from 0 p.manifests)

-- services and interrupts are at most the signals
abbrev pub Few : ℕ × ManifestRecord → Type 0
Few e = length e.1.services + length e.1.irqs ≤ 28

within : (k low high owner signal : ℕ) → high ≤ 28 → Placed k low high owner signal → Placed k 0 28 owner signal
within k low high owner signal few p = record { place = p.place; owned = p.owned; from = omega arith; below = let l : p.place < high = p.below in omega arith; is = p.is }

services_placed : (e : ℕ × ManifestRecord) → Each (λ v. Placed e.0 0 (0 + length e.1.services) v.owner v.signal) (services_of_manifest e)
services_placed e = each_placed (plain_service e.0) (λ v. v.owner) (λ v. v.signal) e.0 (λ x. refl) (λ x. refl) 0 e.1.services

sources_placed : (e : ℕ × ManifestRecord) → Each (λ v. Placed e.0 (length e.1.services) (length e.1.services + length e.1.irqs) v.owner v.signal) (sources_of_manifest e)
sources_placed e = each_placed (source_of e.1.framework e.0) (λ v. v.owner) (λ v. v.signal) e.0 (λ x. refl) (λ x. refl) (length e.1.services) e.1.irqs

services_at : (e : ℕ × ManifestRecord) → Few e → Each (λ v. Placed e.0 0 28 v.owner v.signal) (services_of_manifest e)
services_at e few =
    AllByRecursion-weaker (λ v. Placed e.0 0 (0 + length e.1.services) v.owner v.signal) (λ v. Placed e.0 0 28 v.owner v.signal)
    (λ v. within e.0 0 (0 + length e.1.services) v.owner v.signal (omega arith)) (services_of_manifest e) (services_placed e)

sources_at : (e : ℕ × ManifestRecord) → Few e → Each (λ v. Placed e.0 0 28 v.owner v.signal) (sources_of_manifest e)
sources_at e few =
    AllByRecursion-weaker (λ v. Placed e.0 (length e.1.services) (length e.1.services + length e.1.irqs) v.owner v.signal) (λ v. Placed e.0 0 28 v.owner v.signal)
    (λ v. within e.0 (length e.1.services) (length e.1.services + length e.1.irqs) v.owner v.signal (omega arith)) (sources_of_manifest e) (sources_placed e)

other_owners : (i j a s b t : ℕ) → (i ≡ j → ⊥) → Placed i 0 28 a s → Placed j 0 28 b t → Different a s b t
other_owners i j a s b t other p q o e = other (sym p.owned ∙ o ∙ q.owned)

pub few_signals : (p : PartsRecord) → too_many_signals p ≡ [] → Each (λ e. Few e) (enumerate_from 0 p.manifests)
few_signals p e =
    let none : Each (λ m. nat_lt MAX_SIGNALS (length m.1.services + length m.1.irqs) ≡ false) (enumerate_from 0 p.manifests) = filter_nil _ _ (map_nil _ _ e) in
    AllByRecursion-weaker (λ m. nat_lt MAX_SIGNALS (length m.1.services + length m.1.irqs) ≡ false) (λ m. length m.1.services + length m.1.irqs ≤ 28) (λ m t. ltb-false _ _ t) (enumerate_from 0 p.manifests) none

fits : (n k owner signal : ℕ) → k < n → Placed k 0 28 owner signal → signal_fits n owner signal ≡ true
fits n k owner signal below p =
    and_from _ _ (lt-ltb owner n (let o : owner ≡ k = p.owned in omega arith)) (rw p.is (place_is_bit p.place p.below))

no_clash : (a s b t : ℕ) → Different a s b t → not ((a == b) && (s == t)) ≡ true
no_clash a s b t d = not_from_false _ (false_from_ne_true _ (λ e. let parts : ((a == b) ≡ true) × ((s == t) ≡ true) = and_parts _ _ e in d (eqb-true _ _ parts.0) (eqb-true _ _ parts.1)))

pub signals_do_fit : (p : PartsRecord) (n : ℕ) → n ≡ length p.manifests → too_many_signals p ≡ [] → signals_fit n (flat_map services_of_manifest (enumerate_from 0 p.manifests)) (sources_of p) ≡ true
signals_do_fit p n counted rule =
    let few : Each (λ e. Few e) (enumerate_from 0 p.manifests) = few_signals p rule in
    five _ _ _ _ _ (all_from (Among (λ k v. Placed k 0 28 v.owner v.signal) 0 (0 + length p.manifests)) (λ v. signal_fits n v.owner v.signal)
    (λ v a. fits n a.number v.owner v.signal (let l : a.number < 0 + length p.manifests = a.below in omega arith) a.holds) (plain_services p)
    (flat_each (λ e. Few e) (λ k v. Placed k 0 28 v.owner v.signal) services_of_manifest services_at 0 p.manifests few))
    (all_from (Among (λ k v. Placed k 0 28 v.owner v.signal) 0 (0 + length p.manifests)) (λ v. signal_fits n v.owner v.signal)
    (λ v a. fits n a.number v.owner v.signal (let l : a.number < 0 + length p.manifests = a.below in omega arith) a.holds) (sources_of p)
    (flat_each (λ e. Few e) (λ k v. Placed k 0 28 v.owner v.signal) sources_of_manifest sources_at 0 p.manifests few))
    (pairs_test (λ v w. Different v.owner v.signal w.owner w.signal) (λ v w. not ((v.owner == w.owner) && (v.signal == w.signal)))
    (λ v w. no_clash v.owner v.signal w.owner w.signal) (plain_services p)
    (flat_pairs (λ e. Few e) (λ k v. Placed k 0 28 v.owner v.signal) (λ v w. Different v.owner v.signal w.owner w.signal) services_of_manifest services_at
    (λ e few_here. pairs_different (plain_service e.0) (λ v. v.owner) (λ v. v.signal) e.0 (λ x. refl) (λ x. refl) 0 e.1.services)
    (λ i j v w l. other_owners i j v.owner v.signal w.owner w.signal (λ s. omega arith)) 0 p.manifests few))
    (pairs_test (λ v w. Different v.owner v.signal w.owner w.signal) (λ v w. not ((v.owner == w.owner) && (v.signal == w.signal)))
    (λ v w. no_clash v.owner v.signal w.owner w.signal) (sources_of p)
    (flat_pairs (λ e. Few e) (λ k v. Placed k 0 28 v.owner v.signal) (λ v w. Different v.owner v.signal w.owner w.signal) sources_of_manifest sources_at
    (λ e few_here. pairs_different (source_of e.1.framework e.0) (λ v. v.owner) (λ v. v.signal) e.0 (λ x. refl) (λ x. refl) (length e.1.services) e.1.irqs)
    (λ i j v w l. other_owners i j v.owner v.signal w.owner w.signal (λ s. omega arith)) 0 p.manifests few))
    (all_from (λ v. Each (λ w. Different v.owner v.signal w.owner w.signal) (sources_of p)) (λ v. list_all (λ w. not ((v.owner == w.owner) && (v.signal == w.signal))) (sources_of p))
    (λ v. all_from (λ w. Different v.owner v.signal w.owner w.signal) (λ w. not ((v.owner == w.owner) && (v.signal == w.signal))) (λ w. no_clash v.owner v.signal w.owner w.signal) (sources_of p)) (plain_services p)
    (flat_across (λ e. Few e) (λ k v. Placed k 0 28 v.owner v.signal) (λ k v. Placed k 0 28 v.owner v.signal) (λ v w. Different v.owner v.signal w.owner w.signal) services_of_manifest sources_of_manifest services_at sources_at
    (λ e few_here. across_from (λ v. Placed e.0 0 (0 + length e.1.services) v.owner v.signal) (λ v. Placed e.0 (length e.1.services) (length e.1.services + length e.1.irqs) v.owner v.signal) (λ v w. Different v.owner v.signal w.owner w.signal)
    (λ v w p q. different_from e.0 0 (0 + length e.1.services) (length e.1.services) (length e.1.services + length e.1.irqs) v.owner v.signal w.owner w.signal p q (omega arith))
    (services_of_manifest e) (sources_of_manifest e) (services_placed e) (sources_placed e))
    (λ i j v w. other_owners i j v.owner v.signal w.owner w.signal) 0 p.manifests few))
