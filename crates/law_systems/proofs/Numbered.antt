-- Lists that are made of numbered items.
use Rattle.std.proofs.Common.{ℕ, ◌≡◌, ◌+◌, ◌<◌, ◌≤◌, List, [], ◌∷◌, ◌++◌, length, flat_map, arith, le_refl}
use Rattle.std.specs.List.{AllByRecursion as Each, enumerate_from}
use Rattle.law_lists.proofs.Lists.{AllByRecursion-weaker, AllByRecursion-append}
use Rattle.law_systems.proofs.Lists.{Pairs, pairs_append, Across, across_from, across_right}

pub each_numbered : {M : Type 0} (Q : M → Type 0) (k : ℕ) (ms : List M) → Each Q ms → Each (λ e. Q e.1) (enumerate_from k ms)
each_numbered Q k [] h = tt
each_numbered Q k (m ∷ ms) h = (h.0, each_numbered Q (k + 1) ms h.1)

pub each_unnumbered : {M : Type 0} (Q : M → Type 0) (k : ℕ) (ms : List M) → Each (λ e. Q e.1) (enumerate_from k ms) → Each Q ms
each_unnumbered Q k [] h = tt
each_unnumbered Q k (m ∷ ms) h = (h.0, each_unnumbered Q (k + 1) ms h.1)

-- the fact holds at some number from low on and below high
pub record Among {A : Type 0} (P : ℕ → A → Type 0) (low high : ℕ) (x : A) : Type 0 where
  pub number : ℕ
  pub from : low ≤ number
  pub below : number < high
  pub holds : P number x

pub numbers_of : {M : Type 0} (k : ℕ) (ms : List M) → Each (λ e. (k ≤ e.0) × (e.0 < k + length ms)) (enumerate_from k ms)
numbers_of k [] = tt
numbers_of k (m ∷ ms) = (
  (le_refl k, omega arith),
  AllByRecursion-weaker (λ e. (k + 1 ≤ e.0) × (e.0 < k + 1 + length ms)) (λ e. (k ≤ e.0) × (e.0 < k + length (m ∷ ms))) (λ e h. (omega arith, omega arith)) (enumerate_from (k + 1) ms) (numbers_of (k + 1) ms),
)

pub numbers_rise : {M : Type 0} (k : ℕ) (ms : List M) → Pairs (λ e f. e.0 < f.0) (enumerate_from k ms)
numbers_rise k [] = tt
numbers_rise k (m ∷ ms) = (
  AllByRecursion-weaker (λ e. (k + 1 ≤ e.0) × (e.0 < k + 1 + length ms)) (λ f. k < f.0) (λ e h. omega arith) (enumerate_from (k + 1) ms) (numbers_of (k + 1) ms),
  numbers_rise (k + 1) ms,
)

-- each item of the lists that the numbered items make
pub flat_each : {M A : Type 0} (Q : ℕ × M → Type 0) (P : ℕ → A → Type 0) (f : ℕ × M → List A) → ((e : ℕ × M) → Q e → Each (P e.0) (f e))
    → (k : ℕ) (ms : List M) → Each Q (enumerate_from k ms) → Each (Among P k (k + length ms)) (flat_map f (enumerate_from k ms))
flat_each Q P f each k [] h = tt
flat_each Q P f each k (m ∷ ms) h =
    AllByRecursion-append (Among P k (k + length (m ∷ ms))) (f (k, m)) (flat_map f (enumerate_from (k + 1) ms))
    (AllByRecursion-weaker (P k) (Among P k (k + length (m ∷ ms))) (λ x p. record { number = k; from = le_refl k; below = omega arith; holds = p }) (f (k, m)) (each (k, m) h.0))
    (AllByRecursion-weaker (Among P (k + 1) (k + 1 + length ms)) (Among P k (k + length (m ∷ ms)))
    (λ x a. record { number = a.number; from = let l : k + 1 ≤ a.number = a.from in omega arith; below = let l : a.number < k + 1 + length ms = a.below in omega arith; holds = a.holds })
    (flat_map f (enumerate_from (k + 1) ms)) (flat_each Q P f each (k + 1) ms h.1))

-- each pair of them
pub flat_pairs : {M A : Type 0} (Q : ℕ × M → Type 0) (P : ℕ → A → Type 0) (R : A → A → Type 0) (f : ℕ × M → List A)
    → ((e : ℕ × M) → Q e → Each (P e.0) (f e)) → ((e : ℕ × M) → Q e → Pairs R (f e)) → ((i j : ℕ) (x y : A) → i < j → P i x → P j y → R x y)
    → (k : ℕ) (ms : List M) → Each Q (enumerate_from k ms) → Pairs R (flat_map f (enumerate_from k ms))
flat_pairs Q P R f each inside later k [] h = tt
flat_pairs Q P R f each inside later k (m ∷ ms) h =
    pairs_append R (f (k, m)) (flat_map f (enumerate_from (k + 1) ms)) (inside (k, m) h.0) (flat_pairs Q P R f each inside later (k + 1) ms h.1)
    (across_from (P k) (Among P (k + 1) (k + 1 + length ms)) R (λ x y p a. let l : k + 1 ≤ a.number = a.from in later k a.number x y (omega arith) p a.holds)
    (f (k, m)) (flat_map f (enumerate_from (k + 1) ms)) (each (k, m) h.0) (flat_each Q P f each (k + 1) ms h.1))

-- each item of the one kind with each of the other
pub flat_across : {M A B : Type 0} (Q : ℕ × M → Type 0) (P : ℕ → A → Type 0) (S : ℕ → B → Type 0) (R : A → B → Type 0) (f : ℕ × M → List A) (g : ℕ × M → List B)
    → ((e : ℕ × M) → Q e → Each (P e.0) (f e)) → ((e : ℕ × M) → Q e → Each (S e.0) (g e)) → ((e : ℕ × M) → Q e → Across R (f e) (g e))
    → ((i j : ℕ) (x : A) (y : B) → (i ≡ j → ⊥) → P i x → S j y → R x y)
    → (k : ℕ) (ms : List M) → Each Q (enumerate_from k ms) → Across R (flat_map f (enumerate_from k ms)) (flat_map g (enumerate_from k ms))
flat_across Q P S R f g each other inside apart k [] h = tt
flat_across Q P S R f g each other inside apart k (m ∷ ms) h =
    let fs = flat_map f (enumerate_from (k + 1) ms) in
    let gs = flat_map g (enumerate_from (k + 1) ms) in
    AllByRecursion-append (λ x. Each (R x) (g (k, m) ++ gs)) (f (k, m)) fs
    (across_right R (f (k, m)) (g (k, m)) gs (inside (k, m) h.0)
    (across_from (P k) (Among S (k + 1) (k + 1 + length ms)) R (λ x y p a. let l : k + 1 ≤ a.number = a.from in apart k a.number x y (λ s. omega arith) p a.holds)
    (f (k, m)) gs (each (k, m) h.0) (flat_each Q S g other (k + 1) ms h.1)))
    (across_right R fs (g (k, m)) gs
    (across_from (Among P (k + 1) (k + 1 + length ms)) (S k) R (λ x y a p. let l : k + 1 ≤ a.number = a.from in apart a.number k x y (λ s. omega arith) a.holds p)
    fs (g (k, m)) (flat_each Q P f each (k + 1) ms h.1) (other (k, m) h.0))
    (flat_across Q P S R f g each other inside apart (k + 1) ms h.1))
