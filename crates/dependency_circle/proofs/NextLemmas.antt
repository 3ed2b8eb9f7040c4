-- The least place that goes on to a circle.
use Rattle.std.proofs.Common.{ℕ, ◌≡◌, ◌<◌, ◌+◌, ◌&&◌, List, [], ◌∷◌, ◌++◌, get_or, arith, sym, subst, Bool, true, false}
use Rattle.std.specs.Prelude.{nat_lt}
use Rattle.std.proofs.lemmas.Bool.{ltb-true, and_parts, and_from}
use Rattle.std.proofs.lemmas.Bool.Decides.{nat_tests}
use Rattle.ffm_model.specs.Circles.{is_way, is_new, are_different}
use Rattle.dependency_circle.specs.Ways.{Begins, goes, are_apart, Homeward, TellsWays}
use Rattle.dependency_circle.proofs.WayLemmas.{begins_by, goes_by, GoesOn, apart_none, clash}
use Rattle.dependency_circle.proofs.SpreadLemmas.{below_or_at}

pub goes_below : (n : ℕ) (edge : ℕ → ℕ → Bool) (home : ℕ) (t : List ℕ) (k : ℕ) → goes n edge home t k ≡ true → k < n
goes_below n edge home [] k h = let e : nat_lt k n ≡ true = (and_parts (nat_lt k n) _ h).0 in lower k n e
  where
    lower : (k n : ℕ) → nat_lt k n ≡ true → k < n
    lower k n e = grind (arith, nat_tests)
goes_below n edge home (y ∷ t) k h = goes_below n edge y t k (and_parts (edge home y) _ (and_parts (nat_lt y n) _ h).1).1

-- no place below k goes on from front
abbrev pub NoneBelow : ℕ → (ℕ → ℕ → Bool) → List ℕ → ℕ → Type 0
NoneBelow n edge front k = (j : ℕ) → j < k → ¬ Begins n edge (front ++ j ∷ [])

-- the test by which a place goes on from front
abbrev pub goes_on : ℕ → (ℕ → ℕ → Bool) → ℕ → List ℕ → List ℕ → List Bool → ℕ → Bool
goes_on n edge home t front marks k = get_or marks k false && (is_new k front && goes n edge home t k)

pub after_found : (n : ℕ) (edge : ℕ → ℕ → Bool) (home : ℕ) (t front : List ℕ) (marks : List Bool) (k : ℕ) → front ≡ home ∷ t → TellsWays n edge home front marks
    → (nat_lt home n && are_different front) ≡ true → goes_on n edge home t front marks k ≡ true → Begins n edge (front ++ k ∷ [])
after_found n edge home t front marks k e tells well h =
    let P : List ℕ → Type 0 = λ f. TellsWays n edge home f marks → (nat_lt home n && are_different f) ≡ true → goes_on n edge home t f marks k ≡ true → Begins n edge (f ++ k ∷ []) in
    subst P (sym e) (λ w g on.
    let later : (is_new k (home ∷ t) && goes n edge home t k) ≡ true = (and_parts (get_or marks k false) _ on).1 in
    let gone : goes n edge home t k ≡ true = (and_parts (is_new k (home ∷ t)) _ later).1 in
    begins_by n edge home t k (record {
      low = (and_parts (nat_lt home n) _ g).0;
      different = (and_parts (nat_lt home n) _ g).1;
      gone = gone;
      homeward = w.found k (goes_below n edge home t k gone) (and_parts (is_new k (home ∷ t)) _ later).0 (and_parts (get_or marks k false) _ on).0;
    })) tells well h

pub after_not : (n : ℕ) (edge : ℕ → ℕ → Bool) (home : ℕ) (t front : List ℕ) (marks : List Bool) (k : ℕ) → front ≡ home ∷ t → TellsWays n edge home front marks
    → goes_on n edge home t front marks k ≡ false → ¬ Begins n edge (front ++ k ∷ [])
after_not n edge home t front marks k e tells h b =
    let P : List ℕ → Type 0 = λ f. TellsWays n edge home f marks → goes_on n edge home t f marks k ≡ false → Begins n edge (f ++ k ∷ []) → ⊥ in
    subst P (sym e) (λ w not_on g.
    let on : GoesOn n edge home t k = goes_by n edge home t k g in
    clash (goes_on n edge home t (home ∷ t) marks k) not_on (and_from (get_or marks k false) _ (w.all k (goes_below n edge home t k on.gone) on.homeward)
    (and_from (is_new k (home ∷ t)) _ (apart_first (home ∷ t) k on.homeward.rest on.homeward.apart) on.gone))) tells h b
  where
    apart_first : (front : List ℕ) (k : ℕ) (zs : List ℕ) → are_apart front (k ∷ zs) ≡ true → is_new k front ≡ true
    apart_first front k zs h = (and_parts (is_new k front) _ h).0

pub after_more : (n : ℕ) (edge : ℕ → ℕ → Bool) (home : ℕ) (t front : List ℕ) (marks : List Bool) (k : ℕ) → front ≡ home ∷ t → TellsWays n edge home front marks
    → NoneBelow n edge front k → goes_on n edge home t front marks k ≡ false → NoneBelow n edge front (k + 1)
after_more n edge home t front marks k e tells below h =
    let P : ℕ → Type 0 = λ j. Begins n edge (front ++ j ∷ []) → ⊥ in below_or_at P k below (after_not n edge home t front marks k e tells h)

pub after_none : (n : ℕ) (edge : ℕ → ℕ → Bool) (home : ℕ) (t front : List ℕ) → front ≡ home ∷ t → NoneBelow n edge front n → (j : ℕ) → ¬ Begins n edge (front ++ j ∷ [])
after_none n edge home t front e below j b =
    let P : List ℕ → Type 0 = λ f. Begins n edge (f ++ j ∷ []) → j < n in
    below j (subst P (sym e) (λ g. goes_below n edge home t j (goes_by n edge home t j g).gone) b) b

pub after_badly : (n : ℕ) (edge : ℕ → ℕ → Bool) (home : ℕ) (t front : List ℕ) → front ≡ home ∷ t → (nat_lt home n && are_different front) ≡ false → (j : ℕ) → ¬ Begins n edge (front ++ j ∷ [])
after_badly n edge home t front e bad j b =
    let P : List ℕ → Type 0 = λ f. (nat_lt home n && are_different f) ≡ false → Begins n edge (f ++ j ∷ []) → ⊥ in
    subst P (sym e) (λ h g. let on : GoesOn n edge home t j = goes_by n edge home t j g in
    clash (nat_lt home n && are_different (home ∷ t)) h (and_from (nat_lt home n) _ on.low on.different)) bad b

homeward_first : (n : ℕ) (edge : ℕ → ℕ → Bool) (k : ℕ) → (b : Begins n edge ([] ++ k ∷ [])) → (k < n) × Homeward n edge k [] k
homeward_first n edge k b =
    let inner : (are_different (k ∷ b.rest) && is_way n edge k k b.rest) ≡ true = (and_parts (nat_lt k n) _ b.circle).1 in (
      ltb-true k n (and_parts (nat_lt k n) _ b.circle).0,
      record { rest = b.rest; way = (and_parts (are_different (k ∷ b.rest)) _ inner).1; different = (and_parts (are_different (k ∷ b.rest)) _ inner).0; apart = apart_none (k ∷ b.rest) },
    )

pub first_more : (n : ℕ) (edge : ℕ → ℕ → Bool) (marks : List Bool) (k : ℕ) → TellsWays n edge k [] marks → NoneBelow n edge [] k → get_or marks k false ≡ false → NoneBelow n edge [] (k + 1)
first_more n edge marks k tells below h =
    let P : ℕ → Type 0 = λ j. Begins n edge ([] ++ j ∷ []) → ⊥ in
    below_or_at P k below (λ b. let two : (k < n) × Homeward n edge k [] k = homeward_first n edge k b in clash (get_or marks k false) h (tells.all k two.0 two.1))

pub first_none : (n : ℕ) (edge : ℕ → ℕ → Bool) → NoneBelow n edge [] n → (j : ℕ) → ¬ Begins n edge ([] ++ j ∷ [])
first_none n edge below j b = below j (homeward_first n edge j b).0 b
