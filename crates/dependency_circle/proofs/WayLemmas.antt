-- What a search for ways home finds.
use Rattle.std.proofs.Common.{ℕ, ◌≡◌, ◌<◌, ◌&&◌, ◌||◌, ◌⊎◌, not, List, [], ◌∷◌, ◌++◌, arith, ◌∙◌, ap, sym, refl, Bool, true, false, append_assoc}
use Rattle.std.specs.Prelude.{◌==◌, nat_lt}
use Rattle.std.specs.List.{list_any, list_all}
use Rattle.std.proofs.lemmas.Bool.{cases_eq, and_parts, and_from, lt-ltb, or_right}
use Rattle.std.proofs.lemmas.List.Folds.{list_any-append}
use Rattle.std.proofs.lemmas.Bool.Decides.{nat_tests}
use Rattle.ffm_model.specs.Circles.{is_circle, are_different, is_way, is_new}
use Rattle.dependency_circle.specs.Ways.{are_apart, Begins, Homeward, goes}

-- a place that is marked has a way home by marked places
pub record MarkedWay (n : ℕ) (edge : ℕ → ℕ → Bool) (home : ℕ) (front : List ℕ) (marks : ℕ → Bool) (x : ℕ) : Type 0 where
  pub below : x < n
  pub homeward : Homeward n edge home front x
  pub all_marked : list_all marks (x ∷ homeward.rest) ≡ true

abbrev pub IsSound : ℕ → (ℕ → ℕ → Bool) → ℕ → List ℕ → (ℕ → Bool) → Type 0
IsSound n edge home front marks = (x : ℕ) → marks x ≡ true → MarkedWay n edge home front marks x

-- each place before a marked one, or before home, is marked
abbrev pub IsClosed : ℕ → (ℕ → ℕ → Bool) → ℕ → List ℕ → (ℕ → Bool) → Type 0
IsClosed n edge home front marks = (x y : ℕ) → x < n → is_new x front ≡ true → edge x y ≡ true → ((y == home) || marks y) ≡ true → marks x ≡ true

-- ---- tests

pub clash : (b : Bool) → b ≡ false → b ≡ true → ⊥
clash b e f = cc

-- ---- marks that are closed reach every way home
pub reached : (n : ℕ) (edge : ℕ → ℕ → Bool) (home : ℕ) (front : List ℕ) (marks : ℕ → Bool) → IsClosed n edge home front marks
    → (x : ℕ) (rest : List ℕ) → x < n → is_way n edge home x rest ≡ true → are_apart front (x ∷ rest) ≡ true → marks x ≡ true
reached n edge home front marks closed x [] low way apart = closed x home low (and_parts (is_new x front) true apart).0 way (or_left home (marks home))
  where
    or_left : (h : ℕ) (b : Bool) → ((h == h) || b) ≡ true
    or_left h b = grind (arith, nat_tests)
reached n edge home front marks closed x (y ∷ ys) low way apart =
    let later : (edge x y && is_way n edge home y ys) ≡ true = (and_parts (nat_lt y n) _ way).1 in
    let there : marks y ≡ true = reached n edge home front marks closed y ys (lower y n (and_parts (nat_lt y n) _ way).0) (and_parts (edge x y) _ later).1 (and_parts (is_new x front) _ apart).1 in
    closed x y low (and_parts (is_new x front) _ apart).0 (and_parts (edge x y) _ later).0 (or_right (y == home) (marks y) there)
  where
    lower : (y n : ℕ) → nat_lt y n ≡ true → y < n
    lower y n h = grind (arith, nat_tests)

-- ---- a place that was not marked, before one that is
pub new_of_unmarked : (marks : ℕ → Bool) (x : ℕ) (zs : List ℕ) → marks x ≡ false → list_all marks zs ≡ true → is_new x zs ≡ true
new_of_unmarked marks x [] h all = refl
new_of_unmarked marks x (z ∷ zs) h all =
    step x z (list_any (λ y. x == y) zs) (differ (cases_eq x z)) (new_of_unmarked marks x zs h (and_parts (marks z) (list_all marks zs) all).1)
  where
    step : (x z : ℕ) (b : Bool) → (x ≡ z → ⊥) → not b ≡ true → not ((x == z) || b) ≡ true
    step x z b ne h = grind (arith, nat_tests)

    differ : (x ≡ z) ⊎ (x ≡ z → ⊥) → x ≡ z → ⊥
    differ _ e = clash (marks x) h (ap marks e ∙ (and_parts (marks z) (list_all marks zs) all).0)

-- the way of a place x with an edge to y
abbrev pub way_by : (n : ℕ) (edge : ℕ → ℕ → Bool) (home : ℕ) (front : List ℕ) (marks : ℕ → Bool) (x y : ℕ)
    → marks x ≡ false → is_new x front ≡ true → edge x y ≡ true → MarkedWay n edge home front marks y → Homeward n edge home front x
way_by n edge home front marks x y unmarked new step w = record {
  rest = y ∷ w.homeward.rest;
  way = and_from (nat_lt y n) _ (lt-ltb y n w.below) (and_from (edge x y) _ step w.homeward.way);
  different = and_from (is_new x (y ∷ w.homeward.rest)) _ (new_of_unmarked marks x (y ∷ w.homeward.rest) unmarked w.all_marked) w.homeward.different;
  apart = and_from (is_new x front) _ new w.homeward.apart;
}

-- ---- circles that begin with front
pub way-split : (n : ℕ) (edge : ℕ → ℕ → Bool) (home x : ℕ) (t : List ℕ) (k : ℕ) (ys : List ℕ)
    → is_way n edge home x (t ++ k ∷ ys) ≡ (goes n edge x t k && is_way n edge home k ys)
way-split n edge home x [] k ys = regroup (nat_lt k n) (edge x k) (is_way n edge home k ys)
  where
    regroup : (a b c : Bool) → (a && (b && c)) ≡ ((a && b) && c)
    regroup true b c = refl
    regroup false b c = refl
way-split n edge home x (y ∷ t) k ys =
    ap (λ b. nat_lt y n && (edge x y && b)) (way-split n edge home y t k ys) ∙ regroup (nat_lt y n) (edge x y) (goes n edge y t k) (is_way n edge home k ys)
  where
    regroup : (a b c d : Bool) → (a && (b && (c && d))) ≡ ((a && (b && c)) && d)
    regroup true true c d = refl
    regroup true false c d = refl
    regroup false b c d = refl

new-append : (x : ℕ) (xs zs : List ℕ) → is_new x (xs ++ zs) ≡ (is_new x xs && is_new x zs)
new-append x xs zs = ap not (list_any-append (λ y. x == y) xs zs) ∙ de_morgan (list_any (λ y. x == y) xs) (list_any (λ y. x == y) zs)
  where
    de_morgan : (a b : Bool) → not (a || b) ≡ (not a && not b)
    de_morgan true b = refl
    de_morgan false b = refl

pub apart-cons : (x : ℕ) (xs zs : List ℕ) → are_apart (x ∷ xs) zs ≡ (is_new x zs && are_apart xs zs)
apart-cons x xs [] = refl
apart-cons x xs (z ∷ zs) =
    ap (λ b. is_new z (x ∷ xs) && b) (apart-cons x xs zs)
    ∙ ap (λ b. not (b || list_any (λ y. z == y) xs) && (is_new x zs && are_apart xs zs)) (turned z x)
    ∙ regroup (x == z) (list_any (λ y. z == y) xs) (list_any (λ y. x == y) zs) (are_apart xs zs)
  where
    turned : (a b : ℕ) → (a == b) ≡ (b == a)
    turned a b = grind (arith, nat_tests)

    regroup : (a b c d : Bool) → (not (a || b) && (not c && d)) ≡ (not (a || c) && (not b && d))
    regroup true b c d = refl
    regroup false true true d = refl
    regroup false true false d = refl
    regroup false false true d = refl
    regroup false false false d = refl

pub apart_none : (zs : List ℕ) → are_apart [] zs ≡ true
apart_none [] = refl
apart_none (z ∷ zs) = apart_none zs

pub different-append : (xs zs : List ℕ) → are_different (xs ++ zs) ≡ (are_different xs && (are_different zs && are_apart xs zs))
different-append [] zs = with_true (are_different zs) (are_apart [] zs) (apart_none zs)
  where
    with_true : (a b : Bool) → b ≡ true → a ≡ (a && b)
    with_true true b h = sym h
    with_true false b h = refl
different-append (x ∷ xs) zs =
    ap (λ b. b && are_different (xs ++ zs)) (new-append x xs zs)
    ∙ ap (λ b. (is_new x xs && is_new x zs) && b) (different-append xs zs)
    ∙ regroup (is_new x xs) (is_new x zs) (are_different xs) (are_different zs) (are_apart xs zs)
    ∙ ap (λ b. (is_new x xs && are_different xs) && (are_different zs && b)) (sym (apart-cons x xs zs))
  where
    regroup : (a b c d e : Bool) → ((a && b) && (c && (d && e))) ≡ ((a && c) && (d && (b && e)))
    regroup false b c d e = refl
    regroup true true c d e = refl
    regroup true false false d e = refl
    regroup true false true true e = refl
    regroup true false true false e = refl

-- what a front has for it to be gone on with by k
pub record GoesOn (n : ℕ) (edge : ℕ → ℕ → Bool) (home : ℕ) (t : List ℕ) (k : ℕ) : Type 0 where
  pub low : nat_lt home n ≡ true
  pub different : are_different (home ∷ t) ≡ true
  pub gone : goes n edge home t k ≡ true
  pub homeward : Homeward n edge home (home ∷ t) k

pub begins_by : (n : ℕ) (edge : ℕ → ℕ → Bool) (home : ℕ) (t : List ℕ) (k : ℕ) → GoesOn n edge home t k → Begins n edge ((home ∷ t) ++ k ∷ [])
begins_by n edge home t k w =
    let ys : List ℕ = w.homeward.rest in
    let all_different : are_different ((home ∷ t) ++ k ∷ ys) ≡ true =
    different-append (home ∷ t) (k ∷ ys) ∙ and_from (are_different (home ∷ t)) _ w.different (and_from (are_different (k ∷ ys)) _ w.homeward.different w.homeward.apart) in
    let way : is_way n edge home home (t ++ k ∷ ys) ≡ true = way-split n edge home home t k ys ∙ and_from (goes n edge home t k) _ w.gone w.homeward.way in
    record {
      rest = ys;
      circle = ap (is_circle n edge) (append_assoc (home ∷ t) (k ∷ []) ys)
          ∙ and_from (nat_lt home n) _ w.low (and_from (are_different ((home ∷ t) ++ k ∷ ys)) _ all_different way);
    }

pub goes_by : (n : ℕ) (edge : ℕ → ℕ → Bool) (home : ℕ) (t : List ℕ) (k : ℕ) → Begins n edge ((home ∷ t) ++ k ∷ []) → GoesOn n edge home t k
goes_by n edge home t k b =
    let ys : List ℕ = b.rest in
    let closed : is_circle n edge ((home ∷ t) ++ k ∷ ys) ≡ true = ap (is_circle n edge) (sym (append_assoc (home ∷ t) (k ∷ []) ys)) ∙ b.circle in
    let inner : (are_different ((home ∷ t) ++ k ∷ ys) && is_way n edge home home (t ++ k ∷ ys)) ≡ true = (and_parts (nat_lt home n) _ closed).1 in
    let parts : (are_different (home ∷ t) && (are_different (k ∷ ys) && are_apart (home ∷ t) (k ∷ ys))) ≡ true =
    sym (different-append (home ∷ t) (k ∷ ys)) ∙ (and_parts (are_different ((home ∷ t) ++ k ∷ ys)) _ inner).0 in
    let ways : (goes n edge home t k && is_way n edge home k ys) ≡ true =
    sym (way-split n edge home home t k ys) ∙ (and_parts (are_different ((home ∷ t) ++ k ∷ ys)) _ inner).1 in
    let two : (are_different (k ∷ ys) && are_apart (home ∷ t) (k ∷ ys)) ≡ true = (and_parts (are_different (home ∷ t)) _ parts).1 in
    record {
      low = (and_parts (nat_lt home n) _ closed).0;
      different = (and_parts (are_different (home ∷ t)) _ parts).0;
      gone = (and_parts (goes n edge home t k) _ ways).0;
      homeward = record {
        rest = ys;
        way = (and_parts (goes n edge home t k) _ ways).1;
        different = (and_parts (are_different (k ∷ ys)) _ two).0;
        apart = (and_parts (are_different (k ∷ ys)) _ two).1;
      };
    }
