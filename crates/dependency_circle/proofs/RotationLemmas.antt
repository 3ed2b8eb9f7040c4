-- Each rotation of a circle is a circle, so the first circle begins with the least place on any circle.
use Rattle.std.proofs.Common.{ℕ, ◌≡◌, ◌<◌, ◌≤◌, ◌&&◌, List, [], ◌∷◌, ◌++◌, arith, ◌∙◌, ap, sym, Bool, true, append_assoc}
use Rattle.std.specs.Prelude.{nat_lt, All}
use Rattle.std.proofs.lemmas.Bool.Decides.{nat_tests}
use Rattle.std.proofs.lemmas.List.{append-nil}
use Rattle.std.proofs.lemmas.List.Elements.{All-nil, All-cons}
use Rattle.std.proofs.lemmas.Bool.{and_from, and_parts}
use Rattle.ffm_model.specs.Circles.{is_circle, is_way, is_new, are_different}
use Rattle.dependency_circle.specs.Circles.{is_not_after, IsFirstCircle}
use Rattle.dependency_circle.specs.Ways.{goes, are_apart}
use Rattle.dependency_circle.proofs.WayLemmas.{way-split, different-append, apart-cons, apart_none}
use Rattle.dependency_circle.proofs.NextLemmas.{goes_below}

-- a way that ends with an edge home goes there
goes_home : (n : ℕ) (edge : ℕ → ℕ → Bool) (home x : ℕ) (ys : List ℕ) → nat_lt home n ≡ true → is_way n edge home x ys ≡ true → goes n edge x ys home ≡ true
goes_home n edge home x [] low h = and_from (nat_lt home n) _ low h
goes_home n edge home x (y ∷ ys) low h =
    let later : (edge x y && is_way n edge home y ys) ≡ true = (and_parts (nat_lt y n) _ h).1 in
    and_from (nat_lt y n) _ (and_parts (nat_lt y n) _ h).0 (and_from (edge x y) _ (and_parts (edge x y) _ later).0 (goes_home n edge home y ys low (and_parts (edge x y) _ later).1))

way_back : (n : ℕ) (edge : ℕ → ℕ → Bool) (x from : ℕ) (ys : List ℕ) → goes n edge from ys x ≡ true → is_way n edge x from ys ≡ true
way_back n edge x from [] h = (and_parts (nat_lt x n) _ h).1
way_back n edge x from (y ∷ ys) h =
    let later : (edge from y && goes n edge y ys x) ≡ true = (and_parts (nat_lt y n) _ h).1 in
    and_from (nat_lt y n) _ (and_parts (nat_lt y n) _ h).0 (and_from (edge from y) _ (and_parts (edge from y) _ later).0 (way_back n edge x y ys (and_parts (edge from y) _ later).1))

apart_none_left : (zs : List ℕ) → are_apart zs [] ≡ are_apart [] zs
apart_none_left zs = sym (apart_none zs)

apart_swapped : (xs zs : List ℕ) → are_apart zs xs ≡ are_apart xs zs
apart_swapped [] zs = apart_none_left zs
apart_swapped (x ∷ xs) zs = ap (λ b. is_new x zs && b) (apart_swapped xs zs) ∙ sym (apart-cons x xs zs)

different_swapped : (xs zs : List ℕ) → are_different (xs ++ zs) ≡ true → are_different (zs ++ xs) ≡ true
different_swapped xs zs h =
    let parts : (are_different xs && (are_different zs && are_apart xs zs)) ≡ true = sym (different-append xs zs) ∙ h in
    let later : (are_different zs && are_apart xs zs) ≡ true = (and_parts (are_different xs) _ parts).1 in
    different-append zs xs ∙ and_from (are_different zs) _ (and_parts (are_different zs) _ later).0
    (and_from (are_different xs) _ (and_parts (are_different xs) _ parts).0 (apart_swapped xs zs ∙ (and_parts (are_different zs) _ later).1))

rotated_at : (n : ℕ) (edge : ℕ → ℕ → Bool) (home : ℕ) (t : List ℕ) (x : ℕ) (ys : List ℕ) → is_circle n edge ((home ∷ t) ++ x ∷ ys) ≡ true → is_circle n edge ((x ∷ ys) ++ home ∷ t) ≡ true
rotated_at n edge home t x ys h =
    let low : nat_lt home n ≡ true = (and_parts (nat_lt home n) _ h).0 in
    let inner : (are_different ((home ∷ t) ++ x ∷ ys) && is_way n edge home home (t ++ x ∷ ys)) ≡ true = (and_parts (nat_lt home n) _ h).1 in
    let ways : (goes n edge home t x && is_way n edge home x ys) ≡ true = sym (way-split n edge home home t x ys) ∙ (and_parts (are_different ((home ∷ t) ++ x ∷ ys)) _ inner).1 in
    let there : goes n edge home t x ≡ true = (and_parts (goes n edge home t x) _ ways).0 in
    and_from (nat_lt x n) _ (test x n (goes_below n edge home t x there))
    (and_from (are_different ((x ∷ ys) ++ home ∷ t)) _ (different_swapped (home ∷ t) (x ∷ ys) (and_parts (are_different ((home ∷ t) ++ x ∷ ys)) _ inner).0)
    (way-split n edge x x ys home t ∙ and_from (goes n edge x ys home) _ (goes_home n edge home x ys low (and_parts (goes n edge home t x) _ ways).1) (way_back n edge x home t there)))
  where
    test : (k m : ℕ) → k < m → nat_lt k m ≡ true
    test k m e = grind (arith, nat_tests)

pub rotated : (n : ℕ) (edge : ℕ → ℕ → Bool) (front back : List ℕ) → is_circle n edge (front ++ back) ≡ true → is_circle n edge (back ++ front) ≡ true
rotated n edge [] back h = ap (is_circle n edge) (append-nil back) ∙ h
rotated n edge (home ∷ t) [] h = ap (is_circle n edge) (sym (append-nil (home ∷ t))) ∙ h
rotated n edge (home ∷ t) (x ∷ ys) h = rotated_at n edge home t x ys h

first_below : (x y : ℕ) (c d : List ℕ) → is_not_after (x ∷ c) (y ∷ d) ≡ true → x ≤ y
first_below x y c d h = grind (arith, nat_tests)

all_above : (n : ℕ) (edge : ℕ → ℕ → Bool) (first : ℕ) (rest : List ℕ) → IsFirstCircle n edge (first ∷ rest)
    → (front back : List ℕ) → is_circle n edge (front ++ back) ≡ true → All (λ place. first ≤ place) back
all_above n edge first rest is front [] h = All-nil (λ place. first ≤ place)
all_above n edge first rest is front (y ∷ ys) h =
    All-cons (λ place. first ≤ place) y ys
    (first_below first y rest (ys ++ front) (is.least ((y ∷ ys) ++ front) (rotated n edge front (y ∷ ys) h)))
    (all_above n edge first rest is (front ++ y ∷ []) ys (ap (is_circle n edge) (append_assoc front (y ∷ []) ys) ∙ h))

pub begins_with_least : (n : ℕ) (edge : ℕ → ℕ → Bool) (first : ℕ) (rest circle : List ℕ) → IsFirstCircle n edge (first ∷ rest) → is_circle n edge circle ≡ true
    → All (λ place. first ≤ place) circle
begins_with_least n edge first rest circle is h = all_above n edge first rest is [] circle h
