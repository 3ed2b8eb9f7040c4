-- Lists compared place by place, and what begins a circle.
use Rattle.std.proofs.Common.{ℕ, ◌≡◌, ◌<◌, ◌≤◌, ◌-◌, ◌&&◌, ◌||◌, ◌⊎◌, inl, inr, not, List, [], ◌∷◌, ◌++◌, length, arith, ◌∙◌, ap, sym, refl, subst, Bool, true, false, append_assoc, length-append}
use Rattle.std.specs.Prelude.{◌==◌, nat_lt, Some, None}
use Rattle.std.specs.List.{list_any, IsDistinct, AllByRecursion}
use Rattle.std.proofs.lemmas.Bool.{cases_eq, false_from_ne_true, and_parts}
use Rattle.std.proofs.lemmas.Bool.Decides.{nat_tests}
use Rattle.std.proofs.lemmas.List.{append-nil}
use Rattle.std.proofs.lemmas.Map.Steps.{length-le_from_distinct_below}
use lib.Dec.{eqb}
use Rattle.ffm_model.specs.Circles.{is_circle, are_different, is_way, is_new}
use Rattle.dependency_circle.specs.Circles.{is_not_after}
use Rattle.dependency_circle.specs.Ways.{Begins, IsNext}
use Rattle.dependency_circle.proofs.WayLemmas.{clash}

-- what a list that comes no later is: a beginning, or one that stays before however it goes on
pub data Before (c d : List ℕ) : Type 0 where
  begins : (w : List ℕ) → d ≡ c ++ w → Before c d
  less : ((w : List ℕ) → is_not_after (c ++ w) d ≡ true) → Before c d

before-cons : (x : ℕ) (c d : List ℕ) → Before c d → Before (x ∷ c) (x ∷ d)
before-cons x c d (begins w e) = begins w (ap (λ t. x ∷ t) e)
before-cons x c d (less f) = less (λ w. same_head x (c ++ w) d (f w))
  where
    same_head : (x : ℕ) (c d : List ℕ) → is_not_after c d ≡ true → is_not_after (x ∷ c) (x ∷ d) ≡ true
    same_head x c d h = grind (arith, nat_tests)

same_first : (x : ℕ) (c d : List ℕ) → is_not_after (x ∷ c) (x ∷ d) ≡ true → is_not_after c d ≡ true
same_first x c d h = grind (arith, nat_tests)

less_first : (x y : ℕ) (c d : List ℕ) → (x ≡ y → ⊥) → is_not_after (x ∷ c) (y ∷ d) ≡ true → (w : List ℕ) → is_not_after (x ∷ w) (y ∷ d) ≡ true
less_first x y c d apart h w = grind (arith, nat_tests)

by_first : (x y : ℕ) (c d : List ℕ) → (is_not_after c d ≡ true → Before c d) → is_not_after (x ∷ c) (y ∷ d) ≡ true → (x ≡ y) ⊎ (x ≡ y → ⊥) → Before (x ∷ c) (y ∷ d)
by_first x y c d rest h (inl e) =
    let F : ℕ → Type 0 = λ z. Before (x ∷ c) (z ∷ d) in
    let G : ℕ → Type 0 = λ z. is_not_after (x ∷ c) (z ∷ d) ≡ true in
    subst F e (before-cons x c d (rest (same_first x c d (subst G (sym e) h))))
by_first x y c d rest h (inr apart) = less (λ w. less_first x y c d apart h (c ++ w))

pub before : (c d : List ℕ) → is_not_after c d ≡ true → Before c d
before [] d h = begins d refl
before (x ∷ c) [] h = cc
before (x ∷ c) (y ∷ d) h = by_first x y c d (before c d) h (cases_eq x y)

push_before : (front : List ℕ) (k j : ℕ) (w : List ℕ) → k ≤ j → is_not_after (front ++ k ∷ []) (front ++ j ∷ w) ≡ true
push_before [] k j w h = grind (arith, nat_tests)
push_before (x ∷ front) k j w h = head x (front ++ k ∷ []) (front ++ j ∷ w) (push_before front k j w h)
  where
    head : (x : ℕ) (c d : List ℕ) → is_not_after c d ≡ true → is_not_after (x ∷ c) (x ∷ d) ≡ true
    head x c d h = grind (arith, nat_tests)

-- no circle comes before c
abbrev pub IsLeast : ℕ → (ℕ → ℕ → Bool) → List ℕ → Type 0
IsLeast n edge c = (d : List ℕ) → is_circle n edge d ≡ true → is_not_after c d ≡ true

-- what is left of a circle after a front that is none
rest_begins : (n : ℕ) (edge : ℕ → ℕ → Bool) (front w : List ℕ) → is_circle n edge front ≡ false → is_circle n edge (front ++ w) ≡ true
    → (j : ℕ) × ((v : List ℕ) × ((w ≡ j ∷ v) × Begins n edge (front ++ j ∷ [])))
rest_begins n edge front [] wide closed = absurd (clash (is_circle n edge front) wide (ap (is_circle n edge) (sym (append-nil front)) ∙ closed))
rest_begins n edge front (j ∷ v) wide closed = (j, (v, (refl, record { rest = v; circle = ap (is_circle n edge) (append_assoc front (j ∷ []) v) ∙ closed })))

least_by : (n : ℕ) (edge : ℕ → ℕ → Bool) (front d : List ℕ) (k : ℕ) → is_circle n edge front ≡ false → is_circle n edge d ≡ true
    → IsNext n edge front (Some k) → Before front d → is_not_after (front ++ k ∷ []) d ≡ true
least_by n edge front d k wide closed next (less f) = f (k ∷ [])
least_by n edge front d k wide closed next (begins w e) =
    let (j, (v, (is, begun))) = rest_begins n edge front w wide (ap (is_circle n edge) (sym e) ∙ closed) in
    let above : k ≤ j = not_less j k (λ b. next.1 j b begun) in
    ap (is_not_after (front ++ k ∷ [])) (e ∙ ap (λ t. front ++ t) is) ∙ push_before front k j v above
  where
    not_less : (j k : ℕ) → (j < k → ⊥) → k ≤ j
    not_less j k h = omega (arith, h)

pub least_more : (n : ℕ) (edge : ℕ → ℕ → Bool) (front : List ℕ) (k : ℕ) → is_circle n edge front ≡ false → IsLeast n edge front
    → IsNext n edge front (Some k) → IsLeast n edge (front ++ k ∷ [])
least_more n edge front k wide least next d closed = least_by n edge front d k wide closed next (before front d (least d closed))

pub none : (n : ℕ) (edge : ℕ → ℕ → Bool) (front : List ℕ) → is_circle n edge front ≡ false → (Begins n edge [] → Begins n edge front)
    → IsNext n edge front None → (d : List ℕ) → is_circle n edge d ≡ false
none n edge front wide begun next d =
    false_from_ne_true (is_circle n edge d) (λ (h : is_circle n edge d ≡ true).
    let b : Begins n edge front = begun (record { rest = d; circle = h }) in
    let (j, (v, (is, more))) = rest_begins n edge front b.rest wide b.circle in next j more)

pub kept : (n : ℕ) (edge : ℕ → ℕ → Bool) (front now : List ℕ) (k : ℕ) → is_circle n edge front ≡ false
    → IsLeast n edge front → IsNext n edge front (Some k) → now ≡ front ++ k ∷ []
    → IsLeast n edge now × (Begins n edge [] → Begins n edge now)
kept n edge front now k wide least next is =
    let P : List ℕ → Type 0 = λ c. IsLeast n edge c × (Begins n edge [] → Begins n edge c) in
    subst P (sym is) (least_more n edge front k wide least next, λ _. next.0)

apart_all : (x : ℕ) (xs : List ℕ) → is_new x xs ≡ true → AllByRecursion (λ y. eqb x y ≡ false) xs
apart_all x [] h = tt
apart_all x (y ∷ ys) h = (here x y (list_any (λ z. x == z) ys) h, apart_all x ys (later (x == y) (list_any (λ z. x == z) ys) h))
  where
    later : (a b : Bool) → not (a || b) ≡ true → not b ≡ true
    later true b h = cc
    later false b h = h

    here : (x y : ℕ) (b : Bool) → not ((x == y) || b) ≡ true → eqb x y ≡ false
    here x y b h = grind (arith, nat_tests)

pub distinct : (xs : List ℕ) → are_different xs ≡ true → IsDistinct eqb xs
unfolding IsDistinct
distinct [] h = tt
distinct (x ∷ xs) h = (apart_all x xs (and_parts (is_new x xs) (are_different xs) h).0, distinct xs (and_parts (is_new x xs) (are_different xs) h).1)

below_way : (n : ℕ) (edge : ℕ → ℕ → Bool) (home x : ℕ) (ys : List ℕ) → is_way n edge home x ys ≡ true → (q : ℕ) → list_any (eqb q) ys ≡ true → q < n
below_way n edge home x [] h q found = cc
below_way n edge home x (y ∷ ys) h q found =
    first_or q y (list_any (eqb q) ys) n found (and_parts (nat_lt y n) (edge x y && is_way n edge home y ys) h).0
    (below_way n edge home y ys (and_parts (edge x y) (is_way n edge home y ys) (and_parts (nat_lt y n) (edge x y && is_way n edge home y ys) h).1).1 q)
  where
    first_or : (q y : ℕ) (b : Bool) (n : ℕ) → (eqb q y || b) ≡ true → nat_lt y n ≡ true → (b ≡ true → q < n) → q < n
    first_or q y true n h low rest = rest refl
    first_or q y false n h low rest = grind (arith, nat_tests)

pub circle_fits : (n : ℕ) (edge : ℕ → ℕ → Bool) (c : List ℕ) → is_circle n edge c ≡ true → length c ≤ n
circle_fits n edge [] h = cc
circle_fits n edge (x ∷ xs) h =
    let inner : (are_different (x ∷ xs) && is_way n edge x x xs) ≡ true = (and_parts (nat_lt x n) (are_different (x ∷ xs) && is_way n edge x x xs) h).1 in
    let way : is_way n edge x x xs ≡ true = (and_parts (are_different (x ∷ xs)) (is_way n edge x x xs) inner).1 in
    length-le_from_distinct_below (x ∷ xs) n (distinct (x ∷ xs) (and_parts (are_different (x ∷ xs)) (is_way n edge x x xs) inner).0)
    (λ q. first_or q x (list_any (eqb q) xs) n (and_parts (nat_lt x n) (are_different (x ∷ xs) && is_way n edge x x xs) h).0 (below_way n edge x x xs way q))
  where
    first_or : (q y : ℕ) (b : Bool) (n : ℕ) → nat_lt y n ≡ true → (b ≡ true → q < n) → (eqb q y || b) ≡ true → q < n
    first_or q y true n low rest h = rest refl
    first_or q y false n low rest h = grind (arith, nat_tests)

pub smaller : (n : ℕ) (edge : ℕ → ℕ → Bool) (front now : List ℕ) (k : ℕ) → IsNext n edge front (Some k) → now ≡ front ++ k ∷ []
    → n - length now < n - length front
smaller n edge front now k next is =
    let fits : length ((front ++ k ∷ []) ++ next.0.rest) ≤ n = circle_fits n edge ((front ++ k ∷ []) ++ next.0.rest) next.0.circle in
    omega (arith, ap length is, length-append front (k ∷ []), length-append (front ++ k ∷ []) next.0.rest)
