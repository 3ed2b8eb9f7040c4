-- Counts of what passes a test, through the updates of a list.
use Rattle.std.proofs.Common.{ℕ, zero, suc, ◌≡◌, ◌<◌, ◌≤◌, ◌+◌, Bool, true, false, cond, not, ◌||◌, ◌&&◌, List, [], ◌∷◌, ◌++◌, map, filter, length, get_or, arith, ◌∙◌, ap, sym, refl}
use Rattle.std.specs.Prelude.{count_by, find, Some, slice_get, if◌then◌else◌}
use Rattle.std.specs.List.{list_any}
use Rattle.std.proofs.lemmas.List.Sums.{sum_by-cons, sum_by_push}
use Rattle.law_lists.proofs.Tests.{find-passes}

abbrev pub bit : Bool → ℕ
bit b = cond b 1 0

pub count-cons : {X : Type 0} (p : X → Bool) (x : X) (xs : List X) → count_by p (x ∷ xs) ≡ bit (p x) + count_by p xs
count-cons p x xs = sum_by-cons (λ y. cond (p y) 1 0) x xs

pub count-push : {X : Type 0} (p : X → Bool) (xs : List X) (x : X) → count_by p (xs ++ x ∷ []) ≡ count_by p xs + bit (p x)
count-push p xs x = sum_by_push (λ y. cond (p y) 1 0) xs x

pub bit-le : (b : Bool) → bit b ≤ 1
bit-le true = omega arith
bit-le false = omega arith

pub count-ext : {X : Type 0} (p q : X → Bool) → ((x : X) → p x ≡ q x) → (xs : List X) → count_by p xs ≡ count_by q xs
count-ext p q same [] = refl
count-ext p q same (x ∷ xs) = omega (arith, count-cons p x xs, count-cons q x xs, ap bit (same x), count-ext p q same xs)

pub any-count : {X : Type 0} (p : X → Bool) (xs : List X) → list_any p xs ≡ true → 1 ≤ count_by p xs
any-count p [] h = cc
any-count p (x ∷ xs) h =
    let go : (b : Bool) → (b || list_any p xs) ≡ true → 1 ≤ bit b + count_by p xs =
    elim [ true ↦ λ e. omega arith | false ↦ λ e. let rest : 1 ≤ count_by p xs = any-count p xs e in omega arith ] in
    omega (arith, count-cons p x xs, go (p x) h)

pub none-count : {X : Type 0} (p : X → Bool) (xs : List X) → list_any p xs ≡ false → count_by p xs ≡ 0
none-count p [] h = refl
none-count p (x ∷ xs) h =
    let go : (b : Bool) → (b || list_any p xs) ≡ false → bit b + count_by p xs ≡ 0 =
    elim [ true ↦ λ e. cc | false ↦ λ e. let rest : count_by p xs ≡ 0 = none-count p xs e in omega arith ] in
    count-cons p x xs ∙ go (p x) h

pub count-filter-le : {X : Type 0} (p q : X → Bool) (xs : List X) → count_by p (filter q xs) ≤ count_by p xs
count-filter-le p q [] = omega arith
count-filter-le p q (x ∷ xs) =
    let go : (b : Bool) → count_by p (cond b (x ∷ filter q xs) (filter q xs)) ≤ bit (p x) + count_by p xs =
    elim [ true ↦ omega (arith, count-cons p x (filter q xs), count-filter-le p q xs) | false ↦ omega (arith, count-filter-le p q xs) ] in
    omega (arith, count-cons p x xs, go (q x))

pub count-map-same : {X : Type 0} (p : X → Bool) (f : X → X) → ((x : X) → p (f x) ≡ p x) → (xs : List X) → count_by p (map f xs) ≡ count_by p xs
count-map-same p f same [] = refl
count-map-same p f same (x ∷ xs) =
    omega (arith, count-cons p (f x) (map f xs), count-cons p x xs, ap bit (same x), count-map-same p f same xs)

-- where an update touches the one item that passes p
pub count-put-none : {X : Type 0} (p q r : X → Bool) (f : X → X) → ((y : X) → p y ≡ false → r y ≡ q y)
    → (xs : List X) → count_by p xs ≡ 0 → count_by r (map (λ y. if p y then f y else y) xs) ≡ count_by q xs
count-put-none p q r f same [] h = refl
count-put-none p q r f same (y ∷ ys) h =
    let split : bit (p y) + count_by p ys ≡ 0 = sym (count-cons p y ys) ∙ h in
    let rest : count_by r (map (λ z. if p z then f z else z) ys) ≡ count_by q ys = count-put-none p q r f same ys (omega arith) in
    let here : (b : Bool) → p y ≡ b → bit b + count_by p ys ≡ 0 → bit (r (if b then f y else y)) ≡ bit (q y) =
    elim [ true ↦ λ e k. absurd (omega arith) | false ↦ λ e k. ap bit (same y e) ] in
    omega (arith, count-cons r (if p y then f y else y) (map (λ z. if p z then f z else z) ys), count-cons q y ys, here (p y) refl split)

pub count-put : {X : Type 0} (p q r : X → Bool) (f : X → X) → ((y : X) → p y ≡ false → r y ≡ q y)
    → (xs : List X) (x : X) → count_by p xs ≤ 1 → find p xs ≡ Some x
    → count_by r (map (λ y. if p y then f y else y) xs) + bit (q x) ≡ count_by q xs + bit (r (f x))
count-put p q r f same [] x one h = cc
count-put {X = X} p q r f same (y ∷ ys) x one h =
    let after : List X = map (λ z. if p z then f z else z) ys in
    let few : bit (p y) + count_by p ys ≤ 1 = omega (arith, count-cons p y ys) in
    let here : (b : Bool) → p y ≡ b → bit b + count_by p ys ≤ 1 → cond b (Some y) (find p ys) ≡ Some x
    → bit (r (if b then f y else y)) + count_by r after + bit (q x) ≡ bit (q y) + count_by q ys + bit (r (f x)) =
    elim [
      | true ↦ λ e k g. let it : y ≡ x = cc in omega (arith, ap (λ z. bit (q z)) it, ap (λ z. bit (r (f z))) it, count-put-none p q r f same ys (omega arith))
      | false ↦ λ e k g. omega (arith, ap bit (same y e), count-put p q r f same ys x (omega arith) g)
    ] in
    omega (arith, count-cons r (if p y then f y else y) after, count-cons q y ys, here (p y) refl few h)

-- where the one item that passes p goes out
pub count-out-none : {X : Type 0} (p q r : X → Bool) → ((y : X) → p y ≡ false → r y ≡ q y)
    → (xs : List X) → count_by p xs ≡ 0 → count_by r (filter (λ y. not (p y)) xs) ≡ count_by q xs
count-out-none p q r same [] h = refl
count-out-none {X = X} p q r same (y ∷ ys) h =
    let after : List X = filter (λ z. not (p z)) ys in
    let split : bit (p y) + count_by p ys ≡ 0 = sym (count-cons p y ys) ∙ h in
    let rest : count_by r after ≡ count_by q ys = count-out-none p q r same ys (omega arith) in
    let here : (b : Bool) → p y ≡ b → bit b + count_by p ys ≡ 0 → count_by r (cond (not b) (y ∷ after) after) ≡ bit (q y) + count_by q ys =
    elim [ true ↦ λ e k. absurd (omega arith) | false ↦ λ e k. omega (arith, count-cons r y after, ap bit (same y e)) ] in
    here (p y) refl split ∙ sym (count-cons q y ys)

pub count-out : {X : Type 0} (p q r : X → Bool) → ((y : X) → p y ≡ false → r y ≡ q y)
    → (xs : List X) (x : X) → count_by p xs ≤ 1 → find p xs ≡ Some x
    → count_by r (filter (λ y. not (p y)) xs) + bit (q x) ≡ count_by q xs
count-out p q r same [] x one h = cc
count-out {X = X} p q r same (y ∷ ys) x one h =
    let after : List X = filter (λ z. not (p z)) ys in
    let few : bit (p y) + count_by p ys ≤ 1 = omega (arith, count-cons p y ys) in
    let here : (b : Bool) → p y ≡ b → bit b + count_by p ys ≤ 1 → cond b (Some y) (find p ys) ≡ Some x
    → count_by r (cond (not b) (y ∷ after) after) + bit (q x) ≡ bit (q y) + count_by q ys =
    elim [
      | true ↦ λ e k g. let it : y ≡ x = cc in omega (arith, ap (λ z. bit (q z)) it, count-out-none p q r same ys (omega arith))
      | false ↦ λ e k g. omega (arith, count-cons r y after, ap bit (same y e), count-out p q r same ys x (omega arith) g)
    ] in
    omega (arith, count-cons q y ys, here (p y) refl few h)

pub count-found : {X : Type 0} (p q : X → Bool) (xs : List X) (x : X) → find p xs ≡ Some x → bit (q x) ≤ count_by q xs
count-found p q [] x h = cc
count-found p q (y ∷ ys) x h =
    let go : (b : Bool) → cond b (Some y) (find p ys) ≡ Some x → bit (q x) ≤ bit (q y) + count_by q ys =
    elim [ true ↦ λ g. let it : y ≡ x = cc in omega (arith, ap (λ z. bit (q z)) it) | false ↦ λ g. omega (arith, count-found p q ys x g) ] in
    omega (arith, count-cons q y ys, go (p y) h)

pub count-le : {X : Type 0} (p q : X → Bool) → ((x : X) → bit (p x) ≤ bit (q x)) → (xs : List X) → count_by p xs ≤ count_by q xs
count-le p q less [] = omega arith
count-le p q less (x ∷ xs) = omega (arith, count-cons p x xs, count-cons q x xs, less x, count-le p q less xs)

-- the same of the items of a list
pub count-le-at : {X : Type 0} (p q : X → Bool) (xs : List X) → ((i : ℕ) (d : X) → i < length xs → bit (p (get_or xs i d)) ≤ bit (q (get_or xs i d))) → count_by p xs ≤ count_by q xs
count-le-at p q [] h = omega arith
count-le-at p q (x ∷ xs) h = omega (arith, count-cons p x xs, count-cons q x xs, h 0 x (omega arith), count-le-at p q xs (λ i d lt. h (suc i) d (omega arith)))

pub find-narrow : {X : Type 0} (p q : X → Bool) → ((y : X) → p y ≡ true → q y ≡ true) → (xs : List X) (x : X) → count_by q xs ≤ 1 → find p xs ≡ Some x → find q xs ≡ Some x
find-narrow p q wider [] x one h = cc
find-narrow p q wider (y ∷ ys) x one h =
    let few : bit (q y) + count_by q ys ≤ 1 = omega (arith, count-cons q y ys) in
    let go : (b c : Bool) → p y ≡ b → q y ≡ c → bit c + count_by q ys ≤ 1 → cond b (Some y) (find p ys) ≡ Some x → cond c (Some y) (find q ys) ≡ Some x =
    elim [
      | true ↦ elim [ true ↦ λ e k l g. g | false ↦ λ e k l g. let t : q y ≡ true = wider y e in cc ]
      | false ↦ elim [
        | true ↦ λ e k l g. let t : q x ≡ true = wider x (find-passes p ys x g) in
            absurd (omega (arith, ap bit t, count-found p q ys x g))
        | false ↦ λ e k l g. find-narrow p q wider ys x (omega arith) g
      ]
    ] in
    go (p y) (q y) refl refl few h

pub some-found : {X : Type 0} (p : X → Bool) (xs : List X) → 1 ≤ count_by p xs → (x : X) × (find p xs ≡ Some x)
some-found p [] h = absurd (omega (arith, h))
some-found {X = X} p (y ∷ ys) h =
    let some : 1 ≤ bit (p y) + count_by p ys = omega (arith, count-cons p y ys) in
    let go : (b : Bool) → 1 ≤ bit b + count_by p ys → (x : X) × (cond b (Some y) (find p ys) ≡ Some x) =
    elim [ true ↦ λ k. (y, refl) | false ↦ λ k. some-found p ys (omega arith) ] in
    go (p y) some

-- joined tests
pub both-le-left : (b c : Bool) → bit (b && c) ≤ bit b
both-le-left true c = bit-le c
both-le-left false c = omega arith

pub both-le-right : (b c : Bool) → bit (b && c) ≤ bit c
both-le-right true c = omega arith
both-le-right false c = omega arith

-- an item that stands in the list
pub count-nth : {X : Type 0} (p : X → Bool) (xs : List X) (n : ℕ) (x : X) → slice_get xs n ≡ Some x → bit (p x) ≤ count_by p xs
count-nth p [] n x e = cc
count-nth p (y ∷ ys) zero x e = let it : y ≡ x = cc in omega (arith, count-cons p y ys, ap (λ z. bit (p z)) it)
count-nth p (y ∷ ys) (suc n) x e = omega (arith, count-cons p y ys, count-nth p ys n x e)

pub some-any : {X : Type 0} (p : X → Bool) (xs : List X) → 1 ≤ count_by p xs → list_any p xs ≡ true
some-any p xs h =
    let go : (b : Bool) → list_any p xs ≡ b → list_any p xs ≡ true = elim [ true ↦ λ e. e | false ↦ λ e. absurd (omega (arith, none-count p xs e)) ] in
    go (list_any p xs) refl

-- an update where nothing passes
pub map-none : {Y : Type 0} (r : Y → Bool) (g : Y → Y) (ys : List Y) → count_by r ys ≡ 0 → map (λ z. if r z then g z else z) ys ≡ ys
map-none r g [] h = refl
map-none {Y = Y} r g (y ∷ ys) h =
    let split : bit (r y) + count_by r ys ≡ 0 = sym (count-cons r y ys) ∙ h in
    let rest : map (λ z. if r z then g z else z) ys ≡ ys = map-none r g ys (omega arith) in
    let go : (b : Bool) → bit b + count_by r ys ≡ 0 → cond b (g y) y ∷ map (λ z. if r z then g z else z) ys ≡ y ∷ ys =
    elim [ true ↦ λ k. absurd (omega arith) | false ↦ λ k. ap (λ (zs : List Y). y ∷ zs) rest ] in
    go (r y) split

pub filter-none : {Y : Type 0} (r : Y → Bool) (ys : List Y) → count_by r ys ≡ 0 → filter (λ z. not (r z)) ys ≡ ys
filter-none r [] h = refl
filter-none {Y = Y} r (y ∷ ys) h =
    let split : bit (r y) + count_by r ys ≡ 0 = sym (count-cons r y ys) ∙ h in
    let rest : filter (λ z. not (r z)) ys ≡ ys = filter-none r ys (omega arith) in
    let go : (b : Bool) → bit b + count_by r ys ≡ 0 → cond (not b) (y ∷ filter (λ z. not (r z)) ys) (filter (λ z. not (r z)) ys) ≡ y ∷ ys =
    elim [ true ↦ λ k. absurd (omega arith) | false ↦ λ k. ap (λ (zs : List Y). y ∷ zs) rest ] in
    go (r y) split
