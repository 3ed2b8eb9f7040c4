-- An update by slot is the update by serial number, since each names one item.
use Rattle.std.proofs.Common.{ℕ, zero, suc, take, ◌≡◌, ◌≤◌, ◌+◌, Bool, true, false, cond, not, List, [], ◌∷◌, arith, ◌∙◌, ap, sym, refl}
use Rattle.std.specs.Prelude.{count_by, find, Some, None, map, filter, if◌then◌else◌, All, slice_get, option_and_then}
use Rattle.std.proofs.lemmas.List.Elements.{All-head, All-tail}
use Rattle.law_lists.proofs.Counts.{filter-none, map-none, bit, count-cons, count-found}

pub count-map : {X Y : Type 0} (v : X → Y) (r : Y → Bool) (xs : List X) → count_by r (map v xs) ≡ count_by (λ x. r (v x)) xs
count-map v r [] = refl
count-map v r (x ∷ xs) = omega (arith, count-cons r (v x) (map v xs), count-cons (λ y. r (v y)) x xs, count-map v r xs)

pub twin-put : {X Y : Type 0} (v : X → Y) (p : X → Bool) (r : Y → Bool) (f : X → X) (g : Y → Y) (x : X)
    → v (f x) ≡ g (v x) → r (v x) ≡ true → (xs : List X) → find p xs ≡ Some x → count_by p xs ≤ 1 → count_by (λ y. r (v y)) xs ≤ 1
    → map v (map (λ y. if p y then f y else y) xs) ≡ map (λ z. if r z then g z else z) (map v xs)
twin-put v p r f g x same passes [] found onep oner = cc
twin-put {X = X} {Y = Y} v p r f g x same passes (y ∷ ys) found onep oner =
    let few_p : bit (p y) + count_by p ys ≤ 1 = omega (arith, count-cons p y ys) in
    let few_r : bit (r (v y)) + count_by (λ z. r (v z)) ys ≤ 1 = omega (arith, count-cons (λ z. r (v z)) y ys) in
    let go : (b c : Bool) → p y ≡ b → r (v y) ≡ c → bit b + count_by p ys ≤ 1 → bit c + count_by (λ z. r (v z)) ys ≤ 1 → cond b (Some y) (find p ys) ≡ Some x
    → v (cond b (f y) y) ∷ map v (map (λ z. if p z then f z else z) ys) ≡ cond c (g (v y)) (v y) ∷ map (λ z. if r z then g z else z) (map v ys) =
    elim [
      | true ↦ elim [
        | true ↦ λ e k m n h.
            let it : y ≡ x = cc in
            let head : v (f y) ≡ g (v y) = ap (λ (z : X). v (f z)) it ∙ same ∙ ap (λ (z : X). g (v z)) (sym it) in
            let left : map (λ z. if p z then f z else z) ys ≡ ys = map-none p f ys (omega arith) in
            let right : map (λ z. if r z then g z else z) (map v ys) ≡ map v ys = map-none r g (map v ys) (omega (arith, count-map v r ys)) in
            ap (λ (zs : List X). v (f y) ∷ map v zs) left ∙ ap (λ (z : Y). z ∷ map v ys) head ∙ ap (λ (zs : List Y). g (v y) ∷ zs) (sym right)
        | false ↦ λ e k m n h. let it : y ≡ x = cc in let t : r (v y) ≡ true = ap (λ (z : X). r (v z)) it ∙ passes in cc
      ]
      | false ↦ elim [
        | true ↦ λ e k m n h. absurd (omega (arith, ap bit passes, count-found p (λ z. r (v z)) ys x h))
        | false ↦ λ e k m n h. ap (λ (zs : List Y). v y ∷ zs) (twin-put v p r f g x same passes ys h (omega arith) (omega arith))
      ]
    ] in
    go (p y) (r (v y)) refl refl few_p few_r found

pub twin-out : {X Y : Type 0} (v : X → Y) (p : X → Bool) (r : Y → Bool) (x : X)
    → r (v x) ≡ true → (xs : List X) → find p xs ≡ Some x → count_by p xs ≤ 1 → count_by (λ y. r (v y)) xs ≤ 1
    → map v (filter (λ y. not (p y)) xs) ≡ filter (λ z. not (r z)) (map v xs)
twin-out v p r x passes [] found onep oner = cc
twin-out {X = X} {Y = Y} v p r x passes (y ∷ ys) found onep oner =
    let few_p : bit (p y) + count_by p ys ≤ 1 = omega (arith, count-cons p y ys) in
    let few_r : bit (r (v y)) + count_by (λ z. r (v z)) ys ≤ 1 = omega (arith, count-cons (λ z. r (v z)) y ys) in
    let go : (b c : Bool) → p y ≡ b → r (v y) ≡ c → bit b + count_by p ys ≤ 1 → bit c + count_by (λ z. r (v z)) ys ≤ 1 → cond b (Some y) (find p ys) ≡ Some x
    → map v (cond (not b) (y ∷ filter (λ z. not (p z)) ys) (filter (λ z. not (p z)) ys)) ≡ cond (not c) (v y ∷ filter (λ z. not (r z)) (map v ys)) (filter (λ z. not (r z)) (map v ys)) =
    elim [
      | true ↦ elim [
        | true ↦ λ e k m n h. ap (map v) (filter-none p ys (omega arith)) ∙ sym (filter-none r (map v ys) (omega (arith, count-map v r ys)))
        | false ↦ λ e k m n h. let it : y ≡ x = cc in let t : r (v y) ≡ true = ap (λ (z : X). r (v z)) it ∙ passes in cc
      ]
      | false ↦ elim [
        | true ↦ λ e k m n h. absurd (omega (arith, ap bit passes, count-found p (λ z. r (v z)) ys x h))
        | false ↦ λ e k m n h. ap (λ (zs : List Y). v y ∷ zs) (twin-out v p r x passes ys h (omega arith) (omega arith))
      ]
    ] in
    go (p y) (r (v y)) refl refl few_p few_r found

-- where only an item that passes p can be seen to pass r
find-none : {X Y : Type 0} (v : X → Y) (p : X → Bool) (r : Y → Bool) (xs : List X) → All (λ x. r (v x) ≡ true → p x ≡ true) xs → count_by p xs ≡ 0 → find r (map v xs) ≡ None
find-none v p r [] narrow none = refl
find-none v p r (x ∷ xs) narrow none =
    let split : bit (p x) + count_by p xs ≡ 0 = sym (count-cons p x xs) ∙ none in
    let rest : find r (map v xs) ≡ None = find-none v p r xs (All-tail (λ y. r (v y) ≡ true → p y ≡ true) x xs narrow) (omega arith) in
    let go : (b : Bool) → r (v x) ≡ b → cond b (Some (v x)) (find r (map v xs)) ≡ None =
    elim [
      | true ↦ λ e. absurd (omega (arith, ap bit (All-head (λ y. r (v y) ≡ true → p y ≡ true) x xs narrow e)))
      | false ↦ λ e. rest
    ] in
    go (r (v x)) refl

pub twin-find : {X Y : Type 0} (v : X → Y) (p : X → Bool) (r : Y → Bool) (xs : List X) → All (λ x. r (v x) ≡ true → p x ≡ true) xs → count_by p xs ≤ 1
    → find r (map v xs) ≡ option_and_then (λ x. cond (r (v x)) (Some (v x)) None) (find p xs)
twin-find v p r [] narrow one = refl
twin-find v p r (x ∷ xs) narrow one =
    let few : bit (p x) + count_by p xs ≤ 1 = omega (arith, count-cons p x xs) in
    let rest : All (λ y. r (v y) ≡ true → p y ≡ true) xs = All-tail (λ y. r (v y) ≡ true → p y ≡ true) x xs narrow in
    let off : (b : Bool) → r (v x) ≡ b → p x ≡ false → find r (map v (x ∷ xs)) ≡ option_and_then (λ y. cond (r (v y)) (Some (v y)) None) (find p xs) =
    elim [
      | true ↦ λ e f. cc (All-head (λ y. r (v y) ≡ true → p y ≡ true) x xs narrow e)
      | false ↦ λ e f. ap (λ b. cond b (Some (v x)) (find r (map v xs))) e ∙ twin-find v p r xs rest (omega arith)
    ] in
    let go : (b : Bool) → p x ≡ b → bit b + count_by p xs ≤ 1
    → find r (map v (x ∷ xs)) ≡ option_and_then (λ y. cond (r (v y)) (Some (v y)) None) (cond b (Some x) (find p xs)) =
    elim [
      | true ↦ λ e k. ap (cond (r (v x)) (Some (v x))) (find-none v p r xs rest (omega arith))
      | false ↦ λ e k. off (r (v x)) refl e
    ] in
    go (p x) refl few

pub find-all_fail : {Y : Type 0} (r : Y → Bool) (ys : List Y) → All (λ y. r y ≡ true → ⊥) ys → find r ys ≡ None
find-all_fail r [] fails = refl
find-all_fail r (y ∷ ys) fails =
    let go : (b : Bool) → r y ≡ b → cond b (Some y) (find r ys) ≡ None =
    elim [
      | true ↦ λ e. absurd (All-head (λ z. r z ≡ true → ⊥) y ys fails e)
      | false ↦ λ e. find-all_fail r ys (All-tail (λ z. r z ≡ true → ⊥) y ys fails)
    ] in
    go (r y) refl

-- a search from the front, element by element
pub find-first : {Y : Type 0} (r : Y → Bool) (ys : List Y) (n : ℕ) (y : Y) → find r (take n ys) ≡ None → slice_get ys n ≡ Some y → r y ≡ true → find r ys ≡ Some y
find-first r [] n y none here passes = cc
find-first r (x ∷ xs) zero y none here passes = let it : x ≡ y = cc in ap (λ b. cond b (Some x) (find r xs)) (ap r it ∙ passes) ∙ here
find-first r (x ∷ xs) (suc n) y none here passes =
    let go : (b : Bool) → cond b (Some x) (find r (take n xs)) ≡ None → cond b (Some x) (find r xs) ≡ Some y =
    elim [ true ↦ λ e. cc | false ↦ λ e. find-first r xs n y e here passes ] in
    go (r x) none

pub find-more : {Y : Type 0} (r : Y → Bool) (ys : List Y) (n : ℕ) (y : Y) → find r (take n ys) ≡ None → slice_get ys n ≡ Some y → r y ≡ false → find r (take (n + 1) ys) ≡ None
find-more r [] n y none here fails = cc
find-more r (x ∷ xs) zero y none here fails = let it : x ≡ y = cc in ap (λ b. cond b (Some x) (find r [])) (ap r it ∙ fails)
find-more r (x ∷ xs) (suc n) y none here fails =
    let next : suc n + 1 ≡ suc (n + 1) = omega arith in
    let go : (b : Bool) → cond b (Some x) (find r (take n xs)) ≡ None → cond b (Some x) (find r (take (n + 1) xs)) ≡ None =
    elim [ true ↦ λ e. cc | false ↦ λ e. find-more r xs n y e here fails ] in
    ap (λ m. find r (take m (x ∷ xs))) next ∙ go (r x) none
