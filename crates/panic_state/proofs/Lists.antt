-- A list that is changed from its front on, item by item: an item is kept, changed or gone.
use Rattle.std.proofs.Common.{ℕ, zero, suc, ◌≡◌, ◌≤◌, ◌+◌, Bool, true, false, cond, not, List, [], ◌∷◌, length, map, filter, drop, set, arith, ◌∙◌, ap, sym, refl}
use Rattle.std.specs.Prelude.{count_by, Option, Some, None, if◌then◌else◌, slice_get}
use Rattle.std.specs.List.{filter_map, cons_option}
use Rattle.std.specs.Option.{option_map}
use Rattle.law_lists.proofs.Counts.{count-nth, filter-none, map-none, bit, count-cons}

-- the item at a place is gone
abbrev pub out_at : {X : Type 0} → List X → ℕ → List X
out_at [] n = []
out_at (x ∷ xs) zero = xs
out_at (x ∷ xs) (suc n) = x ∷ out_at xs n

-- the items from a place on are what is left of them
abbrev pub left_from : {X : Type 0} → (X → Option X) → ℕ → List X → List X
left_from f zero xs = filter_map f xs
left_from f (suc n) [] = []
left_from f (suc n) (x ∷ xs) = x ∷ left_from f n xs

-- ---- one item is changed or gone

-- the only item that passes is changed
pub map-at : {X : Type 0} (p : X → Bool) (g : X → X) (xs : List X) (n : ℕ) (x : X) → slice_get xs n ≡ Some x → p x ≡ true → count_by p xs ≤ 1
    → map (λ y. if p y then g y else y) xs ≡ set xs n (g x)
map-at p g [] n x e passes one = cc
map-at {X = X} p g (y ∷ ys) zero x e passes one =
    let it : y ≡ x = cc in
    let few : bit (p y) + count_by p ys ≤ 1 = omega (arith, count-cons p y ys) in
    let rest : map (λ z. if p z then g z else z) ys ≡ ys = map-none p g ys (omega (arith, ap (λ z. bit (p z)) it, ap bit passes)) in
    ap (λ (zs : List X). cond (p y) (g y) y ∷ zs) rest ∙ ap (λ (z : X). cond (p z) (g z) z ∷ ys) it ∙ ap (λ b. cond b (g x) x ∷ ys) passes
map-at {X = X} p g (y ∷ ys) (suc n) x e passes one =
    let few : bit (p y) + count_by p ys ≤ 1 = omega (arith, count-cons p y ys) in
    let rest : map (λ z. if p z then g z else z) ys ≡ set ys n (g x) = map-at p g ys n x e passes (omega arith) in
    let go : (b : Bool) → bit b + count_by p ys ≤ 1 → cond b (g y) y ∷ map (λ z. if p z then g z else z) ys ≡ y ∷ set ys n (g x) =
    elim [ true ↦ λ k. absurd (omega (arith, count-nth p ys n x e, ap bit passes)) | false ↦ λ k. ap (λ (zs : List X). y ∷ zs) rest ] in
    go (p y) few

-- the only item that passes is gone
pub filter-at : {X : Type 0} (p : X → Bool) (xs : List X) (n : ℕ) (x : X) → slice_get xs n ≡ Some x → p x ≡ true → count_by p xs ≤ 1 → filter (λ y. not (p y)) xs ≡ out_at xs n
filter-at p [] n x e passes one = cc
filter-at {X = X} p (y ∷ ys) zero x e passes one =
    let it : y ≡ x = cc in
    let few : bit (p y) + count_by p ys ≤ 1 = omega (arith, count-cons p y ys) in
    let rest : filter (λ z. not (p z)) ys ≡ ys = filter-none p ys (omega (arith, ap (λ z. bit (p z)) it, ap bit passes)) in
    ap (λ b. cond (not b) (y ∷ filter (λ z. not (p z)) ys) (filter (λ z. not (p z)) ys)) (ap p it ∙ passes) ∙ rest
filter-at {X = X} p (y ∷ ys) (suc n) x e passes one =
    let few : bit (p y) + count_by p ys ≤ 1 = omega (arith, count-cons p y ys) in
    let rest : filter (λ z. not (p z)) ys ≡ out_at ys n = filter-at p ys n x e passes (omega arith) in
    let go : (b : Bool) → bit b + count_by p ys ≤ 1 → cond (not b) (y ∷ filter (λ z. not (p z)) ys) (filter (λ z. not (p z)) ys) ≡ y ∷ out_at ys n =
    elim [ true ↦ λ k. absurd (omega (arith, count-nth p ys n x e, ap bit passes)) | false ↦ λ k. ap (λ (zs : List X). y ∷ zs) rest ] in
    go (p y) few

pub length-out : {X : Type 0} (xs : List X) (n : ℕ) (x : X) → slice_get xs n ≡ Some x → length (out_at xs n) + 1 ≡ length xs
length-out [] n x e = cc
length-out (y ∷ ys) zero x e = omega arith
length-out (y ∷ ys) (suc n) x e = omega (arith, length-out ys n x e)

-- ---- one item further

pub left_from-same : {X : Type 0} (f : X → Option X) (xs : List X) (n : ℕ) (x : X) → slice_get xs n ≡ Some x → f x ≡ Some x → left_from f (n + 1) xs ≡ left_from f n xs
left_from-same f [] n x e here = cc
left_from-same f (y ∷ ys) zero x e here = let it : y ≡ x = cc in ap (λ o. cons_option o (filter_map f ys)) (sym (ap f it ∙ here ∙ sym e))
left_from-same {X = X} f (y ∷ ys) (suc n) x e here = let next : suc n + 1 ≡ suc (n + 1) = omega arith in ap (λ m. left_from f m (y ∷ ys)) next ∙ ap (λ (zs : List X). y ∷ zs) (left_from-same f ys n x e here)

pub left_from-set : {X : Type 0} (f : X → Option X) (xs : List X) (n : ℕ) (x y : X) → slice_get xs n ≡ Some x → f x ≡ Some y → left_from f (n + 1) (set xs n y) ≡ left_from f n xs
left_from-set f [] n x y e here = cc
left_from-set f (z ∷ zs) zero x y e here = let it : z ≡ x = cc in ap (λ o. cons_option o (filter_map f zs)) (sym (ap f it ∙ here))
left_from-set {X = X} f (z ∷ zs) (suc n) x y e here = let next : suc n + 1 ≡ suc (n + 1) = omega arith in ap (λ m. left_from f m (z ∷ set zs n y)) next ∙ ap (λ (ws : List X). z ∷ ws) (left_from-set f zs n x y e here)

pub left_from-out : {X : Type 0} (f : X → Option X) (xs : List X) (n : ℕ) (x : X) → slice_get xs n ≡ Some x → f x ≡ None → left_from f n (out_at xs n) ≡ left_from f n xs
left_from-out f [] n x e here = cc
left_from-out f (z ∷ zs) zero x e here = let it : z ≡ x = cc in ap (λ o. cons_option o (filter_map f zs)) (sym (ap f it ∙ here))
left_from-out {X = X} f (z ∷ zs) (suc n) x e here = ap (λ (ws : List X). z ∷ ws) (left_from-out f zs n x e here)

pub left_from-all : {X : Type 0} (f : X → Option X) (xs : List X) (n : ℕ) → length xs ≤ n → left_from f n xs ≡ xs
left_from-all f [] zero past = refl
left_from-all f [] (suc n) past = refl
left_from-all f (x ∷ xs) zero past = absurd (omega arith)
left_from-all {X = X} f (x ∷ xs) (suc n) past = ap (λ (ys : List X). x ∷ ys) (left_from-all f xs n (omega arith))

pub drop-nth : {X : Type 0} (xs : List X) (n : ℕ) (x : X) → slice_get xs n ≡ Some x → drop n xs ≡ x ∷ drop (n + 1) xs
drop-nth [] n x e = cc
drop-nth (y ∷ ys) zero x e = let it : y ≡ x = cc in ap (λ z. z ∷ ys) it
drop-nth (y ∷ ys) (suc n) x e = let next : suc n + 1 ≡ suc (n + 1) = omega arith in drop-nth ys n x e ∙ ap (λ m. x ∷ drop m (y ∷ ys)) (sym next)

pub drop-set : {X : Type 0} (xs : List X) (n : ℕ) (x : X) → drop (n + 1) (set xs n x) ≡ drop (n + 1) xs
drop-set [] n x = refl
drop-set (y ∷ ys) zero x = refl
drop-set (y ∷ ys) (suc n) x = let next : suc n + 1 ≡ suc (n + 1) = omega arith in ap (λ m. drop m (y ∷ set ys n x)) next ∙ drop-set ys n x ∙ ap (λ m. drop m (y ∷ ys)) (sym next)

pub drop-out : {X : Type 0} (xs : List X) (n : ℕ) → drop n (out_at xs n) ≡ drop (n + 1) xs
drop-out [] zero = refl
drop-out [] (suc n) = let next : suc n + 1 ≡ suc (n + 1) = omega arith in ap (λ m. drop m []) (sym next)
drop-out (y ∷ ys) zero = refl
drop-out (y ∷ ys) (suc n) = let next : suc n + 1 ≡ suc (n + 1) = omega arith in drop-out ys n ∙ ap (λ m. drop m (y ∷ ys)) (sym next)

pub drop-all : {X : Type 0} (xs : List X) (n : ℕ) → length xs ≤ n → drop n xs ≡ []
drop-all [] zero past = refl
drop-all [] (suc n) past = refl
drop-all (x ∷ xs) zero past = absurd (omega arith)
drop-all (x ∷ xs) (suc n) past = drop-all xs n (omega arith)

-- ---- what is left, seen as something else

pub map-left : {X Y : Type 0} (v : X → Y) (f : X → Option X) (g : Y → Option Y) → ((x : X) → option_map v (f x) ≡ g (v x)) → (xs : List X) → map v (filter_map f xs) ≡ filter_map g (map v xs)
map-left v f g same [] = refl
map-left {X = X} {Y = Y} v f g same (x ∷ xs) =
    let go : (o : Option X) → map v (cons_option o (filter_map f xs)) ≡ cons_option (option_map v o) (filter_map g (map v xs)) =
    elim [ None ↦ map-left v f g same xs | Some y ↦ ap (λ (ys : List Y). v y ∷ ys) (map-left v f g same xs) ] in
    go (f x) ∙ ap (λ o. cons_option o (filter_map g (map v xs))) (same x)

pub map-kept : {X Y : Type 0} (v : X → Y) (p : Y → Bool) (xs : List X) → map v (filter (λ x. p (v x)) xs) ≡ filter p (map v xs)
map-kept v p [] = refl
map-kept {X = X} {Y = Y} v p (x ∷ xs) =
    let go : (b : Bool) → map v (cond {A = List X} b (x ∷ filter (λ y. p (v y)) xs) (filter (λ y. p (v y)) xs)) ≡ cond b (v x ∷ filter p (map v xs)) (filter p (map v xs)) =
    elim [ true ↦ ap (λ (ys : List Y). v x ∷ ys) (map-kept v p xs) | false ↦ map-kept v p xs ] in
    go (p (v x))
