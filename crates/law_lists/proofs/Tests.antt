-- What the tests of lists say: `list_any`, `list_all`, `find` and `position`.
use Rattle.std.proofs.Common.{ℕ, zero, suc, ◌≡◌, ◌+◌, ◌∙◌, Bool, true, false, cond, ◌||◌, List, [], ◌∷◌, ◌++◌, map, ap, refl, sym, subst, inl, inr}
use Rattle.std.specs.Prelude.{Option, Some, find, position, slice_get, All}
use Rattle.std.specs.Option.{option_map}
use Rattle.std.specs.List.{list_any, list_all, position_from}
use Rattle.std.proofs.lemmas.Bool.{and_parts, or_cases, or_left, or_right}
use Rattle.std.proofs.lemmas.Iterator.Adapters.{position_from-zero}
use Rattle.std.proofs.lemmas.List.Elements.{All-head, All-tail}
use Rattle.std.proofs.lemmas.List.Folds.{list_any-append}

-- a test fails where it implies one that fails
pub fails : (b c : Bool) → (b ≡ true → c ≡ true) → c ≡ false → b ≡ false
fails true c more h = let it : c ≡ true = more refl in cc
fails false c more h = refl

-- a test that follows from another
pub list_any-more : {X : Type 0} (p q : X → Bool) → ((x : X) → p x ≡ true → q x ≡ true) → (xs : List X) → list_any p xs ≡ true → list_any q xs ≡ true
list_any-more p q more [] h = h
list_any-more p q more (x ∷ xs) h =
    elim (or_cases (p x) (list_any p xs) h) [ inl here ↦ or_left (q x) (list_any q xs) (more x here) | inr later ↦ or_right (q x) (list_any q xs) (list_any-more p q more xs later) ]

pub list_any-at : {X : Type 0} (p : X → Bool) (xs : List X) (i : ℕ) (x : X) → slice_get xs i ≡ Some x → p x ≡ true → list_any p xs ≡ true
list_any-at p [] i x e h = absurd (cc)
list_any-at p (y ∷ ys) zero x e h = let same : y ≡ x = cc in or_left (p y) (list_any p ys) (ap p same ∙ h)
list_any-at p (y ∷ ys) (suc i) x e h = or_right (p y) (list_any p ys) (list_any-at p ys i x e h)

pub list_all-at : {X : Type 0} (p : X → Bool) (xs : List X) (i : ℕ) (x : X) → list_all p xs ≡ true → slice_get xs i ≡ Some x → p x ≡ true
list_all-at p [] i x h e = absurd (cc)
list_all-at p (y ∷ ys) zero x h e = let same : y ≡ x = cc in ap p (sym same) ∙ (and_parts (p y) (list_all p ys) h).0
list_all-at p (y ∷ ys) (suc i) x h e = list_all-at p ys i x (and_parts (p y) (list_all p ys) h).1 e

pub list_any-left : {X : Type 0} (p : X → Bool) (xs ys : List X) → list_any p xs ≡ true → list_any p (xs ++ ys) ≡ true
list_any-left p xs ys h = list_any-append p xs ys ∙ or_left (list_any p xs) (list_any p ys) h

pub list_any-right : {X : Type 0} (p : X → Bool) (xs ys : List X) → list_any p ys ≡ true → list_any p (xs ++ ys) ≡ true
list_any-right p xs ys h = list_any-append p xs ys ∙ or_right (list_any p xs) (list_any p ys) h

pub list_any-map : {X Y : Type 0} (f : X → Y) (p : Y → Bool) (xs : List X) → list_any p (map f xs) ≡ list_any (λ x. p (f x)) xs
list_any-map f p [] = refl
list_any-map f p (x ∷ xs) = ap (λ b. p (f x) || b) (list_any-map f p xs)

pub list_any-false : {X : Type 0} (xs : List X) → list_any (λ x. false) xs ≡ false
list_any-false [] = refl
list_any-false (x ∷ xs) = list_any-false xs

pub find-map : {X Y : Type 0} (f : X → Y) (p : Y → Bool) (xs : List X) → find p (map f xs) ≡ option_map f (find (λ x. p (f x)) xs)
find-map f p [] = refl
find-map f p (x ∷ xs) =
    let go : (b : Bool) → cond b (Some (f x)) (find p (map f xs)) ≡ option_map f (cond b (Some x) (find (λ y. p (f y)) xs)) =
    elim [ true ↦ refl | false ↦ find-map f p xs ] in
    go (p (f x))

-- what holds of the first item if it passes and of what is found after it, holds of what is found
found : {X : Type 0} (P : X → Type 0) (b : Bool) (y x : X) (rest : Option X) → (b ≡ true → P y) → (rest ≡ Some x → P x) → cond b (Some y) rest ≡ Some x → P x
found P true y x rest here later h = let it : y ≡ x = cc in subst P it (here refl)
found P false y x rest here later h = later h

-- what was found passes the test
pub find-passes : {X : Type 0} (p : X → Bool) (xs : List X) (x : X) → find p xs ≡ Some x → p x ≡ true
find-passes p [] x h = cc
find-passes p (y ∷ ys) x h = found (λ z. p z ≡ true) (p y) y x (find p ys) (λ passes. passes) (find-passes p ys x) h

-- and is in the list
pub find-any : {X : Type 0} (p q : X → Bool) (xs : List X) (x : X) → find p xs ≡ Some x → q x ≡ true → list_any q xs ≡ true
find-any p q [] x h passes = cc
find-any p q (y ∷ ys) x h passes =
    found (λ z. q z ≡ true → list_any q (y ∷ ys) ≡ true) (p y) y x (find p ys) (λ first. or_left (q y) (list_any q ys)) (λ later k. or_right (q y) (list_any q ys) (find-any p q ys x later k)) h passes

-- so what holds of all holds of it
pub find-all : {X : Type 0} (P : X → Type 0) (p : X → Bool) (xs : List X) (x : X) → find p xs ≡ Some x → All P xs → P x
find-all P p [] x h all = absurd (cc)
find-all P p (y ∷ ys) x h all = found P (p y) y x (find p ys) (λ first. All-head P y ys all) (λ later. find-all P p ys x later (All-tail P y ys all)) h

pub find-list_all : {X : Type 0} (p q : X → Bool) (xs : List X) (x : X) → find p xs ≡ Some x → list_all q xs ≡ true → q x ≡ true
find-list_all p q [] x h all = cc
find-list_all p q (y ∷ ys) x h all =
    let parts = and_parts (q y) (list_all q ys) all in
    found (λ z. q z ≡ true) (p y) y x (find p ys) (λ first. parts.0) (λ later. find-list_all p q ys x later parts.1) h

-- a search by a test that says the same
pub find-same : {X : Type 0} (p q : X → Bool) → ((x : X) → p x ≡ q x) → (xs : List X) → find p xs ≡ find q xs
find-same p q same [] = refl
find-same p q same (x ∷ xs) =
    ap (λ b. cond b (Some x) (find p xs)) (same x) ∙ ap (cond (q x) (Some x)) (find-same p q same xs)

position_from-map : {X Y : Type 0} (f : X → Y) (p : Y → Bool) (i : ℕ) (xs : List X) → position_from p i (map f xs) ≡ position_from (λ x. p (f x)) i xs
position_from-map f p i [] = refl
position_from-map f p i (x ∷ xs) = ap (λ r. cond (p (f x)) (Some i) r) (position_from-map f p (i + 1) xs)

pub position-map : {X Y : Type 0} (f : X → Y) (p : Y → Bool) (xs : List X) → position p (map f xs) ≡ position (λ x. p (f x)) xs
position-map f p xs = position_from-zero p (map f xs) ∙ position_from-map f p 0 xs ∙ sym (position_from-zero (λ x. p (f x)) xs)
