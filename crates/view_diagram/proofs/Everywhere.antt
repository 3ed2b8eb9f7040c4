-- What holds of each element of a list.
use Rattle.std.proofs.Common.{◌≡◌, Bool, true, false, cond, List, [], ◌∷◌, refl, subst}
use Rattle.std.specs.Prelude.{Option, Some, None, find, filter, map, if◌then◌else◌}
use Rattle.std.specs.List.{AllByRecursion, cons_option, filter_map}

pub each-filter : {X : Type 0} (P : X → Type 0) (q : X → Bool) (xs : List X) → AllByRecursion P xs → AllByRecursion P (filter q xs)
each-filter P q [] h = tt
each-filter {X} P q (x ∷ xs) h =
    let go : (b : Bool) → AllByRecursion P (cond {A = List X} b (x ∷ filter q xs) (filter q xs)) = elim [ true ↦ (h.0, each-filter P q xs h.1) | false ↦ each-filter P q xs h.1 ] in
    go (q x)

pub each-map : {X Y : Type 0} (P : X → Type 0) (Q : Y → Type 0) (f : X → Y) → ((x : X) → P x → Q (f x)) → (xs : List X) → AllByRecursion P xs → AllByRecursion Q (map f xs)
each-map P Q f keeps [] h = tt
each-map P Q f keeps (x ∷ xs) h = (keeps x h.0, each-map P Q f keeps xs h.1)

pub each-found : {X : Type 0} (P : X → Type 0) (q : X → Bool) (xs : List X) (x : X) → AllByRecursion P xs → find q xs ≡ Some x → P x
each-found P q [] x h e = cc
each-found {X} P q (y ∷ ys) x h e =
    let go : (b : Bool) → (if b then Some y else find q ys) ≡ Some x → P x = elim [ true ↦ λ k. let same : y ≡ x = cc in subst P same h.0 | false ↦ λ k. each-found P q ys x h.1 k ] in
    go (q y) e

pub each-option : {Y : Type 0} (Q : Y → Type 0) (o : Option Y) (ys : List Y) → ((y : Y) → o ≡ Some y → Q y) → AllByRecursion Q ys → AllByRecursion Q (cons_option o ys)
each-option Q None ys here h = h
each-option Q (Some y) ys here h = (here y refl, h)

pub each-filter_map : {X Y : Type 0} (P : X → Type 0) (Q : Y → Type 0) (f : X → Option Y) → ((x : X) (y : Y) → P x → f x ≡ Some y → Q y) → (xs : List X) → AllByRecursion P xs → AllByRecursion Q (filter_map f xs)
each-filter_map P Q f keeps [] h = tt
each-filter_map P Q f keeps (x ∷ xs) h = each-option Q (f x) (filter_map f xs) (λ y e. keeps x y h.0 e) (each-filter_map P Q f keeps xs h.1)
