-- Lists with one item more, lists that are empty, and what holds of each item.
use Rattle.std.proofs.Common.{ℕ, zero, suc, ◌≡◌, ◌<◌, ◌+◌, List, [], ◌∷◌, ◌++◌, map, length, drop, get_or, replicate, arith, ◌∙◌, ap, sym, refl, subst, append-nil, drop-cons, add-one}
use Rattle.std.specs.Prelude.{Some, slice_get}
use Rattle.std.specs.List.{AllByRecursion, range_with_len}

pub append_nil : {X : Type 0} (xs ys : List X) → xs ++ ys ≡ [] → (xs ≡ []) × (ys ≡ [])
append_nil [] ys e = (refl, e)
append_nil (x ∷ xs) ys e = absurd cc

-- what is left is nothing
pub append_none : {X : Type 0} (xs rest all : List X) → xs ++ rest ≡ all → length rest ≡ 0 → xs ≡ all
append_none xs [] all h none = sym (append-nil xs) ∙ h
append_none xs (y ∷ ys) all h none = absurd (omega arith)

-- the item after those in front
pub slice_get-after : {X : Type 0} (front : List X) (x : X) (xs : List X) (k : ℕ) → length front ≡ k → slice_get (front ++ x ∷ xs) k ≡ Some x
slice_get-after [] x xs k e = rw (← e) refl
slice_get-after (y ∷ ys) x xs k e = rw (← e) (slice_get-after ys x xs (length ys) refl)

-- an item, and those after it
pub drop-item : {X : Type 0} (xs : List X) (i : ℕ) (x : X) → i < length xs → x ≡ get_or xs i x → drop i xs ≡ x ∷ drop (i + 1) xs
drop-item xs i x below is = rw (add-one) (drop-cons xs i x below ∙ ap (λ y. y ∷ drop (suc i) xs) (sym is))

pub map_nil : {X Y : Type 0} (f : X → Y) (xs : List X) → map f xs ≡ [] → xs ≡ []
map_nil f [] e = refl
map_nil f (x ∷ xs) e = absurd cc

pub range_with_len-more : (a n : ℕ) → range_with_len a (suc n) ≡ range_with_len a n ++ (a + n) ∷ []
range_with_len-more a zero = ap (λ (x : ℕ). x ∷ []) (omega arith)
range_with_len-more a (suc n) =
    let same : a + 1 + n ≡ a + suc n = omega arith in
    ap (λ (xs : List ℕ). a ∷ xs) (range_with_len-more (a + 1) n ∙ ap (λ (x : ℕ). range_with_len (a + 1) n ++ x ∷ []) same)

pub AllByRecursion-push : {X : Type 0} (P : X → Type 0) (xs : List X) (x : X) → AllByRecursion P xs → P x → AllByRecursion P (xs ++ x ∷ [])
AllByRecursion-push P [] x h k = (k, tt)
AllByRecursion-push P (y ∷ ys) x h k = (h.0, AllByRecursion-push P ys x h.1 k)

pub AllByRecursion-append : {X : Type 0} (P : X → Type 0) (xs ys : List X) → AllByRecursion P xs → AllByRecursion P ys → AllByRecursion P (xs ++ ys)
AllByRecursion-append P [] ys h k = k
AllByRecursion-append P (x ∷ xs) ys h k = (h.0, AllByRecursion-append P xs ys h.1 k)

pub AllByRecursion-at : {X : Type 0} (P : X → Type 0) (xs : List X) (i : ℕ) (x : X) → AllByRecursion P xs → slice_get xs i ≡ Some x → P x
AllByRecursion-at P [] i x h e = absurd (cc)
AllByRecursion-at P (y ∷ ys) zero x h e = let same : y ≡ x = cc in subst P same h.0
AllByRecursion-at P (y ∷ ys) (suc i) x h e = AllByRecursion-at P ys i x h.1 e

pub AllByRecursion-weaker : {X : Type 0} (P Q : X → Type 0) → ((x : X) → P x → Q x) → (xs : List X) → AllByRecursion P xs → AllByRecursion Q xs
AllByRecursion-weaker P Q f [] h = tt
AllByRecursion-weaker P Q f (x ∷ xs) h = (f x h.0, AllByRecursion-weaker P Q f xs h.1)

-- what holds of everything holds of each item
pub AllByRecursion-all : {X : Type 0} (P : X → Type 0) → ((x : X) → P x) → (xs : List X) → AllByRecursion P xs
AllByRecursion-all P f [] = tt
AllByRecursion-all P f (x ∷ xs) = (f x, AllByRecursion-all P f xs)

-- what each place of a list has, and what is taken past its end, are the same
pub get_or-replicate_same : {X : Type 0} (n i : ℕ) (x : X) → get_or (replicate n x) i x ≡ x
get_or-replicate_same zero i x = refl
get_or-replicate_same (suc n) zero x = refl
get_or-replicate_same (suc n) (suc i) x = get_or-replicate_same n i x
