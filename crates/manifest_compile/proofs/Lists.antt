-- Lists and their images.
use Rattle.std.proofs.Common.{ℕ, ◌≡◌, ◌<◌, ◌≤◌, ◌+◌, List, ◌∷◌, length, get_or, map, filter, drop, drop-cons, add-one, Bool, true, false, cond, Some, refl, ◌∙◌, ap, sym}
use Rattle.std.specs.List.{enumerate_from}
use Rattle.std.proofs.lemmas.List.{get_or-map, length-map}
use Rattle.ffm_model.specs.Repeats.{first}

-- the image of the item at a place
pub image_at : {A B : Type 0} (f : A → B) (xs : List A) (i : ℕ) (x : A) → i < length xs → x ≡ get_or xs i x → get_or (map f xs) i (f x) ≡ f x
image_at f xs i x below is = get_or-map f xs i x (f x) below ∙ ap f (sym is)

pub below_image : {A B : Type 0} (f : A → B) (xs : List A) (i : ℕ) → i < length xs → i < length (map f xs)
below_image f xs i below = rw (length-map xs f) below

pub image_past : {A B : Type 0} (f : A → B) (xs : List A) (i : ℕ) → length xs ≤ i → length (map f xs) ≤ i
image_past f xs i past = rw (length-map xs f) past

-- a list is as long as its image
pub short_image : {A B : Type 0} (f : A → B) (xs : List A) (ys : List B) (n : ℕ) → map f xs ≡ ys → length ys ≤ n → length xs ≤ n
short_image f xs ys n e short = rw (← length-map xs f, e) short

-- the images from a place on
pub images_from : {A B : Type 0} (f : A → B) (xs : List A) (i : ℕ) (x : A) → i < length xs → x ≡ get_or xs i x → map f (drop i xs) ≡ f x ∷ map f (drop (i + 1) xs)
images_from f xs i x below is =
    ap (map f) (drop-cons xs i x below) ∙ ap (λ k. f (get_or xs i x) ∷ map f (drop k xs)) (sym (add-one i)) ∙ ap (λ y. f y ∷ map f (drop (i + 1) xs)) (sym is)

-- ---- the first of numbered items that passes

behind : {A : Type 0} (xs : List A) (i : ℕ) (d : A) → i < length xs → enumerate_from i (drop i xs) ≡ (i, get_or xs i d) ∷ enumerate_from (i + 1) (drop (i + 1) xs)
behind xs i d below = ap (enumerate_from i) (drop-cons xs i d below) ∙ ap (λ k. (i, get_or xs i d) ∷ enumerate_from (i + 1) (drop k xs)) (sym (add-one i))

past : {A : Type 0} (b : Bool) (x : A) (xs : List A) → b ≡ false → cond b (x ∷ xs) xs ≡ xs
past true x xs e = cc
past false x xs e = refl

taken : {A : Type 0} (b : Bool) (x : A) (xs : List A) → b ≡ true → first (cond b (x ∷ xs) xs) ≡ Some x
taken true x xs e = refl
taken false x xs e = cc

pub first_past : {A : Type 0} (t : ℕ × A → Bool) (xs : List A) (i : ℕ) (d : A) → i < length xs → t (i, get_or xs i d) ≡ false
    → first (filter t (enumerate_from (i + 1) (drop (i + 1) xs))) ≡ first (filter t (enumerate_from i (drop i xs)))
first_past t xs i d below e =
    sym (ap (λ es. first (filter t es)) (behind xs i d below) ∙ ap first (past (t (i, get_or xs i d)) (i, get_or xs i d) (filter t (enumerate_from (i + 1) (drop (i + 1) xs))) e))

pub first_here : {A : Type 0} (t : ℕ × A → Bool) (xs : List A) (i : ℕ) (d : A) → i < length xs → t (i, get_or xs i d) ≡ true
    → first (filter t (enumerate_from i (drop i xs))) ≡ Some (i, get_or xs i d)
first_here t xs i d below e =
    ap (λ es. first (filter t es)) (behind xs i d below) ∙ taken (t (i, get_or xs i d)) (i, get_or xs i d) (filter t (enumerate_from (i + 1) (drop (i + 1) xs))) e
