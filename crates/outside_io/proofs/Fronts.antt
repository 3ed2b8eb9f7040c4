-- What was taken of a reader, a piece after the other.
use Rattle.std.proofs.Common.{◌≡◌, ℕ, ◌<◌, ◌≤◌, List, [], ◌++◌, Option, None, Some, ap, sym, ◌∙◌, append_assoc, append-nil, refl, arith, length, take, length-append}
use Rattle.std.proofs.lemmas.List.{length-take, take-append-le, take-take}
use Rattle.std.specs.Prelude.{IfSome}
use Rattle.std.specs.Io.KnownBytes.{Consumes, IsAtEnd}

-- what holds of every value holds of the one that is told
pub of_any : {A : Type 0} (o : Option A) (P : A → Type 0) → ((x : A) → P x) → IfSome o P
of_any None P p = tt
of_any (Some x) P p = p x

-- nothing was taken yet
pub none_taken : (a : Option (List ℕ)) → Consumes a a []
none_taken None = tt
none_taken (Some x) = refl

-- a piece more
pub taken_then : (a b c : Option (List ℕ)) (xs ys : List ℕ) → Consumes a b xs → Consumes b c ys → Consumes a c (xs ++ ys)
taken_then None b c xs ys p q = tt
taken_then (Some x) None c xs ys p q = absurd p
taken_then (Some x) (Some y) None xs ys p q = absurd q
taken_then (Some x) (Some y) (Some z) xs ys p q = p ∙ ap (λ l. xs ++ l) q ∙ sym (append_assoc xs ys z)

-- the next piece is empty, since nothing is left
pub all_taken : (a b c : Option (List ℕ)) (xs piece : List ℕ) (n : ℕ) → n ≡ 0 → Consumes a b xs → Consumes b c (take n piece) → IsAtEnd c → IfSome a (λ left. xs ≡ left)
all_taken None b c xs piece n none p q end = tt
all_taken (Some x) None c xs piece n none p q end = absurd p
all_taken (Some x) (Some y) None xs piece n none p q end = absurd q
all_taken (Some x) (Some y) (Some z) xs piece n none p q end =
    let left : y ≡ z = rw none at q in
    sym (p ∙ ap (λ (l : List ℕ). xs ++ l) (left ∙ end) ∙ append-nil xs)

-- more was taken than the limit
pub is_longer : (X : Type 0) (a b : Option (List ℕ)) (xs : List ℕ) (limit : ℕ) → Consumes a b xs → limit < length xs → IfSome a (λ left. X → limit < length left)
is_longer X None b xs limit p lt = tt
is_longer X (Some x) None xs limit p lt = absurd p
is_longer X (Some x) (Some y) xs limit p lt = λ _. omega (arith, ap length p, length-append xs y)

-- it wasn't too long
pub not_long : (X : Type 0) (P : List ℕ → Type 0) (a : Option (List ℕ)) → (X → ⊥) → IfSome a (λ left. X → P left)
not_long X P None never = tt
not_long X P (Some left) never = λ x. absurd (never x)

-- the front of a piece that was read into a room
pub front_same : (n len : ℕ) (xs rest : List ℕ) → n ≤ length xs → n ≤ len → take n (take len (xs ++ rest)) ≡ take n xs
front_same n len xs rest le within = take-take n len (xs ++ rest) within ∙ take-append-le n xs rest le

pub some_left : (len : ℕ) (xs rest : List ℕ) → 0 < len → 0 < length xs → 0 < length (take len (xs ++ rest))
some_left len xs rest room some = omega (arith, length-take len (xs ++ rest), length-append xs rest)
