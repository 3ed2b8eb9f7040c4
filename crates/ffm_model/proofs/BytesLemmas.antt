-- The bytes of a range: how many they are, which one stands where, and when those of two ranges are the same.
use Rattle.std.proofs.Common.{ℕ, zero, suc, ◌≡◌, ◌<◌, ◌≤◌, ◌+◌, ◌-◌, true, ◌&&◌, List, ◌∷◌, length, get_or, refl, ap, ap₂, ◌∙◌, arith}
use Rattle.std.specs.Prelude.{nat_le, nat_lt, slice_index}
use Rattle.std.proofs.lemmas.Bool.Decides.{nat_tests}
use Rattle.ffm_model.specs.Memory.{ByteMap, bytes_at}

pub bytes-length : (m : ByteMap) (a n : ℕ) → length (bytes_at m a n) ≡ n
bytes-length m a zero = refl
bytes-length m a (suc n) = omega (arith, bytes-length m (a + 1) n)

pub bytes-index : (m : ByteMap) (a n i : ℕ) → i < n → get_or (bytes_at m a n) i 0 ≡ m (a + i)
bytes-index m a zero i lt = absurd (omega arith)
bytes-index m a (suc n) zero lt = ap m (omega arith)
bytes-index m a (suc n) (suc i) lt = bytes-index m (a + 1) n i (omega arith) ∙ ap m (omega arith)

-- the byte of an address in the range
pub byte-there : (m : ByteMap) (a n x : ℕ) → (nat_le a x && nat_lt x (a + n)) ≡ true → slice_index (bytes_at m a n) (x - a) ≡ m x
byte-there m a n x inside =
    let low : a ≤ x = grind (arith, nat_tests) in
    let high : x < a + n = grind (arith, nat_tests) in
    bytes-index m a n (x - a) (omega arith) ∙ ap m (omega arith)

pub bytes-same : (f g : ByteMap) (a b n : ℕ) → ((i : ℕ) → i < n → f (a + i) ≡ g (b + i)) → bytes_at f a n ≡ bytes_at g b n
bytes-same f g a b zero same = refl
bytes-same f g a b (suc n) same =
    let first : f a ≡ g b = ap f (omega arith) ∙ (same 0 (omega arith) ∙ ap g (omega arith)) in
    ap₂ (λ (x : ℕ) (xs : List ℕ). x ∷ xs) first
    (bytes-same f g (a + 1) (b + 1) n (λ i lt. ap f (omega arith) ∙ (same (suc i) (omega arith) ∙ ap g (omega arith))))
