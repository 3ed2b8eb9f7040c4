-- Numbers in bytes, the lowest byte first.
use Rattle.std.proofs.Common.{ℕ, zero, suc, ◌≡◌, ◌<◌, ◌≤◌, ◌+◌, ◌*◌, ◌^◌, List, ◌∷◌, length, get_or, take, drop, arith, ◌∙◌, ap, sym, drop-cons, add-one, length-take, ◌-◌}
use Rattle.ffm_model.specs.Memory.{ByteMap, store_number, words_stored}

pow_three : (k : ℕ) → k ≤ 3 → 256 ^ k ≤ 16777216
pow_three zero h = omega arith
pow_three (suc zero) h = omega arith
pow_three (suc (suc zero)) h = omega arith
pow_three (suc (suc (suc zero))) h = omega arith
pow_three (suc (suc (suc (suc k)))) h = absurd (omega arith)

-- a byte and a number of at most three bytes fit a word
pub fits_word : (k b r : ℕ) → k ≤ 3 → b < 256 → r < 256 ^ k → b + 256 * r < 4294967296
fits_word k b r few byte small = let most : 256 ^ k ≤ 16777216 = pow_three k few in omega arith

-- after the first of at most four bytes there are at most three
pub few_after : (bytes : List ℕ) → length bytes ≤ 4 → length (take (length bytes - 1) (drop 1 bytes)) ≤ 3
few_after bytes few = omega (arith, length-take {A = ℕ})

-- one more word is stored
pub words_step : (m n all : ByteMap) (at k w : ℕ) (ws : List ℕ) → k < length ws → w ≡ get_or ws k 0 → n ≡ store_number m (at + 4 * k) 4 w
    → words_stored m (at + 4 * k) (drop k ws) ≡ all → words_stored n (at + 4 * (k + 1)) (drop (k + 1) ws) ≡ all
words_step m n all at k w ws below word stored so_far =
    let next : at + 4 * (k + 1) ≡ (at + 4 * k) + 4 = omega arith in
    let front : drop k ws ≡ get_or ws k 0 ∷ drop (k + 1) ws = rw add-one (drop-cons ws k 0 below) in
    ap (λ x. words_stored x (at + 4 * (k + 1)) (drop (k + 1) ws)) (stored ∙ ap (store_number m (at + 4 * k) 4) word)
    ∙ ap (λ a. words_stored (store_number m (at + 4 * k) 4 (get_or ws k 0)) a (drop (k + 1) ws)) next
    ∙ ap (words_stored m (at + 4 * k)) (sym front) ∙ so_far
