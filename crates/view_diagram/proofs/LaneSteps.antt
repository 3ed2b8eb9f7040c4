-- Actors that pass a test, one further.
use Rattle.std.proofs.Common.{ℕ, ◌≡◌, ◌+◌, ◌-◌, ◌<◌, ◌∷◌, [], ◌++◌, ◌∙◌, Bool, true, false, cond, List, ap, append_assoc, arith, filter, refl, suc, sym}
use Rattle.std.specs.Prelude.{if◌then◌else◌}
use Rattle.std.specs.List.{range_with_len}

-- the numbers from a on, below n
range_step : (a n : ℕ) → a < n → range_with_len a (n - a) ≡ a ∷ range_with_len (a + 1) (n - (a + 1))
range_step a n below =
    let more : n - a ≡ suc (n - (a + 1)) = omega arith in
    ap (range_with_len a) more

by_test : (b : Bool) (a : ℕ) (xs : List ℕ) → (if b then a ∷ [] else []) ++ xs ≡ cond b (a ∷ xs) xs
by_test true a xs = refl
by_test false a xs = refl

-- one more actor was added, where it passes the test
pub filter_step : (p : ℕ → Bool) (a n : ℕ) (t : Bool) (found new whole : List ℕ) → a < n → t ≡ p a → new ≡ found ++ (if t then a ∷ [] else [])
    → found ++ filter p (range_with_len a (n - a)) ≡ whole → new ++ filter p (range_with_len (a + 1) (n - (a + 1))) ≡ whole
filter_step p a n t found new whole below test more so =
    let rest = filter p (range_with_len (a + 1) (n - (a + 1))) in
    let one : List ℕ = if t then a ∷ [] else [] in
    ap (λ (u : List ℕ). u ++ rest) more ∙ append_assoc found one rest
    ∙ ap (λ (u : List ℕ). found ++ u) (by_test t a rest ∙ ap (λ (b : Bool). cond b (a ∷ rest) rest) test)
    ∙ ap (λ (u : List ℕ). found ++ filter p u) (sym (range_step a n below)) ∙ so
