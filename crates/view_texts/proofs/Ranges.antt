-- Loops over numbers in a row, one further.
use Rattle.std.proofs.Common.{ℕ, ◌≡◌, ◌+◌, ◌-◌, ◌<◌, ◌∷◌, [], ◌++◌, ◌∙◌, Bool, true, false, cond, List, ap, append_assoc, arith, filter, refl, suc, sym}
use Rattle.std.specs.Prelude.{fold, if◌then◌else◌}
use Rattle.std.specs.List.{flat_map, range_with_len}

-- the numbers from a on, below n
range_step : (a n : ℕ) → a < n → range_with_len a (n - a) ≡ a ∷ range_with_len (a + 1) (n - (a + 1))
range_step a n below =
    let more : n - a ≡ suc (n - (a + 1)) = omega arith in
    ap (range_with_len a) more

-- one more text was appended
pub lines_step : (f : ℕ → List ℕ) (a n : ℕ) (text new whole : List ℕ) → a < n → new ≡ text ++ f a → text ++ flat_map f (range_with_len a (n - a)) ≡ whole
    → new ++ flat_map f (range_with_len (a + 1) (n - (a + 1))) ≡ whole
lines_step f a n text new whole below more so =
    let rest = flat_map f (range_with_len (a + 1) (n - (a + 1))) in
    ap (λ (u : List ℕ). u ++ rest) more ∙ append_assoc text (f a) rest ∙ ap (λ (u : List ℕ). text ++ flat_map f u) (sym (range_step a n below)) ∙ so

by_test : (b : Bool) (a : ℕ) (xs : List ℕ) → (if b then a ∷ [] else []) ++ xs ≡ cond b (a ∷ xs) xs
by_test true a xs = refl
by_test false a xs = refl

-- one more number was added, where it passes the test
pub filter_step : (p : ℕ → Bool) (a n : ℕ) (t : Bool) (found new whole : List ℕ) → a < n → t ≡ p a → new ≡ found ++ (if t then a ∷ [] else [])
    → found ++ filter p (range_with_len a (n - a)) ≡ whole → new ++ filter p (range_with_len (a + 1) (n - (a + 1))) ≡ whole
filter_step p a n t found new whole below test more so =
    let rest = filter p (range_with_len (a + 1) (n - (a + 1))) in
    let one : List ℕ = if t then a ∷ [] else [] in
    ap (λ (u : List ℕ). u ++ rest) more ∙ append_assoc found one rest
    ∙ ap (λ (u : List ℕ). found ++ u) (by_test t a rest ∙ ap (λ (b : Bool). cond b (a ∷ rest) rest) test)
    ∙ ap (λ (u : List ℕ). found ++ filter p u) (sym (range_step a n below)) ∙ so

-- one more number was folded in
pub fold_step : {B : Type 0} (f : B → ℕ → B) (a n : ℕ) (x new whole : B) → a < n → new ≡ f x a → fold f x (range_with_len a (n - a)) ≡ whole
    → fold f new (range_with_len (a + 1) (n - (a + 1))) ≡ whole
fold_step f a n x new whole below more so =
    let rest = range_with_len (a + 1) (n - (a + 1)) in
    ap (λ u. fold f u rest) more ∙ ap (fold f x) (sym (range_step a n below)) ∙ so
