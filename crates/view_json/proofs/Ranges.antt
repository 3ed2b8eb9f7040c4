-- Loops over numbers in a row, one further.
use Rattle.std.proofs.Common.{ℕ, ◌≡◌, ◌+◌, ◌-◌, ◌<◌, ◌∷◌, [], ◌++◌, ◌∙◌, List, ap, append_assoc, arith, refl, suc, sym}
use Rattle.std.specs.Prelude.{Option, None, Some}
use Rattle.std.specs.List.{cons_option, filter_map, range_with_len}

-- the numbers from a on, below n
range_step : (a n : ℕ) → a < n → range_with_len a (n - a) ≡ a ∷ range_with_len (a + 1) (n - (a + 1))
range_step a n below =
    let more : n - a ≡ suc (n - (a + 1)) = omega arith in
    ap (range_with_len a) more

-- one more number was added
pub number_step : (a n : ℕ) (found new whole : List ℕ) → a < n → new ≡ found ++ a ∷ [] → found ++ range_with_len a (n - a) ≡ whole → new ++ range_with_len (a + 1) (n - (a + 1)) ≡ whole
number_step a n found new whole below more so =
    let rest = range_with_len (a + 1) (n - (a + 1)) in
    ap (λ (u : List ℕ). u ++ rest) more ∙ append_assoc found (a ∷ []) rest ∙ ap (λ (u : List ℕ). found ++ u) (sym (range_step a n below)) ∙ so

-- one more value was added, where there is one
pub value_step : {B : Type 0} (f : ℕ → Option B) (a n : ℕ) (o : Option B) (found new whole : List B) → a < n → f a ≡ o → new ≡ found ++ cons_option o []
    → found ++ filter_map f (range_with_len a (n - a)) ≡ whole → new ++ filter_map f (range_with_len (a + 1) (n - (a + 1))) ≡ whole
value_step {B = B} f a n o found new whole below here more so =
    let rest = filter_map f (range_with_len (a + 1) (n - (a + 1))) in
    ap (λ (u : List B). u ++ rest) more ∙ append_assoc found (cons_option o []) rest
    ∙ ap (λ (u : List B). found ++ u) (joins o)
    ∙ ap (λ (x : Option B). found ++ cons_option x rest) (sym here)
    ∙ ap (λ (u : List ℕ). found ++ filter_map f u) (sym (range_step a n below)) ∙ so where
      joins : (x : Option B) → cons_option x [] ++ filter_map f (range_with_len (a + 1) (n - (a + 1))) ≡ cons_option x (filter_map f (range_with_len (a + 1) (n - (a + 1))))
      joins None = refl
      joins (Some y) = refl
