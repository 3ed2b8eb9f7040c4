-- Loops over numbers in a row, one further.
use Rattle.std.proofs.Common.{ℕ, ◌≡◌, ◌+◌, ◌-◌, ◌<◌, ◌≤◌, ◌∷◌, [], ◌++◌, ◌∙◌, Bool, true, false, cond, List, ap, append_assoc, arith, filter, refl, suc, sym, zero}
use Rattle.std.specs.Prelude.{if◌then◌else◌}
use Rattle.std.specs.List.{flat_map, list_any, range_with_len}

-- the numbers from a on, below n
range_step : (a n : ℕ) → a < n → range_with_len a (n - a) ≡ a ∷ range_with_len (a + 1) (n - (a + 1))
range_step a n below =
    let more : n - a ≡ suc (n - (a + 1)) = omega arith in
    ap (range_with_len a) more

range_end : (a n : ℕ) → n ≤ a → range_with_len a (n - a) ≡ []
range_end a n above =
    let none : n - a ≡ zero = omega arith in
    ap (range_with_len a) none

-- one more text was appended
pub lines_step : (f : ℕ → List ℕ) (a n : ℕ) (text new whole : List ℕ) → a < n → new ≡ text ++ f a → text ++ flat_map f (range_with_len a (n - a)) ≡ whole
    → new ++ flat_map f (range_with_len (a + 1) (n - (a + 1))) ≡ whole
lines_step f a n text new whole below more so =
    let rest = flat_map f (range_with_len (a + 1) (n - (a + 1))) in
    ap (λ (u : List ℕ). u ++ rest) more ∙ append_assoc text (f a) rest ∙ ap (λ (u : List ℕ). text ++ flat_map f u) (sym (range_step a n below)) ∙ so

by_test : (b : Bool) (a : ℕ) (xs : List ℕ) → (if b then a ∷ [] else []) ++ xs ≡ cond b (a ∷ xs) xs
by_test true a xs = refl
by_test false a xs = refl

-- one more number was added, where it passes the test
pub filter_step : (p : ℕ → Bool) (a n : ℕ) (t : Bool) (found new whole : List ℕ) → a < n → t ≡ p a → new ≡ found ++ (if t then a ∷ [] else [])
    → found ++ filter p (range_with_len a (n - a)) ≡ whole → new ++ filter p (range_with_len (a + 1) (n - (a + 1))) ≡ whole
filter_step p a n t found new whole below test more so =
    let rest = filter p (range_with_len (a + 1) (n - (a + 1))) in
    let one : List ℕ = if t then a ∷ [] else [] in
    ap (λ (u : List ℕ). u ++ rest) more ∙ append_assoc found one rest
    ∙ ap (λ (u : List ℕ). found ++ u) (by_test t a rest ∙ ap (λ (b : Bool). cond b (a ∷ rest) rest) test)
    ∙ ap (λ (u : List ℕ). found ++ filter p u) (sym (range_step a n below)) ∙ so

-- the tests so far failed, and one more
pub any_step : (p : ℕ → Bool) (a n : ℕ) (t whole : Bool) → a < n → t ≡ p a → t ≡ false → list_any p (range_with_len a (n - a)) ≡ whole
    → list_any p (range_with_len (a + 1) (n - (a + 1))) ≡ whole
any_step p a n t whole below test failed so =
    let rest = range_with_len (a + 1) (n - (a + 1)) in
    let none : p a ≡ false = sym test ∙ failed in
    let whole_is : list_any p (a ∷ rest) ≡ whole = ap (list_any p) (sym (range_step a n below)) ∙ so in
    rw none at whole_is

-- a test holds
pub any_found : (p : ℕ → Bool) (a n : ℕ) (t whole : Bool) → a < n → t ≡ p a → t ≡ true → list_any p (range_with_len a (n - a)) ≡ whole → true ≡ whole
any_found p a n t whole below test held so =
    let rest = range_with_len (a + 1) (n - (a + 1)) in
    let here : p a ≡ true = sym test ∙ held in
    let whole_is : list_any p (a ∷ rest) ≡ whole = ap (list_any p) (sym (range_step a n below)) ∙ so in
    rw here at whole_is

-- no test holds
pub any_none : (p : ℕ → Bool) (a n : ℕ) (whole : Bool) → n ≤ a → list_any p (range_with_len a (n - a)) ≡ whole → false ≡ whole
any_none p a n whole above so = ap (list_any p) (sym (range_end a n above)) ∙ so
