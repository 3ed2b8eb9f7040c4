-- The actor of a name, one actor further.
use Rattle.std.proofs.Common.{ℕ, ◌≡◌, ◌+◌, ◌-◌, ◌<◌, ◌≤◌, ◌∷◌, [], ◌∙◌, Bool, true, false, ap, arith, suc, sym, zero}
use Rattle.std.specs.Prelude.{Option, None, Some, find}
use Rattle.std.specs.List.{range_with_len}

range_step : (a n : ℕ) → a < n → range_with_len a (n - a) ≡ a ∷ range_with_len (a + 1) (n - (a + 1))
range_step a n below =
    let more : n - a ≡ suc (n - (a + 1)) = omega arith in
    ap (range_with_len a) more

range_end : (a n : ℕ) → n ≤ a → range_with_len a (n - a) ≡ []
range_end a n above =
    let none : n - a ≡ zero = omega arith in
    ap (range_with_len a) none

-- the tests so far failed, and one more
pub find_step : (p : ℕ → Bool) (a n : ℕ) (t : Bool) (whole : Option ℕ) → a < n → t ≡ p a → t ≡ false → find p (range_with_len a (n - a)) ≡ whole
    → find p (range_with_len (a + 1) (n - (a + 1))) ≡ whole
find_step p a n t whole below test failed so =
    let rest = range_with_len (a + 1) (n - (a + 1)) in
    let none : p a ≡ false = sym test ∙ failed in
    let whole_is : find p (a ∷ rest) ≡ whole = ap (find p) (sym (range_step a n below)) ∙ so in
    rw none at whole_is

-- a test holds
pub find_found : (p : ℕ → Bool) (a n : ℕ) (t : Bool) (whole : Option ℕ) → a < n → t ≡ p a → t ≡ true → find p (range_with_len a (n - a)) ≡ whole → Some a ≡ whole
find_found p a n t whole below test held so =
    let rest = range_with_len (a + 1) (n - (a + 1)) in
    let here : p a ≡ true = sym test ∙ held in
    let whole_is : find p (a ∷ rest) ≡ whole = ap (find p) (sym (range_step a n below)) ∙ so in
    rw here at whole_is

-- no test holds
pub find_none : (p : ℕ → Bool) (a n : ℕ) (whole : Option ℕ) → n ≤ a → find p (range_with_len a (n - a)) ≡ whole → None ≡ whole
find_none p a n whole above so = ap (find p) (sym (range_end a n above)) ∙ so
