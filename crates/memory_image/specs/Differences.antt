-- Where two memories differ, and in how many places: a memory gives the byte at each address.
-- A range is its first address and its length.
-- Source: of this repository; an audit says by it which bytes a call changed.
use Rattle.std.specs.Prelude.{ℕ, ◌+◌, ◌<◌, ◌≤◌, ◌≡◌, ◌==◌, nat_le, nat_lt, Bool, true, false, not, ◌&&◌, List, [], ◌∷◌, Option, None, Some, MatchOption, count_by, sum_by, if◌then◌else◌}
use Rattle.std.specs.List.{range_with_len, list_any}

-- the two memories have different bytes at the address
abbrev pub differs : (ℕ → ℕ) → (ℕ → ℕ) → ℕ → Bool
differs m n x = not (m x == n x)

-- the address lies in the range
abbrev pub range_covers : ℕ × ℕ → ℕ → Bool
range_covers r x = nat_le r.0 x && nat_lt x (r.0 + r.1)

-- the address lies in one of the ranges
abbrev pub any_covers : List (ℕ × ℕ) → ℕ → Bool
any_covers rs x = list_any (λ r. range_covers r x) rs

-- how many addresses of the ranges pass, where an address counts once for each range that it lies in
abbrev pub count_in : (ℕ → Bool) → List (ℕ × ℕ) → ℕ
count_in p rs = sum_by (λ r. count_by p (range_with_len r.0 r.1)) rs

-- no two ranges share an address, and each ends by the limit
abbrev pub AreApart : ℕ → List (ℕ × ℕ) → Type 0
AreApart limit [] = Unit {0}
AreApart limit (r ∷ rs) = (r.0 + r.1 ≤ limit) × ((x : ℕ) → range_covers r x ≡ true → any_covers rs x ≡ false) × AreApart limit rs

-- the least address that passes; where there is none, none passes
abbrev pub IsLeast : (ℕ → Bool) → Option ℕ → Type 0
IsLeast p found = MatchOption found ((x : ℕ) → p x ≡ false) (λ a. (p a ≡ true) × ((x : ℕ) → x < a → p x ≡ false))

-- the lesser of two addresses, each of which may be missing
abbrev pub lesser : Option ℕ → Option ℕ → Option ℕ
lesser None b = b
lesser (Some a) None = Some a
lesser (Some a) (Some b) = if nat_lt a b then Some a else Some b
