-- Words of a trace as numbers: each number is read in the one spelling that is printed.
-- Source: this simulator's.
use Rattle.std.specs.Prelude.{ℕ, ◌+◌, ◌-◌, ◌*◌, ◌^◌, not, ◌&&◌, ◌||◌, nat_lt, nat_le, ◌==◌, Bool, List, [], ◌∷◌, length, get_or, drop, Option, None, Some, if◌then◌else◌, ℤ, pos, neg_ℤ}
use Rattle.ffm_model.specs.Binding.{◌>>=◌}
use Rattle.ffm_model.specs.TraceText.{Word}

-- the digit that a byte is, in base 16
abbrev pub digit_at : ℕ → Option ℕ
digit_at b = if nat_le 48 b && nat_le b 57 then Some (b - 48) else (if nat_le 97 b && nat_le b 102 then Some (b - 87) else None)

-- a number with one more digit of its base, as long as it is below 2^32
abbrev pub more : ℕ → ℕ → ℕ → Option ℕ
more base n d = if nat_lt d base && nat_lt (n * base + d) (2 ^ 32) then Some (n * base + d) else None

abbrev pub with_digit : ℕ → ℕ → ℕ → Option ℕ
with_digit base n b = digit_at b >>= more base n

-- the number that digits spell after those of n
unfoldable pub number_after : ℕ → ℕ → List ℕ → Option ℕ
number_after base n [] = Some n
number_after base n (b ∷ bs) = with_digit base n b >>= λ m. number_after base m bs

-- one digit, or more of them that begin with no 0
abbrev pub begins_well : Word → Bool
begins_well word = (length word == 1) || (nat_lt 1 (length word) && not (get_or word 0 0 == 48))

abbrev pub unsigned_of : Word → Option ℕ
unsigned_of word = if begins_well word then number_after 10 0 word else None

-- `0x` and eight digits
abbrev pub is_hexadecimal : Word → Bool
is_hexadecimal word = (length word == 10) && ((get_or word 0 0 == 48) && (get_or word 1 0 == 120))

abbrev pub hexadecimal_of : Word → Option ℕ
hexadecimal_of word = if is_hexadecimal word then number_after 16 0 (drop 2 word) else None

abbrev pub negative : ℕ → Option ℤ
negative n = if nat_le 1 n && nat_le n (2 ^ 31) then Some (neg_ℤ (pos n)) else None

abbrev pub positive : ℕ → Option ℤ
positive n = if nat_lt n (2 ^ 31) then Some (pos n) else None

-- after a `-` a negative number
abbrev pub signed_of : Word → Option ℤ
signed_of [] = None
signed_of (b ∷ bs) = if b == 45 then unsigned_of bs >>= negative else unsigned_of (b ∷ bs) >>= positive
