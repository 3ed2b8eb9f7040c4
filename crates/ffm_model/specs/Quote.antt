-- Decimals between quotation marks: how bytes are changed before they are read as JSON, so that no float is ever read
-- and a version may be written 1.0 or "1.0". Source: this simulator's files.
use Rattle.std.specs.Prelude.{ℕ, List, [], ◌∷◌, ◌++◌, length, slice_index, Bool, ◌&&◌, ◌||◌, ◌==◌, nat_lt, if◌then◌else◌, take_while, codes}
use Rattle.std.specs.Char.{is_ascii_digit}
use Rattle.std.specs.List.{list_any}
use Rattle.std.specs.Str.{bytes_eq}

-- `.`, `e` or `E`
unfoldable pub is_fraction_byte : ℕ → Bool
is_fraction_byte b = (b == 46) || (b == 101) || (b == 69)

-- a digit, `+`, `-`, `.`, `e` or `E`
unfoldable pub is_run_byte : ℕ → Bool
is_run_byte b = is_ascii_digit b || (b == 43) || (b == 45) || is_fraction_byte b

-- a run that begins as a number does, and has a fraction or an exponent, is -0, or has more than 19 bytes
unfoldable pub is_marked : List ℕ → Bool
is_marked run = (is_ascii_digit (slice_index run 0) || (slice_index run 0 == 45)) && (list_any is_fraction_byte run || bytes_eq run (codes "-0") || nat_lt 19 (length run))

-- where a byte stands: in a run that gets marks or not, in a string, after a backslash in a string, or elsewhere
pub data Where : Type 0 where
  outside : Where
  in_run : Bool → Where
  in_string : Where
  behind_backslash : Where

-- a quotation mark, or nothing
abbrev pub marks : Bool → List ℕ
marks marked = if marked then 34 ∷ [] else []

abbrev pub after_other : ℕ → Where
after_other b = if b == 34 then in_string else outside

abbrev pub after_string_byte : ℕ → Where
after_string_byte b = if b == 34 then outside else (if b == 92 then behind_backslash else in_string)

-- a longest run of run bytes outside strings gets its marks before and after it; all other bytes stay
unfoldable pub quoted : Where → List ℕ → List ℕ
quoted outside [] = []
quoted outside (b ∷ bs) = if is_run_byte b
    then marks (is_marked (b ∷ take_while is_run_byte bs)) ++ b ∷ quoted (in_run (is_marked (b ∷ take_while is_run_byte bs))) bs
    else b ∷ quoted (after_other b) bs
quoted (in_run marked) [] = marks marked
quoted (in_run marked) (b ∷ bs) = if is_run_byte b then b ∷ quoted (in_run marked) bs else marks marked ++ b ∷ quoted (after_other b) bs
quoted in_string [] = []
quoted in_string (b ∷ bs) = b ∷ quoted (after_string_byte b) bs
quoted behind_backslash [] = []
quoted behind_backslash (b ∷ bs) = b ∷ quoted in_string bs

abbrev pub quote : List ℕ → List ℕ
quote = quoted outside
