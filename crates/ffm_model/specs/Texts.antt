-- Names and hexadecimal numbers, as texts.
-- Source: the forms of this simulator's files. A name is an identifier of C of at most 64 characters (FF-M 1.0, manifests).
use Rattle.std.specs.Prelude.{ℕ, ◌+◌, ◌*◌, List, [], ◌∷◌, length, drop, slice_index, Bool, not, ◌&&◌, ◌||◌, ◌==◌, nat_lt, nat_le, Option, Some, None, if◌then◌else◌, codes}
use Rattle.std.specs.Str.{bytes_eq}
use Rattle.std.specs.Char.{digit_value, is_digit, is_ascii_digit, is_ascii_alphanumeric}
use Rattle.std.specs.List.{list_all}

-- a letter, a digit or `_`
abbrev pub is_word_byte : ℕ → Bool
is_word_byte b = is_ascii_alphanumeric b || (b == 95)

-- 1 to 64 letters, digits and `_`, no digit first; `device` is the interrupt device's own
unfoldable pub is_name : List ℕ → Bool
is_name s = nat_lt 0 (length s) && nat_le (length s) 64 && not (is_ascii_digit (slice_index s 0)) && not (bytes_eq s (codes "device")) && list_all is_word_byte s

-- the number that hexadecimal digits spell after those that spell n
abbrev pub hex_after : ℕ → List ℕ → Option ℕ
hex_after n [] = Some n
hex_after n (d ∷ ds) = if is_digit d 16 then hex_after (n * 16 + digit_value d) ds else None

-- `0x` and one to eight hexadecimal digits of either case
unfoldable pub hex_number : List ℕ → Option ℕ
hex_number s = if nat_lt 2 (length s) && nat_le (length s) 10 && (slice_index s 0 == 48) && (slice_index s 1 == 120) then hex_after 0 (drop 2 s) else None
