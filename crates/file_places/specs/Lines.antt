-- Lines and columns of a text: a line feed ends a line, and both count from 1.
-- Source: this simulator's.
use Rattle.std.specs.Prelude.{ℕ, ◌+◌, ◌-◌, List, ◌++◌, length, take, drop, Bool, not, ◌==◌, ◌||◌, nat_lt, count_by, codes}
use Rattle.std.specs.List.{suffix_len}
use Rattle.std.specs.Fmt.{decimal}

abbrev pub is_line_feed : ℕ → Bool
is_line_feed b = b == 10

-- the bytes behind the last line feed
abbrev pub last_line : List ℕ → List ℕ
last_line front = drop (length front - suffix_len (λ b. not (is_line_feed b)) front) front

-- a character of UTF-8 begins with this byte
abbrev pub begins_character : ℕ → Bool
begins_character b = nat_lt b 128 || nat_lt 191 b

-- the line of the byte at a place
abbrev pub line_of : List ℕ → ℕ → ℕ
line_of bytes at = 1 + count_by is_line_feed (take at bytes)

-- its column, in characters
abbrev pub column_of : List ℕ → ℕ → ℕ
column_of bytes at = 1 + count_by begins_character (last_line (take at bytes))

-- `NAME:LINE:COLUMN` of the byte at a place
abbrev pub place_text : List ℕ → List ℕ → ℕ → List ℕ
place_text name bytes at = name ++ (codes ":" ++ (decimal (line_of bytes at) ++ (codes ":" ++ decimal (column_of bytes at))))
