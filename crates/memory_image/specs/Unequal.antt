-- Where two lists of bytes differ, place by place.
-- Source: of this repository; the scans by lanes answer as a scan byte by byte does.
use Rattle.std.specs.Prelude.{ℕ, ◌==◌, Bool, not}

-- the two bytes of a place differ
abbrev pub are_unequal : ℕ × ℕ → Bool
are_unequal pair = not (pair.0 == pair.1)
