-- How often an opening or a reader answered with an error.
-- Source: this project's rule for its trusted edge.
use Rattle.std.specs.Prelude.{ℕ}
use Rattle.outside_io.specs.declared.counted.Counted.{Counted}

-- the opening, or the reader
abbrev pub value_of : {T : Type 0} → Counted T → T
value_of counted = counted.value

abbrev pub count_of : {T : Type 0} → Counted T → ℕ
count_of counted = counted.count
