-- What a field of the program stands for in the text of a trace, and how much of a line it takes.
-- Source: this simulator's trace format.
use Rattle.std.specs.Prelude.{ℕ, List, map}
use Rattle.ffm_model.specs.TraceText as text
use Rattle.trace_print.specs.declared.field.Field.{Field}
use Rattle.trace_print.specs.declared.field.Field.TheVariants.{Hex, Unsigned, Signed}

abbrev pub number_of : Field → text.Field
number_of (Hex n) = text.hexadecimal n
number_of (Unsigned n) = text.unsigned n
number_of (Signed z) = text.signed z

abbrev pub numbers : List Field → List text.Field
numbers fields = map number_of fields

-- how many bytes a number takes at most, with the space before it
abbrev pub width_of : text.Field → ℕ
width_of (text.hexadecimal n) = 11
width_of (text.unsigned n) = 11
width_of (text.signed z) = 12
