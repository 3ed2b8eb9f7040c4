-- The words of a script's line, the values that they stand for, and what each first word asks for.
-- Source: this simulator's script language. Words are lists of bytes.
use Rattle.std.specs.Prelude.{ℕ, ◌+◌, ◌-◌, ◌*◌, List, [], ◌∷◌, length, slice_index, Bool, not, ◌&&◌, ◌||◌, ◌==◌, nat_le, Option, Some, None, option_and_then, if◌then◌else◌, codes, filter}
use Rattle.std.specs.Str.{bytes_eq}
use Rattle.std.specs.Char.{digit_value, is_digit}
use Rattle.std.specs.List.{slice_split}
use Rattle.std.specs.Option.{option_map}
use Rattle.ffm_model.specs.declared.script.Operand.{Operand}
use Rattle.ffm_model.specs.declared.script.Operand.TheVariants.{Register, Number}
use Rattle.ffm_model.specs.declared.script.Operation.TheVariants.{Set, Add, Sub, And, Or, Xor}
use Rattle.ffm_model.specs.declared.script.Comparison.TheVariants.{Equal, Different, Less}
use Rattle.ffm_model.specs.declared.script.CallName.TheVariants as name
use Rattle.ffm_model.specs.declared.script.MapName.TheVariants as vector
use Rattle.script_asm.specs.declared.first_words.Head.{Head}
use Rattle.script_asm.specs.declared.first_words.Head.TheVariants.{Change, Jump, JumpIf, Make, Map}
use Rattle.ffm_model.specs.Signatures.{Signature, line_signatures, signature_in}
use Rattle.ffm_model.specs.Texts.{hex_number}

abbrev pub Word : Type 0
Word = List ℕ

-- a space or a tab
abbrev pub is_blank : ℕ → Bool
is_blank b = (b == 32) || (b == 9)

-- the words of a line: its longest runs without blanks
unfoldable pub words_of : List ℕ → List Word
words_of line = filter (λ w. not (length w == 0)) (slice_split is_blank line)

-- ---- numbers

-- the number that n and the decimal digits after it spell, where it is at most the limit
abbrev pub decimal_after : ℕ → ℕ → List ℕ → Option ℕ
decimal_after limit n [] = Some n
decimal_after limit n (d ∷ ds) =
    if is_digit d 10 && nat_le (n * 10 + digit_value d) limit
    then decimal_after limit (n * 10 + digit_value d) ds
    else None

-- one or more decimal digits, of a number up to the limit; leading zeros are allowed
unfoldable pub decimal_number : ℕ → Word → Option ℕ
decimal_number limit [] = None
decimal_number limit (d ∷ ds) = decimal_after limit 0 (d ∷ ds)

-- the 32 bits of -n, for n from 1 to 2^31
abbrev pub negated : ℕ → Option ℕ
negated n = if n == 0 then None else Some (4294967296 - n)

-- `-` and a decimal number from 1 to 2147483648, as two's complement
unfoldable pub negative_number : Word → Option ℕ
negative_number [] = None
negative_number (c ∷ ds) = if c == 45 then option_and_then negated (decimal_number 2147483648 ds) else None

-- a number begins with `-`, with `0x`, or is decimal and at most 4294967295
unfoldable pub number_of : Word → Option ℕ
number_of w =
    if slice_index w 0 == 45 then negative_number w
    else (if slice_index w 1 == 120 then hex_number w
    else decimal_number 4294967295 w)

-- ---- registers and values

-- `r0` to `r15`, without leading zeros
unfoldable pub register_of : Word → Option ℕ
register_of (r ∷ d ∷ []) = if (r == 114) && is_digit d 10 then Some (digit_value d) else None
register_of (r ∷ t ∷ d ∷ []) = if (r == 114) && (t == 49) && is_digit d 6 then Some (10 + digit_value d) else None
register_of _ = None

-- a value: what begins with `r` is a register or wrong, and all else is a number or wrong
unfoldable pub operand_of : Word → Option Operand
operand_of w = if slice_index w 0 == 114 then option_map Register (register_of w) else option_map Number (number_of w)

-- ---- first words

abbrev pub asks : Word → Head → Word × Head
asks word head = (word, head)

-- each first word that is no call's with what it asks for; a line of a mapped vector with the number of its operands: handle, index, length
unfoldable pub first_words : List (Word × Head)
first_words =
    asks (codes "set") (Change Set)
    ∷ (asks (codes "add") (Change Add)
    ∷ (asks (codes "sub") (Change Sub)
    ∷ (asks (codes "and") (Change And)
    ∷ (asks (codes "or") (Change Or)
    ∷ (asks (codes "xor") (Change Xor)
    ∷ (asks (codes "jmp") Jump
    ∷ (asks (codes "jeq") (JumpIf Equal)
    ∷ (asks (codes "jne") (JumpIf Different)
    ∷ (asks (codes "jlt") (JumpIf Less)
    ∷ (asks (codes "end") (Make name.Stop 0)
    ∷ (asks (codes "map_in") (Map vector.MapIn 2)
    ∷ (asks (codes "unmap_in") (Map vector.UnmapIn 2)
    ∷ (asks (codes "map_out") (Map vector.MapOut 2)
    ∷ (asks (codes "unmap_out") (Map vector.UnmapOut 3)
    ∷ []))))))))))))))

-- what a word asks for by a table
abbrev pub look_up : List (Word × Head) → Word → Option Head
look_up [] w = None
look_up (t ∷ ts) w = if bytes_eq t.0 w then Some t.1 else look_up ts w

-- a call with the number of its operands, which stand in the order of the call's fields
abbrev pub call_head : Signature → Head
call_head s = Make s.name (length s.kinds)

abbrev pub head_or : Option Head → Option Signature → Option Head
head_or (Some h) call = Some h
head_or None call = option_map call_head call

-- what the first word of a line asks for
unfoldable pub head_of : Word → Option Head
head_of w = head_or (look_up first_words w) (signature_in line_signatures w)
