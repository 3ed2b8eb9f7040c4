-- The words of the line that sets the number of rounds, and that its value is that number.
use Rattle.std.proofs.Common.{ℕ, zero, suc, ◌≡◌, ◌+◌, ◌*◌, ◌^◌, ◌<◌, ◌≤◌, ◌==◌, true, false, List, [], ◌∷◌, ◌++◌, length, refl, ap, ◌∙◌, arith}
use Rattle.std.specs.Prelude.{Some, codes, slice_index, nat_le, nat_lt, ◌&&◌}
use Rattle.std.specs.Char.{digit_value}
use Rattle.std.specs.Fmt.{decimal}
use Rattle.std.specs.List.{onto_first, slice_split}
use Rattle.std.specs.Str.{chars}
use Rattle.std.specs.Str.Parse.{AllDigits, digits_value_after}
use Rattle.std.proofs.lemmas.Bool.Decides.{nat_tests}
use Rattle.std.proofs.lemmas.Fmt.{decimal_is_IsNumeral}
use Rattle.ffm_model.specs.declared.script.Operand.TheVariants.{Number}
use Rattle.script_asm.specs.Words.{decimal_after, decimal_number, is_blank, number_of, operand_of, words_of}
use Rattle.law_texts.proofs.Scenario.{rounds_line}

-- ---- words

no-blank : (b : ℕ) → digit_value b < 10 → is_blank b ≡ false
no-blank b d = grind (arith, nat_tests, d)

one-part : (ds : List ℕ) → AllDigits 10 ds → slice_split is_blank ds ≡ ds ∷ []
one-part [] d = refl
one-part (b ∷ ds) d = rw (no-blank b d.0) (ap (onto_first b) (one-part ds d.1))

words-of-digits : (ds : List ℕ) → 0 < length ds → AllDigits 10 ds → words_of (codes "set r6 " ++ ds) ≡ codes "set" ∷ codes "r6" ∷ ds ∷ []
unfolding words_of chars
words-of-digits ds some d =
    let long : (length ds == 0) ≡ false = grind (arith, nat_tests, some) in
    rw (one-part ds d, long) refl

pub words-of-line : (rounds : ℕ) → rounds < 2 ^ 32 → words_of (rounds_line rounds) ≡ codes "set" ∷ codes "r6" ∷ decimal rounds ∷ []
words-of-line rounds small = let h = decimal_is_IsNumeral rounds (omega arith) in words-of-digits (decimal rounds) h.0.0 h.0.1

-- ---- the value

grows : (n : ℕ) (ds : List ℕ) → n ≤ digits_value_after 10 n ds
grows n [] = omega arith
grows n (b ∷ bs) = omega (arith, grows (n * 10 + digit_value b) bs)

digits-again : (limit n : ℕ) (ds : List ℕ) → AllDigits 10 ds → digits_value_after 10 n ds ≤ limit → decimal_after limit n ds ≡ Some (digits_value_after 10 n ds)
digits-again limit n [] d le = refl
digits-again limit n (b ∷ ds) d le =
    let m : ℕ = n * 10 + digit_value b in
    let within : (nat_lt (digit_value b) 10 && nat_le m limit) ≡ true = grind (arith, nat_tests, d.0, le, grows m ds) in
    rw within (digits-again limit m ds d.1 le)

decimal-again : (ds : List ℕ) (n : ℕ) → 0 < length ds → AllDigits 10 ds → digits_value_after 10 0 ds ≡ n → n ≤ 4294967295 → decimal_number 4294967295 ds ≡ Some n
unfolding decimal_number
decimal-again [] n some d is le = absurd (omega (arith, some))
decimal-again (b ∷ ds) n some d is le = digits-again 4294967295 0 (b ∷ ds) d (omega (arith, is, le)) ∙ ap Some is

-- a digit is no `r`, no `-` and no `x`
digit-at : (ds : List ℕ) (i : ℕ) → AllDigits 10 ds → slice_index ds i ≤ 57
digit-at [] i d = omega arith
digit-at (b ∷ ds) zero d = grind (arith, nat_tests, d.0)
digit-at (b ∷ ds) (suc i) d = digit-at ds i d.1

digit-first : (ds : List ℕ) → 0 < length ds → AllDigits 10 ds → 48 ≤ slice_index ds 0
digit-first [] some d = absurd (omega (arith, some))
digit-first (b ∷ ds) some d = grind (arith, nat_tests, d.0)

operand-of-digits : (ds : List ℕ) (n : ℕ) → 0 < length ds → AllDigits 10 ds → digits_value_after 10 0 ds ≡ n → n ≤ 4294967295 → operand_of ds ≡ Some (Number n)
unfolding operand_of number_of
operand-of-digits ds n some d is le =
    let register : (slice_index ds 0 == 114) ≡ false = grind (arith, nat_tests, digit-at ds 0 d) in
    let minus : (slice_index ds 0 == 45) ≡ false = grind (arith, nat_tests, digit-first ds some d) in
    let hex : (slice_index ds 1 == 120) ≡ false = grind (arith, nat_tests, digit-at ds 1 d) in
    rw (register, minus, hex, decimal-again ds n some d is le) refl

pub operand-of-decimal : (rounds : ℕ) → rounds < 2 ^ 32 → operand_of (decimal rounds) ≡ Some (Number rounds)
operand-of-decimal rounds small = let h = decimal_is_IsNumeral rounds (omega arith) in operand-of-digits (decimal rounds) rounds h.0.0 h.0.1 h.1 (omega arith)
