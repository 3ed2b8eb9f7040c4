-- Decimal digits that were read are those that are printed.
use Rattle.std.proofs.Common.{◌≡◌, ℕ, zero, suc, ◌+◌, ◌*◌, ◌^◌, ◌<◌, ◌≤◌, true, List, [], ◌∷◌, length, Some, refl, sym, ap, ◌∙◌, arith, get_or}
use Rattle.std.specs.Char.{digit_value}
use Rattle.std.specs.Fmt.{decimal}
use Rattle.std.specs.Str.Parse.{AllDigits, digits_value_after}
use Rattle.std.proofs.lemmas.Bool.Decides.{nat_tests}
use Rattle.std.proofs.lemmas.Fmt.{decimal_digit, first_decimal, decimal_nonempty, decimal-digits_value}
use Rattle.std.proofs.lemmas.Str.Parse.{numerals_by_value, tells_digits}
use Rattle.ffm_model.specs.TraceText.{Word, IsU32}
use Rattle.trace_print.specs.Numbers.{with_digit, number_after, begins_well, unsigned_of}
use Rattle.trace_print.proofs.Options.{Gives, done, after, when, weaker, given}

digit_read : (n b m : ℕ) → with_digit 10 n b ≡ Some m → (digit_value b < 10) × (n * 10 + digit_value b ≡ m) × IsU32 m
digit_read n b m e = (grind (arith, nat_tests), grind (arith, nat_tests), grind (arith, nat_tests))

digits_read : (n : ℕ) (ds : List ℕ) → IsU32 n → Gives (number_after 10 n ds) (λ m. AllDigits 10 ds × (digits_value_after 10 n ds ≡ m) × IsU32 m)
unfolding number_after
digits_read n [] lt = done n _ (tt, refl, lt)
digits_read n (b ∷ bs) lt =
    after (with_digit 10 n b) _ _ _ (given _ _ (digit_read n b)) (λ p d.
    weaker _ _ _ (λ m is. ((d.0, is.0), ap (λ (k : ℕ). digits_value_after 10 k bs) d.1 ∙ is.1, is.2)) (digits_read p bs d.2))

pub unsigned_word : (w : Word) → Gives (unsigned_of w) (λ n. (w ≡ decimal n) × IsU32 n)
unsigned_word w =
    when (begins_well w) (number_after 10 0 w) _ (λ well.
    let some : 0 < length w = grind (arith, nat_tests, well) in
    let one : get_or w 0 0 ≡ 48 → length w ≡ 1 = grind (arith, nat_tests, well) in
    let own = numerals_by_value (AllDigits 10) tells_digits in
    weaker _ _ _ (λ n is. (sym (decimal-digits_value own w is.0 some one (omega (arith, is.1, is.2))) ∙ ap decimal is.1, is.2)) (digits_read 0 w (omega arith)))

pub first_digit : (n : ℕ) → n < 2 ^ 32 → 48 ≤ get_or (decimal n) 0 0
first_digit zero lt = rw (decimal_digit 0 (omega arith)) (omega arith)
first_digit (suc k) lt = omega (arith, first_decimal (suc k) (omega arith) (omega arith))

pub well_begun : (n : ℕ) → n < 2 ^ 32 → begins_well (decimal n) ≡ true
well_begun zero lt = rw (decimal_digit 0 (omega arith)) refl
well_begun (suc k) lt =
    let some : 0 < length (decimal (suc k)) = decimal_nonempty (suc k) (omega arith) in
    let high : 48 < get_or (decimal (suc k)) 0 0 = first_decimal (suc k) (omega arith) (omega arith) in
    grind (arith, nat_tests, some, high)
