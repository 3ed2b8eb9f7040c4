-- Digits in base 16 that were read are those that are printed.
use Rattle.std.proofs.Common.{◌≡◌, ℕ, suc, ◌+◌, ◌/◌, ◌%◌, List, [], ◌∷◌, ◌++◌, length, Some, refl, sym, ◌∙◌, arith, append_assoc}
use Rattle.std.proofs.lemmas.List.{append-nil}
use Rattle.std.proofs.lemmas.Bool.Decides.{nat_tests}
use Rattle.ffm_model.specs.TraceText.{Word, IsU32, hexadecimal_digit, hexadecimal_digits, hexadecimal_word}
use Rattle.trace_print.specs.Numbers.{with_digit, number_after, is_hexadecimal, hexadecimal_of}
use Rattle.trace_print.proofs.Options.{Gives, done, nothing, when, after, weaker, given}

digit_read : (n b m : ℕ) → with_digit 16 n b ≡ Some m → (b ≡ hexadecimal_digit (m % 16)) × (m / 16 ≡ n) × IsU32 m
digit_read n b m e = (grind (arith, nat_tests), grind (arith, nat_tests), grind (arith, nat_tests))

printed_from : (j k n : ℕ) (ds : List ℕ) → j ≡ length ds + k → IsU32 n → Gives (number_after 16 n ds) (λ m. (hexadecimal_digits j m ≡ hexadecimal_digits k n ++ ds) × IsU32 m)
unfolding number_after hexadecimal_digits
printed_from j k n [] len lt = let short : j ≡ k = omega (arith, len) in done n _ (rw short (sym (append-nil _)), lt)
printed_from j k n (b ∷ bs) len lt =
    after (with_digit 16 n b) _ _ _ (given _ _ (digit_read n b)) (λ p d.
    weaker _ _ _ (λ m is. (is.0 ∙ rw (d.1, d.0, append_assoc) refl, is.1)) (printed_from j (suc k) p bs (omega (arith, len)) d.2))

none_at_all : (n : ℕ) → hexadecimal_digits 0 n ≡ []
unfolding hexadecimal_digits
none_at_all n = refl

pub hexadecimal_number : (w : Word) → Gives (hexadecimal_of w) (λ n. (w ≡ hexadecimal_word n) × IsU32 n)
unfolding hexadecimal_word
hexadecimal_number [] = nothing _
hexadecimal_number (a ∷ []) = nothing _
hexadecimal_number (a ∷ b ∷ ds) =
    when (is_hexadecimal (a ∷ b ∷ ds)) (number_after 16 0 ds) _ (λ is.
    let eight : 8 ≡ length ds + 0 = grind (arith, nat_tests, is) in
    let zero_is : a ≡ 48 = grind (arith, nat_tests, is) in
    let x_is : b ≡ 120 = grind (arith, nat_tests, is) in
    weaker _ _ _ (λ n is. (rw (zero_is, x_is, is.0, none_at_all 0) refl, is.1)) (printed_from 8 0 0 ds eight (omega arith)))
