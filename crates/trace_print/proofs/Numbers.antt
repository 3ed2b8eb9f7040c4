-- A number that was printed is read again.
use Rattle.std.proofs.Common.{pow-suc, ◌≡◌, ℕ, zero, suc, ◌+◌, ◌*◌, ◌/◌, ◌%◌, ◌^◌, ◌<◌, ◌≤◌, ◌==◌, false, List, [], ◌∷◌, ◌++◌, get_or, Option, None, Some, refl, ap, ◌∙◌, arith}
use Rattle.std.specs.Prelude.{ℤ, pos, negsuc, decimal}
use Rattle.std.specs.Char.{digit_value}
use Rattle.std.specs.Fmt.{signed_decimal}
use Rattle.std.specs.Str.Parse.{AllDigits, digits_value_after}
use Rattle.std.proofs.lemmas.Fmt.{decimal_is_IsNumeral}
use Rattle.std.proofs.lemmas.Bool.Decides.{nat_tests}
use Rattle.ffm_model.specs.TraceText.{hexadecimal_digit, hexadecimal_digits, hexadecimal_word, IsI32}
use Rattle.ffm_model.specs.Binding.{◌>>=◌}
use Rattle.trace_print.specs.Numbers.{with_digit, number_after, unsigned_of, hexadecimal_of, signed_of, positive, negative}
use Rattle.trace_print.proofs.DecimalDigits.{first_digit, well_begun}

digit_again : (m d : ℕ) → d < 16 → m * 16 + d < 2 ^ 32 → with_digit 16 m (hexadecimal_digit d) ≡ Some (m * 16 + d)
digit_again m d lt fits = grind (arith, nat_tests)

regroup : (o : Option ℕ) (f g h : ℕ → Option ℕ) → ((m : ℕ) → h m ≡ (f m >>= g)) → (o >>= h) ≡ ((o >>= f) >>= g)
regroup None f g h each = refl
regroup (Some m) f g h each = each m

number_append : (n : ℕ) (xs ys : List ℕ) → number_after 16 n (xs ++ ys) ≡ (number_after 16 n xs >>= λ k. number_after 16 k ys)
unfolding number_after
number_append n [] ys = refl
number_append n (x ∷ xs) ys = regroup (with_digit 16 n x) _ _ _ (λ m. number_append m xs ys)

hexadecimal_digits_again : (k n : ℕ) → n < 16 ^ k → n < 2 ^ 32 → number_after 16 0 (hexadecimal_digits k n) ≡ Some n
unfolding hexadecimal_digits number_after
hexadecimal_digits_again zero n lt fits = let e : n ≡ 0 = omega arith in rw e refl
hexadecimal_digits_again (suc k) n lt fits =
    let wide : n < 16 ^ k * 16 = rw pow-suc at lt in
    let front : number_after 16 0 (hexadecimal_digits k (n / 16)) ≡ Some (n / 16) = hexadecimal_digits_again k (n / 16) (omega arith) (omega arith) in
    let e : (n / 16) * 16 + n % 16 ≡ n = omega arith in
    number_append 0 (hexadecimal_digits k (n / 16)) (hexadecimal_digit (n % 16) ∷ []) ∙ rw (front, digit_again (n / 16) (n % 16) (omega arith) (omega arith)) (ap Some e)

pub hexadecimal_again : (n : ℕ) → n < 2 ^ 32 → hexadecimal_of (hexadecimal_word n) ≡ Some n
unfolding hexadecimal_word hexadecimal_digits
hexadecimal_again n lt = hexadecimal_digits_again 8 n lt lt

decimal_digit_again : (m b : ℕ) → digit_value b < 10 → m * 10 + digit_value b < 2 ^ 32 → with_digit 10 m b ≡ Some (m * 10 + digit_value b)
decimal_digit_again m b lt fits = grind (arith, nat_tests)

grows : (n : ℕ) (ds : List ℕ) → n ≤ digits_value_after 10 n ds
grows n [] = omega arith
grows n (b ∷ bs) = omega (arith, grows (n * 10 + digit_value b) bs)

digits_again : (n : ℕ) (ds : List ℕ) → AllDigits 10 ds → digits_value_after 10 n ds < 2 ^ 32 → number_after 10 n ds ≡ Some (digits_value_after 10 n ds)
unfolding number_after
digits_again n [] digits lt = refl
digits_again n (b ∷ bs) digits lt = rw (decimal_digit_again n b digits.0 (omega (arith, lt, grows (n * 10 + digit_value b) bs))) (digits_again (n * 10 + digit_value b) bs digits.1 lt)

decimal_again : (n : ℕ) → n < 2 ^ 32 → number_after 10 0 (decimal n) ≡ Some n
decimal_again n lt =
    let h = decimal_is_IsNumeral n (omega arith) in
    digits_again 0 (decimal n) h.0.1 (omega (arith, h.1)) ∙ ap Some h.1

pub unsigned_again : (n : ℕ) → n < 2 ^ 32 → unsigned_of (decimal n) ≡ Some n
unsigned_again n lt = rw (well_begun n lt) (decimal_again n lt)

plain : (ds : List ℕ) → 48 ≤ get_or ds 0 0 → signed_of ds ≡ (unsigned_of ds >>= positive)
plain [] digit = absurd (omega (arith, digit))
plain (b ∷ bs) digit = let other : (b == 45) ≡ false = grind (arith, nat_tests) in rw other refl

positive_is : (n : ℕ) → n < 2 ^ 31 → positive n ≡ Some (pos n)
positive_is n lt = grind (arith, nat_tests)

negative_is : (n : ℕ) → n < 2 ^ 31 → negative (suc n) ≡ Some (negsuc n)
negative_is n lt = grind (arith, nat_tests)

pub signed_again : (z : ℤ) → IsI32 z → signed_of (signed_decimal z) ≡ Some z
signed_again (pos n) fits = let small : n < 2 ^ 31 = fits.sfits in plain (decimal n) (first_digit n (omega arith)) ∙ rw (unsigned_again n (omega arith)) (positive_is n small)
signed_again (negsuc n) fits = let small : n < 2 ^ 31 = fits.sfits in rw (unsigned_again (suc n) (omega arith)) (negative_is n small)
