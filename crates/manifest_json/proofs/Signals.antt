-- The name of an interrupt's signal is a name.
use Rattle.std.proofs.Common.{◌≡◌, ℕ, ◌+◌, ◌<◌, ◌≤◌, List, [], ◌∷◌, ◌++◌, length, Bool, true, false, not, ◌&&◌, nat_lt, refl, ap, arith, length-append}
use Rattle.std.specs.Prelude.{nat_le, codes}
use Rattle.std.specs.Char.{is_ascii_digit}
use Rattle.std.specs.List.{list_all}
use Rattle.std.specs.Str.{bytes_eq}
use Rattle.std.proofs.lemmas.Bool.{and_parts, and_from}
use Rattle.std.proofs.lemmas.Bool.Decides.{nat_tests}
use Rattle.std.proofs.lemmas.List.Folds.{list_all-append}
use Rattle.std.proofs.lemmas.Slice.Eq.{bytes_eq-Decides}
use Rattle.ffm_model.specs.Texts.{is_word_byte, is_name}

-- a longer text is another text
not_equal : (xs ys : List ℕ) → length ys < length xs → bytes_eq xs ys ≡ false
not_equal xs ys longer =
    elim (bytes_eq xs ys) as (λ b. bytes_eq xs ys ≡ b → b ≡ false) [
      | true ↦ λ e. absurd (let same : xs ≡ ys = (bytes_eq-Decides xs ys).0 e in omega (arith, ap length same))
      | false ↦ λ e. refl
    ] refl

pub is_signal_name : (s : List ℕ) → is_name s ≡ true → length s ≤ 57 → is_name (s ++ codes "_SIGNAL") ≡ true
unfolding is_name
is_signal_name [] is short = cc
is_signal_name (c ∷ cs) is short =
    let s : List ℕ = c ∷ cs in
    let signal : List ℕ = s ++ codes "_SIGNAL" in
    let front : Bool = nat_lt 0 (length s) && nat_le (length s) 64 && not (is_ascii_digit c) in
    let words = and_parts (front && not (bytes_eq s (codes "device"))) (list_all is_word_byte s) is in
    let device = and_parts front (not (bytes_eq s (codes "device"))) words.0 in
    let digit = and_parts (nat_lt 0 (length s) && nat_le (length s) 64) (not (is_ascii_digit c)) device.0 in
    let counted : length signal ≡ length s + 7 = length-append s (codes "_SIGNAL") in
    let some : nat_lt 0 (length signal) ≡ true = grind (arith, nat_tests) in
    let few : nat_le (length signal) 64 ≡ true = grind (arith, nat_tests) in
    let other : bytes_eq signal (codes "device") ≡ false = not_equal signal (codes "device") (omega arith) in
    let no_device : not (bytes_eq signal (codes "device")) ≡ true = rw other refl in
    let all : list_all is_word_byte signal ≡ true = rw (list_all-append, words.1) refl in
    and_from _ _ (and_from _ _ (and_from _ _ (and_from _ _ some few) digit.1) no_device) all
