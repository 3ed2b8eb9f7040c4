-- What the getters of `clap` read, by the rows of the matches.
use Rattle.std.proofs.Common.{◌≡◌, ◌∙◌, ℕ, Bool, None, Option, Some, codes, false, refl, true}
use Rattle.std.specs.Prelude.{MatchOption, Ok, Err, Result}
use Rattle.std.specs.Str.Parse.{ParsesUnsigned}
use Rattle.std.specs.declared.num.ParseIntError.{ParseIntError}
use Rattle.clap.specs.Words.{ReadsOne, Text, first_of, first_value, one_of, one_text, rows_of}
use Rattle.clap.specs.declared.parser.matches.Found.{Found}
use Rattle.clap.proofs.WalkLemmas.{first_value-rows, one_text-rows}
use Rattle.program_words.specs.Arguments.{IsFlagAt, IsNumberAt}

pub word_read : (found : Found) (id : Text) (word : Option Text) → word ≡ first_value found id → word ≡ first_of id (rows_of found)
word_read found id word is = is ∙ first_value-rows found id

-- a number as `u32` reads it, without what its errors say
read_by : (P : Text → Result ℕ ParseIntError → Type 0) (t : Text) (n : Option ℕ) → ((r : Result ℕ ParseIntError) → P t r → ParsesUnsigned 32 10 t r) → ReadsOne P t n → ReadsOne {E = ParseIntError} (ParsesUnsigned 32 10) t n
read_by P t (Some n) parses reads = parses (Ok n) reads
read_by P t None parses reads = (reads.0, parses (Err reads.0) reads.1)

number_in : (P : Text → Result ℕ ParseIntError → Type 0) (o : Option Text) (n : Option ℕ) → ((t : Text) (r : Result ℕ ParseIntError) → P t r → ParsesUnsigned 32 10 t r) → (o ≡ None → n ≡ None)
    → ((t : Text) → o ≡ Some t → ReadsOne P t n) → MatchOption o (n ≡ None) (λ t. ReadsOne {E = ParseIntError} (ParsesUnsigned 32 10) t n)
number_in P None n parses none some = none refl
number_in P (Some t) n parses none some = read_by P t n (parses t) (some t refl)

pub number_read : (P : Text → Result ℕ ParseIntError → Type 0) (found : Found) (id : Text) (n : Option ℕ) → ((t : Text) (r : Result ℕ ParseIntError) → P t r → ParsesUnsigned 32 10 t r) → (one_text found id ≡ None → n ≡ None)
    → ((t : Text) → one_text found id ≡ Some t → ReadsOne P t n) → IsNumberAt (rows_of found) id n
number_read P found id n parses none some = number_in P (one_of id (rows_of found)) n parses (λ e. none (one_text-rows found id ∙ e)) (λ t e. some t (one_text-rows found id ∙ e))

pub flag_read : (found : Found) (id : Text) (flag : Bool) → (one_text found id ≡ None → flag ≡ false) → (one_text found id ≡ Some (codes "true") → flag ≡ true) → (one_text found id ≡ Some (codes "false") → flag ≡ false)
    → IsFlagAt (rows_of found) id flag
flag_read found id flag none given not_given = record {
  none = λ e. none (one_text-rows found id ∙ e);
  given = λ e. given (one_text-rows found id ∙ e);
  not_given = λ e. not_given (one_text-rows found id ∙ e);
}
