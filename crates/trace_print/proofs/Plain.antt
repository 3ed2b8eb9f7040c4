-- The words of a line hold no space and no line feed.
use Rattle.std.proofs.Common.{◌≡◌, ℕ, zero, suc, ◌/◌, ◌%◌, ◌<◌, ◌≤◌, Bool, true, false, nat_lt, List, [], ◌∷◌, ◌++◌, refl, ap, ◌∙◌, arith, rules, map, lit<, lit≤}
use Rattle.std.proofs.lemmas.List.{append-nil}
use Rattle.std.specs.Prelude.{pos, negsuc, decimal, ◌==◌, codes}
use Rattle.std.specs.List.{flat_map, list_all, AllByRecursion}
use Rattle.std.proofs.lemmas.List.Folds.{flat_map-map}
use Rattle.std.proofs.lemmas.Bool.Decides.{nat_tests}
use Rattle.std.proofs.lemmas.Bool.{and_parts, ne_eqb, ltb-true}
use Rattle.std.specs.Fmt.{digits, digits_onto, digit_glyph}
use Rattle.std.proofs.lemmas.List.Concat.{flat_map-append}
use Rattle.ffm_model.specs.declared.machine.Verdict.{Verdict}
use Rattle.ffm_model.specs.declared.machine.Verdict.TheVariants.{Quiet}
use Rattle.ffm_model.specs.TraceText.{Word, Phrase, Field, hexadecimal, unsigned, signed, hexadecimal_digit, hexadecimal_digits, hexadecimal_word, field_word, spaced, spaced_phrase, verdict_word, verdict_text}
use Rattle.trace_print.specs.View.{parts}
use Rattle.trace_print.proofs.Options.{chosen}
use Rattle.trace_print.proofs.Again.{phrase_words}
use Rattle.law_lists.proofs.Lists.{AllByRecursion-append}

-- each byte is above a number
abbrev pub IsAbove : ℕ → List ℕ → Type 0
IsAbove k w = AllByRecursion (λ b. k < b) w

-- each byte is above the space
abbrev pub IsPlain : List ℕ → Type 0
IsPlain w = IsAbove 32 w

abbrev pub AllPlain : List Word → Type 0
AllPlain ws = AllByRecursion IsPlain ws

-- each byte is the space or above it, so none is a line feed
abbrev pub IsText : List ℕ → Type 0
IsText w = IsAbove 31 w

glyph_high : (d : ℕ) → 32 < digit_glyph false d
glyph_high d = grind (arith, nat_tests)

plain_onto : (k n : ℕ) (acc : List ℕ) → IsPlain acc → IsPlain (digits_onto k 10 false n acc)
plain_onto zero n acc p = p
plain_onto (suc k) n acc p =
    let more : List ℕ = digit_glyph false (n % 10) ∷ acc in
    chosen IsPlain (n / 10 == 0) more (digits_onto k 10 false (n / 10) more) (λ _. (glyph_high (n % 10), p)) (λ _. plain_onto k (n / 10) more (glyph_high (n % 10), p))

pub plain_decimal : (n : ℕ) → IsPlain (decimal n)
unfolding digits
plain_decimal n = plain_onto 64 n [] tt

digit_high : (d : ℕ) → 32 < hexadecimal_digit d
digit_high d = grind (arith, nat_tests)

plain_hexadecimal_digits : (k n : ℕ) → IsPlain (hexadecimal_digits k n)
unfolding hexadecimal_digits
plain_hexadecimal_digits zero n = tt
plain_hexadecimal_digits (suc k) n = AllByRecursion-append (λ b. 32 < b) (hexadecimal_digits k (n / 16)) (hexadecimal_digit (n % 16) ∷ []) (plain_hexadecimal_digits k (n / 16)) (digit_high (n % 16), tt)

plain_field : (f : Field) → IsPlain (field_word f)
unfolding hexadecimal_word
plain_field (hexadecimal n) = (lit< tt, (lit< tt, plain_hexadecimal_digits 8 n))
plain_field (unsigned n) = plain_decimal n
plain_field (signed (pos n)) = plain_decimal n
plain_field (signed (negsuc n)) = (lit< tt, plain_decimal (suc n))

-- a word before a separator is split off
pub split_word : (c k : ℕ) (w rest : List ℕ) → c ≤ k → IsAbove k w → parts c (w ++ c ∷ rest) ≡ w ∷ parts c rest
split_word c k [] rest le p = let same : (c == c) ≡ true = search (rules, nat_tests) in rw same refl
split_word c k (b ∷ bs) rest le p = let other : (b == c) ≡ false = ne_eqb b c (λ e. omega (arith, e, p.0)) in rw (other, split_word c k bs rest le p.1) refl

split_last : (c k : ℕ) (w : List ℕ) → c ≤ k → IsAbove k w → parts c w ≡ w ∷ []
split_last c k [] le p = refl
split_last c k (b ∷ bs) le p = let other : (b == c) ≡ false = ne_eqb b c (λ e. omega (arith, e, p.0)) in rw (other, split_last c k bs le p.1) refl

pub split_words : (w : Word) (ws : List Word) → IsPlain w → AllPlain ws → parts 32 (w ++ flat_map spaced ws) ≡ w ∷ ws
split_words w [] p ps = rw append-nil (split_last 32 32 w (lit≤ tt) p)
split_words w (v ∷ vs) p ps = split_word 32 32 w (v ++ flat_map spaced vs) (lit≤ tt) p ∙ ap (λ (xs : List Word). w ∷ xs) (split_words v vs ps.0 ps.1)

all_from_test : {X : Type 0} (P : X → Type 0) (test : X → Bool) → ((x : X) → test x ≡ true → P x) → (xs : List X) → list_all test xs ≡ true → AllByRecursion P xs
all_from_test P test h [] e = tt
all_from_test P test h (x ∷ xs) e = let both = and_parts (test x) (list_all test xs) e in (h x both.0, all_from_test P test h xs both.1)

-- a test of it, which computes on a literal
abbrev pub plain_test : List ℕ → Bool
plain_test w = list_all (nat_lt 32) w

pub plain_from_test : (w : List ℕ) → plain_test w ≡ true → IsPlain w
plain_from_test w e = all_from_test (λ b. 32 < b) (nat_lt 32) (ltb-true 32) w e

plain_fields : (fs : List Field) → AllPlain (map field_word fs)
plain_fields [] = tt
plain_fields (f ∷ fs) = (plain_field f, plain_fields fs)

-- a phrase's words are plain where its names are
pub plain_phrase : (p : Phrase) → list_all plain_test p.names ≡ true → AllPlain (phrase_words p)
plain_phrase p e = AllByRecursion-append IsPlain p.names (map field_word p.fields) (all_from_test IsPlain plain_test plain_from_test p.names e) (plain_fields p.fields)

pub spaced_phrase_is : (p : Phrase) → spaced_phrase p ≡ flat_map spaced (phrase_words p)
spaced_phrase_is p = rw (flat_map-append spaced p.names (map field_word p.fields), flat_map-map spaced field_word p.fields) refl

pub text_from_plain : (w : List ℕ) → IsPlain w → IsText w
text_from_plain [] p = tt
text_from_plain (b ∷ bs) p = (omega (arith, p.0), text_from_plain bs p.1)

pub text_spaced : (ws : List Word) → AllPlain ws → IsText (flat_map spaced ws)
text_spaced [] p = tt
text_spaced (w ∷ ws) p = (lit< tt, AllByRecursion-append (λ b. 31 < b) w (flat_map spaced ws) (text_from_plain w p.0) (text_spaced ws p.1))

verdict_is_text : (v : Verdict) → IsText (verdict_word v)
verdict_is_text Quiet = text_from_plain (codes "quiet") (plain_from_test (codes "quiet") refl)
verdict_is_text v = text_from_plain (verdict_word v) (plain_from_test (verdict_word v) refl)

pub plain_verdict : (v : Verdict) (n : ℕ) → IsText (verdict_text v n)
unfolding verdict_text
plain_verdict v n = AllByRecursion-append (λ b. 31 < b) (verdict_word v) (32 ∷ decimal n) (verdict_is_text v) (lit< tt, text_from_plain (decimal n) (plain_decimal n))
