-- Calls and outcomes that were printed are read again.
use Rattle.std.proofs.Common.{◌≡◌, ℕ, true, false, List, [], ◌∷◌, ◌++◌, Some, refl, map, append_assoc, arith}
use Rattle.std.specs.List.{AllByRecursion}
use Rattle.std.proofs.lemmas.List.{map-append}
use Rattle.ffm_model.specs.declared.machine.Call.{Call}
use Rattle.ffm_model.specs.declared.machine.Call.TheVariants as call
use Rattle.ffm_model.specs.declared.machine.Outcome.{Outcome}
use Rattle.ffm_model.specs.declared.machine.Outcome.TheVariants as outcome
use Rattle.ffm_model.specs.ScriptRuns.{call_of}
use Rattle.ffm_model.specs.Signatures.{Signature, line_signatures, interrupt_signatures, kind_of, bits_of, bits_at, operands_of}
use Rattle.ffm_model.specs.TraceText.{Word, Phrase, Field, hexadecimal, unsigned, signed, FieldFits, field_word, call_phrase, message_phrase, size_fields, outcome_phrase, CallFits, AreFourSizes, OutcomeFits}
use Rattle.trace_print.specs.Reading.{operand_of, operands_at, call_by, call_at, event_named, stop_at, outcome_at, outcome_named, value_at, number_at, signals_at, message_at, sizes_at}
use Rattle.ffm_model.proofs.SignatureLemmas.{kinds_due, made_again}
use Rattle.trace_print.proofs.Numbers.{hexadecimal_again, unsigned_again, signed_again}

abbrev pub phrase_words : Phrase → List Word
phrase_words p = p.names ++ map field_word p.fields

operand_again : (f : Field) → FieldFits f → operand_of (kind_of f) (field_word f) ≡ Some (bits_of f)
operand_again (hexadecimal n) fits = hexadecimal_again n fits
operand_again (unsigned n) fits = unsigned_again n fits
operand_again (signed z) fits = rw (signed_again z fits) refl

operands_again : (fs : List Field) (rest : List Word) → AllByRecursion FieldFits fs → operands_at (map kind_of fs) (map field_word fs ++ rest) ≡ Some (map bits_of fs, rest)
unfolding operands_at
operands_again [] rest fits = refl
operands_again (f ∷ fs) rest fits = rw (operand_again f fits.0, operands_again fs rest fits.1) refl

by_signature : (s : Signature) (c : Call) (rest : List Word) → CallFits c → map kind_of (operands_of c) ≡ s.kinds → call_of s.name (bits_at (operands_of c)) ≡ c → call_by s (map field_word (operands_of c) ++ rest) ≡ Some (c, rest)
unfolding call_by
by_signature s c rest fits kinds made = rw (← kinds, operands_again (operands_of c) rest fits, made) refl

pub call_again : (c : Call) (rest : List Word) → CallFits c → call_at (phrase_words (call_phrase c) ++ rest) ≡ Some (c, rest)
unfolding line_signatures interrupt_signatures event_named stop_at
call_again (call.Stop false) rest fits = refl
call_again (call.Stop true) rest fits = refl
call_again call.Resume rest fits = refl
call_again c rest fits = by_signature _ c rest fits (kinds_due c) (made_again c fits)

sizes_again : (s : List ℕ) (rest : List Word) → AreFourSizes s → sizes_at (map field_word (size_fields s) ++ rest) ≡ Some (s, rest)
unfolding sizes_at
sizes_again (a ∷ b ∷ c ∷ d ∷ []) rest fits = rw (unsigned_again a fits.1, unsigned_again b fits.2, unsigned_again c fits.3, unsigned_again d fits.4) refl
sizes_again s rest fits = absurd (omega (arith, fits.0))

two_sizes : (s t : List ℕ) (rest : List Word) → map field_word (size_fields s ++ size_fields t) ++ rest ≡ map field_word (size_fields s) ++ (map field_word (size_fields t) ++ rest)
two_sizes s t rest = rw map-append (append_assoc (map field_word (size_fields s)) (map field_word (size_fields t)) rest)

pub outcome_again : (o : Outcome) (rest : List Word) → OutcomeFits o → outcome_at (phrase_words (outcome_phrase o) ++ rest) ≡ Some (o, rest)
unfolding message_phrase outcome_named value_at number_at signals_at message_at
outcome_again (outcome.Value z) rest fits = search signed_again
outcome_again o rest fits = search (two_sizes, hexadecimal_again, unsigned_again, signed_again, sizes_again)
