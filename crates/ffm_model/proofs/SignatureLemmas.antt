-- A call and its name with operands make each other.
use Rattle.std.proofs.Common.{◌≡◌, ℕ, suc, Bool, List, [], ◌∷◌, ◌++◌, map, Option, None, refl, sym, ap, ◌∙◌}
use Rattle.std.specs.Prelude.{ℤ, true, false, Some, IfSome, if◌then◌else◌}
use Rattle.std.specs.Int.{w32, cast_signed, cast_unsigned}
use Rattle.std.specs.List.{AllByRecursion}
use Rattle.std.specs.Str.{bytes_eq}
use Rattle.std.proofs.lemmas.Int.{to_z-of_z}
use Rattle.std.proofs.lemmas.Slice.Eq.{bytes_eq-Decides}
use Rattle.ffm_model.specs.declared.machine.Call.TheVariants as call
use Rattle.ffm_model.specs.declared.script.CallName.{CallName}
use Rattle.ffm_model.specs.declared.script.CallName.TheVariants as name
use Rattle.ffm_model.specs.declared.signatures.OperandKind.{OperandKind}
use Rattle.ffm_model.specs.declared.signatures.OperandKind.TheVariants.{Hexadecimal, Unsigned, Signed}
use Rattle.ffm_model.specs.ScriptRuns.{call_of}
use Rattle.ffm_model.specs.TraceText.{Word, call_phrase, Field, hexadecimal, unsigned, signed, FieldFits, IsI32}
use Rattle.ffm_model.specs.Signatures.{Signature, signature_in, line_signatures, interrupt_signatures, signatures, signature_of, kind_of, bits_of, bits_at, operands_of, KindsAreDue, CallsAreMadeAgain, MakesItsCall, CallsHaveTheirOperands, OthersHaveNone}

pub kinds_due : KindsAreDue
unfolding line_signatures interrupt_signatures
kinds_due (call.Stop true) = tt
kinds_due (call.Stop false) = tt
kinds_due call.Resume = tt
kinds_due c = refl

pub signed_again : (z : ℤ) → IsI32 z → cast_signed w32 (cast_unsigned w32 z) ≡ z
signed_again z fits = to_z-of_z w32 z fits

pub made_again : CallsAreMadeAgain
unfolding line_signatures interrupt_signatures
made_again (call.Stop true) fits = tt
made_again (call.Stop false) fits = tt
made_again call.Resume fits = tt
made_again c fits = search signed_again

pub others_none : OthersHaveNone
unfolding line_signatures interrupt_signatures
others_none (call.Stop true) = refl
others_none (call.Stop false) = refl
others_none c = refl

-- the operand of a kind with these bits
abbrev pub field_from : OperandKind → ℕ → Field
field_from Hexadecimal n = hexadecimal n
field_from Unsigned n = unsigned n
field_from Signed n = signed (cast_signed w32 n)

abbrev pub fields_from : List OperandKind → (ℕ → ℕ) → List Field
fields_from [] v = []
fields_from (k ∷ ks) v = field_from k (v 0) ∷ fields_from ks (λ i. v (suc i))

field_again : (f : Field) → FieldFits f → field_from (kind_of f) (bits_of f) ≡ f
field_again (hexadecimal n) fits = refl
field_again (unsigned n) fits = refl
field_again (signed z) fits = ap signed (signed_again z fits)

fields_again : (fs : List Field) → AllByRecursion FieldFits fs → fields_from (map kind_of fs) (bits_at fs) ≡ fs
fields_again [] fits = refl
fields_again (f ∷ fs) fits = rw (field_again f fits.0, fields_again fs fits.1) refl

-- a signature's call has its word, that signature, and the operands that its bits are
abbrev pub IsFilled : Signature → Type 0
IsFilled s = (v : ℕ → ℕ) → ((call_phrase (call_of s.name v)).names ≡ s.word ∷ []) × (signature_of (call_of s.name v) ≡ Some s) × (operands_of (call_of s.name v) ≡ fields_from s.kinds v)

pub filled : AllByRecursion IsFilled signatures
unfolding line_signatures interrupt_signatures
filled = (
  λ v. (refl, refl, refl),
  (
    λ v. (refl, refl, refl),
    (
      λ v. (refl, refl, refl),
      (
        λ v. (refl, refl, refl),
        (
          λ v. (refl, refl, refl),
          (
            λ v. (refl, refl, refl),
            (
              λ v. (refl, refl, refl),
              (
                λ v. (refl, refl, refl),
                (
                  λ v. (refl, refl, refl),
                  (
                    λ v. (refl, refl, refl),
                    (
                      λ v. (refl, refl, refl),
                      (
                        λ v. (refl, refl, refl),
                        (
                          λ v. (refl, refl, refl),
                          (
                            λ v. (refl, refl, refl),
                            (
                              λ v. (refl, refl, refl),
                              (
                                λ v. (refl, refl, refl),
                                (
                                  λ v. (refl, refl, refl),
                                  (
                                    λ v. (refl, refl, refl),
                                    (λ v. (refl, refl, refl), (λ v. (refl, refl, refl), (λ v. (refl, refl, refl), (λ v. (refl, refl, refl), (λ v. (refl, refl, refl), tt))))),
                                  ),
                                ),
                              ),
                            ),
                          ),
                        ),
                      ),
                    ),
                  ),
                ),
              ),
            ),
          ),
        ),
      ),
    ),
  ),
)

makes_its_call : (s : Signature) → IsFilled s → MakesItsCall s
makes_its_call s h fs kinds fits = ((h (bits_at fs)).1, (h (bits_at fs)).2 ∙ ap (λ (ks : List OperandKind). fields_from ks (bits_at fs)) (sym kinds) ∙ fields_again fs fits)

all_make : (ss : List Signature) → AllByRecursion IsFilled ss → AllByRecursion MakesItsCall ss
all_make [] h = tt
all_make (s ∷ ss) h = (makes_its_call s h.0, all_make ss h.1)

pub have_operands : CallsHaveTheirOperands
have_operands = all_make signatures filled

-- ---- looking up

found_by : (P : Signature → Type 0) (s : Signature) (w : Word) (t : Bool) (o : Option Signature) → (t ≡ true → s.word ≡ w) → P s → IfSome o (λ r. (r.word ≡ w) × P r)
    → IfSome (if t then Some s else o) (λ r. (r.word ≡ w) × P r)
found_by P s w true o same p h = (same refl, p)
found_by P s w false o same p h = h

-- what holds of all signatures holds of the one with a word, and that is its word
pub found : (P : Signature → Type 0) (ss : List Signature) (w : Word) → AllByRecursion P ss → IfSome (signature_in ss w) (λ s. (s.word ≡ w) × P s)
found P [] w all = tt
found P (s ∷ ss) w all = found_by P s w (bytes_eq s.word w) (signature_in ss w) ((bytes_eq-Decides s.word w).0) all.0 (found P ss w all.1)

-- that of the first list, or else of the second
abbrev pub first_some : Option Signature → Option Signature → Option Signature
first_some None o = o
first_some (Some s) o = Some s

first_test : (t : Bool) (s : Signature) (x y z : Option Signature) → z ≡ first_some x y → (if t then Some s else z) ≡ first_some (if t then Some s else x) y
first_test true s x y z e = refl
first_test false s x y z e = e

pub in_both : (ss ts : List Signature) (w : Word) → signature_in (ss ++ ts) w ≡ first_some (signature_in ss w) (signature_in ts w)
in_both [] ts w = refl
in_both (s ∷ ss) ts w = first_test (bytes_eq s.word w) s (signature_in ss w) (signature_in ts w) (signature_in (ss ++ ts) w) (in_both ss ts w)

-- ---- values

-- the values at six places settle a call
pub same_values : (n : CallName) (v w : ℕ → ℕ) → v 0 ≡ w 0 → v 1 ≡ w 1 → v 2 ≡ w 2 → v 3 ≡ w 3 → v 4 ≡ w 4 → v 5 ≡ w 5 → call_of n v ≡ call_of n w
same_values name.Clear v w a b c d e f = refl
same_values n v w a b c d e f = cc
