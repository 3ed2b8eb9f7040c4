-- The calls by their words: the name of each, how a trace writes its operands, and that these make the call again.
-- Source: this simulator's trace format and script language. Operands stand in the order of the headers of FF-M 1.0.
use Rattle.std.specs.Prelude.{◌≡◌, ℕ, Bool, true, false, not, List, [], ◌∷◌, ◌++◌, map, length, nat_le, get_or, Option, None, Some, is_some, IfSome, if◌then◌else◌}
use Rattle.std.specs.Borrow.{Bor}
use Rattle.std.specs.Int.{w32, cast_unsigned}
use Rattle.std.specs.List.{AllByRecursion}
use Rattle.std.specs.Str.{bytes_eq}
use Rattle.ffm_model.specs.declared.machine.Call.{Call}
use Rattle.ffm_model.specs.declared.machine.Call.TheVariants as call
use Rattle.ffm_model.specs.declared.script.CallName.{CallName}
use Rattle.ffm_model.specs.declared.signatures.OperandKind.{OperandKind}
use Rattle.ffm_model.specs.declared.signatures.OperandKind.TheVariants.{Hexadecimal, Unsigned, Signed}
use Rattle.ffm_model.specs.declared.signatures.TheConstants.{SIGNATURES, INTERRUPT_SIGNATURES}
use Rattle.ffm_model.specs.ScriptRuns.{call_of}
use Rattle.ffm_model.specs.TraceText.{Word, Field, hexadecimal, unsigned, signed, call_phrase, CallFits, FieldFits}

-- a call's word, its name, and the kinds of its operands
pub record Signature : Type 0 where
  pub word : Word
  pub name : CallName
  pub kinds : List OperandKind

abbrev pub signature : Word → CallName → List OperandKind → Signature
signature word name kinds = record { word = word; name = name; kinds = kinds }

-- as the code holds it
abbrev pub seen : Bor Word × CallName × Bor (List OperandKind) → Signature
seen s = signature s.0.now s.1 s.2.now

abbrev pub has_few : Signature → Bool
has_few s = nat_le (length s.kinds) 6

-- of the calls whose words begin a script's lines
unfoldable pub line_signatures : List Signature
line_signatures = map (λ s. signature s.0.now s.1 s.2.now) SIGNATURES

-- and of the device's interrupts
unfoldable pub interrupt_signatures : List Signature
interrupt_signatures = map (λ s. signature s.0.now s.1 s.2.now) INTERRUPT_SIGNATURES

abbrev pub signatures : List Signature
signatures = line_signatures ++ interrupt_signatures

-- the first with that word
abbrev pub signature_in : List Signature → Word → Option Signature
signature_in [] word = None
signature_in (s ∷ ss) word = if bytes_eq s.word word then Some s else signature_in ss word

-- that of a call, by its one word in a trace
abbrev pub signature_of_words : List Word → Option Signature
signature_of_words (word ∷ []) = signature_in signatures word
signature_of_words _ = None

abbrev pub signature_of : Call → Option Signature
signature_of c = signature_of_words (call_phrase c).names

-- ---- operands and their bits

abbrev pub kind_of : Field → OperandKind
kind_of (hexadecimal n) = Hexadecimal
kind_of (unsigned n) = Unsigned
kind_of (signed z) = Signed

abbrev pub bits_of : Field → ℕ
bits_of (hexadecimal n) = n
bits_of (unsigned n) = n
bits_of (signed z) = cast_unsigned w32 z

-- the bits of each operand, by its place
abbrev pub bits_at : List Field → ℕ → ℕ
bits_at fields i = get_or (map bits_of fields) i 0

abbrev pub operands_of : Call → List Field
operands_of c = (call_phrase c).fields

-- ---- a call and its name with operands make each other

-- a call's operands are of the kinds that its signature says
abbrev pub KindsAreDue : Type 0
KindsAreDue = (c : Call) → IfSome (signature_of c) (λ s. map kind_of (operands_of c) ≡ s.kinds)

-- a call is made again of its name and operands
abbrev pub CallsAreMadeAgain : Type 0
CallsAreMadeAgain = (c : Call) → CallFits c → IfSome (signature_of c) (λ s. call_of s.name (bits_at (operands_of c)) ≡ c)

-- operands of these kinds, each in range, make a call that has this signature and them
abbrev pub MakesItsCall : Signature → Type 0
MakesItsCall s = (fields : List Field) → map kind_of fields ≡ s.kinds → AllByRecursion FieldFits fields
    → (signature_of (call_of s.name (bits_at fields)) ≡ Some s) × (operands_of (call_of s.name (bits_at fields)) ≡ fields)

abbrev pub CallsHaveTheirOperands : Type 0
CallsHaveTheirOperands = AllByRecursion MakesItsCall signatures

-- a stop, which has two words in a trace, or the return of a call that waited, which no script makes
abbrev pub stops_or_returns : Call → Bool
stops_or_returns (call.Stop spent) = true
stops_or_returns call.Resume = true
stops_or_returns _ = false

-- each other call has a signature
abbrev pub OthersHaveNone : Type 0
OthersHaveNone = (c : Call) → is_some (signature_of c) ≡ not (stops_or_returns c)
