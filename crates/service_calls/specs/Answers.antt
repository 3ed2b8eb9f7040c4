-- What a call of a service answers, and what it leaves of the tables and of memory, in the machine's words.
-- Source: FF-M 1.0, `psa/service.h`; the machine's definition of each call is an outcome and a state, or nothing where the call is a PROGRAMMER ERROR.
use Rattle.std.specs.Prelude.{◌≡◌, ℕ, List, [], ◌∷◌, ◌++◌, Option, Some, None, Result, Ok, Err}
use Rattle.std.specs.Option.{option_map}
use Rattle.ffm_model.specs.declared.system.System.{System}
use Rattle.ffm_model.specs.declared.scenario.Bytes.{Bytes}
use Rattle.ffm_model.specs.declared.machine.ActorId.{ActorId}
use Rattle.ffm_model.specs.declared.machine.Fault.{Fault}
use Rattle.ffm_model.specs.declared.machine.Handle.{Handle}
use Rattle.ffm_model.specs.declared.machine.Message.{Message}
use Rattle.ffm_model.specs.declared.machine.Outcome.{Outcome}
use Rattle.ffm_model.specs.declared.machine.Outcome.TheVariants.{Got}
use Rattle.ffm_model.specs.ClientCalls.{Effect, effect}
use Rattle.ffm_model.specs.ServiceCalls.{psa_get}
use Rattle.law_calls.specs.Replies.{Answered}
use Rattle.ffm_model.specs.Panic.{panic_effect}
use Rattle.ffm_model.specs.State.{SpmState}
use Rattle.memory_image.specs.Pieces.{byte_at}
use Rattle.spm_tables.specs.TablesView.{TablesView, spm_of}
use Rattle.spm_tables.specs.Answers.{state_with}

-- the outcome, the state and the memory are those due; a fault comes exactly where none are due, and then nothing changed
abbrev pub AnswersOver : {R : Type 0} → (R → Outcome) → Option Effect → List Handle → TablesView → List Bytes → Result R Fault → TablesView → List Bytes → Type 0
AnswersOver shown due given old bytes (Ok r) new after = due ≡ Some (effect (shown r) (state_with new given (byte_at after)))
AnswersOver shown due given old bytes (Err fault) new after = (due ≡ None) × ((new ≡ old) × (after ≡ bytes))

-- psa_get: the message is the one due under the handle that it shows, which is given from then on; a fault comes exactly where none is due under any handle
abbrev pub IsGot : System → TablesView → List Handle → List Bytes → ℕ → ℕ → ℕ → Result Message Fault → TablesView → List Bytes → Type 0
IsGot s old given bytes a signal msg (Ok m) new after =
    psa_get s (state_with old given (byte_at bytes)) a signal msg m.handle ≡ Some (effect (Got m) (state_with new (given ++ m.handle ∷ []) (byte_at after)))
IsGot s old given bytes a signal msg (Err fault) new after = ((h : Handle) → psa_get s (state_with old given (byte_at bytes)) a signal msg h ≡ None) × ((new ≡ old) × (after ≡ bytes))

-- psa_reply before the panic that it may owe: the state and the partition that owes it are those due; a fault comes exactly where none are due, and then nothing changed
abbrev pub LeavesReply : Option Answered → TablesView → List Bytes → Result (Option ActorId) Fault → TablesView → List Bytes → Type 0
LeavesReply due old bytes (Ok owing) new after = due ≡ Some (record { spm = spm_of new; owing = option_map (λ (p : ActorId). p.0) owing })
LeavesReply due old bytes (Err fault) new after = (due ≡ None) × ((new ≡ old) × (after ≡ bytes))

-- the state once the partition that owes a panic has panicked
abbrev pub once_panicked : System → SpmState → Option ActorId → SpmState
once_panicked s b None = b
once_panicked s b (Some p) = panic_effect s b p.0
