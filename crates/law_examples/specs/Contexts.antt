-- Runs about a client with two threads.
-- Source: this simulator's.
use Rattle.std.specs.Prelude.{false, List, [], ◌∷◌}
use Rattle.ffm_model.specs.declared.constants.TheConstants.{PSA_FRAMEWORK_VERSION, PSA_VERSION_NONE}
use Rattle.ffm_model.specs.declared.machine.Call.TheVariants.{FrameworkVersion, Version, Connect, Stop}
use Rattle.ffm_model.specs.declared.machine.Entry.{Entry}
use Rattle.ffm_model.specs.declared.machine.Outcome.TheVariants.{Number, Blocked, Done}
use Rattle.ffm_model.specs.declared.script.CallName.TheVariants as name
use Rattle.ffm_model.specs.declared.script.Instruction.{Instruction}
use Rattle.law_examples.specs.ScriptLines.{number, call}
use Rattle.law_examples.specs.Systems.{vault, client}
use Rattle.law_examples.specs.Writing.{entry, sid}

abbrev asks_framework : List Instruction
asks_framework = call name.FrameworkVersion [] ∷ []

abbrev pub two_threads : List (List Instruction)
two_threads = (call name.Version (number 0x40 ∷ []) ∷ call name.Version (number 0x99 ∷ []) ∷ []) ∷ asks_framework ∷ []

-- The threads take turns, until both have ended.
abbrev pub turns_taken : List Entry
turns_taken =
    entry vault (Stop false) Done
    ∷ entry client (Version (sid 0x40)) (Number 1)
    ∷ entry client FrameworkVersion (Number PSA_FRAMEWORK_VERSION)
    ∷ entry client (Version (sid 0x99)) (Number PSA_VERSION_NONE)
    ∷ entry client (Stop false) Done
    ∷ []

abbrev pub thread_that_connects : List (List Instruction)
thread_that_connects = (call name.Connect (number 0x40 ∷ number 1 ∷ []) ∷ []) ∷ asks_framework ∷ []

-- A thread whose call is blocked lets no other one in.
abbrev pub thread_blocked : List Entry
thread_blocked =
    entry vault (Stop false) Done
    ∷ entry client (Connect (sid 0x40) 1) Blocked
    ∷ []
