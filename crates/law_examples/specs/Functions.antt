-- Runs about a partition whose service is a function.
-- Source: FF-M 1.1, the SFN model.
use Rattle.std.specs.Prelude.{pos, false, List, [], ◌∷◌}
use Rattle.ffm_model.specs.declared.constants.TheConstants.{PSA_BLOCK, PSA_IPC_CALL, PSA_IPC_CONNECT, PSA_ERROR_CONNECTION_REFUSED}
use Rattle.ffm_model.specs.declared.machine.Call.TheVariants.{Connect, Invoke, Wait, Get, Read, Reply, Load, Resume, Stop}
use Rattle.ffm_model.specs.declared.machine.Entry.{Entry}
use Rattle.ffm_model.specs.declared.machine.Outcome.TheVariants.{Value, Number, Signals, Got, Blocked, Done, Panicked}
use Rattle.ffm_model.specs.declared.script.CallName.TheVariants as name
use Rattle.ffm_model.specs.declared.script.Instruction.TheVariants.{Change}
use Rattle.ffm_model.specs.declared.script.Operation.TheVariants.{Add}
use Rattle.ffm_model.specs.declared.script.SfnFunction.{SfnFunction}
use Rattle.ffm_model.specs.declared.script.SfnInstruction.TheVariants.{Plain, Return}
use Rattle.ffm_model.specs.Functions.{SfnPartition}
use Rattle.ffm_model.specs.Memory.{ByteMap, words_stored}
use Rattle.ffm_model.specs.SfnRuns.{sfn_partition}
use Rattle.law_examples.specs.ScriptLines.{register, number, call}
use Rattle.law_examples.specs.Systems.{vault, client, adder_system, connected_system}
use Rattle.ffm_model.specs.Signed.{minus}
use Rattle.law_examples.specs.Writing.{entry, handle, message, sid, status}

-- ---- a function that reads a number and returns the next one

abbrev adder_functions : List SfnFunction
adder_functions = record {
  service = 0;
  instructions =
      Plain (call name.Read (register 2 ∷ number 0 ∷ number 0x30000100 ∷ number 4 ∷ []))
      ∷ Plain (call name.Load (number 0x30000100 ∷ number 4 ∷ []))
      ∷ Plain (Change Add 0 (number 1))
      ∷ Return (register 0)
      ∷ [];
} ∷ []

abbrev pub adder : SfnPartition
adder = sfn_partition adder_system 0 adder_functions

-- one vector of four bytes, which holds 41
abbrev pub adder_memory : ByteMap
adder_memory = words_stored (words_stored (λ x. 0) 0x20000000 (0x20000020 ∷ 4 ∷ [])) 0x20000020 (41 ∷ [])

-- The function is called with 41, and its caller is answered 42.
abbrev pub number_added : List Entry
number_added =
    entry vault (Wait 0x10 PSA_BLOCK) Blocked
    ∷ entry client (Invoke (handle 0x40000001) PSA_IPC_CALL 0x20000000 1 0 0) Blocked
    ∷ entry vault Resume (Signals 0x10)
    ∷ entry vault (Get 0x10 0x30000000) (Got (message PSA_IPC_CALL 1536 (minus 1) 0 (4 ∷ []) []))
    ∷ entry vault (Read (handle 1536) 0 0x30000100 4) (Number 4)
    ∷ entry vault (Load 0x30000100 4) (Number 41)
    ∷ entry vault (Reply (handle 1536) (status (pos 42))) Done
    ∷ entry client Resume (Value (pos 42))
    ∷ entry vault (Wait 0x10 PSA_BLOCK) Blocked
    ∷ entry client (Stop false) Done
    ∷ []

-- ---- a function that returns 5 at once

abbrev five_functions : List SfnFunction
five_functions = record { service = 0; instructions = Return (number 5) ∷ [] } ∷ []

abbrev pub five : SfnPartition
five = sfn_partition connected_system 0 five_functions

-- A client connects. The answer 5 is none that a connection has, so the partition panics.
abbrev pub connection_answered : List Entry
connection_answered =
    entry vault (Wait 0x10 PSA_BLOCK) Blocked
    ∷ entry client (Connect (sid 0x60) 1) Blocked
    ∷ entry vault Resume (Signals 0x10)
    ∷ entry vault (Get 0x10 0x30000000) (Got (message PSA_IPC_CONNECT 1536 (minus 1) 0 [] []))
    ∷ entry vault (Reply (handle 1536) (status (pos 5))) Panicked
    ∷ entry client Resume (Value PSA_ERROR_CONNECTION_REFUSED)
    ∷ entry client (Stop false) Done
    ∷ []
