-- Runs about a partition that maps the vectors of a request.
-- Source: FF-M 1.1, mapped vectors (MM-IOVEC); the windows are this simulator's.
use Rattle.std.specs.Prelude.{pos, false, List, [], ◌∷◌, ◌++◌}
use Rattle.ffm_model.specs.declared.constants.TheConstants.{PSA_BLOCK, PSA_ERROR_COMMUNICATION_FAILURE, PSA_IPC_CALL, PSA_WAIT_ANY}
use Rattle.ffm_model.specs.declared.machine.Call.TheVariants.{Invoke, Wait, Get, Read, Write, Reply, Load, Store, Panic, Resume, Stop}
use Rattle.ffm_model.specs.declared.machine.Entry.{Entry}
use Rattle.ffm_model.specs.declared.machine.Outcome.TheVariants.{Value, Number, Signals, Got, Blocked, Done, Panicked}
use Rattle.ffm_model.specs.declared.script.CallName.TheVariants as name
use Rattle.ffm_model.specs.declared.script.Instruction.{Instruction}
use Rattle.ffm_model.specs.declared.script.Instruction.TheVariants.{Change}
use Rattle.ffm_model.specs.declared.script.MapName.TheVariants.{MapIn, UnmapIn, MapOut, UnmapOut}
use Rattle.ffm_model.specs.declared.script.Operation.TheVariants.{Set, Add}
use Rattle.ffm_model.specs.Held.{holder_of}
use Rattle.ffm_model.specs.HeldPlans.{held_plan}
use Rattle.ffm_model.specs.Memory.{ByteMap, words_stored}
use Rattle.ffm_model.specs.Plans.{Plan}
use Rattle.law_examples.specs.ScriptLines.{register, number, call, map_line}
use Rattle.law_examples.specs.Systems.{vault, client, mapper_system}
use Rattle.ffm_model.specs.Signed.{minus}
use Rattle.law_examples.specs.Writing.{entry, handle, message, status}

-- an input of four bytes, which holds 41, and an output of eight
abbrev pub mapper_memory : ByteMap
mapper_memory = words_stored (words_stored (λ x. 0) 0x20000000 (0x20000020 ∷ 4 ∷ 0x20000030 ∷ 8 ∷ [])) 0x20000020 (41 ∷ [])

abbrev input_mapped : List Instruction
input_mapped =
    call name.Wait (number PSA_WAIT_ANY ∷ number PSA_BLOCK ∷ [])
    ∷ call name.Get (register 0 ∷ number 0x30000000 ∷ [])
    ∷ Change Set 6 (register 2)
    ∷ map_line MapIn (register 6 ∷ [])
    ∷ []

-- the script maps the input and the output, writes the next number, and unmaps both
abbrev mapping_script : List Instruction
mapping_script =
    input_mapped
    ++ call name.Load (register 0 ∷ number 4 ∷ [])
    ∷ Change Set 7 (register 0)
    ∷ Change Add 7 (number 1)
    ∷ map_line MapOut (register 6 ∷ [])
    ∷ call name.Store (register 0 ∷ number 4 ∷ register 7 ∷ [])
    ∷ map_line UnmapIn (register 6 ∷ [])
    ∷ map_line UnmapOut (register 6 ∷ number 0 ∷ number 4 ∷ [])
    ∷ call name.Reply (register 6 ∷ [])
    ∷ []

-- the script reads the input that it mapped
abbrev reading_script : List Instruction
reading_script = input_mapped ++ call name.Read (register 6 ∷ number 0 ∷ number 0x30000100 ∷ number 1 ∷ []) ∷ []

abbrev pub mapping_plan : Plan
mapping_plan = held_plan (holder_of mapper_system vault) mapping_script

abbrev pub reading_plan : Plan
reading_plan = held_plan (holder_of mapper_system vault) reading_script

abbrev request_got : List Entry
request_got =
    entry vault (Wait PSA_WAIT_ANY PSA_BLOCK) Blocked
    ∷ entry client (Invoke (handle 0x40000001) PSA_IPC_CALL 0x20000000 1 0x20000008 1) Blocked
    ∷ entry vault Resume (Signals 0x10)
    ∷ entry vault (Get 0x10 0x30000000) (Got (message PSA_IPC_CALL 1536 (minus 1) 0 (4 ∷ []) (8 ∷ [])))
    ∷ entry vault (Read (handle 1536) 0 0x30000400 4) (Number 4)
    ∷ []

-- The client finds the next number in its output, and the length that was unmapped.
abbrev pub vectors_mapped : List Entry
vectors_mapped =
    request_got
    ++ entry vault (Load 0x30000400 4) (Number 41)
    ∷ entry vault (Store 0x30000440 4 42) Done
    ∷ entry vault (Write (handle 1536) 0 0x30000440 4) Done
    ∷ entry vault (Reply (handle 1536) (status (pos 0))) Done
    ∷ entry client Resume (Value (pos 0))
    ∷ entry vault (Stop false) Done
    ∷ entry client (Load 0x20000030 4) (Number 42)
    ∷ entry client (Load 0x2000000c 4) (Number 4)
    ∷ entry client (Stop false) Done
    ∷ []

-- psa_read of a vector that is mapped is a PROGRAMMER ERROR.
abbrev pub mapped_vector_read : List Entry
mapped_vector_read =
    request_got
    ++ entry vault Panic Panicked
    ∷ entry client Resume (Value PSA_ERROR_COMMUNICATION_FAILURE)
    ∷ entry client (Stop false) Done
    ∷ []
