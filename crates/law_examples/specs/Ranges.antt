-- Runs with a number that no field has, since a system, a program or a memory is out of range by one.
-- Source: this simulator's.
use Rattle.std.specs.Prelude.{false, List, [], ◌∷◌}
use Rattle.std.specs.List.{AllByRecursion}
use Rattle.ffm_model.specs.declared.constants.TheConstants.{PSA_VERSION_NONE}
use Rattle.ffm_model.specs.declared.machine.Call.TheVariants.{Load, Stop, Version}
use Rattle.ffm_model.specs.declared.machine.Entry.{Entry}
use Rattle.ffm_model.specs.declared.machine.Outcome.TheVariants.{Done, Number}
use Rattle.ffm_model.specs.declared.script.CallName.TheVariants as name
use Rattle.ffm_model.specs.declared.script.Instruction.{Instruction}
use Rattle.ffm_model.specs.declared.system.System.{System}
use Rattle.ffm_model.specs.Actors.{counts_of}
use Rattle.ffm_model.specs.Memory.{ByteMap}
use Rattle.ffm_model.specs.TraceText.{EntryFits}
use Rattle.actor_programs.specs.declared.program.Program.{Program}
use Rattle.actor_programs.specs.declared.program.Program.TheVariants.{Plain}
use Rattle.law_examples.specs.ScriptLines.{call, number}
use Rattle.law_examples.specs.Systems.{client, vault}
use Rattle.law_examples.specs.Writing.{entry, sid}

-- some entry has a number that isn't a value of its field's type
abbrev pub Misfits : System → List Entry → Type 0
Misfits s es = AllByRecursion (EntryFits (counts_of s)) es → ⊥

-- the client runs a script, and the partition none
abbrev client_runs : List Instruction → List Program
client_runs script = Plain ([] ∷ []) ∷ Plain (script ∷ []) ∷ []

-- 2^32, one more than a line may state
abbrev pub wide_program : List Program
wide_program = client_runs (call name.Version (number 4294967296 ∷ []) ∷ [])

abbrev pub wide_call : List Entry
wide_call = entry vault (Stop false) Done ∷ entry client (Version (sid 4294967296)) (Number PSA_VERSION_NONE) ∷ entry client (Stop false) Done ∷ []

-- 256, one more than a byte
abbrev pub wide_memory : ByteMap
wide_memory = λ x. 256

abbrev pub loading_program : List Program
loading_program = client_runs (call name.Load (number 0x20000000 ∷ number 4 ∷ []) ∷ [])

abbrev pub wide_load : List Entry
wide_load = entry vault (Stop false) Done ∷ entry client (Load 0x20000000 4) (Number 4311810304) ∷ entry client (Stop false) Done ∷ []
