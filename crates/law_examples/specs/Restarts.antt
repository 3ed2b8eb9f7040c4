-- Runs about a partition that panics, and what it finds in its MMIO region when it runs again.
-- Source: this simulator's.
use Rattle.std.specs.Prelude.{◌≡◌, false, List, [], ◌∷◌, Some}
use Rattle.ffm_model.specs.declared.machine.Call.TheVariants.{Load, Store, Panic, Stop}
use Rattle.ffm_model.specs.declared.machine.Outcome.TheVariants.{Number, Done, Panicked}
use Rattle.ffm_model.specs.declared.machine.Verdict.TheVariants.{Quiet}
use Rattle.ffm_model.specs.declared.script.CallName.TheVariants as name
use Rattle.ffm_model.specs.declared.script.Comparison.TheVariants.{Equal}
use Rattle.ffm_model.specs.declared.script.Instruction.{Instruction}
use Rattle.ffm_model.specs.declared.script.Instruction.TheVariants.{Change, JumpIf}
use Rattle.ffm_model.specs.declared.script.Operation.TheVariants.{Add}
use Rattle.ffm_model.specs.Memory.{ByteMap}
use Rattle.ffm_model.specs.Restarts.{FinishedRun}
use Rattle.ffm_model.specs.ScriptRuns.{ScriptRun}
use Rattle.ffm_model.specs.Verdicts.{verdict_of}
use Rattle.law_examples.specs.ScriptLines.{register, number, call}
use Rattle.law_examples.specs.Systems.{log, log_system}
use Rattle.law_examples.specs.Writing.{entry}

-- the script adds 1 to a number in the MMIO region, and panics unless that makes 2
abbrev log_script : List Instruction
log_script =
    call name.Load (number 0x40000000 ∷ number 4 ∷ [])
    ∷ Change Add 0 (number 1)
    ∷ call name.Store (number 0x40000000 ∷ number 4 ∷ register 0 ∷ [])
    ∷ JumpIf Equal 0 (number 2) 5
    ∷ call name.Panic []
    ∷ []

-- a run of the machine and of the script
pub record IsLogRun (m : ByteMap) (run : FinishedRun) : Type 0 where
  pub ended : verdict_of log_system m 4096 run.entries ≡ Some run.verdict
  pub scripted : ScriptRun log_script run.entries

abbrev pub panicked_run : FinishedRun
panicked_run = record {
  entries =
      entry log (Load 0x40000000 4) (Number 0)
      ∷ entry log (Store 0x40000000 4 1) Done
      ∷ entry log Panic Panicked
      ∷ [];
  verdict = Quiet;
}

-- It finds the number that the first run left.
abbrev pub second_run : FinishedRun
second_run = record {
  entries =
      entry log (Load 0x40000000 4) (Number 1)
      ∷ entry log (Store 0x40000000 4 2) Done
      ∷ entry log (Stop false) Done
      ∷ [];
  verdict = Quiet;
}
