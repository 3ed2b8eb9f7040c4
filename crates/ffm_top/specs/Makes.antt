-- The run of a generated system, and the line that sums it up.
-- Source: this simulator's.
use Rattle.std.specs.Prelude.{◌≡◌, ℕ, List, [], ◌∷◌, ◌++◌, length, sum_by, codes, false, None, Ok}
use Rattle.std.specs.Fmt.{decimal}
use Rattle.ffm_model.specs.declared.machine.Call.{Call}
use Rattle.ffm_model.specs.declared.machine.Call.TheVariants.{Read, Write}
use Rattle.ffm_model.specs.declared.machine.Entry.{Entry}
use Rattle.ffm_model.specs.declared.machine.Outcome.{Outcome}
use Rattle.ffm_model.specs.declared.machine.Outcome.TheVariants.{Number, Done}
use Rattle.ffm_model.specs.declared.machine.Verdict.{Verdict}
use Rattle.ffm_model.specs.declared.scenario.Scenario.{Scenario}
use Rattle.ffm_model.specs.declared.system.System.{System}
use Rattle.ffm_model.specs.Memory.{opening_memory}
use Rattle.ffm_model.specs.Reading.{Contents}
use Rattle.ffm_model.specs.Scenarios.{scenario_in}
use Rattle.ffm_model.specs.Systems.{stopped}
use Rattle.ffm_model.specs.TraceText.{verdict_word}
use Rattle.actor_programs.specs.declared.program.Program.{Program}
use Rattle.actor_programs.specs.Programs.{programs_of}
use Rattle.scenario_runs.specs.Runs.{RanBy}
use Rattle.work_orders.specs.Work.{system_in}
use Rattle.system_texts.specs.Texts.{system_text, scenario_text}

-- what the generated texts stand for, with no file at hand
pub record IsGenerated (rounds : ℕ) (s : System) (c : Scenario) (programs : List Program) : Type 0 where
  pub held : Contents
  pub empty : (name : List ℕ) → held name ≡ None
  pub system : (system_in held system_text).gives ≡ Ok s
  pub scenario : stopped (scenario_in s (scenario_text rounds)) ≡ Ok c
  pub assembled : programs_of s c ≡ Ok programs

-- the bytes that a call moved: those that were read, or those of an answered write
abbrev pub moved_by : Call → Outcome → ℕ
moved_by (Read handle index buffer len) (Number n) = n
moved_by (Write handle index buffer len) Done = len
moved_by _ _ = 0

abbrev pub bytes_moved : List Entry → ℕ
bytes_moved es = sum_by (λ e. moved_by e.call e.outcome) es

-- `make N entries E bytes B V`
unfoldable pub summary_line : ℕ → ℕ → ℕ → Verdict → List ℕ
summary_line rounds count moved verdict =
    codes "make " ++ (decimal rounds ++ (codes " entries " ++ (decimal count ++ (codes " bytes " ++ (decimal moved ++ (32 ∷ (verdict_word verdict ++ 10 ∷ [])))))))

-- a trace that the run of what the generated texts stand for may have
pub record IsMade (rounds : ℕ) (es : List Entry) (v : Verdict) : Type 0 where
  pub system : System
  pub scenario : Scenario
  pub programs : List Program
  pub generated : IsGenerated rounds system scenario programs
  pub ran : RanBy system (opening_memory scenario.memory) scenario programs false es v

-- the text sums up such a run
pub record MadeDue (rounds : ℕ) (text : List ℕ) (status : ℕ) : Type 0 where
  pub entries : List Entry
  pub ended : Verdict
  pub made : IsMade rounds entries ended
  pub text_is : text ≡ summary_line rounds (length entries) (bytes_moved entries) ended
  pub status_is : status ≡ 0
