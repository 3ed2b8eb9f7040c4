-- That the generated files are admitted.
-- Source: this simulator's.
use Rattle.std.specs.Prelude.{ℕ, List, None}
use Rattle.ffm_model.specs.declared.scenario.Scenario.{Scenario}
use Rattle.ffm_model.specs.declared.system.System.{System}
use Rattle.ffm_model.specs.Reading.{Contents}
use Rattle.actor_programs.specs.declared.program.Program.{Program}
use Rattle.ffm_top.specs.Makes.{IsGenerated}

-- no name holds a file
abbrev pub nothing : Contents
nothing = λ name. None

-- the generated texts, with so many requests of each client, are those of a system, a scenario and programs
pub record AreAdmitted (rounds : ℕ) : Type 0 where
  pub system : System
  pub scenario : Scenario
  pub programs : List Program
  pub generated : IsGenerated rounds system scenario programs
