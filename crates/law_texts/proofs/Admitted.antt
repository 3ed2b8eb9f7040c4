-- The generated texts are admitted.
use Rattle.std.proofs.Common.{ℕ, ◌<◌, ◌^◌, refl}
use Rattle.law_texts.specs.Admitted.{AreAdmitted, nothing}
use Rattle.law_texts.proofs.Made.{made_system, system-read}
use Rattle.law_texts.proofs.Programs.{made-programs}
use Rattle.law_texts.proofs.Scenario.{made_scenario, rounds_line, scenario-read}

pub texts-admitted : (rounds : ℕ) → rounds < 2 ^ 32 → AreAdmitted rounds
texts-admitted rounds small =
    let programs = made-programs rounds small in
    record {
      system = made_system;
      scenario = made_scenario (rounds_line rounds);
      programs = programs.0;
      generated = record { held = nothing; empty = λ name. refl; system = system-read; scenario = scenario-read rounds small; assembled = programs.1 };
    }
