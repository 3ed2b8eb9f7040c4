-- Which text and which status a trace's text calls for.
-- Source: this simulator's.
use Rattle.std.specs.Prelude.{◌⊎◌, ℕ, List}
use Rattle.ffm_model.specs.declared.scenario.Scenario.{Scenario}
use Rattle.ffm_model.specs.declared.system.System.{System}
use Rattle.command_words.specs.declared.words.Inspection.{Inspection}
use Rattle.command_words.specs.declared.words.Inspection.TheVariants.{Replay, Audit}
use Rattle.judge_command.specs.Audits.{AuditedDue}
use Rattle.judge_command.specs.Replays.{JudgedDue, WrongDue}

-- what is due of a trace, by how it is to be judged
abbrev pub InspectedDue : Inspection → System → Scenario → List ℕ → List ℕ → ℕ → Type 0
InspectedDue Replay s c bytes text status = JudgedDue s c bytes text status
InspectedDue Audit s c bytes text status = AuditedDue s c bytes text status

-- and of a text that is no trace's, the refusal of its first wrong line
abbrev pub TraceDue : Inspection → System → Scenario → List ℕ → List ℕ → ℕ → Type 0
TraceDue how s c bytes text status =
    InspectedDue how s c bytes text status ⊎ WrongDue s bytes text status
