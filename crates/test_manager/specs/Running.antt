-- Actors that run.
-- Source: this simulator's.
use Rattle.std.specs.Prelude.{◌≡◌, ℕ}
use Rattle.ffm_model.specs.declared.objects.ActorPhase.TheVariants.{Running}
use Rattle.ffm_model.specs.State.{phase_of}
use Rattle.spm_tables.specs.TablesView.{TablesView, spm_of}

-- the actor runs, and so may make a call
abbrev pub IsRunning : TablesView → ℕ → Type 0
IsRunning t a = phase_of (spm_of t) a ≡ Running
