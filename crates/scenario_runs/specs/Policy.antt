-- When a system runs again.
-- Source: this simulator's; FF-M leaves to the implementation what follows a panic.
use Rattle.std.specs.Prelude.{Bool, false}
use Rattle.std.specs.Option.{option_map_or}
use Rattle.ffm_model.specs.Restarts.{ends_panicked}
use Rattle.ffm_model.specs.Verdicts.{verdict_of}
use Rattle.memory_image.specs.Pieces.{byte_at}
use Rattle.spm_core.specs.Manager.{Managed}

-- the manager's run came to an end, and a partition panicked in it
abbrev pub runs_again : Managed → Bool
runs_again m =
    option_map_or (λ v. ends_panicked m.opening.system (byte_at m.opening.memory) (record { entries = m.history; verdict = v }))
    (verdict_of m.opening.system (byte_at m.opening.memory) m.opening.limit m.history) false
