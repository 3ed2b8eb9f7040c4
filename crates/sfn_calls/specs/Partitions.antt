-- Which actors are partitions whose services are functions.
-- Source: FF-M 1.1, the SFN model: the manifest's `model`.
use Rattle.std.specs.Prelude.{ℕ, Bool, false, slice_get}
use Rattle.std.specs.Option.{option_map_or}
use Rattle.ffm_model.specs.declared.system.System.{System}

-- whether an actor is a partition of the SFN model
abbrev pub is_sfn : System → ℕ → Bool
is_sfn s a = option_map_or (λ p. p.sfn) (slice_get s.partitions a) false
