-- The actors of a system as its traces count them.
use Rattle.std.proofs.Common.{arith, ℕ, ◌<◌}
use Rattle.ffm_model.specs.declared.system.System.{System}
use Rattle.ffm_model.specs.Actors.{actor_count, counts_of}
use Rattle.ffm_model.specs.TraceText.{IsActorOf}
use Rattle.ffm_model.proofs.RunLemmas.{device-test}

pub known : (s : System) (a : ℕ) → a < actor_count s → IsActorOf (counts_of s) a
known s a below = omega (arith, below, device-test s.sources)
