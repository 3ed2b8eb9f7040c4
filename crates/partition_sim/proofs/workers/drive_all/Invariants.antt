use Rattle.std.proofs.Common.{◌≡◌}
use Rattle.std.specs.List.{All}
use Rattle.partition_sim.specs.Workers.{IsGood, actors_of, roles_of, scripts_of}
use Rattle.partition_sim.proofs.workers.drive_all.Given as goal

abbrev pub invariant-rounds : goal.invariant-rounds
invariant-rounds g l =
    All (IsGood g.A.Api.own g.A.Api.record_of g.A.Api.is_done l.api) l.workers
    × (scripts_of l.workers ≡ scripts_of l.fn.workers)
    × (roles_of l.workers ≡ roles_of l.fn.workers)
    × (actors_of g.A.Api.actor_of l.workers ≡ actors_of g.A.Api.actor_of l.fn.workers)
