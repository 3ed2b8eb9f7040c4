use Rattle.std.proofs.Common.{◌≡◌, true}
use Rattle.std.specs.List.{All, AllWithin}
use Rattle.partition_sim.specs.Workers.{IsGood, actors_of, roles_of, scripts_of}
use Rattle.partition_sim.proofs.workers.turn_over.Given as goal

abbrev pub invariant-loop-worker : goal.invariant-loop-worker
invariant-loop-worker g l =
    All (IsGood g.A.Api.own g.A.Api.record_of g.A.Api.is_done l.api) l.workers
    × (scripts_of l.workers ≡ scripts_of l.fn.workers)
    × (roles_of l.workers ≡ roles_of l.fn.workers)
    × (actors_of g.A.Api.actor_of l.workers ≡ actors_of g.A.Api.actor_of l.fn.workers)
    × (l.all_done ≡ true → AllWithin (λ w. w.done ≡ true) l.workers 0 l.worker-index)
