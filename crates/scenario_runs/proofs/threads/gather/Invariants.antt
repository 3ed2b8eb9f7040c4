use Rattle.std.proofs.Common.{◌≡◌, ◌≤◌, ◌+◌, ◌++◌, length, vec_capacity}
use Rattle.scenario_runs.specs.Threads.{AllFinished, AreDoneBy, AreSeats, SameWorkers, crews_in, waiting}
use Rattle.scenario_runs.proofs.threads.gather.Given as goal

abbrev pub invariant-loop-seat : goal.invariant-loop-seat
invariant-loop-seat g l =
    AreDoneBy l.shared (crews_in l.yielded) l.passes.items × AreSeats l.shared l.seat-iterator.rest.items × SameWorkers (waiting l.seat-iterator.rest.items) l.workers.rest.items
    × AllFinished l.shared l.workers.rest.items × (l.yielded ++ l.seat-iterator.rest.items ≡ l.fn.seats.items) × (length l.passes.items + length l.seat-iterator.rest.items ≤ vec_capacity l.passes)
