use Rattle.std.proofs.Common.{◌≡◌, ◌≤◌, ◌+◌, ◌++◌, [], length, vec_capacity}
use Rattle.scenario_runs.specs.Threads.{AllFresh, AreNewCrews, AreSeats, crews_in, waiting}
use Rattle.scenario_runs.proofs.threads.fn.drive_crews.scope.Given as goal

abbrev pub invariant-loop-crew : goal.invariant-loop-crew
invariant-loop-crew g l =
    (crews_in l.seats.items ≡ l.yielded) × AreSeats l.shared l.seats.items × (l.undriven.items ≡ waiting l.seats.items) × AllFresh l.shared l.undriven.items
    × AreNewCrews l.shared l.crew-iterator.rest.items × (l.yielded ++ l.crew-iterator.rest.items ≡ l.initial.crew-iterator.rest.items)
    × (length l.seats.items + length l.crew-iterator.rest.items ≤ vec_capacity l.seats)
    × (length l.undriven.items ≤ length l.seats.items) × (length l.seats.items + length l.crew-iterator.rest.items ≤ vec_capacity l.undriven)
    × (length l.seats.items + length l.crew-iterator.rest.items ≤ length l.flags) × (length l.seats.items + length l.crew-iterator.rest.items ≤ vec_capacity l.room) × (l.room.items ≡ [])
