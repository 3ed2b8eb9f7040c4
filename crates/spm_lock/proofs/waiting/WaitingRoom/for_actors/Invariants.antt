use Rattle.std.proofs.Common.{◌≡◌, ◌≤◌, length, vec_capacity}
use Rattle.spm_lock.proofs.waiting.WaitingRoom.for_actors.Given as goal

abbrev pub invariant-loop : goal.invariant-loop
invariant-loop l = (length l.parkers.items ≡ l.counter) × (l.fn.count ≤ vec_capacity l.parkers)
