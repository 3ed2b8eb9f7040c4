use Rattle.std.proofs.Common.{◌≡◌}
use Rattle.spm_lock.specs.Passes.{IsWaiting}
use Rattle.spm_lock.proofs.turn.seize.Given as goal

abbrev pub invariant-loop : goal.invariant-loop
invariant-loop g l = (l.seat.table_id ≡ l.fn.seat.table_id) × IsWaiting l.fn.actor.0 l.fn.seat.me l.ticket l.seat.me
