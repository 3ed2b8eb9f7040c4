use Rattle.scenario_runs.proofs.Crews.{done_by}
use Rattle.scenario_runs.proofs.threads.seat_of.Goals as goal

pub returns-then-drove-clause-seat : goal.returns-then-drove-clause-seat
returns-then-drove-clause-seat c = (
  c.requires.new,
  done_by c.args.shared.now c.args.crew.value c.args.trip.1 c.worker_of.result c.requires.trip.same (c.requires.trip.finished c.if-drove.true) c.worker_of.ensures,
)
