use Rattle.std.proofs.Common.{List, ◌∷◌, [], ◌++◌, ◌∙◌, append_assoc, length, length-append, ap, sym, subst, arith}
use Rattle.scenario_runs.specs.declared.threads.Seat.{Seat}
use Rattle.scenario_runs.specs.Threads.{AreSeats, SameWorkers, crews_in, waiting}
use Rattle.scenario_runs.proofs.Crews.{crews_more, done_more}
use Rattle.scenario_runs.proofs.threads.gather.Goals as goal

pub loop-seat-preserved : goal.loop-seat-preserved
loop-seat-preserved g c =
    let s = c.args.shared.now in
    let i = c.loop-seat.invariant in
    let seat = c.in-Some.seat in
    let later = c.next.new.self.rest.items in
    let next = c.in-Some.ensures.steps.0 in
    let items = c.push_reserved.ensures.items in
    let long = ap length items ∙ length-append c.loop-seat.passes.items (c.pass_of.result ∷ []) in
    let fewer = ap length next in (
      rw (items, crews_more c.loop-seat.yielded seat) (done_more s (crews_in c.loop-seat.yielded) c.loop-seat.passes.items seat.crew.value c.pass_of.result i.0 c.pass_of.ensures.pass),
      (subst (AreSeats s) next i.1).1,
      c.pass_of.ensures.left (waiting later) (subst (λ (xs : List Seat). SameWorkers (waiting xs) c.loop-seat.workers.rest.items) next i.2),
      c.pass_of.ensures.finished,
      append_assoc c.loop-seat.yielded (seat ∷ []) later ∙ (ap (λ t. c.loop-seat.yielded ++ t) (sym next) ∙ i.4),
      omega (arith, long, fewer, i.5, c.push_reserved.ensures.capacity),
    )
