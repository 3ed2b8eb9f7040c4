use Rattle.std.proofs.Common.{rules, ◌≡◌, ◌∷◌, [], ◌++◌, ◌∙◌, append_assoc, append-nil, length, length-append, vec_capacity, ap, sym, subst, refl, arith}
use denote.Exit.{yes}
use denote.Param.Send.{param_send, param_sync, arg_send, shr_send}
use Rattle.std.proofs.sync.atomic.AtomicBool.TheSendSync as flag
use Rattle.law_lists.proofs.Lists.{AllByRecursion-push}
use Rattle.spm_lock.proofs.Crossing.{shared_crosses, two_cross}
use Rattle.scenario_runs.specs.declared.threads.Trip.{Trip}
use Rattle.scenario_runs.specs.Threads.{AreNewCrews, IsNewCrew, IsSeat}
use Rattle.scenario_runs.proofs.Crews.{Placed, crews_more, waiting_more, fresh_more, left_short}
use Rattle.scenario_runs.proofs.Crossing.{crew_crosses, five_cross}
use Rattle.scenario_runs.specs.Threads.{left_of}
use Rattle.scenario_runs.proofs.threads.fn.drive_crews.scope.Goals as goal
use Rattle.scenario_runs.proofs.threads.fn.drive_crews.scope.Goals.{then-may_start+in-Ok, then-may_start+in-Err, else-may_start}

pub spawn_with-requires-send-F : goal.spawn_with-requires-send-F
spawn_with-requires-send-F g c κs within = param_send _ _ (arg_send _ yes _ (five_cross _ _ _ _ _ _ (shr_send _ _ _ (param_sync 0 _ c.requires.sync.0)) (shr_send _ _ _ shared_crosses) (shr_send _ _ _ (param_sync 1 _ c.requires.sync.1)) (shr_send _ _ _ flag.the_sync) crew_crosses))

pub spawn_with-requires-send-T : goal.spawn_with-requires-send-T
spawn_with-requires-send-T g c κs within = search (rules, crew_crosses, two_cross, param_send, arg_send) depth 12

pub loop-crew-preserved : goal.loop-crew-preserved
loop-crew-preserved g c =
    let s = c.captures.shared.now in
    let i = c.loop-crew.invariant in
    let crew = c.in-Some.crew in
    let later = c.next.new.self.rest.items in
    let next = c.in-Some.ensures.steps.0 in
    let new = subst (AreNewCrews s) next i.4 in
    let before = c.loop-crew.undriven in
    let after = c.if-may_start.undriven in
    let seat = c.if-may_start.seat in
    let seats = c.loop-crew.seats.items in
    let made : Placed s crew seat before.items after.items (vec_capacity before) (vec_capacity after) =
    elim c.if-may_start.branch [
      | then-may_start+in-Ok w ↦
          let ok = w.in-Ok.ensures.ok in
          let new_there : IsNewCrew s c.of-before.result.value = subst (IsNewCrew s) (sym c.of-before.ensures) new.0 in
          let mine : w.in-Ok.handle.promise.shared.value ≡ s = ap (λ (p : Trip). p.shared.value) ok ∙ c.of.ensures in
          let its : w.in-Ok.handle.promise.crew.value ≡ c.of-before.result.value = ap (λ (p : Trip). p.crew.value) ok ∙ (c.of-in-loop-crew.ensures ∙ sym c.of-before.ensures) in
          rw (w.seat-is, w.undriven-is) (record { seat = (new_there, (mine, its)); crew_is = c.of-before.ensures; undriven = sym (append-nil before.items); capacity = refl })
      | then-may_start+in-Err w ↦
          let e = w.turned_back.ensures in
          rw (w.seat-is, w.undriven-is) (record { seat = e.seat; crew_is = e.crew ∙ c.of-before.ensures; undriven = e.undriven; capacity = e.capacity })
      | else-may_start w ↦
          let e = w.turned_back-seat.ensures in
          rw (w.seat-is, w.undriven-is) (record { seat = e.seat; crew_is = e.crew ∙ c.of-before.ensures; undriven = e.undriven; capacity = e.capacity })
    ] in
    let items = c.push_reserved.ensures.items in
    let long = ap length items ∙ length-append seats (seat ∷ []) in
    let fewer = ap length next in
    let more = ap length made.undriven ∙ length-append before.items (left_of seat.crew.value seat.progress) in
    let short = left_short seat.crew.value seat.progress made.seat.0.0 in (
      rw items (crews_more seats seat ∙ (ap (λ t. t ++ seat.crew.value ∷ []) i.0 ∙ ap (λ v. c.loop-crew.yielded ++ v ∷ []) made.crew_is)),
      rw items (AllByRecursion-push (IsSeat s) seats seat i.1 made.seat),
      rw items (made.undriven ∙ (ap (λ t. t ++ left_of seat.crew.value seat.progress) i.2 ∙ sym (waiting_more seats seat))),
      rw made.undriven (fresh_more s before.items seat i.3 made.seat),
      new.1,
      append_assoc c.loop-crew.yielded (crew ∷ []) later ∙ (ap (λ t. c.loop-crew.yielded ++ t) (sym next) ∙ i.5),
      omega (arith, long, fewer, i.6, c.push_reserved.ensures.capacity),
      omega (arith, long, more, short, i.7),
      omega (arith, long, fewer, i.8, made.capacity),
      omega (arith, long, fewer, i.9),
      omega (arith, long, fewer, i.10),
      i.11,
    )
