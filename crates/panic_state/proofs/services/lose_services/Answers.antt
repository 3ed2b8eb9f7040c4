use Rattle.std.proofs.Common.{◌≡◌, ◌+◌, length, Bool, arith, ap, sym, ◌∙◌}
use Rattle.std.specs.Prelude.{if◌then◌else◌}
use Rattle.ffm_model.specs.declared.objects.OpenConnection.{OpenConnection}
use Rattle.object_pools.specs.Pool.{Places}
use Rattle.panic_state.proofs.Walks.{services_from, services_from-all, services_from-other, services_from-lost, lost-shorter}
use Rattle.panic_state.proofs.services.lose_services.Goals as goal
use Rattle.panic_state.proofs.services.lose_services.Goals.{then-not-is_service_of-via-then-not-is_service_of, then-not-is_service_of-via-else-not-is_service_of+then-lose}

pub loop-place-preserved-in-loop-place : goal.loop-place-preserved-in-loop-place
loop-place-preserved-in-loop-place c =
    let s = c.args.system.now in
    let p = c.args.partition.0 in
    let n = c.loop-place.place in
    elim c.then-not-is_service_of.branch [
      | then-not-is_service_of-via-then-not-is_service_of w ↦
          ap (services_from s p (n + 1)) w.tables-is
          ∙ services_from-other s p n c.loop-place.tables c.connection_at-held.result c.connection_at-held.ensures.at (sym c.is_service_of.ensures ∙ w.if-not-is_service_of.true)
          ∙ c.loop-place.invariant
      | then-not-is_service_of-via-else-not-is_service_of+then-lose w ↦
          ap (services_from s p (n + 1)) w.tables-is
          ∙ ap (λ (b : Bool). services_from s p (if b then n + 1 else n) w.lose.new.tables) (sym w.if-lose.true)
          ∙ services_from-lost s p n c.loop-place.tables w.lose.new.tables c.connection_at-held.result w.lose.result c.connection_at-held.ensures.kept c.connection_at-held.ensures.at
          (sym c.is_service_of.ensures ∙ w.if-not-is_service_of.false) w.lose.ensures.after w.lose.ensures.kept
          ∙ c.loop-place.invariant
    ]

pub loop-place-smaller : goal.loop-place-smaller
loop-place-smaller c =
    let n = c.loop-place.place in
    let shorter : length c.lose.new.tables.connections.held + 1 ≡ length c.loop-place.tables.connections.held =
    lost-shorter n c.loop-place.tables c.lose.new.tables c.connection_at-held.result c.lose.result c.connection_at-held.ensures.kept c.connection_at-held.ensures.at c.lose.ensures.after c.lose.ensures.kept c.if-lose.false in
    omega (arith, shorter, c.live.ensures, c.loop-place-test.true, ap (λ (q : Places OpenConnection). length q.held) c.connections.ensures)

pub loop-place-preserved : goal.loop-place-preserved
loop-place-preserved c =
    let s = c.args.system.now in
    let p = c.args.partition.0 in
    let n = c.loop-place.place in
    ap (λ (b : Bool). services_from s p (if b then n + 1 else n) c.lose.new.tables) (sym c.if-lose.false)
    ∙ services_from-lost s p n c.loop-place.tables c.lose.new.tables c.connection_at-held.result c.lose.result c.connection_at-held.ensures.kept c.connection_at-held.ensures.at
    (sym c.is_service_of.ensures ∙ c.if-not-is_service_of.false) c.lose.ensures.after c.lose.ensures.kept
    ∙ c.loop-place.invariant

pub returns : goal.returns
returns c =
    sym (services_from-all c.args.system.now c.args.partition.0 c.loop-place.place c.loop-place.tables
    (omega (arith, c.live.ensures, c.loop-place-test.false, ap (λ (q : Places OpenConnection). length q.held) c.connections.ensures)))
    ∙ c.loop-place.invariant
