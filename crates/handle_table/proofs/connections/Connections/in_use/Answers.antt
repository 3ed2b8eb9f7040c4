use Rattle.std.proofs.Common.{◌&&◌, ◌==◌, Bool, arith, sym, ◌∙◌}
use Rattle.ffm_model.specs.declared.objects.OpenConnection.{OpenConnection}
use Rattle.handle_table.proofs.TableLemmas.{counted-yes, counted-no}
use Rattle.handle_table.proofs.connections.Connections.in_use.Goals as goal
use Rattle.handle_table.proofs.connections.Connections.in_use.Goals.{then-is_between, else-is_between}

pub loop-place-preserved : goal.loop-place-preserved
loop-place-preserved c =
    let test : OpenConnection → Bool = λ x. (x.client.0 == c.args.owner.0) && (x.service == c.args.service) in
    elim c.if-is_between.branch [
      | then-is_between w ↦ record {
        counted = omega (
          arith,
          w.count-is,
          c.loop-place.invariant.counted,
          counted-yes test c.self.inside.pool c.loop-place.place c.nth-held.result c.nth-held.ensures (sym c.is_between.ensures ∙ w.if-is_between.true),
        );
        bound = omega (arith, w.count-is, c.loop-place.invariant.bound);
      }
      | else-is_between w ↦ record {
        counted = omega (
          arith,
          w.count-is,
          c.loop-place.invariant.counted,
          counted-no test c.self.inside.pool c.loop-place.place c.nth-held.result c.nth-held.ensures (sym c.is_between.ensures ∙ w.if-is_between.false),
        );
        bound = omega (arith, w.count-is, c.loop-place.invariant.bound);
      }
    ]
