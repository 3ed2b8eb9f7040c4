use Rattle.std.proofs.Common.{◌≡◌, refl, subst, sym}
use Rattle.std.specs.Prelude.{IfSome}
use Rattle.ffm_model.specs.Calls.{programmer_error}
use Rattle.machine_calls.specs.Machine.{state_of}
use Rattle.view_places.proofs.Asked.{error_told}
use Rattle.view_places.proofs.asking.tell.Goals as goal

pub returns : goal.returns
returns c =
    let s = c.args.system.now in
    let r = c.args.checker in
    let e = c.args.entry.now in
    record {
      count = refl;
      total = refl;
      entry = refl;
      tells = λ handles knows. record {
        doing = c.in_ok-doing.ensures;
        reply = c.in_ok-reply.ensures handles knows;
        table = λ there. c.in_ok-conditions.ensures.table there;
        none = λ absent. c.in_ok-conditions.ensures.none absent;
        conditions = λ there. c.in_ok-conditions.ensures.say there handles;
        shown = c.error_shown.ensures;
        refused = subst (λ o. IfSome o (λ refused. refused ≡ programmer_error s (state_of r.machine handles) e.actor.0 e.call)) (sym c.error_shown.ensures)
            (error_told s c.args.limit r.count (state_of r.machine handles) e c.in_ok-reply.reply (c.in_ok-reply.ensures handles knows));
      };
    }
