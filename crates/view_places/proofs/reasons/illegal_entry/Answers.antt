use Rattle.std.proofs.Common.{◌≡◌, refl, subst, sym}
use Rattle.std.specs.Prelude.{IfSome}
use Rattle.ffm_model.specs.Calls.{programmer_error}
use Rattle.machine_calls.specs.Machine.{state_of}
use Rattle.view_places.proofs.Refusals.{refusal_told}
use Rattle.view_places.proofs.reasons.illegal_entry.Goals as goal

pub returns : goal.returns
returns c =
    let s = c.args.system.now in
    let r = c.args.checker in
    let e = c.args.entry.now in
    record {
      place = refl;
      entry = refl;
      rule = c.in_ok-rule.ensures;
      call = λ handles knows illegal. record {
        doing = c.in_ok-doing.ensures;
        table = λ there. c.in_ok-conditions.ensures.table there;
        none = λ absent. c.in_ok-conditions.ensures.none absent;
        shown = c.refusal_shown.ensures;
        conditions = λ there. c.in_ok-conditions.ensures.say there handles;
        refused = subst (λ o. IfSome o (λ refused. refused ≡ programmer_error s (state_of r.machine handles) e.actor.0 e.call)) (sym c.refusal_shown.ensures)
            (refusal_told s c.args.limit r.count (state_of r.machine handles) e c.in_ok-rule.rule (c.in_ok-rule.ensures handles knows illegal));
      };
    }
