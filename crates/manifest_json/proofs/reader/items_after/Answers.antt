use Rattle.std.proofs.Common.{[]}
use Rattle.std.proofs.lemmas.Result.{err_from_is_err_and, IfOk-at_ok}
use Rattle.law_lists.proofs.Lists.{AllByRecursion-push}
use Rattle.serde_json.specs.View.{view, items_view}
use Rattle.ffm_model.specs.Attributes.{items_after}
use Rattle.manifest_json.proofs.Lists.{goes_on, ends, is_done}
use Rattle.manifest_json.proofs.reader.items_after.Goals as goal

pub returns-in_err-value-clause-given : goal.returns-in_err-value-clause-given
returns-in_err-value-clause-given g c =
    let gives = g.R.ReaderAfter.gives c.args.reader.now in
    let all = items_after gives [] 0 (items_view c.args.items.now) in
    let v = c.index-items-i.result in
    let p = err_from_is_err_and c.from_residual-in_err-value.result c.from_residual-in_err-value.ensures.1 in
    let given = rw c.deref.ensures.value at c.read_after.ensures.given in
    let failed = rw c.in_ok-step.ensures at (c.in_err-value.ensures.placed (gives c.loop-i.found.items (view v)) given) in
    rw (p.1, p.2) (ends gives c.in_err-value.field-0.0 c.loop-i.found.items c.args.items.now c.loop-i.i v all c.loop-i-test.true c.index-items-i.is failed c.loop-i.invariant.told)

pub loop-i-preserved : goal.loop-i-preserved
loop-i-preserved g c =
    let gives = g.R.ReaderAfter.gives c.args.reader.now in
    let keeps = g.R.ReaderAfter.keeps c.args.reader.now in
    let all = items_after gives [] 0 (items_view c.args.items.now) in
    let v = c.index-items-i.result in
    let given = rw c.deref.ensures.value at c.read_after.ensures.given in
    let read = rw c.in_ok-step.ensures at (c.in_ok-value.ensures.placed (gives c.loop-i.found.items (view v)) given) in
    record {
      told = rw c.in_ok-push.ensures.items (goes_on gives c.loop-i.found.items c.args.items.now c.loop-i.i v c.in_ok-value.value all c.loop-i-test.true c.index-items-i.is read c.loop-i.invariant.told);
      kept = rw c.in_ok-push.ensures.items (AllByRecursion-push keeps c.loop-i.found.items c.in_ok-value.value c.loop-i.invariant.kept (IfOk-at_ok keeps c.in_ok-value.ensures.same c.read_after.ensures.kept));
    }

pub returns-clause-given : goal.returns-clause-given
returns-clause-given g c =
    let gives = g.R.ReaderAfter.gives c.args.reader.now in
    let all = items_after gives [] 0 (items_view c.args.items.now) in
    rw c.of.ensures (is_done gives c.loop-i.found.items c.args.items.now c.loop-i.i all c.loop-i-test.false c.loop-i.invariant.told)
