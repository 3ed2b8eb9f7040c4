use Rattle.std.proofs.Common.{Ok, Err, []}
use Rattle.std.proofs.lemmas.Result.{err_from_is_err_and}
use Rattle.serde_json.specs.Data.{Items}
use Rattle.serde_json.specs.View.{view, items_view}
use Rattle.ffm_model.specs.Reading.{asks_nothing}
use Rattle.ffm_model.specs.SystemAttributes.{manifest_items_of}
use Rattle.ffm_model.specs.Systems.{behind, manifests_after, manifests_of}
use Rattle.outside_io.proofs.FilesSteps.{asks_pure, asks_stops, asks_then}
use Rattle.system_json.proofs.manifests.manifests.Goals as goal

pub returns-in_err-items-clause-asks : goal.returns-in_err-items-clause-asks
unfolding manifests_of
returns-in_err-items-clause-asks g c =
    let p = err_from_is_err_and c.from_residual.result c.from_residual.ensures.1 in
    rw (p.1, p.2) (asks_stops _ _ _ (λ of. asks_nothing (behind [] (manifest_items_of (view c.args.tree.now)))) (λ of items. manifests_after of [] 0 items)
    (asks_pure _ (λ (items : Items). items) (Err c.in_err-items.field-0.0) (behind [] (manifest_items_of (view c.args.tree.now))) c.in_err-items.ensures.given))

pub returns-clause-asks : goal.returns-clause-asks
unfolding manifests_of
returns-clause-asks g c =
    let items = items_view c.in_ok-items.items.now in
    asks_then _ _ _ _ (λ of. asks_nothing (behind [] (manifest_items_of (view c.args.tree.now)))) (λ of items. manifests_after of [] 0 items) items
    (asks_pure _ (λ (items : Items). items) (Ok items) (behind [] (manifest_items_of (view c.args.tree.now))) c.in_ok-items.ensures.given) c.manifests_from.ensures.asks
