use Rattle.std.proofs.Common.{Ok, Err, []}
use Rattle.std.proofs.lemmas.Result.{err_from_is_err_and}
use Rattle.serde_json.specs.View.{view}
use Rattle.ffm_model.specs.declared.codes.TheConstants.{JSON}
use Rattle.ffm_model.specs.declared.parts.Parts.{Parts}
use Rattle.ffm_model.specs.Attributes.{or_refuse}
use Rattle.ffm_model.specs.Reading.{asks_nothing}
use Rattle.ffm_model.specs.Systems.{behind, parts_of, system_of}
use Rattle.ffm_model.specs.Trees.{tree_of}
use Rattle.outside_io.proofs.FilesSteps.{asks_pure, asks_stops, asks_then}
use Rattle.system_json.proofs.manifests.read_system.Goals as goal

pub returns-in_err-tree : goal.returns-in_err-tree
unfolding system_of
returns-in_err-tree g c =
    let p = err_from_is_err_and c.from_residual.result c.from_residual.ensures.1 in
    rw (p.1, p.2) (asks_stops {Z = Parts} _ _ _ (λ of. asks_nothing (behind [] (or_refuse JSON (tree_of c.args.bytes.now)))) (λ of d. parts_of of d)
    (asks_pure _ view (Err c.in_err-tree.field-0.0) (behind [] (or_refuse JSON (tree_of c.args.bytes.now))) c.in_err-tree.ensures))

pub returns : goal.returns
unfolding system_of
returns g c =
    asks_then _ _ _ _ (λ of. asks_nothing (behind [] (or_refuse JSON (tree_of c.args.bytes.now)))) (λ of d. parts_of of d) (view c.in_ok-tree.tree)
    (asks_pure _ view (Ok c.in_ok-tree.tree) (behind [] (or_refuse JSON (tree_of c.args.bytes.now))) c.in_ok-tree.ensures) c.parts.ensures
