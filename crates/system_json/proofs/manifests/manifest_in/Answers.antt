use Rattle.std.proofs.lemmas.Result.{err_from_is_err_and}
use Rattle.serde_json.specs.View.{view}
use Rattle.system_json.proofs.ManifestSteps.{no_manifest, manifest_at_tree}
use Rattle.system_json.proofs.manifests.manifest_in.Goals as goal

pub returns-in_err-tree-clause-given : goal.returns-in_err-tree-clause-given
returns-in_err-tree-clause-given c =
    let p = err_from_is_err_and c.from_residual-in_err-tree.result c.from_residual-in_err-tree.ensures.1 in
    let failed = rw (c.of.ensures, c.in_ok-manifest_steps.ensures) at c.in_err-tree.ensures in
    rw (p.1, p.2) (no_manifest c.args.number c.args.bytes.now c.in_err-tree.field-0.0 failed)

pub returns-clause-given : goal.returns-clause-given
returns-clause-given c =
    rw (manifest_at_tree c.args.bytes.now (view c.in_ok-tree.tree) c.in_ok-tree.ensures) c.manifest_here.ensures.given
