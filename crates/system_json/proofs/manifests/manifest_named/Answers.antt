use Rattle.std.proofs.Common.{Ok, Err}
use Rattle.std.proofs.lemmas.Result.{err_from_is_err_and}
use Rattle.ffm_model.specs.declared.manifest.Manifest.{Manifest}
use Rattle.ffm_model.specs.Reading.{asks_nothing, file_at}
use Rattle.ffm_model.specs.Rules.{at_manifest}
use Rattle.ffm_model.specs.SystemAttributes.{manifest_in}
use Rattle.ffm_model.specs.Systems.{behind, manifest_named, manifest_place}
use Rattle.outside_io.proofs.FilesSteps.{asks_part, asks_stops}
use Rattle.system_json.proofs.manifests.manifest_named.Goals as goal

pub returns-in_err-bytes-clause-asks : goal.returns-in_err-bytes-clause-asks
unfolding manifest_named
returns-in_err-bytes-clause-asks g c =
    let p = err_from_is_err_and c.from_residual.result c.from_residual.ensures.1 in
    rw (p.1, p.2) (asks_stops {Z = Manifest} _ _ _ (λ of. file_at of (manifest_place c.args.number) 1048576 c.args.name.now) (λ of bytes. asks_nothing (behind (at_manifest c.args.number) (manifest_in bytes))) c.in_err-bytes.ensures)

pub returns-in_err-manifest_in-clause-asks : goal.returns-in_err-manifest_in-clause-asks
unfolding manifest_named
returns-in_err-manifest_in-clause-asks g c =
    let p = err_from_is_err_and c.from_residual-in_err-manifest_in.result c.from_residual-in_err-manifest_in.ensures.1 in
    rw (p.1, p.2) (asks_part _ _ (λ (m : Manifest). m) (Err c.in_err-manifest_in.field-0.0) (λ of. file_at of (manifest_place c.args.number) 1048576 c.args.name.now) (λ bytes. behind (at_manifest c.args.number) (manifest_in bytes))
    c.in_ok-bytes.bytes.items c.in_ok-bytes.ensures (rw c.deref.ensures.value at c.in_err-manifest_in.ensures.given))

pub returns-clause-asks : goal.returns-clause-asks
unfolding manifest_named
returns-clause-asks g c =
    asks_part _ _ (λ (m : Manifest). m) (Ok c.in_ok-manifest_in.field-0) (λ of. file_at of (manifest_place c.args.number) 1048576 c.args.name.now) (λ bytes. behind (at_manifest c.args.number) (manifest_in bytes))
    c.in_ok-bytes.bytes.items c.in_ok-bytes.ensures (rw c.deref.ensures.value at c.in_ok-manifest_in.ensures.given)
