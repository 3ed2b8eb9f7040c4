use Rattle.std.proofs.Common.{arith, ◌∷◌, [], length-append}
use Rattle.std.proofs.lemmas.Result.{err_from_is_err_and}
use Rattle.law_lists.proofs.Lists.{AllByRecursion-push}
use Rattle.ffm_model.specs.declared.manifest.Manifest.{Manifest}
use Rattle.ffm_model.specs.ManifestItems.{IsManifest}
use Rattle.system_json.proofs.ManifestSteps.{goes_on, ends, is_done, lost}
use Rattle.system_json.proofs.manifests.manifests_from.Goals as goal

pub returns-in_err-manifest-clause-asks : goal.returns-in_err-manifest-clause-asks
returns-in_err-manifest-clause-asks g c =
    let p = err_from_is_err_and c.from_residual.result c.from_residual.ensures.1 in
    rw (p.1, p.2) (ends _ _ _ _ c.loop-i.found.items c.args.items.now c.loop-i.i c.index-items-i.result c.loop-i-test.true c.index-items-i.is c.loop-i.invariant.leads c.in_err-manifest.ensures.asks)

pub returns-in_err-push-clause-asks : goal.returns-in_err-push-clause-asks
returns-in_err-push-clause-asks g c =
    let p = err_from_is_err_and c.from_residual-in_err-push.result c.from_residual-in_err-push.ensures.1 in
    rw (p.1, p.2) (lost _ _ _ c.args.items.now _
    (goes_on _ _ _ c.loop-i.found.items c.args.items.now c.loop-i.i c.index-items-i.result c.in_ok-manifest.manifest c.loop-i-test.true c.index-items-i.is c.loop-i.invariant.leads c.in_ok-manifest.ensures.asks))

pub loop-i-preserved : goal.loop-i-preserved
loop-i-preserved g c =
    let m = c.in_ok-manifest.manifest in
    record {
      leads = rw c.in_ok-push.ensures.items (goes_on _ _ _ c.loop-i.found.items c.args.items.now c.loop-i.i c.index-items-i.result m c.loop-i-test.true c.index-items-i.is c.loop-i.invariant.leads c.in_ok-manifest.ensures.asks);
      kept = rw c.in_ok-push.ensures.items (AllByRecursion-push IsManifest c.loop-i.found.items m c.loop-i.invariant.kept c.in_ok-manifest.ensures.kept);
      count = rw c.in_ok-push.ensures.items (omega (arith, c.loop-i.invariant.count, length-append {A = Manifest} c.loop-i.found.items (m ∷ [])));
    }

pub returns-clause-asks : goal.returns-clause-asks
returns-clause-asks g c = rw c.of.ensures (is_done _ _ c.loop-i.found.items c.args.items.now c.loop-i.i c.loop-i-test.false c.loop-i.invariant.leads)
