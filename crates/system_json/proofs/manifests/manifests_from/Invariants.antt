use Rattle.std.proofs.Common.{◌≡◌, length}
use Rattle.std.specs.List.{AllByRecursion}
use Rattle.ffm_model.specs.ManifestItems.{IsManifest}
use Rattle.system_json.proofs.ManifestSteps.{Leads}
use Rattle.system_json.proofs.manifests.manifests_from.Given as goal

abbrev pub invariant-loop-i : goal.invariant-loop-i
invariant-loop-i g l = record {
  leads : Leads (g.F.Files.seen l.fn.files) (g.F.Files.seen l.files) l.found.items l.i l.items;
  kept : AllByRecursion IsManifest l.found.items;
  count : length l.found.items ≡ l.i;
}
