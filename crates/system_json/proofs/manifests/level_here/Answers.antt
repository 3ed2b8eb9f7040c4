use Rattle.std.proofs.Common.{[], ◌<◌, ◌≤◌}
use Rattle.ffm_model.specs.declared.place.Root.TheVariants as root
use Rattle.system_json.proofs.Files.{kept_placed}
use Rattle.system_json.proofs.manifests.level_here.Goals as goal

pub returns-clause-kept : goal.returns-clause-kept
returns-clause-kept c =
    let given = rw c.new.ensures.items at c.placed.ensures in
    kept_placed (λ level. (0 < level) × (level ≤ 3)) root.System [] c.level-read.result c.placed.result given c.level-read.ensures.kept
