-- The system's regions are few, and the scenario's opening bytes lie in them.
use Rattle.std.proofs.Common.{length}
use Rattle.std.specs.List.{list_any}
use Rattle.ffm_model.specs.Memory.{lies_in}
use Rattle.ffm_model.proofs.RangeLemmas.{regions_few}
use Rattle.memory_image.proofs.Tested.{list_all-each}
use Rattle.memory_image.proofs.opening.opening_image.Goals as goal

pub new-requires-clause-few : goal.new-requires-clause-few
new-requires-clause-few c = rw c.list.ensures (regions_few c.args.system.now)

pub new-requires-clause-opening : goal.new-requires-clause-opening
new-requires-clause-opening c = rw c.list.ensures (list_all-each (λ b. list_any (lies_in b.address (length b.content)) c.args.system.now.regions) c.args.scenario.now.memory c.requires.memory)
