use Rattle.std.proofs.Common.{ap, ◌∙◌}
use Rattle.std.specs.Prelude.{if◌then◌else◌}
use Rattle.ffm_model.specs.declared.machine.Call.TheVariants as call
use Rattle.partition_sim.specs.Partitions.{PartitionStanding}
use Rattle.partition_sim.proofs.HeldLemmas.{asked-follows, planned}
use Rattle.partition_sim.proofs.partition.PartitionRunner.next.Goals as goal

pub returns : goal.returns
returns c =
    let script = c.args.script.now in
    let asks = c.settle.ensures in
    let new : PartitionStanding = c.settle.new.self in
    let waits = ap (λ (r : PartitionStanding). r.waiting) c.self.view_is in
    let due = c.call_due.ensures ∙ ap (λ (r : PartitionStanding). if c.self.inside.waiting then call.Resume else r.call) c.self.view_is in
    record {
      call = λ p os f. planned p script os new c.self.inside.waiting _ (asks p os f) waits due;
      asked = asks;
      again = λ p os f. asked-follows p script os new (asks p os f);
    }
