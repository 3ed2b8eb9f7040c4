use Rattle.std.proofs.Common.{refl, ap}
use Rattle.std.specs.Prelude.{replicate}
use Rattle.mm_iovec.specs.HeldView.{HeldView}
use Rattle.script_engines.specs.Holdings.{holding}
use Rattle.partition_sim.proofs.HeldLemmas.{opened}
use Rattle.partition_sim.proofs.partition.PartitionRunner.new.Goals as goal

pub returns : goal.returns
returns c = λ script. opened _ script _ (ap (λ (h : HeldView). h.holder) c.new.ensures) refl refl (ap (λ (h : HeldView). holding (replicate 16 0) 0 h.table) c.new.ensures)
