use Rattle.std.proofs.Common.{true, List, refl, ap, ◌∙◌}
use Rattle.ffm_model.specs.declared.script.Instruction.{Instruction}
use Rattle.ffm_model.specs.Held.{Holder}
use Rattle.ffm_model.specs.HeldPlans.{held_call}
use Rattle.mm_iovec.specs.HeldView.{HeldView}
use Rattle.script_engines.specs.Holdings.{holding}
use Rattle.partition_sim.specs.Partitions.{PartitionStanding}
use Rattle.partition_sim.proofs.HeldLemmas.{asked}
use Rattle.partition_sim.proofs.partition.PartitionRunner.settle.Goals as goal

pub returns-then-self : goal.returns-then-self
returns-then-self c = rw (← c.self.view_is) (λ p os f. f.stands c.if-self.true)

pub returns : goal.returns
returns c = rw (← c.self.view_is) (
    let script : List Instruction = c.args.script.now in
    let lines = c.held_arrive-place.ensures in
    let held : HeldView = c.held_arrive-place.new.held in
    let place = c.held_arrive-place.result in
    let call = c.held_call-self-inside.ensures.call ∙ ap (λ (p : Holder). held_call p script (holding c.held_arrive-place.new.registers place held.table)) lines.holder in
    let old : PartitionStanding = record {
      holder = c.self.inside.held.holder;
      at = holding c.self.inside.registers c.self.inside.place c.self.inside.held.table;
      waiting = c.self.inside.waiting;
      ready = c.self.inside.ready;
      line = c.self.inside.line;
      call = c.self.inside.call;
      after = c.self.inside.after;
    } in
    let new : PartitionStanding = record {
      holder = held.holder;
      at = holding c.held_arrive-place.new.registers place held.table;
      waiting = c.self.inside.waiting;
      ready = true;
      line = c.line_at-self-inside.result;
      call = c.held_call-self-inside.result;
      after = c.place_after-self-inside.result;
    } in
    rw c.held_call-self-inside.ensures.held
    (λ p os f. asked p script os old new c.if-self.false lines.holder refl refl lines.arrived c.line_at-self-inside.ensures call c.place_after-self-inside.ensures f))
