use Rattle.std.proofs.Common.{refl}
use Rattle.ffm_model.specs.HeldPlans.{Holding}
use Rattle.script_engines.specs.Holdings.{holding}
use Rattle.script_engines.proofs.held_lines.map_effect.Goals as goal

pub returns-clause-leads : goal.returns-clause-leads
returns-clause-leads c =
    let x : Holding = holding c.args.registers.now c.args.place c.args.held.now.table in
    rw (c.mm_line-line.ensures c.args.held.now.holder x refl) at c.mm_effect.ensures.leads

pub returns-clause-makes : goal.returns-clause-makes
returns-clause-makes c =
    let x : Holding = holding c.args.registers.now c.args.place c.args.held.now.table in
    rw (c.mm_line-line.ensures c.args.held.now.holder x refl) at c.mm_effect.ensures.makes
