use Rattle.std.proofs.Common.{refl, ap, ◌∙◌}
use Rattle.ffm_model.specs.HeldPlans.{Holding, call_made}
use Rattle.script_engines.specs.Holdings.{holding}
use Rattle.script_engines.proofs.held_lines.map_call.Goals as goal

pub returns-clause-call : goal.returns-clause-call
returns-clause-call c = λ place.
    let x : Holding = holding c.args.registers.now place c.args.held.now.table in
    c.mm_call.ensures.call x refl ∙ ap call_made (c.mm_line-line.ensures c.args.held.now.holder x refl)
