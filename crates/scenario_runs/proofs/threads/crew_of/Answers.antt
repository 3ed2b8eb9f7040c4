use Rattle.std.proofs.Common.{◌∙◌, [], ◌∷◌, ◌++◌, ap}
use Rattle.scenario_runs.proofs.Crews.{new_crew}
use Rattle.scenario_runs.proofs.threads.crew_of.Goals as goal

pub returns : goal.returns
returns c =
    let n = c.new.ensures in
    let items = c.of.ensures ∙ (c.push_reserved.ensures.items ∙ ap (λ ws. ws ++ c.new.result ∷ []) c.in_ok-crew.ensures.items) in
    new_crew c.args.shared.now c.of.result c.new.result c.args.pass c.args.start items n.pass n.script n.runner n.unfinished n.first c.requires.own c.requires.new c.requires.start
