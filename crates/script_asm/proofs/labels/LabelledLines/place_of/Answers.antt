use Rattle.script_asm.proofs.LabelLemmas.{leads-within}
use Rattle.script_asm.proofs.labels.LabelledLines.place_of.Goals as goal

pub returns-clause-within : goal.returns-clause-within
returns-clause-within c = leads-within c.args.self.now.labels _ c.args.name.now c.in_ok-label.label.now c.args.self.now.places c.in_ok-label.ensures.value
