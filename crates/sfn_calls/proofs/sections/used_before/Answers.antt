use Rattle.std.proofs.Common.{◌∙◌}
use Rattle.sfn_calls.proofs.SectionLemmas.{used-place}
use Rattle.sfn_calls.proofs.sections.used_before.Goals as goal

pub returns-clause-place : goal.returns-clause-place
returns-clause-place c = c.place_of_used.ensures.place ∙ used-place c.args.lines.now c.count_before-count.result c.count_before-count.ensures.count
