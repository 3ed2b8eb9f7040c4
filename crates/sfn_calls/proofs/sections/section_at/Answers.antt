use Rattle.std.proofs.Common.{sym}
use Rattle.sfn_calls.proofs.SectionLemmas.{section-none, section-some, texts-below}
use Rattle.sfn_calls.proofs.sections.section_at.Goals as goal

pub returns-in_default-clause-gives : goal.returns-in_default-clause-gives
returns-in_default-clause-gives c = section-none c.args.lines.now c.args.at c.index-lines-at.result c.requires.inside c.index-lines-at.is (sym c.in_default.ensures)

pub returns-clause-gives : goal.returns-clause-gives
returns-clause-gives c =
    section-some c.args.lines.now c.args.at c.index-lines-at.result _ _ c.requires.inside c.index-lines-at.is (sym c.in-Some.ensures)
    (texts-below c.args.texts.now c.args.lines.now c.args.at c.count_before-count.result c.requires.lines c.count_before-count.ensures.count)
