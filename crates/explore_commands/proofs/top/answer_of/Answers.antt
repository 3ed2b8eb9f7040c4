use Rattle.std.proofs.Common.{◌≡◌}
use Rattle.text_lines.specs.Refusals.{refusal_line}
use Rattle.explore_commands.specs.Answers.{IsFound}
use Rattle.explore_commands.proofs.Answered.{answer_or, found_answer, refused_answer}
use Rattle.explore_commands.proofs.top.answer_of.Goals as goal

pub returns-in-Ok-Run-clause-answers : goal.returns-in-Ok-Run-clause-answers
returns-in-Ok-Run-clause-answers g c =
    let r = c.args.request in
    let w = c.in-Ok-Run.work in
    let kept = g.F.KeepsFiles.kept c.work_of.new.files in
    found_answer r _ _ kept w c.or_memory.result (rw c.in-Ok-Run.field-0-is at c.in-Ok-Run.ensures.asks)
    (answer_or (λ x. IsFound w.system w.scenario w.programs r kept x.text.items x.status) c.found.result c.or_memory.result c.or_memory.ensures (rw c.kept.ensures.kept at c.found.ensures.found))

pub returns-in-Err-Refused-clause-answers : goal.returns-in-Err-Refused-clause-answers
returns-in-Err-Refused-clause-answers g c =
    let f = c.in-Err-Refused.refusal in
    let answer = c.or_memory-in-Err-Refused.result in
    refused_answer c.args.request _ _ _ f answer (rw c.in-Err-Refused.field-0-is at c.in-Err-Refused.ensures.asks)
    (answer_or (λ x. (x.text.items ≡ refusal_line f) × (x.status ≡ 1)) c.refused.result answer c.or_memory-in-Err-Refused.ensures c.refused.ensures)
