use Rattle.std.proofs.Common.{map, string_bytes}
use Rattle.view_commands.proofs.Answered.{asked_answer, told_answer}
use Rattle.view_commands.proofs.top.answer_to.Goals as goal

pub returns-in-Ok-clause-answers : goal.returns-in-Ok-clause-answers
returns-in-Ok-clause-answers g c = asked_answer (map string_bytes c.args.words.now) c.in-Ok.asked _ _ c.answer_of_asked.result c.in-Ok.ensures.asked c.answer_of_asked.ensures.answers

pub returns-in-Ok-told-clause-answers : goal.returns-in-Ok-told-clause-answers
returns-in-Ok-told-clause-answers g c =
    told_answer (map string_bytes c.args.words.now) c.in-Err.error _ c.in-Ok-told.answer c.in-Err.ensures.told c.in-Ok-told.ensures.status c.in-Ok-told.ensures.kind
