use Rattle.std.proofs.Common.{map, string_bytes}
use Rattle.explore_commands.proofs.Answered.{asked_answer, told_found, told_words}
use Rattle.explore_commands.proofs.top.answer_to.Goals as goal

pub returns-in-Ok-clause-answers : goal.returns-in-Ok-clause-answers
returns-in-Ok-clause-answers g c = asked_answer (map string_bytes c.args.words.now) c.in-Ok.request _ _ _ c.answer_of.result c.in-Ok.ensures.asked c.answer_of.ensures.answers

pub returns-in-Err-clause-answers : goal.returns-in-Err-clause-answers
returns-in-Err-clause-answers g c =
    told_words (map string_bytes c.args.words.now) c.in-Err.error _ _ c.told.result c.or_memory.result c.or_memory.ensures c.in-Err.ensures.told c.told.ensures.status c.told.ensures.kind

pub returns-in-Err-clause-status : goal.returns-in-Err-clause-status
returns-in-Err-clause-status g c = told_found c.told.result c.or_memory.result c.or_memory.ensures c.told.ensures.few
