use Rattle.view_commands.proofs.Answered.{shown_answer}
use Rattle.view_commands.proofs.top.answer_of.Goals as goal

pub returns-in-Ok-shown-clause-answers : goal.returns-in-Ok-shown-clause-answers
returns-in-Ok-shown-clause-answers g c =
    let answer = c.in-Ok-shown.answer in
    shown_answer c.args.request _ _ c.in-Ok.read answer.text.items answer.status c.in-Ok.ensures.read c.in-Ok-shown.ensures
