use Rattle.machine_calls.proofs.MessageLemmas.{removed_fit}
use Rattle.machine_calls.proofs.machine.Objects.close_message.Goals as goal

pub returns-clause-fits : goal.returns-clause-fits
returns-clause-fits c = λ regions fits. removed_fit regions c.args.self.now c.remove_message.new.self c.answer.new.self c.args.handle c.remove_message.ensures.state c.answer.ensures.messages fits
