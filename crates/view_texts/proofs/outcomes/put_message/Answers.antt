use Rattle.std.proofs.lemmas.Result.{on_ok_weaker}
use Rattle.view_texts.proofs.Messages.{outcome_of_message, three_parts}
use Rattle.view_texts.proofs.outcomes.put_message.Goals as goal

pub returns : goal.returns
returns c =
    on_ok_weaker c.put_sizes-2.result
    (λ e. three_parts _ _ _ _ _ _ _ _ (outcome_of_message c.args.message.now) c.in_ok-put_message_words.ensures c.in_ok-put_sizes.ensures e)
    c.put_sizes-2.ensures
