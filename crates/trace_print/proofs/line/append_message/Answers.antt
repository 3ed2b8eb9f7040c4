use Rattle.std.proofs.Common.{codes}
use Rattle.ffm_model.specs.TraceText.{message_front, message_phrase, size_fields, spaced}
use Rattle.trace_print.proofs.Messages.{three_parts}
use Rattle.trace_print.proofs.line.append_message.Goals as goal

pub returns-clause-items : goal.returns-clause-items
unfolding message_phrase
returns-clause-items c =
    three_parts _ _ _ _ (spaced (codes "message")) (message_front c.args.message) (size_fields c.args.message.in_size) (size_fields c.args.message.out_size)
    c.append_front.ensures.items c.append_sizes.ensures.items c.append_sizes-2.ensures.items
