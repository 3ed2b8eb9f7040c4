use Rattle.view_diagram.proofs.Answered.{each-call-blocks, each-call-has-arrow, each-reply-has-arrow}
use Rattle.view_diagram.proofs.laws.calls_and_replies_have_arrows.Goals as goal

pub returns-clause-calls : goal.returns-clause-calls
returns-clause-calls c = each-call-has-arrow

pub returns-clause-blocks : goal.returns-clause-blocks
returns-clause-blocks c = each-call-blocks

pub returns-clause-replies : goal.returns-clause-replies
returns-clause-replies c = each-reply-has-arrow
