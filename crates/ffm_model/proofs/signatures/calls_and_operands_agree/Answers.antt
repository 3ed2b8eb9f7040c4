use Rattle.ffm_model.proofs.SignatureLemmas.{kinds_due, made_again, have_operands, others_none}
use Rattle.ffm_model.proofs.signatures.calls_and_operands_agree.Goals as goal

pub returns-clause-kinds : goal.returns-clause-kinds
returns-clause-kinds c = kinds_due

pub returns-clause-made : goal.returns-clause-made
returns-clause-made c = made_again

pub returns-clause-operands : goal.returns-clause-operands
returns-clause-operands c = have_operands

pub returns-clause-others : goal.returns-clause-others
returns-clause-others c = others_none
