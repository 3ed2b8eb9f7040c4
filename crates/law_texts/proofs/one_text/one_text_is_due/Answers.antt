use Rattle.law_texts.proofs.Works.{one_text}
use Rattle.law_texts.proofs.one_text.one_text_is_due.Goals as goal

pub returns : goal.returns
returns c = one_text
