use Rattle.system_texts.specs.Texts.{system_text}
use Rattle.system_texts.proofs.Numbers.{five}
use Rattle.system_texts.proofs.system.system_text.Goals as goal

pub returns : goal.returns
unfolding system_text
returns c = five _ _ _ _ _ _ _ _ _ _ _ c.new-text.ensures.items c.in_ok-append.ensures c.in_ok-append_items.ensures c.in_ok-append-2.ensures c.in_ok-append_items-2.ensures c.in_ok-append-3.ensures
