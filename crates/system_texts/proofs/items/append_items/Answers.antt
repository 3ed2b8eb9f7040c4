use Rattle.std.proofs.Common.{◌<◌, ◌≤◌, arith}
use Rattle.system_texts.specs.View.{item_text}
use Rattle.system_texts.proofs.Numbers.{left_more, left_end}
use Rattle.system_texts.proofs.items.append_items.Goals as goal

pub loop-number-preserved : goal.loop-number-preserved
loop-number-preserved c =
    let lt : c.loop-number.number < 17 = omega arith in
    left_more (item_text c.args.item) c.loop-number.number c.loop-number.text.items _ _ lt c.in_ok-append_item.ensures c.loop-number.invariant

pub returns : goal.returns
returns c =
    let end : 17 ≤ c.loop-number.number = omega arith in
    left_end (item_text c.args.item) c.loop-number.number c.loop-number.text.items _ end c.loop-number.invariant
