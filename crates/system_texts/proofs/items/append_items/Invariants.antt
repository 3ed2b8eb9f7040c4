use Rattle.std.proofs.Common.{◌≡◌, ◌++◌}
use Rattle.std.specs.List.{flat_map}
use Rattle.system_texts.specs.Texts.{numbers}
use Rattle.system_texts.specs.View.{item_text}
use Rattle.system_texts.proofs.Numbers.{left}
use Rattle.system_texts.proofs.items.append_items.Given as goal

-- the items so far, and then those of the other numbers
abbrev pub invariant-loop-number : goal.invariant-loop-number
invariant-loop-number l = l.text.items ++ flat_map (item_text l.item) (left l.number) ≡ l.initial.text.items ++ flat_map (item_text l.item) numbers
