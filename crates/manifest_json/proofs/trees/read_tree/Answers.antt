use Rattle.std.proofs.Common.{◌∙◌, sym}
use Rattle.manifest_json.proofs.trees.read_tree.Goals as goal

pub returns-then-has_no_decimal : goal.returns-then-has_no_decimal
returns-then-has_no_decimal c = c.tree_spelled.ensures c.args.bytes.now (sym (c.has_no_decimal.ensures c.if-has_no_decimal.true))

pub returns : goal.returns
returns c = c.tree_spelled-2.ensures c.args.bytes.now (c.deref.ensures.value ∙ c.in_ok-quoted.ensures)
