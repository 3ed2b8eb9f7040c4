use Rattle.std.proofs.Common.{◌∙◌, sym}
use Rattle.std.proofs.lemmas.Map.Text.{btree_map_updates_str}
use Rattle.script_asm.proofs.LabelLemmas.{put}
use Rattle.script_asm.proofs.labels.keep_label.Goals as goal

pub returns-in_ok-insert : goal.returns-in_ok-insert
returns-in_ok-insert c = λ n.
    btree_map_updates_str c.args.name.now c.args.labels.now c.insert.new.self _ c.in_ok-insert.ensures.updates n
    ∙ put c.args.labels.now c.args.name.now n c.args.label (sym c.contains_key.ensures ∙ c.if-not-contains_key.true)
