use Rattle.std.proofs.Common.{◌∙◌, ap, ◌++◌, ◌∷◌, []}
use Rattle.system_json.proofs.Gathered.{put_back}
use Rattle.system_json.proofs.actor_scripts.add_script.Goals as goal

pub returns : goal.returns
returns c =
    let was = c.into_vec-own.ensures ∙ c.replace.ensures.value in
    let own = c.of.ensures ∙ c.in_ok-push.ensures.items ∙ ap (λ y. y ++ c.args.script.lines ∷ []) was in
    put_back c.args.by_actor.now.items c.args.script c.replace.new.dest c.index_mut.result.now c.of.result c.requires c.index_mut.ensures.value own
