use Rattle.std.proofs.Common.{◌∙◌, ap, List, ◌++◌, ◌∷◌, []}
use Rattle.actor_programs.specs.declared.program.Program.{Program}
use Rattle.actor_programs.proofs.MadeLemmas.{put_back}
use Rattle.actor_programs.proofs.made.add_program.Goals as goal

pub returns : goal.returns
returns c =
    let was = c.into_vec-own.ensures ∙ c.replace.ensures.value in
    let own = c.of.ensures ∙ c.in_ok-push.ensures.items ∙ ap (λ (y : List Program). y ++ c.args.program ∷ []) was in
    put_back c.args.made.now.items c.args.actor c.args.program c.replace.new.dest c.index_mut.result.now c.of.result c.requires c.index_mut.ensures.value own
