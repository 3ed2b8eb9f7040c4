use Rattle.std.proofs.Common.{◌∙◌, ap}
use Rattle.std.specs.Prelude.{find}
use Rattle.std.specs.List.{range_with_len}
use Rattle.std.specs.Str.{bytes_eq}
use Rattle.view_texts.specs.Names.{actor_name}
use Rattle.view_aspects.proofs.Naming.{find_found, find_none, find_step}
use Rattle.view_aspects.proofs.choosing.actor_named.Goals as goal

pub loop-actor-preserved : goal.loop-actor-preserved
loop-actor-preserved c =
    find_step (λ a. bytes_eq (actor_name c.args.system.now a) c.args.name.now) c.loop-actor.actor _ _ _ c.loop-actor-test.true c.has_name.ensures c.if-has_name.false c.loop-actor.invariant

pub returns-then-has_name : goal.returns-then-has_name
returns-then-has_name c =
    find_found (λ a. bytes_eq (actor_name c.args.system.now a) c.args.name.now) c.loop-actor.actor _ _ _ c.loop-actor-test.true c.has_name.ensures c.if-has_name.true c.loop-actor.invariant
    ∙ ap (λ n. find (λ a. bytes_eq (actor_name c.args.system.now a) c.args.name.now) (range_with_len 0 n)) c.actor_count-actor-end.ensures

pub returns : goal.returns
returns c =
    find_none (λ a. bytes_eq (actor_name c.args.system.now a) c.args.name.now) c.loop-actor.actor _ _ c.loop-actor-test.false c.loop-actor.invariant
    ∙ ap (λ n. find (λ a. bytes_eq (actor_name c.args.system.now a) c.args.name.now) (range_with_len 0 n)) c.actor_count-actor-end.ensures
