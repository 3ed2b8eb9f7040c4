use Rattle.std.proofs.Common.{map, sym, ap, ◌∙◌, ◌++◌}
use Rattle.std.proofs.lemmas.List.{append-nil, nil_from_length}
use Rattle.std.specs.Vec.Iter.{into_iter_items}
use Rattle.ffm_model.specs.Scenarios.{or_empty_script}
use Rattle.system_json.proofs.Gathered.{lines_are}
use Rattle.system_json.proofs.actor_scripts.lines_by_actor.Goals as goal

pub returns : goal.returns
returns c =
    let none = nil_from_length (into_iter_items c.loop-own.own-iterator) (sym c.loop-own.invariant.counted ∙ c.in-None.ensures.steps.0) in
    let whole = c.into_iter-own-iterator.ensures.into_iter_gives.0 ∙ c.in_ok-own-items.ensures in
    let so_far = sym (append-nil c.loop-own.lines.items) ∙ sym (ap (λ xs. c.loop-own.lines.items ++ map or_empty_script xs) none) ∙ c.loop-own.invariant.placed in
    so_far ∙ ap (map or_empty_script) whole ∙ lines_are c.args.count c.args.scripts c.requires
