use Rattle.std.proofs.Common.{◌≡◌, ◌-◌}
use Rattle.std.specs.Prelude.{find}
use Rattle.std.specs.List.{range_with_len}
use Rattle.std.specs.Str.{bytes_eq}
use Rattle.view_texts.specs.Names.{actor_name}
use Rattle.view_aspects.proofs.choosing.actor_named.Given as goal

-- the others decide
abbrev pub invariant-loop-actor : goal.invariant-loop-actor
invariant-loop-actor l =
    find (λ a. bytes_eq (actor_name l.system a) l.name) (range_with_len l.actor (l.actor-end - l.actor))
    ≡ find (λ a. bytes_eq (actor_name l.system a) l.name) (range_with_len 0 l.actor-end)
