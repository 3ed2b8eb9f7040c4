use Rattle.std.proofs.Common.{◌≡◌, ◌++◌, ◌-◌, filter}
use Rattle.std.specs.List.{range_with_len}
use Rattle.view_texts.specs.CountsText.{uses_stateless}
use Rattle.view_texts.proofs.counts_text.stateless_users.Given as goal

-- the actors so far, and then those among the others
abbrev pub invariant-loop-actor : goal.invariant-loop-actor
invariant-loop-actor l =
    l.users.items ++ filter (uses_stateless l.system) (range_with_len l.actor (l.actor-end - l.actor))
    ≡ filter (uses_stateless l.system) (range_with_len 0 l.actor-end)
