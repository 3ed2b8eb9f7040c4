use Rattle.std.proofs.Common.{◌≡◌, ◌++◌, ◌-◌}
use Rattle.std.specs.List.{flat_map, range_with_len}
use Rattle.view_texts.specs.CountsText.{wait_at}
use Rattle.view_texts.proofs.counts_text.put_all_waits.Given as goal

-- the lines so far, and then those of the other actors
abbrev pub invariant-loop-actor : goal.invariant-loop-actor
invariant-loop-actor l =
    l.text.items ++ flat_map (wait_at l.system l.waits) (range_with_len l.actor (l.actor-end - l.actor))
    ≡ l.initial.text.items ++ flat_map (wait_at l.system l.waits) (range_with_len 0 l.actor-end)
