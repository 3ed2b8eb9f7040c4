use Rattle.std.proofs.Common.{◌≡◌, ◌++◌, ◌-◌}
use Rattle.std.specs.List.{flat_map, range_with_len}
use Rattle.view_texts.specs.CountsText.{call_line_at}
use Rattle.view_texts.specs.declared.calls.TheConstants.{CALL_COUNT}
use Rattle.view_texts.proofs.counts_text.put_actor_calls.Given as goal

-- the lines so far, and then those of the other calls
abbrev pub invariant-loop-call : goal.invariant-loop-call
invariant-loop-call l =
    l.text.items ++ flat_map (call_line_at l.system l.calls l.actor) (range_with_len l.call (CALL_COUNT - l.call))
    ≡ l.initial.text.items ++ flat_map (call_line_at l.system l.calls l.actor) (range_with_len 0 CALL_COUNT)
