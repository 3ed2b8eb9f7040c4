use Rattle.std.proofs.Common.{◌≡◌, ◌++◌, ◌-◌, map}
use Rattle.std.specs.List.{filter_map, range_with_len}
use Rattle.serde_json.specs.View.{view}
use Rattle.view_texts.specs.declared.calls.TheConstants.{CALL_COUNT}
use Rattle.view_json.specs.StatsJson.{made_call}
use Rattle.view_json.proofs.stats.call_list.Given as goal

-- the calls so far, and then the others
abbrev pub invariant-loop-call : goal.invariant-loop-call
invariant-loop-call l =
    map view l.list.items ++ filter_map (made_call l.calls l.actor) (range_with_len l.call (CALL_COUNT - l.call)) ≡ filter_map (made_call l.calls l.actor) (range_with_len 0 CALL_COUNT)
