use Rattle.std.proofs.Common.{◌≡◌, ◌++◌, drop, map}
use Rattle.std.specs.List.{enumerate_from, filter_map}
use Rattle.serde_json.specs.View.{view}
use Rattle.view_json.specs.StateJson.{given_span, spans_json}
use Rattle.view_json.proofs.moves.add_spans.Given as goal

-- the vectors so far, and then the others
abbrev pub invariant-loop-place : goal.invariant-loop-place
invariant-loop-place l =
    map view l.list.items ++ filter_map (given_span l.name) (enumerate_from l.place (drop l.place l.spans))
    ≡ map view l.initial.list.items ++ spans_json l.name l.spans
