use Rattle.std.proofs.Common.{◌≡◌, ◌++◌, drop}
use Rattle.std.specs.List.{enumerate_from, flat_map}
use Rattle.view_places.specs.StateText.{span_text}
use Rattle.view_places.proofs.state.put_spans.Given as goal

-- the vectors so far, and then the others
abbrev pub invariant-loop-place : goal.invariant-loop-place
invariant-loop-place l = l.text.items ++ flat_map (span_text l.name) (enumerate_from l.place (drop l.place l.spans)) ≡ l.initial.text.items ++ flat_map (span_text l.name) (enumerate_from 0 l.spans)
