use Rattle.std.proofs.Common.{◌≡◌, ◌≤◌, ◌+◌, ◌*◌, ◌++◌, take}
use Rattle.std.specs.List.{flat_map}
use Rattle.trace_print.specs.Buffer.{line_len}
use Rattle.ffm_model.specs.TraceText.{size_fields, spaced_field}
use Rattle.trace_print.proofs.field.append_sizes.Given as goal

abbrev pub invariant-loop-size : goal.invariant-loop-size
invariant-loop-size l = record {
  items : l.line.items ≡ l.initial.line.items ++ flat_map spaced_field (size_fields (take l.size-index l.sizes));
  room : line_len l.line ≤ line_len l.initial.line + 11 * l.size-index;
}
