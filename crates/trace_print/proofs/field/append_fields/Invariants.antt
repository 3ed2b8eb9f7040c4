use Rattle.std.proofs.Common.{◌≡◌, ◌≤◌, ◌+◌, ◌*◌, ◌++◌, take}
use Rattle.std.specs.List.{flat_map, sum_by}
use Rattle.trace_print.specs.Buffer.{line_len}
use Rattle.ffm_model.specs.TraceText.{spaced_field}
use Rattle.trace_print.specs.Fields.{numbers, width_of}
use Rattle.trace_print.proofs.field.append_fields.Given as goal

abbrev pub invariant-loop-field : goal.invariant-loop-field
invariant-loop-field l = record {
  items : l.line.items ≡ l.initial.line.items ++ flat_map spaced_field (numbers (take l.field-index l.fields));
  grows : line_len l.line ≤ line_len l.initial.line + sum_by width_of (numbers (take l.field-index l.fields));
  room : line_len l.line ≤ line_len l.initial.line + 12 * l.field-index;
}
