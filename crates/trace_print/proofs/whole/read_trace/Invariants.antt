use Rattle.std.proofs.Common.{◌≡◌, ◌≤◌, ◌-◌, ◌++◌, vec_len, length, drop}
use Rattle.std.specs.List.{AllByRecursion}
use Rattle.ffm_model.specs.TraceText.{EntryFits}
use Rattle.ffm_model.specs.declared.constants.TheConstants.{MAX_ENTRIES}
use Rattle.trace_print.proofs.Traces.{lines_of}
use Rattle.trace_print.proofs.whole.read_trace.Given as goal

abbrev pub invariant-loop-start : goal.invariant-loop-start
invariant-loop-start l = record {
  within : l.start ≤ length l.bytes;
  count : l.count ≡ vec_len l.entries;
  few : l.count ≤ MAX_ENTRIES;
  fits : AllByRecursion (EntryFits l.counts) l.entries.items;
  text : l.bytes ≡ lines_of l.counts l.entries.items ++ drop l.start l.bytes;
}

abbrev pub decreases-loop-start : goal.decreases-loop-start
decreases-loop-start l = length l.bytes - l.start
