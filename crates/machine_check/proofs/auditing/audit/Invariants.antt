use Rattle.std.proofs.Common.{◌≤◌, drop}
use Rattle.memory_image.specs.Pieces.{byte_at}
use Rattle.machine_check.specs.Audited.{AuditsTo}
use Rattle.machine_check.proofs.auditing.audit.Given as goal

abbrev pub invariant-loop-entry : goal.invariant-loop-entry
invariant-loop-entry l = record {
  audits : AuditsTo l.system (byte_at l.memory) l.limit l.trace.entries l.trace.verdict l.auditor (drop l.entry-index l.entry-items);
  few : l.auditor.checker.count ≤ l.entry-index;
}
