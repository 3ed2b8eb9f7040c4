use Rattle.std.proofs.Common.{sym}
use Rattle.machine_calls.proofs.Asserted.{met_by_service, met_by_source}
use Rattle.machine_calls.proofs.signals.has_signal.Goals.{then-is_service_near-via-then-is_service_near, then-is_service_near-via-else-is_service_near+then-is_source_near}
use Rattle.machine_calls.proofs.signals.has_signal.Goals as goal

pub returns-then-is_service_near : goal.returns-then-is_service_near
returns-then-is_service_near c =
    elim c.then-is_service_near.branch [
      | then-is_service_near-via-then-is_service_near w ↦ sym (met_by_service c.args.system.now c.args.partition c.args.mask _ c.as_slice-services.ensures (c.is_service_near.ensures w.if-is_service_near.true))
      | then-is_service_near-via-else-is_service_near+then-is_source_near w ↦ sym (met_by_source c.args.system.now c.args.partition c.args.mask _ c.as_slice-sources.ensures (w.is_source_near.ensures w.if-is_source_near.true))
    ]
