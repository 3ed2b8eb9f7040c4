use Rattle.machine_calls.specs.Leaving.{disconnection_left}
use Rattle.machine_calls.proofs.Leaving.{filter_map_more}
use Rattle.machine_calls.proofs.panic.send_disconnections.Goals as goal

pub returns-in_err-send_disconnection-clause-fits : goal.returns-in_err-send_disconnection-clause-fits
returns-in_err-send_disconnection-clause-fits c = λ regions fit. c.send_disconnection.ensures.fits regions (c.loop-connection.invariant.fits regions fit)

pub loop-connection-preserved : goal.loop-connection-preserved
loop-connection-preserved c = record {
  sent = filter_map_more (disconnection_left c.args.system.now c.args.partition) c.args.connections.now c.loop-connection.connection-index _ c.args.messages.now.items c.loop-connection.messages.items _
      c.loop-connection-test.true c.loop-connection.invariant.sent c.in_ok-send_disconnection.ensures.sent;
  fits = λ regions fit. c.send_disconnection.ensures.fits regions (c.loop-connection.invariant.fits regions fit);
}
