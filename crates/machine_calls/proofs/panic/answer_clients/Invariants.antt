use Rattle.std.proofs.Common.{◌≡◌, take}
use Rattle.ffm_model.specs.Panic.{clients_answered}
use Rattle.machine_calls.proofs.panic.answer_clients.Given as goal

-- the clients of the connections so far are answered
abbrev pub invariant-loop-connection : goal.invariant-loop-connection
invariant-loop-connection l = l.phases ≡ clients_answered l.system l.partition (take l.connection-index l.connections) l.fn.phases
