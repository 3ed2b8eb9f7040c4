use Rattle.std.proofs.Common.{◌≡◌, ◌++◌, take, drop}
use Rattle.ffm_model.specs.State.{delivered}
use Rattle.machine_calls.proofs.messages.deliver.Given as goal

-- no message so far waits for psa_get
abbrev pub invariant-loop-message : goal.invariant-loop-message
invariant-loop-message l = (l.messages ≡ l.fn.messages) × (delivered l.service l.handle l.fn.messages ≡ take l.message-index l.fn.messages ++ delivered l.service l.handle (drop l.message-index l.fn.messages))
