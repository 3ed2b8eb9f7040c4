use Rattle.std.proofs.Common.{◌≡◌, take}
use Rattle.ffm_model.specs.Panic.{callers_answered}
use Rattle.machine_calls.proofs.panic.answer_callers.Given as goal

-- the callers of the messages so far are answered
abbrev pub invariant-loop-message : goal.invariant-loop-message
invariant-loop-message l = l.phases ≡ callers_answered l.system l.partition (take l.message-index l.messages) l.fn.phases
