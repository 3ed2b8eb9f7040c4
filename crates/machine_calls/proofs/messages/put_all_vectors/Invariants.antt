use Rattle.std.proofs.Common.{◌≡◌, ◌++◌, map, take, drop}
use Rattle.ffm_model.specs.State.{vectors_put}
use Rattle.machine_calls.proofs.messages.put_all_vectors.Given as goal

-- the messages so far are changed
abbrev pub invariant-loop-message : goal.invariant-loop-message
invariant-loop-message l = l.messages ≡ map (vectors_put l.handle l.vectors) (take l.message-index l.fn.messages) ++ drop l.message-index l.fn.messages
