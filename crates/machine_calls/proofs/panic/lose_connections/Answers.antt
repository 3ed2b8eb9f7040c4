use Rattle.std.proofs.Common.{rules}
use Rattle.machine_calls.specs.Leaving.{left_of}
use Rattle.machine_calls.proofs.Leaving.{retained}
use Rattle.machine_calls.proofs.panic.lose_connections.Goals as goal

pub returns : goal.returns
returns c = retained _ (left_of c.args.system.now c.args.partition) _ (λ x b q y called. (search rules, search rules)) _ _ c.retain_mut.ensures.filtered
