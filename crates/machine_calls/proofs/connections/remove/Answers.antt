use Rattle.std.proofs.Common.{rules, ◌==◌, not}
use Rattle.std.proofs.lemmas.Fn.{filter_same}
use Rattle.machine_calls.proofs.connections.remove.Goals as goal

pub returns : goal.returns
returns c = filter_same _ (λ x. not (x.serial == c.args.serial)) _ (λ x b f called. search rules) _ _ c.retain.ensures.filtered
