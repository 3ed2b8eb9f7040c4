use Rattle.std.proofs.Common.{rules, not}
use Rattle.std.proofs.lemmas.Fn.{filter_same}
use Rattle.ffm_model.specs.Actors.{is_service_of}
use Rattle.machine_calls.proofs.panic.drop_messages.Goals as goal

pub returns : goal.returns
returns c = filter_same _ (λ m. not (is_service_of c.args.system.now c.args.partition m.service)) _ (λ x b f called. search rules) _ _ c.retain.ensures.filtered
