use Rattle.std.proofs.Common.{rules, not}
use Rattle.std.proofs.lemmas.Fn.{filter_same}
use Rattle.ffm_model.specs.State.{has_handle}
use Rattle.machine_calls.proofs.messages.remove.Goals as goal

pub returns : goal.returns
returns c = filter_same _ (λ x. not (has_handle x.handle c.args.handle)) _ (λ x b f called. search rules) _ _ c.retain.ensures.filtered
