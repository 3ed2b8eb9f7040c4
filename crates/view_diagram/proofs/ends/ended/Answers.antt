use Rattle.std.proofs.Common.{string_bytes}
use Rattle.std.proofs.lemmas.Result.{IfOk-weaker}
use Rattle.view_diagram.proofs.ends.ended.Goals as goal

pub returns : goal.returns
returns c = IfOk-weaker c.with_more.result _ _ (λ t is. record { front = string_bytes c.args.front; is = is }) c.with_more.ensures
