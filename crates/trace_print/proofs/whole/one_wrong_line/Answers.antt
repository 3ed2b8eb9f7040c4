use Rattle.std.proofs.Common.{refl}
use Rattle.trace_print.proofs.OneWrong.{one_first_wrong}
use Rattle.trace_print.proofs.whole.one_wrong_line.Goals as goal

pub returns : goal.returns
returns c = λ bytes j k w v. one_first_wrong c.args.counts w v refl
