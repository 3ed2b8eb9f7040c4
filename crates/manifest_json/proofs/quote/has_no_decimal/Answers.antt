use Rattle.std.proofs.Common.{arith}
use Rattle.std.proofs.lemmas.Bool.Decides.{nat_tests}
use Rattle.manifest_json.proofs.Runs.{all_plain}
use Rattle.manifest_json.proofs.quote.has_no_decimal.Goals as goal

pub returns : goal.returns
returns c = λ t. all_plain c.plain_len.result c.args.bytes.now (grind (arith, nat_tests, t)) c.plain_len.ensures.plain
