use Rattle.std.proofs.Common.{◌≡◌, ◌++◌, length}
use Rattle.ffm_model.specs.Quote.{quote}
use Rattle.manifest_json.proofs.quote.quote_decimals.Given as goal

-- what was written, and what is still written, is all
abbrev pub invariant-loop-rest : goal.invariant-loop-rest
invariant-loop-rest l = l.out.items ++ quote l.rest ≡ quote l.bytes

abbrev pub decreases-loop-rest : goal.decreases-loop-rest
decreases-loop-rest l = length l.rest
