use Rattle.std.proofs.Common.{length, ◌-◌}
use Rattle.ffm_model.specs.Quote.{outside}
use Rattle.manifest_json.specs.Leads.{Leads}
use Rattle.manifest_json.proofs.quote.plain_len.Given as goal

-- no decimal stands in what was passed
abbrev pub invariant-loop-at : goal.invariant-loop-at
invariant-loop-at l = Leads outside l.at outside l.bytes

abbrev pub decreases-loop-at : goal.decreases-loop-at
decreases-loop-at l = length l.bytes - l.at
