use Rattle.std.proofs.Common.{length, ◌-◌}
use Rattle.ffm_model.specs.Quote.{in_string}
use Rattle.manifest_json.specs.Leads.{Leads}
use Rattle.manifest_json.proofs.quote.string_len.Given as goal

-- the string goes on
abbrev pub invariant-loop-at : goal.invariant-loop-at
invariant-loop-at l = Leads in_string l.at in_string l.bytes

abbrev pub decreases-loop-at : goal.decreases-loop-at
decreases-loop-at l = length l.bytes - l.at
