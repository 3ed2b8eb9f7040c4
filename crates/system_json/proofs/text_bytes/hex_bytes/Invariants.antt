use Rattle.std.proofs.Common.{◌≡◌, length}
use Rattle.ffm_model.specs.Scenarios.{hex_bytes}
use Rattle.system_json.proofs.HexDigits.{spelled_after}
use Rattle.system_json.proofs.text_bytes.hex_bytes.Given as goal

abbrev pub invariant-loop-high : goal.invariant-loop-high
invariant-loop-high l = spelled_after l.found.items l.digits ≡ hex_bytes l.text

abbrev pub decreases-loop-high : goal.decreases-loop-high
decreases-loop-high l = length l.digits
