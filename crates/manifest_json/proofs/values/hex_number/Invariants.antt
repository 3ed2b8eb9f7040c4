use Rattle.std.proofs.Common.{◌≡◌, ◌<◌, ◌^◌, drop}
use Rattle.ffm_model.specs.Texts.{hex_after}
use Rattle.manifest_json.proofs.values.hex_number.Given as goal

abbrev pub invariant-loop-digit : goal.invariant-loop-digit
invariant-loop-digit l = record {
  small : l.number < 16 ^ l.digit-index;
  rest : hex_after l.number (drop l.digit-index l.digit-items) ≡ hex_after 0 l.digit-items;
}
