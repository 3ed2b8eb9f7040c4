use Rattle.std.proofs.Common.{◌≡◌, true, arith}
use Rattle.ffm_model.specs.Texts.{is_name}
use Rattle.manifest_json.proofs.Signals.{is_signal_name}
use Rattle.manifest_json.proofs.values.SignalReaderReader.read.Goals as goal

pub returns-clause-kept : goal.returns-clause-kept
returns-clause-kept c =
    let name : is_name c.in-Some.text.now ≡ true = grind arith in
    rw (c.of.ensures, c.in_ok-format.ensures.ok) (is_signal_name c.in-Some.text.now name (omega arith))
