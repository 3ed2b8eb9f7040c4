use Rattle.std.proofs.Common.{◌≡◌, ◌==◌, ◌&&◌, arith}
use Rattle.std.specs.Prelude.{position, Some}
use Rattle.ffm_model.specs.declared.system.Source.{Source}
use Rattle.ffm_model.proofs.SourceLemmas.{place_below}
use Rattle.machine_rules.proofs.signals.source_of_signal.Goals as goal

pub overflow_cast-result : goal.overflow_cast-result
overflow_cast-result c =
    let is : position (λ (v : Source). (v.owner == c.args.partition) && (v.signal == c.args.signal)) c.args.system.now.sources ≡ Some c.in-Some.place = cc in
    omega (arith, place_below c.args.system.now _ c.in-Some.place is)
