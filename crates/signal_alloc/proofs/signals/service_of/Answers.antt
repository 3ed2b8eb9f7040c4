use Rattle.std.proofs.Common.{ap, sym, ◌∙◌}
use Rattle.std.specs.Prelude.{Some}
use Rattle.signal_alloc.proofs.SignalLemmas.{same_place}
use Rattle.signal_alloc.proofs.signals.service_of.Goals as goal

pub returns-then-signal_of-signal-clause-round_trip : goal.returns-then-signal_of-signal-clause-round_trip
returns-then-signal_of-signal-clause-round_trip c = λ place low is.
    ap Some (same_place c.loop-place.place place (sym c.signal_of.ensures ∙ c.if-signal_of-signal.true ∙ is))
