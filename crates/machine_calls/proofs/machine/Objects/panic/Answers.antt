use Rattle.std.proofs.lemmas.List.Elements.{All-filter, All-same}
use Rattle.machine_rules.specs.Vectors.{AreWithin}
use Rattle.machine_calls.proofs.Fitting.{still_fit}
use Rattle.machine_calls.proofs.machine.Objects.panic.Goals as goal

pub returns-in_err-send_disconnections-clause-fits : goal.returns-in_err-send_disconnections-clause-fits
returns-in_err-send_disconnections-clause-fits c = λ regions fit.
    c.send_disconnections.ensures.fits regions
    (All-same (λ m. AreWithin regions m.vectors) _ _ c.drop_messages.ensures (All-filter _ (λ m. AreWithin regions m.vectors) _ (still_fit regions c.args.self.now c.set_phase.new.self c.set_phase.ensures.messages fit)))

pub returns-clause-fits : goal.returns-clause-fits
returns-clause-fits c = λ regions fit.
    c.send_disconnections.ensures.fits regions
    (All-same (λ m. AreWithin regions m.vectors) _ _ c.drop_messages.ensures (All-filter _ (λ m. AreWithin regions m.vectors) _ (still_fit regions c.args.self.now c.set_phase.new.self c.set_phase.ensures.messages fit)))
