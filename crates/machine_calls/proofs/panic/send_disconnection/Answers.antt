use Rattle.std.proofs.Common.{sym, subst}
use Rattle.std.proofs.lemmas.List.Elements.{All-push, All-same}
use Rattle.ffm_model.specs.declared.objects.Vectors.{Vectors}
use Rattle.machine_rules.specs.Vectors.{AreWithin}
use Rattle.machine_rules.proofs.Fitting.{none_within}
use Rattle.machine_calls.proofs.panic.send_disconnection.Goals as goal

pub returns-in_ok-push-clause-fits : goal.returns-in_ok-push-clause-fits
returns-in_ok-push-clause-fits c = λ regions fit.
    All-same (λ m. AreWithin regions m.vectors) _ _ c.in_ok-push.ensures.items
    (All-push (λ m. AreWithin regions m.vectors) _ _ fit (subst (λ (v : Vectors). AreWithin regions v) (sym c.in-Some.ensures.empty) (none_within regions)))
