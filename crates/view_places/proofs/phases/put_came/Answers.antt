use Rattle.std.proofs.lemmas.Result.{on_ok_weaker}
use Rattle.view_places.specs.StateText.{came_text}
use Rattle.view_places.proofs.Appended.{step}
use Rattle.view_places.proofs.phases.put_came.Goals as goal

pub returns : goal.returns
unfolding came_text
returns c = on_ok_weaker c.put_signals.result (λ e. step _ _ _ _ _ c.in_ok-append.ensures e) c.put_signals.ensures
