use Rattle.std.proofs.lemmas.Result.{on_ok_weaker}
use Rattle.view_places.specs.StateText.{actor_lines}
use Rattle.view_places.proofs.Appended.{step}
use Rattle.view_places.proofs.state.put_actors.Goals as goal

pub returns : goal.returns
unfolding actor_lines
returns c = on_ok_weaker c.put_actor_lines.result (λ e. step _ _ _ _ _ c.in_ok-append.ensures e) c.put_actor_lines.ensures
