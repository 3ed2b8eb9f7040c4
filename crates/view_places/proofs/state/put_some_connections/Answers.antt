use Rattle.std.proofs.lemmas.Result.{on_ok_weaker}
use Rattle.view_places.specs.StateText.{some_connections}
use Rattle.view_places.proofs.Appended.{step}
use Rattle.view_places.proofs.state.put_some_connections.Goals as goal

pub returns : goal.returns
unfolding some_connections
returns c = on_ok_weaker c.put_connection_lines.result (λ e. step _ _ _ _ _ c.in_ok-append.ensures e) c.put_connection_lines.ensures
