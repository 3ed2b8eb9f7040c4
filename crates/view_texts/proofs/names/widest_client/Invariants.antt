use Rattle.std.proofs.Common.{◌≡◌, drop}
use Rattle.view_texts.specs.Columns.{widest}
use Rattle.view_texts.proofs.names.widest_client.Given as goal

-- the width so far, and then that of the others
abbrev pub invariant-loop-client : goal.invariant-loop-client
invariant-loop-client l = widest l.width (drop l.client-index l.clients) ≡ widest l.least l.clients
