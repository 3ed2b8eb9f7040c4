use Rattle.std.proofs.Common.{◌≡◌, ◌++◌, map, drop}
use Rattle.std.specs.List.{enumerate_from}
use Rattle.ffm_model.specs.Rules.{client_title}
use Rattle.manifest_compile.specs.Names.{title_seen}
use Rattle.manifest_compile.proofs.names.add_clients.Given as goal

-- the names so far, and then those of the other clients
abbrev pub invariant-loop-k : goal.invariant-loop-k
invariant-loop-k l = map title_seen l.found.items ++ map client_title (enumerate_from l.k (drop l.k l.clients)) ≡ map title_seen l.initial.found.items ++ map client_title (enumerate_from 0 l.clients)
