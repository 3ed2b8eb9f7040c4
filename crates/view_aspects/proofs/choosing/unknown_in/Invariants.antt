use Rattle.std.proofs.Common.{◌≡◌, drop, map}
use Rattle.std.specs.Prelude.{find}
use Rattle.view_aspects.specs.Diagrams.{is_unknown}
use Rattle.view_aspects.proofs.choosing.unknown_in.Given as goal

-- the others decide
abbrev pub invariant-loop-name : goal.invariant-loop-name
invariant-loop-name l = find (is_unknown l.system) (map (λ n. n.now) (drop l.name-index l.names)) ≡ find (is_unknown l.system) (map (λ n. n.now) l.names)
