use Rattle.std.proofs.Common.{take}
use Rattle.manifest_compile.specs.Pairs.{HasNames}
use Rattle.manifest_compile.proofs.pairs.set_of.Given as goal

-- the set has the names so far
abbrev pub invariant-loop-name : goal.invariant-loop-name
invariant-loop-name l = HasNames l.set (take l.name-index l.names)
