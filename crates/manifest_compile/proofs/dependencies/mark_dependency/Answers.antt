use Rattle.manifest_compile.proofs.GraphLemmas.{some_below}
use Rattle.manifest_compile.specs.Owners.{owner_of}
use Rattle.manifest_compile.proofs.dependencies.mark_dependency.Goals as goal

pub mark-requires-clause-to : goal.mark-requires-clause-to
mark-requires-clause-to c = some_below (owner_of c.args.owners.now c.as_str.result.now) c.in-Some.owner.now c.in-Some.ensures.value (c.requires.owners c.as_str.result.now)
