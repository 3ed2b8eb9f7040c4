use Rattle.std.proofs.Common.{◌∙◌, sym}
use Rattle.manifest_compile.proofs.IndexLemmas.{free_here, free_past}
use Rattle.manifest_compile.proofs.indices.free_index.Goals as goal

pub returns-then-not-is_taken : goal.returns-then-not-is_taken
returns-then-not-is_taken c =
    sym (free_here c.args.taken.now c.loop-index.index c.loop-index-test.true (sym c.is_taken.ensures ∙ c.if-not-is_taken.true)) ∙ c.loop-index.invariant

pub loop-index-preserved : goal.loop-index-preserved
loop-index-preserved c =
    free_past c.args.taken.now c.loop-index.index c.loop-index-test.true (sym c.is_taken.ensures ∙ c.if-not-is_taken.false) ∙ c.loop-index.invariant
