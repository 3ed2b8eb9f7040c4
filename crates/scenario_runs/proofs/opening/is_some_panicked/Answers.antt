use Rattle.std.proofs.Common.{◌∙◌, ◌≡◌, ◌<◌, ap, arith, below_more, length, subst, sym, ℕ}
use Rattle.ffm_model.specs.Actors.{counts_of}
use Rattle.spm_core.specs.Manager.{state_of}
use Rattle.scenario_runs.proofs.Panics.{none_panicked, one_panicked}
use Rattle.scenario_runs.proofs.opening.is_some_panicked.Goals as goal

pub loop-partition-preserved : goal.loop-partition-preserved
loop-partition-preserved c = below_more _ _ c.loop-partition.invariant (sym c.is_panicked.ensures ∙ c.if-is_panicked.false)

pub returns-then-is_panicked : goal.returns-then-is_panicked
returns-then-is_panicked c =
    let s = c.args.ended.now.opening.system in
    let count : c.counts-2.inside.partitions ≡ length s.partitions = ap (λ x. x.partitions) (c.counts-2.view_is ∙ c.counts.ensures ∙ ap counts_of c.system.ensures) in
    sym (one_panicked s (state_of c.args.ended.now) c.loop-partition.partition (subst (λ (n : ℕ). c.loop-partition.partition < n) count c.loop-partition-test.true) (sym c.is_panicked.ensures ∙ c.if-is_panicked.true))

pub returns : goal.returns
returns c =
    let s = c.args.ended.now.opening.system in
    let count : c.counts-2.inside.partitions ≡ length s.partitions = ap (λ x. x.partitions) (c.counts-2.view_is ∙ c.counts.ensures ∙ ap counts_of c.system.ensures) in
    sym (none_panicked s (state_of c.args.ended.now) (λ p lt. c.loop-partition.invariant p (omega (arith, count, c.loop-partition-test.false, lt))))
