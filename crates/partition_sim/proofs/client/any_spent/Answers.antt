use Rattle.std.proofs.Common.{ℕ, get_or, sym, ap, ◌∙◌, arith, inl, inr}
use Rattle.ffm_model.specs.Contexts.{is_spent, script_of}
use Rattle.ffm_model.specs.ScriptRuns.{start}
use Rattle.partition_sim.specs.Clients.{call_from}
use Rattle.partition_sim.proofs.ContextLemmas.{below-or-at, spent-at, none-spent}
use Rattle.partition_sim.proofs.client.any_spent.Goals as goal

pub loop-k-preserved : goal.loop-k-preserved
loop-k-preserved c = λ ps a j low. elim (below-or-at j c.loop-k.k low) [
  | inl same ↦ ap (λ (i : ℕ). is_spent (call_from (script_of c.args.parts.now i) (get_or ps i start))) same
      ∙ (ap is_spent (sym (c.call_of.ensures _ _ (a c.loop-k.k c.loop-k-test.true))) ∙ (sym c.is_spent.ensures ∙ c.if-is_spent.false))
  | inr below ↦ c.loop-k.invariant ps a j below
]

pub returns-then-is_spent : goal.returns-then-is_spent
returns-then-is_spent c = λ ps long a.
    sym (spent-at c.args.parts.now ps c.loop-k.k c.call_of.result long c.loop-k-test.true (c.call_of.ensures _ _ (a c.loop-k.k c.loop-k-test.true)) (sym c.is_spent.ensures ∙ c.if-is_spent.true))

pub returns : goal.returns
returns c = λ ps long a. sym (none-spent c.args.parts.now ps long (λ k low. c.loop-k.invariant ps a k (omega arith)))
