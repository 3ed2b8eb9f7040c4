use Rattle.std.proofs.Common.{ℕ, ◌≡◌, ◌≢◌, List, get_or, sym, ◌∙◌, subst, arith, inl, inr}
use Rattle.ffm_model.specs.Contexts.{script_of}
use Rattle.ffm_model.specs.ScriptRuns.{start}
use Rattle.partition_sim.specs.declared.context.Context.{Context}
use Rattle.partition_sim.specs.Clients.{AtCall, Reaches, first_context}
use Rattle.partition_sim.proofs.ContextLemmas.{below-or-at}
use Rattle.partition_sim.proofs.client.settle_all.Goals as goal

pub loop-k-preserved : goal.loop-k-preserved
loop-k-preserved c =
    let k : ℕ = c.loop-k.k in
    let parts = c.args.parts.now in
    let new : List Context = c.settle_at.new.contexts in
    let apart : (j : ℕ) → j ≢ k → get_or new j first_context ≡ get_or c.loop-k.contexts j first_context = c.settle_at.ensures.others in
    record {
      at = λ ps each j low. elim (below-or-at j k low) [
        | inl same ↦ (
            let reaches : Reaches (script_of parts k) (get_or ps k start) (get_or c.loop-k.contexts k first_context) =
            subst (λ (x : Context). Reaches (script_of parts k) (get_or ps k start) x) (sym (c.loop-k.invariant.others k (omega arith))) (each k c.loop-k-test.true) in
            subst (λ (i : ℕ). AtCall (script_of parts i) (get_or ps i start) (get_or new i first_context)) (sym same) (c.settle_at.ensures.at (get_or ps k start) reaches))
        | inr below ↦ (
            let ne : j ≢ k = omega arith in
            subst (λ (x : Context). AtCall (script_of parts j) (get_or ps j start) x) (sym (apart j ne)) (c.loop-k.invariant.at ps each j below))
      ];
      others = λ j from. let ne : j ≢ k = omega arith in apart j ne ∙ c.loop-k.invariant.others j (omega arith);
    }
