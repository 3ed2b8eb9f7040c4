use Rattle.std.proofs.Common.{ℕ, ◌≢◌, ◌<◌, false, length, get_or, ap, sym, ◌∙◌, arith, inl, inr}
use Rattle.std.specs.Prelude.{slice_set}
use Rattle.std.proofs.lemmas.List.{get_or-set_same, get_or-set_other, length-set}
use Rattle.ffm_model.specs.Contexts.{script_of}
use Rattle.ffm_model.specs.Plans.{is_stop}
use Rattle.ffm_model.specs.ScriptRuns.{start}
use Rattle.partition_sim.specs.Clients.{call_from}
use Rattle.partition_sim.proofs.ContextLemmas.{below-or-at}
use Rattle.partition_sim.proofs.client.ended_contexts.Goals as goal

pub loop-k-preserved : goal.loop-k-preserved
loop-k-preserved c =
    let k : ℕ = c.loop-k.k in
    let inside : k < length c.loop-k.ended = omega (arith, c.loop-k.invariant.long) in
    record {
      long = length-set c.loop-k.ended k c.is_stop.result ∙ c.loop-k.invariant.long;
      ended = λ ps a j low. elim (below-or-at j k low) [
        | inl same ↦ ap (λ (i : ℕ). get_or (slice_set c.loop-k.ended k c.is_stop.result) i false) same
            ∙ (get_or-set_same c.loop-k.ended k c.is_stop.result false inside ∙ (c.is_stop.ensures ∙ (ap is_stop (c.call_of.ensures _ _ (a k c.loop-k-test.true))
            ∙ ap (λ (i : ℕ). is_stop (call_from (script_of c.args.parts.now i) (get_or ps i start))) (sym same))))
        | inr below ↦ let ne : j ≢ k = omega arith in get_or-set_other c.loop-k.ended k j c.is_stop.result false ne ∙ c.loop-k.invariant.ended ps a j below
      ];
    }
