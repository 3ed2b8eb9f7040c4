use Rattle.std.proofs.Common.{◌≡◌, ◌∷◌, ◌∙◌, [], ap, subst, sym, true}
use Rattle.std.specs.List.{list_all}
use Rattle.ffm_model.specs.declared.system.System.{System}
use Rattle.ffm_model.specs.declared.trace.Trace.{Trace}
use Rattle.ffm_model.specs.Actors.{counts_of}
use Rattle.memory_image.specs.Pieces.{byte_at}
use Rattle.scenario_runs.specs.Restarting.{fits_counts}
use Rattle.scenario_runs.proofs.RunsLemmas.{one_fits}
use Rattle.scenario_runs.proofs.restarting.alone.Goals as goal

pub invariant_of-result : goal.invariant_of-result
invariant_of-result c =
    let y = c.args.ran.spm in
    let t : Trace = record { entries = y.history; verdict = c.args.ran.verdict } in
    let items : c.in_ok-traces.traces.items ≡ t ∷ [] = c.in_ok-traces.ensures.items ∙ ap (λ (x : Trace). x ∷ []) c.kept-system.ensures.trace in
    record { fit = subst (λ (s : System). list_all (fits_counts (counts_of s)) c.in_ok-traces.traces.items ≡ true) (sym c.kept-system.ensures.system) (one_fits y.opening.system (byte_at y.opening.memory) t _ items c.requires c.length-length.ensures.run) }
