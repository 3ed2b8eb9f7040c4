use Rattle.std.proofs.Common.{◌∙◌, ap, map, subst, List}
use Rattle.std.proofs.lemmas.List.{take_all}
use Rattle.ffm_model.specs.PartsItems.{PartsRecord, ConnectionRecord}
use Rattle.manifest_compile.specs.Budgets.{budget_by, TellsCounts}
use Rattle.manifest_compile.specs.Pairs.{pair_seen}
use Rattle.manifest_compile.proofs.BudgetLemmas.{budgets_by}
use Rattle.manifest_compile.proofs.budgets.all_budgets.Goals as goal

pub returns : goal.returns
returns c =
    let P : List ConnectionRecord → Type 0 = TellsCounts c.in_ok-counts.counts in
    c.loop-pair.invariant
    ∙ ap (λ ps. map (budget_by c.in_ok-counts.counts) (map pair_seen ps)) (take_all c.loop-pair.pair-index c.args.pairs.now c.loop-pair-test.false)
    ∙ ap (map (budget_by c.in_ok-counts.counts)) c.requires
    ∙ budgets_by c.in_ok-counts.counts c.args.parts.now (subst P (c.as_slice.ensures ∙ ap (λ (p : PartsRecord). p.connections) c.parts.view_is) c.in_ok-counts.ensures)
