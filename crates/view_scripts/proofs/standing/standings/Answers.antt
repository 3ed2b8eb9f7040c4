use Rattle.std.proofs.Common.{ℕ, ◌≡◌, ◌+◌, List, [], get_or, length, ap, subst, sym, ◌∙◌}
use Rattle.std.proofs.lemmas.List.{get_or_default, length_push}
use Rattle.script_points.specs.Points.{Parts}
use Rattle.view_scripts.specs.declared.standing.Standing.{Standing}
use Rattle.view_scripts.specs.Standings.{IsStanding, no_standing}
use Rattle.view_scripts.proofs.Appended.{pushed}
use Rattle.view_scripts.proofs.standing.standings.Goals as goal

pub loop-actor-preserved : goal.loop-actor-preserved
loop-actor-preserved c =
    let n : ℕ = c.loop-actor.actor in
    let old : List Standing = c.loop-actor.standings.items in
    let one : Standing = c.in_ok-standing.standing in
    let Is : ℕ → Standing → Type 0 = λ a x. IsStanding c.args.system.now a (get_or c.args.scripts.now a []) c.args.entries.now x in
    let script : c.index-scripts-actor.result ≡ get_or c.args.scripts.now n [] = c.index-scripts-actor.is ∙ get_or_default c.args.scripts.now n _ [] c.loop-actor-test.true in
    let here : Is n one = subst (λ (parts : Parts). IsStanding c.args.system.now n parts c.args.entries.now one) script c.in_ok-standing.ensures in
    record {
      long = ap length c.in_ok-push.ensures.items ∙ length_push old one ∙ ap (λ (k : ℕ). k + 1) c.loop-actor.invariant.long;
      each = λ a low. subst (λ (l : List Standing). Is a (get_or l a no_standing)) (sym c.in_ok-push.ensures.items) (pushed Is old one no_standing n c.loop-actor.invariant.long c.loop-actor.invariant.each here a low);
    }
