use Rattle.std.proofs.Common.{ℕ, ◌≡◌, ◌<◌, Bool, List, [], ◌∷◌, ◌++◌, get_or, length, arith, ap, ◌∙◌}
use Rattle.std.specs.Prelude.{Option, nat_lt, option_map}
use Rattle.std.proofs.lemmas.List.{get_or_default}
use Rattle.ffm_model.specs.Contexts.{Contexts, picked_context}
use Rattle.ffm_model.specs.ScriptRuns.{Point, start}
use Rattle.view_scripts.specs.declared.rows.NumberedContext.{NumberedContext}
use Rattle.view_scripts.specs.declared.rows.ScriptRow.{ScriptRow}
use Rattle.view_scripts.specs.ScriptLines.{lines_at}
use Rattle.view_scripts.specs.Rows.{context_row, numbered_context, part_told}
use Rattle.view_scripts.proofs.Appended.{next-row}
use Rattle.view_scripts.proofs.rows.push_contexts.Goals as goal

pub loop-k-preserved : goal.loop-k-preserved
unfolding context_row
loop-k-preserved c =
    let s = c.args.system.now in
    let a : ℕ = c.args.actor in
    let parts = c.args.parts.now in
    let x : Contexts = c.args.contexts.now in
    let k : ℕ = c.loop-k.k in
    let part = c.index-parts-k.result in
    let several : Bool = nat_lt 1 (length parts) in
    let there : k < length x.points = omega (arith, c.loop-k-test.true, c.requires.contexts.points_are) in
    let inside : c.contexts.inside.points.items ≡ x.points = ap (λ (z : Contexts). z.points) c.contexts.view_is in
    let point : c.index.result.now ≡ get_or x.points k start = c.index.ensures ∙ ap (λ (l : List Point). get_or l k c.index.result.now) inside ∙ get_or_default x.points k _ start there in
    let made : Option NumberedContext → Option (List (List ℕ)) → Point → ScriptRow = λ o l p. record { actor = a; context = o; told = part_told l part p } in
    let o : Option NumberedContext = c.numbered_context-context.result in
    let l : Option (List (List ℕ)) = option_map (λ t. t.now) c.lines_at-texts.result in
    let p : Point = c.index.result.now in
    let to_o : Option NumberedContext = numbered_context several (picked_context parts x) k in
    let to_l : Option (List (List ℕ)) = lines_at s c.args.scenario.now a k in
    let numbered : o ≡ to_o = c.numbered_context-context.ensures ∙ ap (λ (q : Option ℕ). numbered_context several q k) c.contexts_caller-caller.ensures.caller in
    let row : made o l p ≡ context_row s c.args.scenario.now a parts x (k, part) =
    ap (λ (z : Option NumberedContext). made z l p) numbered ∙ ap (λ (z : Option (List (List ℕ))). made to_o z p) c.lines_at-texts.ensures.lines ∙ ap (λ (z : Point). made to_o to_l z) point in
    let told : (record { actor = a; context = o; told = c.in_ok-told.told }) ≡ made o l p = ap (λ z. record { actor = a; context = o; told = z }) c.in_ok-told.ensures in
    next-row (context_row s c.args.scenario.now a parts x) parts k part c.loop-k.rows.items _ _ c.loop-k-test.true c.index-parts-k.is
    (c.in_ok-push.ensures.items ∙ ap (λ z. c.loop-k.rows.items ++ z ∷ []) (told ∙ row)) c.loop-k.invariant
