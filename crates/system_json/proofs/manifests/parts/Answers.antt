use Rattle.std.proofs.Common.{ℕ, Ok, Err, []}
use Rattle.std.proofs.lemmas.Result.{err_from_is_err_and}
use Rattle.serde_json.specs.View.{view}
use Rattle.ffm_model.specs.declared.parts.Parts.{Parts}
use Rattle.ffm_model.specs.Reading.{◌>>=◌, asks_nothing}
use Rattle.ffm_model.specs.SystemAttributes.{level_of, parts_with}
use Rattle.ffm_model.specs.Systems.{behind, manifests_of, parts_of}
use Rattle.outside_io.proofs.FilesSteps.{asks_part, asks_pure, asks_stops, asks_then}
use Rattle.system_json.proofs.manifests.parts.Goals as goal

pub returns-in_err-level : goal.returns-in_err-level
unfolding parts_of
returns-in_err-level g c =
    let d = view c.args.tree.now in
    let p = err_from_is_err_and c.from_residual.result c.from_residual.ensures.1 in
    rw (p.1, p.2) (asks_stops {Z = Parts} _ _ _ (λ of. asks_nothing (behind [] (level_of d))) (λ of level. manifests_of of d >>= λ ms. asks_nothing (behind [] (parts_with level ms d)))
    (asks_pure _ (λ (n : ℕ). n) (Err c.in_err-level.field-0.0) (behind [] (level_of d)) c.in_err-level.ensures.given))

pub returns-in_err-manifests : goal.returns-in_err-manifests
unfolding parts_of
returns-in_err-manifests g c =
    let d = view c.args.tree.now in
    let p = err_from_is_err_and c.from_residual-in_err-manifests.result c.from_residual-in_err-manifests.ensures.1 in
    rw (p.1, p.2) (asks_then _ _ _ _ (λ of. asks_nothing (behind [] (level_of d))) (λ of level. manifests_of of d >>= λ ms. asks_nothing (behind [] (parts_with level ms d))) c.in_ok-level.level
    (asks_pure _ (λ (n : ℕ). n) (Ok c.in_ok-level.level) (behind [] (level_of d)) c.in_ok-level.ensures.given)
    (asks_stops {Z = Parts} _ _ _ (λ of. manifests_of of d) (λ of ms. asks_nothing (behind [] (parts_with c.in_ok-level.level ms d))) c.in_err-manifests.ensures.asks))

pub returns-in_err-parts_here : goal.returns-in_err-parts_here
unfolding parts_of
returns-in_err-parts_here g c =
    let d = view c.args.tree.now in
    let p = err_from_is_err_and c.from_residual-in_err-parts_here.result c.from_residual-in_err-parts_here.ensures.1 in
    rw (p.1, p.2) (asks_then _ _ _ _ (λ of. asks_nothing (behind [] (level_of d))) (λ of level. manifests_of of d >>= λ ms. asks_nothing (behind [] (parts_with level ms d))) c.in_ok-level.level
    (asks_pure _ (λ (n : ℕ). n) (Ok c.in_ok-level.level) (behind [] (level_of d)) c.in_ok-level.ensures.given)
    (asks_part _ _ (λ (q : Parts). q) (Err c.in_err-parts_here.field-0.0) (λ of. manifests_of of d) (λ ms. behind [] (parts_with c.in_ok-level.level ms d)) c.in_ok-manifests.manifests c.in_ok-manifests.ensures.asks c.in_err-parts_here.ensures))

pub returns : goal.returns
unfolding parts_of
returns g c =
    let d = view c.args.tree.now in
    asks_then _ _ _ _ (λ of. asks_nothing (behind [] (level_of d))) (λ of level. manifests_of of d >>= λ ms. asks_nothing (behind [] (parts_with level ms d))) c.in_ok-level.level
    (asks_pure _ (λ (n : ℕ). n) (Ok c.in_ok-level.level) (behind [] (level_of d)) c.in_ok-level.ensures.given)
    (asks_part _ _ (λ (q : Parts). q) (Ok c.in_ok-parts_here.field-0) (λ of. manifests_of of d) (λ ms. behind [] (parts_with c.in_ok-level.level ms d)) c.in_ok-manifests.manifests c.in_ok-manifests.ensures.asks c.in_ok-parts_here.ensures)
