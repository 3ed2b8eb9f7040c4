-- Workers for all passes of a system, before and after they are driven.
use Rattle.std.proofs.Common.{◌≡◌, ◌∙◌, ℕ, zero, suc, List, [], ◌∷◌, ◌++◌, append_assoc, length, map, slice_get, Some, refl, sym, ap, subst}
use Rattle.std.proofs.lemmas.List.{length-map, map-append}
use Rattle.std.proofs.lemmas.List.Elements.{All-head, All-tail, All-nil, All-cons}
use Rattle.std.specs.List.{All}
use Rattle.ffm_model.specs.Records.{entries_of}
use Rattle.partition_sim.specs.declared.workers.Worker.{Worker}
use Rattle.partition_sim.specs.Workers.{IsFresh, IsFinished, actors_of}
use Rattle.spm_lock.specs.Histories.{actors}
use Rattle.spm_lock.specs.Passes.{SharedView, PassView, IsOwn, IsDone, FirstPasses, ArePasses, AreNew, record_of}
use Rattle.test_threads.specs.Workers.{IsUnstarted, passes_in}

-- ---- made one by one

-- one more, for the next pass
pub passes_more : (ws : List (Worker PassView)) (w : Worker PassView) (p : PassView) (rest later ps : List PassView) → passes_in ws ++ rest ≡ ps → rest ≡ p ∷ later → w.pass ≡ p → passes_in (ws ++ w ∷ []) ++ later ≡ ps
passes_more ws w p rest later ps so_far next is =
    ap (λ (t : List PassView). t ++ later) (map-append (λ v. v.pass) ws (w ∷ []))
    ∙ (append_assoc (passes_in ws) (w.pass ∷ []) later ∙ (ap (λ (q : PassView). passes_in ws ++ q ∷ later) is ∙ (ap (λ (t : List PassView). passes_in ws ++ t) (sym next) ∙ so_far)))

-- ---- before they are driven

fresh_each : (s : SharedView) (ws : List (Worker PassView)) → ((k : ℕ) (p : PassView) → slice_get (passes_in ws) k ≡ Some p → IsOwn s p × (record_of p ≡ [])) → All IsUnstarted ws → All (IsFresh IsOwn record_of s) ws
fresh_each s [] each unstarted = All-nil (IsFresh IsOwn record_of s)
fresh_each s (w ∷ ws) each unstarted =
    let head = All-head IsUnstarted w ws unstarted in
    let mine = each 0 w.pass refl in
    All-cons (IsFresh IsOwn record_of s) w ws
    (record {
      own_is = mine.0;
      empty = mine.1;
      follows = head.follows;
      unfinished = head.unfinished;
      first = head.first;
    })
    (fresh_each s ws (λ k p at. each (suc k) p at) (All-tail IsUnstarted w ws unstarted))

pub all_fresh : (s : SharedView) (ps : List PassView) (ws : List (Worker PassView)) → ArePasses s ps → AreNew ps → passes_in ws ≡ ps → All IsUnstarted ws → All (IsFresh IsOwn record_of s) ws
all_fresh s ps ws passes new same unstarted =
    fresh_each s ws (λ k p at. let there = subst (λ (qs : List PassView). slice_get qs k ≡ Some p) same at in ((passes.each k p there).0, ap (entries_of p.actor) (new k p there).0)) unstarted

-- ---- after they were driven

-- the pass at a place is for the actor of the other pass at that place
actor_there : (ps : List PassView) (ws : List (Worker PassView)) (k : ℕ) (w : PassView) → actors_of (λ p. p.actor) ws ≡ map (λ p. p.actor) ps → slice_get (passes_in ws) k ≡ Some w → (p : PassView) × (slice_get ps k ≡ Some p) × (w.actor ≡ p.actor)
actor_there ps [] k w same at = absurd (cc)
actor_there [] (x ∷ ws) k w same at = absurd (cc)
actor_there (p ∷ ps) (x ∷ ws) zero w same at = (p, refl, cc)
actor_there (p ∷ ps) (x ∷ ws) (suc k) w same at = actor_there ps ws k w (cc) at

own_there : (s : SharedView) (ws : List (Worker PassView)) (k : ℕ) (w : PassView) → All (IsFinished IsOwn record_of IsDone s) ws → slice_get (passes_in ws) k ≡ Some w → IsOwn s w
own_there s [] k w finished at = absurd (cc)
own_there s (x ∷ ws) zero w finished at = let same : x.pass ≡ w = cc in subst (IsOwn s) same (All-head (IsFinished IsOwn record_of IsDone s) x ws finished).own_is
own_there s (x ∷ ws) (suc k) w finished at = own_there s ws k w (All-tail (IsFinished IsOwn record_of IsDone s) x ws finished) at

actors_in_passes : (ws : List (Worker PassView)) → actors_of (λ p. p.actor) ws ≡ map (λ p. p.actor) (passes_in ws)
actors_in_passes [] = refl
actors_in_passes (w ∷ ws) = ap (λ t. w.pass.actor ∷ t) (actors_in_passes ws)

pub all_back : (s : SharedView) (ps qs : List PassView) (before after : List (Worker PassView)) → ArePasses s ps → passes_in before ≡ ps → actors_of (λ p. p.actor) after ≡ actors_of (λ p. p.actor) before
    → All (IsFinished IsOwn record_of IsDone s) after → qs ≡ passes_in after → ArePasses s qs
all_back s ps qs before after passes started same finished back =
    let actors_are : actors_of (λ p. p.actor) after ≡ map (λ p. p.actor) ps = same ∙ (actors_in_passes before ∙ ap (λ (t : List PassView). map (λ p. p.actor) t) started) in
    let long : length (passes_in after) ≡ length ps = length-map after (λ w. w.pass) ∙ (sym (length-map after (λ w. w.pass.actor)) ∙ (ap length actors_are ∙ length-map ps (λ p. p.actor))) in
    subst (FirstPasses s (actors s.opening)) (sym back) (record {
      all = long ∙ passes.all;
      each = λ k w at. let there = actor_there ps after k w actors_are at in (own_there s after k w finished at, there.2 ∙ (passes.each k there.0 there.1).1);
    })
