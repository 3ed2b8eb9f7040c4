-- A scenario file names each actor once for each of its scripts.
use Rattle.std.proofs.Common.{ℕ, ◌≡◌, ◌<◌, ◌+◌, Bool, true, false, cond, List, [], ◌∷◌, length, map, get_or, inl, inr, refl, ap, sym, ◌∙◌, subst, arith}
use Rattle.std.specs.Prelude.{◌==◌, ◌⊎◌, count_by}
use Rattle.std.proofs.lemmas.List.FromFn.{get_or-map-range_with_len}
use Rattle.std.proofs.lemmas.List.Sums.{sum_by-cons}
use Rattle.ffm_model.specs.declared.machine.ActorId.{ActorId}
use Rattle.ffm_model.specs.declared.scenario.Bytes.{Bytes}
use Rattle.ffm_model.specs.declared.scenario.RaiseItem.{RaiseItem}
use Rattle.ffm_model.specs.declared.script_item.ScriptItem.{ScriptItem}
use Rattle.ffm_model.specs.declared.system.System.{System}
use Rattle.ffm_model.specs.Actors.{actor_count}
use Rattle.ffm_model.specs.Scenarios.{lines_by_actor, lines_for, or_empty_script, scenario_with}
use Rattle.actor_programs.specs.Programs.{IsListed}

abbrev actor_of : ScriptItem → ActorId
actor_of script = script.actor

one-more : (x : ScriptItem) (xs : List ScriptItem) (a : ℕ) (b : Bool) → (x.actor.0 == a) ≡ b → cond b 1 0 + length (lines_for xs a) ≡ length (lines_for (x ∷ xs) a)
one-more x xs a true e = let more : lines_for (x ∷ xs) a ≡ x.lines ∷ lines_for xs a = rw e refl in rw more (omega arith)
one-more x xs a false e = let same : lines_for (x ∷ xs) a ≡ lines_for xs a = rw e refl in rw same (omega arith)

named-lines : (scripts : List ScriptItem) (a : ℕ) → count_by (λ b. b.0 == a) (map actor_of scripts) ≡ length (lines_for scripts a)
named-lines [] a = refl
named-lines (x ∷ xs) a =
    sum_by-cons (λ (b : ActorId). cond (b.0 == a) 1 0) x.actor (map actor_of xs)
    ∙ (ap (λ (n : ℕ). cond (x.actor.0 == a) 1 0 + n) (named-lines xs a) ∙ one-more x xs a (x.actor.0 == a) refl)

listed-by : (times : ℕ) (own : List (List (List ℕ))) → times ≡ length own → (times ≡ length (or_empty_script own)) ⊎ ((times ≡ 0) × (or_empty_script own ≡ [] ∷ []))
listed-by times [] e = inr (e, refl)
listed-by times (x ∷ xs) e = inl e

pub listed : (s : System) (limit : ℕ) (scripts : List ScriptItem) (schedule : List ActorId) (raises : List RaiseItem) (memory : List Bytes) (restarts a : ℕ) → a < actor_count s
    → IsListed (scenario_with s limit scripts schedule raises memory restarts) a
listed s limit scripts schedule raises memory restarts a lt =
    let here : get_or (lines_by_actor (actor_count s) scripts) a [] ≡ or_empty_script (lines_for scripts a) =
    get_or-map-range_with_len (λ k. or_empty_script (lines_for scripts k)) 0 (actor_count s) a a [] lt (omega arith) in
    let times : ℕ = count_by (λ b. b.0 == a) (map actor_of scripts) in
    subst (λ (own : List (List (List ℕ))). (times ≡ length own) ⊎ ((times ≡ 0) × (own ≡ [] ∷ []))) (sym here) (listed-by times (lines_for scripts a) (named-lines scripts a))
