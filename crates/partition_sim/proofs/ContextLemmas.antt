-- Contexts side by side: their next calls, and which of them calls.
use Rattle.std.proofs.Common.{ℕ, zero, suc, ◌+◌, ◌<◌, ◌≡◌, ◌≢◌, ◌==◌, Bool, true, false, List, [], ◌∷◌, length, get_or, refl, ap, sym, ◌∙◌, subst, arith, inl, inr}
use Rattle.std.specs.Prelude.{Some, if◌then◌else◌, slice_set, map, ◌||◌, ◌⊎◌}
use Rattle.std.specs.List.{list_any}
use Rattle.std.proofs.lemmas.Bool.{cases_eq, or_right}
use Rattle.std.proofs.lemmas.List.{get_or-set_same, get_or-set_other}
use Rattle.std.proofs.lemmas.List.Folds.{list_any_none}
use Rattle.ffm_model.specs.declared.machine.Call.{Call}
use Rattle.ffm_model.specs.declared.machine.Call.TheVariants as call
use Rattle.ffm_model.specs.declared.script.Instruction.{Instruction}
use Rattle.ffm_model.specs.ScriptRuns.{Point, start}
use Rattle.ffm_model.specs.Contexts.{Contexts, first_from, next_context, picked, picked_context, script_of, next_calls, is_spent}
use Rattle.ffm_model.specs.Plans.{is_stop}
use Rattle.partition_sim.specs.Clients.{call_from, desk_of}
use Rattle.ns_contexts.proofs.DeskLemmas.{within-by}

-- ---- places

-- a point that is put in its place
pub point-put : (P : ℕ → Point → Type 0) (ps : List Point) (k : ℕ) (p : Point) → k < length ps → P k p → (j : ℕ) → ((j ≡ k → ⊥) → P j (get_or ps j start)) → P j (get_or (slice_set ps k p) j start)
point-put P ps k p inside new j old =
    elim (cases_eq j k) [
      | inl same ↦ subst (λ (i : ℕ). P i (get_or (slice_set ps k p) i start)) (sym same) (subst (P k) (sym (get_or-set_same ps k p start inside)) new)
      | inr other ↦ let ne : j ≢ k = other in subst (P j) (sym (get_or-set_other ps k j p start ne)) (old other)
    ]

pub below-or-at : (j k : ℕ) → j < k + 1 → (j ≡ k) ⊎ (j < k)
below-or-at j k h = elim (cases_eq j k) [ inl same ↦ inl same | inr other ↦ let ne : j ≢ k = other in inr (omega arith) ]

-- ---- the next calls

pub calls-get : (scripts : List (List Instruction)) (ps : List Point) (k : ℕ) (d : Call) → length ps ≡ length scripts → k < length scripts
    → get_or (next_calls scripts ps) k d ≡ call_from (script_of scripts k) (get_or ps k start)
unfolding next_calls
calls-get [] ps k d long h = absurd (omega arith)
calls-get (s ∷ ss) [] k d long h = absurd (omega arith)
calls-get (s ∷ ss) (p ∷ ps) zero d long h = refl
calls-get (s ∷ ss) (p ∷ ps) (suc k) d long h = calls-get ss ps k d (omega arith) (omega arith)

pub calls-length : (scripts : List (List Instruction)) (ps : List Point) → length ps ≡ length scripts → length (next_calls scripts ps) ≡ length scripts
unfolding next_calls
calls-length [] ps long = refl
calls-length (s ∷ ss) [] long = absurd (omega arith)
calls-length (s ∷ ss) (p ∷ ps) long = let h = calls-length ss ps (omega arith) in omega arith

map-get : (cs : List Call) (k : ℕ) (d : Call) → k < length cs → get_or (map is_stop cs) k false ≡ is_stop (get_or cs k d)
map-get [] k d h = absurd (omega arith)
map-get (c ∷ cs) zero d h = refl
map-get (c ∷ cs) (suc k) d h = map-get cs k d (omega arith)

-- ---- flags that agree on the contexts pick the same one

agree-by : (count : ℕ) (e f : List Bool) (at n : ℕ) (b : Bool) → first_from count e (next_context count at) n ≡ first_from count f (next_context count at) n
    → (if b then first_from count e (next_context count at) n else Some at) ≡ (if b then first_from count f (next_context count at) n else Some at)
agree-by count e f at n true h = h
agree-by count e f at n false h = refl

picks-agree : (count : ℕ) (e f : List Bool) → ((k : ℕ) → k < count → get_or e k false ≡ get_or f k false) → (n at : ℕ) → at < count → first_from count e at n ≡ first_from count f at n
unfolding first_from
picks-agree count e f same zero at inside = refl
picks-agree count e f same (suc n) at inside =
    ap (λ (x : Bool). if x then first_from count e (next_context count at) n else Some at) (same at inside)
    ∙ agree-by count e f at n (get_or f at false) (picks-agree count e f same n (next_context count at) (within-by count at (at + 1 == count) refl inside))

pub picked-same : (scripts : List (List Instruction)) (x : Contexts) (ended : List Bool) → length x.points ≡ length scripts → x.turn < length scripts
    → ((k : ℕ) → k < length scripts → get_or ended k false ≡ is_stop (call_from (script_of scripts k) (get_or x.points k start)))
    → picked (desk_of scripts x) ended ≡ picked_context scripts x
picked-same scripts x ended long inside same =
    let calls : List Call = next_calls scripts x.points in
    picks-agree (length scripts) ended (map is_stop calls)
    (λ k low. same k low ∙ sym (map-get calls k (call.Stop false) (omega (arith, calls-length scripts x.points long)) ∙ ap is_stop (calls-get scripts x.points k (call.Stop false) long low)))
    (length scripts) x.turn inside

-- ---- spent lines

any-at : (cs : List Call) (k : ℕ) (d : Call) → k < length cs → is_spent (get_or cs k d) ≡ true → list_any is_spent cs ≡ true
any-at [] k d h e = absurd (omega arith)
any-at (c ∷ cs) zero d h e = ap (λ (b : Bool). b || list_any is_spent cs) e
any-at (c ∷ cs) (suc k) d h e = or_right (is_spent c) (list_any is_spent cs) (any-at cs k d (omega arith) e)

pub spent-at : (scripts : List (List Instruction)) (ps : List Point) (k : ℕ) (c : Call) → length ps ≡ length scripts → k < length scripts
    → c ≡ call_from (script_of scripts k) (get_or ps k start) → is_spent c ≡ true → list_any is_spent (next_calls scripts ps) ≡ true
spent-at scripts ps k c long low e spent =
    any-at (next_calls scripts ps) k (call.Stop false) (omega (arith, calls-length scripts ps long))
    (ap is_spent (calls-get scripts ps k (call.Stop false) long low ∙ sym e) ∙ spent)

pub none-spent : (scripts : List (List Instruction)) (ps : List Point) → length ps ≡ length scripts
    → ((k : ℕ) → k < length scripts → is_spent (call_from (script_of scripts k) (get_or ps k start)) ≡ false) → list_any is_spent (next_calls scripts ps) ≡ false
none-spent scripts ps long h =
    list_any_none is_spent (next_calls scripts ps)
    (λ k d low. let inside : k < length scripts = omega (arith, low, calls-length scripts ps long) in ap is_spent (calls-get scripts ps k d long inside) ∙ h k inside)
