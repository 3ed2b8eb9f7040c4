-- The traces of runs, one after the other, and what is known of each of their entries.
use Rattle.std.proofs.Common.{ℕ, suc, true, ◌≡◌, ◌<◌, ◌≤◌, ◌+◌, ◌^◌, List, [], ◌∷◌, ◌++◌, length, map, take, drop, drop-cons, get_or, append_assoc, ap, ◌∙◌, subst, sym, arith}
use Rattle.std.specs.List.{list_all}
use Rattle.std.specs.Fmt.{decimal}
use Rattle.std.proofs.lemmas.Fmt.{length-decimal-le}
use Rattle.std.proofs.lemmas.List.{append-nil, length-map, length-take-le, map-append, take_more, take-append-drop}
use Rattle.std.proofs.lemmas.Bool.{and_parts, leb-true, ltb-true}
use Rattle.ffm_model.specs.declared.machine.Entry.{Entry}
use Rattle.ffm_model.specs.declared.trace.Trace.{Trace}
use Rattle.ffm_model.specs.Counts.{ActorCounts}
use Rattle.ffm_model.specs.Restarts.{FinishedRun}
use Rattle.ffm_model.specs.TraceText.{IsActorOf}
use Rattle.ffm_model.proofs.TestLemmas.{holds_at}
use Rattle.outside_io.specs.Sink.{SinkSeen, Took, TookPart}
use Rattle.outside_io.proofs.SinkSteps.{took_part_first, took_part_then, took_then}
use Rattle.scenario_runs.specs.Restarting.{finished, fits_counts}
use Rattle.ffm_top.specs.Runs.{run_text, runs_text}

runs_text-append : (counts : ActorCounts) (k : ℕ) (xs ys : List FinishedRun) → runs_text counts k (xs ++ ys) ≡ runs_text counts k xs ++ runs_text counts (k + length xs) ys
runs_text-append counts k [] ys = ap (λ (n : ℕ). runs_text counts n ys) (omega arith)
runs_text-append counts k (x ∷ xs) ys =
    let same : (k + 1) + length xs ≡ k + length (x ∷ xs) = omega arith in
    ap (λ (t : List ℕ). run_text counts k x ++ t) (runs_text-append counts (k + 1) xs ys ∙ ap (λ (n : ℕ). runs_text counts (k + 1) xs ++ runs_text counts n ys) same)
    ∙ sym (append_assoc (run_text counts k x) (runs_text counts (k + 1) xs) (runs_text counts (k + length (x ∷ xs)) ys))

first_count : (ts : List Trace) (i : ℕ) → i ≤ length ts → length (map finished (take i ts)) ≡ i
first_count ts i le = length-map (take i ts) finished ∙ length-take-le i ts le

-- one run more
pub run_more : (counts : ActorCounts) (ts : List Trace) (i : ℕ) (d : Trace) (a b c : SinkSeen) → i < length ts
    → Took a b (runs_text counts 0 (map finished (take i ts))) → Took b c (run_text counts i (finished (get_or ts i d))) → Took a c (runs_text counts 0 (map finished (take (i + 1) ts)))
run_more counts ts i d a b c lt p q =
    let x : FinishedRun = finished (get_or ts i d) in
    let front : List FinishedRun = map finished (take i ts) in
    let le : i ≤ length ts = omega arith in
    let there : 0 + length front ≡ i = omega (arith, first_count ts i le) in
    let more : runs_text counts 0 (map finished (take (i + 1) ts)) ≡ runs_text counts 0 front ++ run_text counts i x =
    ap (λ (xs : List Trace). runs_text counts 0 (map finished xs)) (take_more ts i d lt)
    ∙ ap (runs_text counts 0) (map-append finished (take i ts) (get_or ts i d ∷ []))
    ∙ runs_text-append counts 0 front (x ∷ [])
    ∙ ap (λ (n : ℕ). runs_text counts 0 front ++ (run_text counts n x ++ [])) there
    ∙ ap (λ (t : List ℕ). runs_text counts 0 front ++ t) (append-nil (run_text counts i x)) in
    subst (λ (t : List ℕ). Took a c t) (sym more) (took_then a b c _ _ p q)

-- a text that ends inside a run's
pub run_cut : (counts : ActorCounts) (ts : List Trace) (i : ℕ) (d : Trace) (a b c : SinkSeen) → i < length ts
    → Took a b (runs_text counts 0 (map finished (take i ts))) → TookPart b c (run_text counts i (finished (get_or ts i d))) → TookPart a c (runs_text counts 0 (map finished ts))
run_cut counts ts i d a b c lt p q =
    let x : FinishedRun = finished (get_or ts i d) in
    let front : List FinishedRun = map finished (take i ts) in
    let back : List FinishedRun = map finished (drop (suc i) ts) in
    let le : i ≤ length ts = omega arith in
    let there : 0 + length front ≡ i = omega (arith, first_count ts i le) in
    let whole : runs_text counts 0 front ++ (run_text counts i x ++ runs_text counts (i + 1) back) ≡ runs_text counts 0 (map finished ts) =
    ap (λ (n : ℕ). runs_text counts 0 front ++ runs_text counts n (x ∷ back)) (sym there)
    ∙ sym (runs_text-append counts 0 front (x ∷ back))
    ∙ ap (λ (xs : List Trace). runs_text counts 0 (front ++ map finished xs)) (sym (drop-cons ts i d lt))
    ∙ ap (runs_text counts 0) (sym (map-append finished (take i ts) (drop i ts)))
    ∙ ap (λ (xs : List Trace). runs_text counts 0 (map finished xs)) (take-append-drop i ts) in
    subst (λ (t : List ℕ). TookPart a c t) whole (took_part_then a b c (runs_text counts 0 front) _ p (took_part_first b c (run_text counts i x) _ q))

-- ---- entries

-- each entry is an actor's
pub actor_at : (counts : ActorCounts) (t : Trace) (i : ℕ) (d : Entry) → i < length t.entries → fits_counts counts t ≡ true → IsActorOf counts (get_or t.entries i d).actor.0
actor_at counts t i d lt fits = ltb-true _ _ (holds_at _ t.entries i d lt (and_parts _ _ fits).1)

-- and they are few
pub few_entries : (counts : ActorCounts) (t : Trace) → fits_counts counts t ≡ true → length t.entries ≤ 262144
few_entries counts t fits = leb-true _ _ (and_parts _ _ fits).0

-- a number of 64 bits has at most twenty digits
pub count_length : (n : ℕ) → n < 2 ^ 64 → length (decimal n) ≤ 20
count_length n small = length-decimal-le 20 n (omega arith) (omega arith) small

-- a run at a place has few entries, each an actor's
pub trace_at : (counts : ActorCounts) (ts : List Trace) (i : ℕ) (d : Trace) → i < length ts → list_all (fits_counts counts) ts ≡ true → fits_counts counts (get_or ts i d) ≡ true
trace_at counts ts i d lt fits = holds_at (fits_counts counts) ts i d lt fits
