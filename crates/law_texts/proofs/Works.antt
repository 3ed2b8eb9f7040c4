-- Words and files call for one text, but for a run with threads.
use Rattle.std.proofs.Common.{ℕ, ◌≡◌, Bool, true, false, List, refl, sym, subst, ◌∙◌}
use Rattle.std.specs.Prelude.{Option, Some, None, Result, Ok, Err}
use Rattle.ffm_model.specs.declared.system.System.{System}
use Rattle.ffm_model.specs.Reading.{Contents, Reading, Stop, refused, missing, asks_nothing, file_at, go_on}
use Rattle.actor_programs.specs.Programs.{programs_of}
use Rattle.command_words.specs.declared.words.Inspection.{Inspection}
use Rattle.command_words.specs.Words.{Order, asks_threads, compile, has_threads, judge, make, order_of, run}
use Rattle.work_orders.specs.Work.{Work, judge_at, judge_in, judge_of, list_in, listing_of, make_of, run_at, run_in, run_of, scenario_at, scenario_for, system_at, trace_in, trace_place, work_of}
use Rattle.work_orders.specs.declared.limits.TheConstants.{MAX_TRACE_BYTES}
use Rattle.ffm_top.specs.Due.{DueBy, OrderDue, WorkDue}
use Rattle.ffm_top.specs.Runs.{RunDue}
use Rattle.law_texts.specs.SingleText.{HasOneText}
use Rattle.law_texts.proofs.Texts.{Same, listing-one, made-text-one, ok-same, run-one, trace-one}

-- no run with threads
abbrev Unthreaded : Work → Type 0
Unthreaded (run_of threads s c programs) = threads ≡ false
Unthreaded _ = Unit {0}

work-one : (w : Work) (t u : List ℕ) (a b : ℕ) → Unthreaded w → WorkDue w t a → WorkDue w u b → Same t u a b
work-one (listing_of s) t u a b is g h = listing-one s t u a b g h
work-one (run_of threads s c programs) t u a b is g h =
    run-one s c programs t u a b (subst (λ (x : Bool). RunDue s c programs x t a) is g) (subst (λ (x : Bool). RunDue s c programs x u b) is h)
work-one (judge_of how s c bytes) t u a b is g h = trace-one how s c bytes t u a b g h
work-one (make_of rounds) t u a b is g h = made-text-one rounds t u a b g h

-- what a reading gives has no threads
abbrev Gives : {A : Type 0} → (A → Type 0) → Reading A → Type 0
Gives {A} P r = (x : A) → r.gives ≡ Ok x → P x

gives-one : (P : Work → Type 0) (w : Work) → P w → Gives P (asks_nothing (Ok w))
gives-one P w p x e = subst P (ok-same (asks_nothing (Ok w)).gives w x refl e) p

err-ok : {A E : Type 0} (e : E) (x : A) → Err e ≡ Ok x → ⊥
err-ok e x h = cc

gives-on : {A : Type 0} (P : Work → Type 0) (r : Reading A) (f : A → Reading Work) → ((x : A) → Gives P (f x)) → Gives P (go_on r.names r.gives f)
gives-on {A} P r f each =
    let go : (o : Result A Stop) (w : Work) → (go_on r.names o f).gives ≡ Ok w → P w = elim [
      | Ok x ↦ λ w e. each x w e
      | Err x ↦ λ w e. absurd (err-ok x w e)
    ] in
    go r.gives

list-plain : (of : Contents) (system : List ℕ) → Gives Unthreaded (list_in of system)
unfolding list_in
list-plain of system = gives-on Unthreaded (system_at of system) _ (λ s. gives-one Unthreaded (listing_of s) tt)

run-in-plain : (of : Contents) (s : System) (scenario : List ℕ) → Gives Unthreaded (run_in of false s scenario)
unfolding run_in
run-in-plain of s scenario =
    gives-on Unthreaded (scenario_at of s scenario) _
    (λ c. gives-on Unthreaded (asks_nothing (programs_of s c)) _
    (λ programs work is. gives-one Unthreaded (run_of false s c programs) refl work is))

run-plain : (of : Contents) (system scenario : List ℕ) → Gives Unthreaded (run_at of false system scenario)
unfolding run_at
run-plain of system scenario = gives-on Unthreaded (system_at of system) _ (λ s. run-in-plain of s scenario)

judge-in-plain : (of : Contents) (how : Inspection) (s : System) (scenario trace : List ℕ) → Gives Unthreaded (judge_in of how s scenario trace)
unfolding judge_in trace_in
judge-in-plain of how s scenario trace =
    gives-on Unthreaded (scenario_at of s scenario) _
    (λ c. gives-on Unthreaded (asks_nothing (programs_of s c)) _
    (λ programs. gives-on Unthreaded (asks_nothing (scenario_for true c)) _
    (λ single. gives-on Unthreaded (file_at of trace_place MAX_TRACE_BYTES trace) _
    (λ bytes. gives-one Unthreaded (judge_of how s single bytes) tt))))

judge-plain : (of : Contents) (how : Inspection) (system scenario trace : List ℕ) → Gives Unthreaded (judge_at of how system scenario trace)
unfolding judge_at
judge-plain of how system scenario trace = gives-on Unthreaded (system_at of system) _ (λ s. judge-in-plain of how s scenario trace)

order-plain : (of : Contents) (order : Order) → has_threads order ≡ false → Gives Unthreaded (work_of of order)
order-plain of (compile system) e = list-plain of system
order-plain of (run threads system scenario) e = subst (λ (x : Bool). Gives Unthreaded (run_at of x system scenario)) (sym e) (run-plain of system scenario)
order-plain of (judge how system scenario trace) e = judge-plain of how system scenario trace
order-plain of (make rounds) e = gives-one Unthreaded (make_of rounds) tt

due-one : (r : Result Work Stop) (t u : List ℕ) (a b : ℕ) → ((w : Work) → r ≡ Ok w → Unthreaded w) → DueBy r t a → DueBy r u b → Same t u a b
due-one (Ok w) t u a b plain g h = work-one w t u a b (plain w refl) g h
due-one (Err (refused r)) t u a b plain g h = (g.0 ∙ sym h.0, g.1 ∙ sym h.1)
due-one (Err missing) t u a b plain g h = absurd g

order-one : (of : Contents) (order : Option Order) (t u : List ℕ) (a b : ℕ) → asks_threads order ≡ false → OrderDue order of t a → OrderDue order of u b → Same t u a b
order-one of None t u a b e g h = (g.0 ∙ sym h.0, g.1 ∙ sym h.1)
order-one of (Some order) t u a b e g h = due-one (work_of of order).gives t u a b (order-plain of order e) g h

pub one_text : (words : List (List ℕ)) (of : Contents) → asks_threads (order_of words) ≡ false → HasOneText words of
one_text words of e t u a b g h = order-one of (order_of words) t u a b e g h
