-- Each kind of work calls for one text.
use Rattle.std.proofs.Common.{ℕ, ◌≡◌, ◌<◌, ◌+◌, Bool, true, false, true≢false, List, [], ◌∷◌, ◌++◌, inl, inr, length, arith, refl, ap, sym, subst, ◌∙◌}
use Rattle.std.specs.Prelude.{Option, Some, None, Result, Ok, Err, IsSomeAnd, nat_lt}
use Rattle.std.specs.List.{cons_option}
use Rattle.std.proofs.lemmas.Bool.Decides.{nat_tests}
use mathlib.Core.Path.{fun_ext}
use Rattle.memory_image.specs.Differences.{IsLeast, differs}
use Rattle.ffm_model.specs.declared.machine.Entry.{Entry}
use Rattle.ffm_model.specs.declared.machine.Verdict.{Verdict}
use Rattle.ffm_model.specs.declared.scenario.Scenario.{Scenario}
use Rattle.ffm_model.specs.declared.system.System.{System}
use Rattle.ffm_model.specs.Actors.{counts_of}
use Rattle.ffm_model.specs.Memory.{ByteMap, opening_memory}
use Rattle.ffm_model.specs.Reading.{Contents}
use Rattle.ffm_model.specs.Restarts.{FinishedRun}
use Rattle.ffm_model.specs.Scenarios.{scenario_in}
use Rattle.ffm_model.specs.State.{State, opening}
use Rattle.ffm_model.specs.Step.{step}
use Rattle.ffm_model.specs.Systems.{stopped}
use Rattle.ffm_model.specs.Verdicts.{Judgement, judged}
use Rattle.ffm_model.proofs.ActorLemmas.{few_clients, few_partitions}
use Rattle.actor_programs.specs.declared.program.Program.{Program}
use Rattle.actor_programs.specs.Programs.{programs_of}
use Rattle.command_words.specs.declared.words.Inspection.{Inspection}
use Rattle.command_words.specs.declared.words.Inspection.TheVariants.{Replay, Audit}
use Rattle.system_texts.specs.Texts.{system_text, scenario_text}
use Rattle.machine_check.specs.Answers.{judgement}
use Rattle.machine_check.specs.Auditing.{AreChanges, IsChangeOf, legal_entries}
use Rattle.machine_check.specs.declared.auditing.Change.{Change}
use Rattle.scenario_runs.specs.Runs.{RanBy}
use Rattle.trace_print.proofs.OneWrong.{one_first_wrong}
use Rattle.trace_print.proofs.Traces.{same_trace}
use Rattle.trace_print.proofs.WholeTrace.{never}
use Rattle.work_orders.specs.Work.{system_in}
use Rattle.judge_command.specs.Audits.{AuditedDue, audit_line, change_lines}
use Rattle.ffm_top.specs.Due.{ListingDue}
use Rattle.judge_command.specs.Due.{TraceDue}
use Rattle.text_lines.specs.Refusals.{refusal_line, wrong_line}
use Rattle.ffm_top.specs.Makes.{IsGenerated, IsMade, MadeDue, bytes_moved, summary_line}
use Rattle.judge_command.specs.Replays.{IsTextOf, JudgedDue, WrongDue, judgement_line, judgement_of, judgement_status}
use Rattle.ffm_top.specs.Runs.{RunDue, last_status, runs_text}
use Rattle.law_scenarios.proofs.Single.{one_list_of_runs, one_run}

abbrev pub Same : List ℕ → List ℕ → ℕ → ℕ → Type 0
Same text other status another = (text ≡ other) × (status ≡ another)

-- ---- listings and runs

pub listing-one : (s : System) (t u : List ℕ) (a b : ℕ) → ListingDue s t a → ListingDue s u b → Same t u a b
listing-one s t u a b g h = (g.0 ∙ sym h.0, g.1 ∙ sym h.1)

pub run-one : (s : System) (c : Scenario) (programs : List Program) (t u : List ℕ) (a b : ℕ) → RunDue s c programs false t a → RunDue s c programs false u b → Same t u a b
run-one s c programs t u a b g h =
    let same : g.runs ≡ h.runs = one_list_of_runs s c programs c.restarts g.runs h.runs g.ran h.ran in (
      g.text_is ∙ ap (λ (rs : List FinishedRun). runs_text (counts_of s) 0 rs) same ∙ sym h.text_is,
      g.status_is ∙ ap (λ (rs : List FinishedRun). last_status rs) same ∙ sym h.status_is,
    )

-- ---- judgements

read-one : (s : System) (bytes : List ℕ) (es fs : List Entry) (v w : Verdict) → IsTextOf s bytes es v → IsTextOf s bytes fs w → (es ≡ fs) × (v ≡ w)
read-one s bytes es fs v w g h = same_trace (counts_of s) (few_partitions s, few_clients s) es fs v w g.fits h.fits (sym g.text ∙ h.text)

judged-one : (s : System) (c : Scenario) (bytes t u : List ℕ) (a b : ℕ) → JudgedDue s c bytes t a → JudgedDue s c bytes u b → Same t u a b
judged-one s c bytes t u a b g h =
    let both = read-one s bytes g.entries h.entries g.ended h.ended g.read h.read in
    let text : List Entry → Verdict → List ℕ = λ es v. judgement_line (judgement_of s c es v) (length es) in
    let status : List Entry → Verdict → ℕ = λ es v. judgement_status (judgement_of s c es v) in (
      g.text_is ∙ ap (λ (es : List Entry). text es g.ended) both.0 ∙ ap (λ (v : Verdict). text h.entries v) both.1 ∙ sym h.text_is,
      g.status_is ∙ ap (λ (es : List Entry). status es g.ended) both.0 ∙ ap (λ (v : Verdict). status h.entries v) both.1 ∙ sym h.status_is,
    )

wrong-one : (s : System) (bytes t u : List ℕ) (a b : ℕ) → WrongDue s bytes t a → WrongDue s bytes u b → Same t u a b
wrong-one s bytes t u a b g h =
    let same : g.place ≡ h.place = one_first_wrong (counts_of s) g.first h.first refl in
    (g.text_is ∙ ap (λ (k : ℕ). refusal_line (wrong_line k)) same ∙ sym h.text_is, g.status_is ∙ sym h.status_is)

-- a text is a trace's, or it has a wrong line
not-both : (s : System) (bytes t : List ℕ) (a : ℕ) (es : List Entry) (v : Verdict) → IsTextOf s bytes es v → WrongDue s bytes t a → ⊥
not-both s bytes t a es v g h = never (counts_of s) bytes h.place es v h.first g.fits g.few g.text

-- ---- audits

least-one : (p : ℕ → Bool) (a b : Option ℕ) → IsLeast p a → IsLeast p b → a ≡ b
least-one p None None g h = refl
least-one p None (Some y) g h = absurd (true≢false (sym h.0 ∙ g y))
least-one p (Some x) None g h = absurd (true≢false (sym g.0 ∙ h x))
least-one p (Some x) (Some y) g h =
    let go : (d e : Bool) → nat_lt x y ≡ d → nat_lt y x ≡ e → x ≡ y = elim [
      | true ↦ λ e i j. absurd (let lt : x < y = grind (arith, nat_tests) in true≢false (sym g.0 ∙ h.1 x lt))
      | false ↦ elim [
        | true ↦ λ i j. absurd (let lt : y < x = grind (arith, nat_tests) in true≢false (sym h.0 ∙ g.1 y lt))
        | false ↦ λ i j. grind (arith, nat_tests)
      ]
    ] in
    ap (λ (z : ℕ). Some z) (go (nat_lt x y) (nat_lt y x) refl refl)

same-some : (x y : ℕ) → Some x ≡ Some y → x ≡ y
same-some x y e = cc

change-one : (s : System) (k a : ℕ) (old new : ByteMap) (c d : Option Change) → IsChangeOf s k a old new c → IsChangeOf s k a old new d → c ≡ d
change-one s k a old new None None g h = refl
change-one s k a old new None (Some d) g h = absurd (let e : None ≡ Some d.lowest = least-one (differs old new) None (Some d.lowest) g h.lowest in cc)
change-one s k a old new (Some c) None g h = absurd (let e : None ≡ Some c.lowest = least-one (differs old new) None (Some c.lowest) h g.lowest in cc)
change-one s k a old new (Some c) (Some d) g h =
    let made : ℕ → ℕ → ℕ → Option ℕ → Change = λ place lowest count outside. record { place = place; lowest = lowest; count = count; outside = outside } in
    let lowest : c.lowest ≡ d.lowest = same-some c.lowest d.lowest (least-one (differs old new) (Some c.lowest) (Some d.lowest) g.lowest h.lowest) in
    let same : c ≡ d =
    ap (λ (x : ℕ). made x c.lowest c.count c.outside) (g.place ∙ sym h.place)
    ∙ ap (λ (x : ℕ). made d.place x c.count c.outside) lowest
    ∙ ap (λ (x : ℕ). made d.place d.lowest x c.outside) (g.count ∙ sym h.count)
    ∙ ap (λ (x : Option ℕ). made d.place d.lowest d.count x) (least-one _ c.outside d.outside g.outside h.outside) in
    ap (λ (x : Change). Some x) same

changes-one : (s : System) (k : ℕ) (st : State) (es : List Entry) (cs ds : List Change) → AreChanges s k st es cs → AreChanges s k st es ds → cs ≡ ds
changes-one s k st [] cs ds g h = g ∙ sym h
changes-one s k st (e ∷ es) cs ds g h =
    let After : Option Change → List Change → State → Type 0 = λ here later new. IsChangeOf s k e.actor.0 st.memory new.memory here × AreChanges s (k + 1) new es later in
    let go : (o : Option State) → IsSomeAnd o (After g.0 g.1) → IsSomeAnd o (After h.0 h.1) → (g.0 ≡ h.0) × (g.1 ≡ h.1) = elim [
      | None ↦ λ p q. absurd p
      | Some new ↦ λ p q. (change-one s k e.actor.0 st.memory new.memory g.0 h.0 p.0 q.0, changes-one s (k + 1) new es g.1 h.1 p.1 q.1)
    ] in
    let both = go (step s st e) g.3 h.3 in
    g.2 ∙ ap (λ (x : Option Change). cons_option x g.1) both.0 ∙ ap (λ (xs : List Change). cons_option h.0 xs) both.1 ∙ sym h.2

audited-one : (s : System) (c : Scenario) (bytes t u : List ℕ) (a b : ℕ) → AuditedDue s c bytes t a → AuditedDue s c bytes u b → Same t u a b
audited-one s c bytes t u a b g h =
    let both = read-one s bytes g.entries h.entries g.ended h.ended g.read h.read in
    let result : List Entry → Verdict → Judgement = λ es v. judged s (opening_memory c.memory) c.limit es v in
    let Changed : List Entry → Verdict → Type 0 = λ es v. AreChanges s 1 (opening s (opening_memory c.memory)) (legal_entries (result es v) es) h.report.changes in
    let moved : Changed g.entries h.ended = subst (λ (es : List Entry). Changed es h.ended) (sym both.0) h.audited.changes in
    let there : Changed g.entries g.ended = subst (λ (v : Verdict). Changed g.entries v) (sym both.1) moved in
    let changes = changes-one s 1 (opening s (opening_memory c.memory)) (legal_entries (result g.entries g.ended) g.entries) g.report.changes h.report.changes g.audited.changes there in
    let results : judgement g.report.result ≡ judgement h.report.result =
    g.audited.result ∙ ap (λ (es : List Entry). result es g.ended) both.0 ∙ ap (λ (v : Verdict). result h.entries v) both.1 ∙ sym h.audited.result in
    let text : List Change → Judgement → List Entry → List ℕ = λ cs j es. change_lines cs ++ audit_line j (length es) in (
      g.text_is
          ∙ ap (λ (cs : List Change). text cs (judgement g.report.result) g.entries) changes
          ∙ ap (λ (j : Judgement). text h.report.changes j g.entries) results
          ∙ ap (λ (es : List Entry). text h.report.changes (judgement h.report.result) es) both.0
          ∙ sym h.text_is,
      g.status_is ∙ ap judgement_status results ∙ sym h.status_is,
    )

pub trace-one : (how : Inspection) (s : System) (c : Scenario) (bytes t u : List ℕ) (a b : ℕ) → TraceDue how s c bytes t a → TraceDue how s c bytes u b → Same t u a b
trace-one Replay s c bytes t u a b (inl g) (inl h) = judged-one s c bytes t u a b g h
trace-one Replay s c bytes t u a b (inl g) (inr h) = absurd (not-both s bytes u b g.entries g.ended g.read h)
trace-one Replay s c bytes t u a b (inr g) (inl h) = absurd (not-both s bytes t a h.entries h.ended h.read g)
trace-one Replay s c bytes t u a b (inr g) (inr h) = wrong-one s bytes t u a b g h
trace-one Audit s c bytes t u a b (inl g) (inl h) = audited-one s c bytes t u a b g h
trace-one Audit s c bytes t u a b (inl g) (inr h) = absurd (not-both s bytes u b g.entries g.ended g.read h)
trace-one Audit s c bytes t u a b (inr g) (inl h) = absurd (not-both s bytes t a h.entries h.ended h.read g)
trace-one Audit s c bytes t u a b (inr g) (inr h) = wrong-one s bytes t u a b g h

-- ---- summaries

abbrev ok_or : {X E : Type 0} → X → Result X E → X
ok_or d (Ok x) = x
ok_or d (Err e) = d

pub ok-same : {X E : Type 0} (r : Result X E) (x y : X) → r ≡ Ok x → r ≡ Ok y → x ≡ y
ok-same r x y p q = sym (ap (ok_or x) p) ∙ ap (ok_or x) q

made-one : (rounds : ℕ) (es fs : List Entry) (v w : Verdict) → IsMade rounds es v → IsMade rounds fs w → (es ≡ fs) × (v ≡ w)
made-one rounds es fs v w g h =
    let of_g : IsGenerated rounds g.system g.scenario g.programs = g.generated in
    let of_h : IsGenerated rounds h.system h.scenario h.programs = h.generated in
    let held : of_g.held ≡ of_h.held = fun_ext (λ name. of_g.empty name ∙ sym (of_h.empty name)) in
    let system : g.system ≡ h.system =
    ok-same ((system_in of_h.held system_text).gives) g.system h.system (sym (ap (λ (x : Contents). (system_in x system_text).gives) held) ∙ of_g.system) of_h.system in
    let scenario : g.scenario ≡ h.scenario =
    ok-same (stopped (scenario_in h.system (scenario_text rounds))) g.scenario h.scenario (sym (ap (λ (x : System). stopped (scenario_in x (scenario_text rounds))) system) ∙ of_g.scenario) of_h.scenario in
    let programs : g.programs ≡ h.programs =
    ok-same (programs_of h.system h.scenario) g.programs h.programs
    (sym (ap (λ (x : System). programs_of x g.scenario) system ∙ ap (λ (x : Scenario). programs_of h.system x) scenario) ∙ of_g.assembled) of_h.assembled in
    let one : RanBy g.system (opening_memory h.scenario.memory) h.scenario h.programs false fs w =
    subst (λ (x : System). RanBy x (opening_memory h.scenario.memory) h.scenario h.programs false fs w) (sym system) h.ran in
    let two : RanBy g.system (opening_memory g.scenario.memory) g.scenario h.programs false fs w =
    subst (λ (x : Scenario). RanBy g.system (opening_memory x.memory) x h.programs false fs w) (sym scenario) one in
    let three : RanBy g.system (opening_memory g.scenario.memory) g.scenario g.programs false fs w =
    subst (λ (x : List Program). RanBy g.system (opening_memory g.scenario.memory) g.scenario x false fs w) (sym programs) two in
    one_run g.system (opening_memory g.scenario.memory) g.scenario g.programs es fs v w g.ran three

pub made-text-one : (rounds : ℕ) (t u : List ℕ) (a b : ℕ) → MadeDue rounds t a → MadeDue rounds u b → Same t u a b
made-text-one rounds t u a b g h =
    let both = made-one rounds g.entries h.entries g.ended h.ended g.made h.made in
    let text : List Entry → Verdict → List ℕ = λ es v. summary_line rounds (length es) (bytes_moved es) v in (
      g.text_is ∙ ap (λ (es : List Entry). text es g.ended) both.0 ∙ ap (λ (v : Verdict). text h.entries v) both.1 ∙ sym h.text_is,
      g.status_is ∙ sym h.status_is,
    )
