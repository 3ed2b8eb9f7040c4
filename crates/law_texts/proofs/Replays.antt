-- The text of a run is judged to be legal.
use Rattle.std.proofs.Common.{ℕ, ◌≡◌, ◌≢◌, ◌≤◌, ◌*◌, Bool, true, false, List, [], ◌∷◌, inl, length, length-append, append-nil, arith, refl, ap, sym, subst, ◌∙◌}
use Rattle.std.specs.Prelude.{Result, Ok, Err, Option, Some, if◌then◌else◌, nat_lt}
use Rattle.std.specs.List.{AllByRecursion, flat_map}
use Rattle.std.proofs.lemmas.Fmt.{length-decimal-le}
use Rattle.std.proofs.lemmas.Bool.Decides.{nat_tests}
use Rattle.ffm_model.specs.declared.constants.TheConstants.{MAX_ENTRIES}
use Rattle.ffm_model.specs.declared.machine.Entry.{Entry}
use Rattle.ffm_model.specs.declared.machine.Verdict.{Verdict}
use Rattle.ffm_model.specs.declared.machine.Verdict.TheVariants.{Quiet, Stalled, Full}
use Rattle.ffm_model.specs.declared.scenario.Scenario.{Scenario}
use Rattle.ffm_model.specs.declared.system.System.{System}
use Rattle.ffm_model.specs.Actors.{counts_of}
use Rattle.ffm_model.specs.Memory.{ByteMap, opening_memory}
use Rattle.ffm_model.specs.Reading.{Contents, Stop, refused, missing, asks_nothing, file_at, within_limit}
use Rattle.ffm_model.specs.Restarts.{FinishedRun, RunsFrom}
use Rattle.ffm_model.specs.TraceText.{entry_text, line, trace_text, verdict_text, verdict_word}
use Rattle.ffm_model.specs.Verdicts.{Judgement, Legal}
use Rattle.actor_programs.specs.declared.program.Program.{Program}
use Rattle.actor_programs.specs.Programs.{programs_of}
use Rattle.scenario_runs.specs.Runs.{RanBy}
use Rattle.trace_print.specs.RunLines.{AreShortLines}
use Rattle.law_texts.proofs.JudgedLemmas.{judged_plainly}
use Rattle.command_words.specs.declared.words.Inspection.TheVariants.{Replay}
use Rattle.command_words.specs.Words.{Order, judge, run}
use Rattle.work_orders.specs.declared.limits.TheConstants.{MAX_TRACE_BYTES}
use Rattle.work_orders.specs.Work.{Work, judge_at, judge_in, judge_of, run_at, scenario_at, scenario_for, system_at, trace_in, trace_place}
use Rattle.ffm_top.specs.Due.{DueBy, OrderDue, WorkDue}
use Rattle.judge_command.specs.Replays.{IsTextOf, JudgedDue, judgement_line, judgement_of, judgement_status}
use Rattle.ffm_top.specs.Runs.{RunDue, restart_line, runs_text}
use Rattle.law_texts.specs.Replayed.{IsReadable, IsReplayed}
use Rattle.law_texts.proofs.Chains.{goes-on}
use Rattle.law_texts.proofs.Readable.{RunFiles, run-files, run-readable}

-- ---- how long a trace's text is

lines-short : (s : System) (es : List Entry) → AreShortLines s es → length (flat_map (λ e. line (entry_text (counts_of s) e)) es) ≤ 175 * length es
lines-short s [] h = omega arith
lines-short s (e ∷ es) h =
    omega (arith, h.0, lines-short s es h.1, length-append (line (entry_text (counts_of s) e)) (flat_map (λ e. line (entry_text (counts_of s) e)) es))

word-short : (v : Verdict) → length (verdict_word v) ≤ 7
word-short Quiet = omega arith
word-short Stalled = omega arith
word-short Full = omega arith

last-short : (v : Verdict) (n : ℕ) → n ≤ MAX_ENTRIES → length (line (verdict_text v n)) ≤ 15
unfolding verdict_text
last-short v n few = omega (arith, word-short v, length-decimal-le 6 n (omega arith) (omega (arith, few)) (omega (arith, few)), length-append {A = ℕ})

text-short : (s : System) (r : FinishedRun) → IsReadable s r → length (trace_text (counts_of s) r.entries r.verdict) ≤ MAX_TRACE_BYTES
text-short s r h =
    omega (arith, h.read.few, lines-short s r.entries h.short, last-short r.verdict (length r.entries) h.read.few, length-append (flat_map (λ e. line (entry_text (counts_of s) e)) r.entries) (line (verdict_text r.verdict (length r.entries))))

-- ---- one run

-- without restarts there is one run, and its trace is the whole text
only-run : (s : System) (IsRun : ByteMap → FinishedRun → Type 0) (m : ByteMap) (rs : List FinishedRun) → RunsFrom s IsRun m m 0 rs → (r : FinishedRun) × (rs ≡ r ∷ []) × IsRun m r
only-run s IsRun m [] h = absurd h
only-run s IsRun m (r ∷ []) h = (r, refl, h.0)
only-run s IsRun m (r ∷ q ∷ rs) h = absurd (let e : false ≡ true = h.1 in cc)

is-legal : (s : System) (c : Scenario) (programs : List Program) (threads : Bool) (r : FinishedRun) → RanBy s (opening_memory c.memory) c programs threads r.entries r.verdict → judgement_of s c r.entries r.verdict ≡ Legal
is-legal s c programs threads r ran =
    (judged_plainly s (opening_memory c.memory) c.limit r.entries r.verdict).legal.1 (record { run = ran.is_run; within = ran.within; verdict = ran.verdict })

judged-due : (s : System) (c : Scenario) (programs : List Program) (threads : Bool) (r : FinishedRun) → IsReadable s r → RanBy s (opening_memory c.memory) c programs threads r.entries r.verdict
    → JudgedDue s c (trace_text (counts_of s) r.entries r.verdict) (judgement_line Legal (length r.entries)) 0
judged-due s c programs threads r h ran =
    let legal : judgement_of s c r.entries r.verdict ≡ Legal = is-legal s c programs threads r ran in
    record {
      entries = r.entries;
      ended = r.verdict;
      read = h.read;
      text_is = ap (λ (j : Judgement). judgement_line j (length r.entries)) (sym legal);
      status_is = ap judgement_status (sym legal);
    }

ok-same : {A E : Type 0} (r : Result A E) (x y : A) → r ≡ Ok x → r ≡ Ok y → x ≡ y
ok-same {A} {E} r x y p q = let both : ◌≡◌ {A = Result A E} (Ok x) (Ok y) = sym p ∙ q in cc

-- ---- the files of a replay

unless : {A E : Type 0} (b : Bool) (e : E) (x : A) → b ≡ false → ◌≡◌ {A = Result A E} (if b then Err e else Ok x) (Ok x)
unless true e x h = cc
unless false e x h = refl

-- the text fits the limit of trace files
trace-file : (of : Contents) (trace text : List ℕ) → of trace ≡ Some text → length text ≤ MAX_TRACE_BYTES → (file_at of trace_place MAX_TRACE_BYTES trace).gives ≡ Ok text
trace-file of trace text held short =
    let test : nat_lt MAX_TRACE_BYTES (length text) ≡ false = grind (arith, nat_tests) in
    ap (within_limit trace_place MAX_TRACE_BYTES) held ∙ unless (nat_lt MAX_TRACE_BYTES (length text)) _ text test

judge-files : (of : Contents) (threads : Bool) (system scenario trace text : List ℕ) (w : Work) (f : RunFiles of threads system scenario w) → f.c.restarts ≡ 0 → of trace ≡ Some text → length text ≤ MAX_TRACE_BYTES
    → (judge_at of Replay system scenario trace).gives ≡ Ok (judge_of Replay f.s f.c text)
unfolding judge_at judge_in trace_in
judge-files of threads system scenario trace text w f once held short =
    let single : scenario_for true f.c ≡ Ok f.c = unless (nat_lt 0 f.c.restarts) _ f.c (ap (nat_lt 0) once) in
    goes-on (system_at of system) (λ s. judge_in of Replay s scenario trace) f.s f.system_is
    ∙ goes-on (scenario_at of f.s scenario) _ f.c f.scenario_is
    ∙ goes-on (asks_nothing (programs_of f.s f.c)) _ f.programs f.programs_are
    ∙ goes-on (asks_nothing (scenario_for true f.c)) (λ c. trace_in of Replay f.s c trace) f.c single
    ∙ goes-on (file_at of trace_place MAX_TRACE_BYTES trace) (λ bytes. asks_nothing (Ok (judge_of Replay f.s f.c bytes))) text (trace-file of trace text held short)

-- ---- both

whole-text : (s : System) (r : FinishedRun) → runs_text (counts_of s) 0 (r ∷ []) ≡ trace_text (counts_of s) r.entries r.verdict
unfolding restart_line
whole-text s r = append-nil (trace_text (counts_of s) r.entries r.verdict)

-- a refusal's status is 1
refusal-status : (stop : Stop) (text : List ℕ) (status : ℕ) → DueBy (Err stop) text status → status ≡ 1
refusal-status (refused r) text status d = d.1
refusal-status missing text status d = absurd d

-- what `replay` is to write of the text
record OrderReplays (of : Contents) (order : Order) (s : System) (text : List ℕ) : Type 0 where
  entries : List Entry
  ended : Verdict
  read : IsTextOf s text entries ended
  legal : OrderDue (Some order) of (judgement_line Legal (length entries)) 0

module _ (of : Contents) (threads : Bool) (system scenario trace text : List ℕ) where
  replayed : (w : Work) (status : ℕ) (f : RunFiles of threads system scenario w) → f.c.restarts ≡ 0 → RunDue f.s f.c f.programs threads text status → of trace ≡ Some text
      → OrderReplays of (judge Replay system scenario trace) f.s text
  replayed w status f once due held =
      let IsRun : ByteMap → FinishedRun → Type 0 = λ m r. RanBy f.s m f.c f.programs threads r.entries r.verdict in
      let first : ByteMap = opening_memory f.c.memory in
      let only = only-run f.s IsRun first due.runs (subst (λ (n : ℕ). RunsFrom f.s IsRun first first n due.runs) once due.ran) in
      let r : FinishedRun = only.0 in
      let readable : IsReadable f.s r = (subst (AllByRecursion (IsReadable f.s)) only.1 (run-readable of threads system scenario w f due.runs due.ran)).0 in
      let is : text ≡ trace_text (counts_of f.s) r.entries r.verdict = due.text_is ∙ ap (runs_text (counts_of f.s) 0) only.1 ∙ whole-text f.s r in
      let short : length text ≤ MAX_TRACE_BYTES = subst (λ (t : List ℕ). length t ≤ MAX_TRACE_BYTES) (sym is) (text-short f.s r readable) in
      let judged : JudgedDue f.s f.c text (judgement_line Legal (length r.entries)) 0 =
      subst (λ (t : List ℕ). JudgedDue f.s f.c t (judgement_line Legal (length r.entries)) 0) (sym is) (judged-due f.s f.c f.programs threads r readable only.2) in
      let legal : DueBy (Ok (judge_of Replay f.s f.c text)) (judgement_line Legal (length r.entries)) 0 = inl judged in
      record {
        entries = r.entries;
        ended = r.verdict;
        read = subst (λ (t : List ℕ). IsTextOf f.s t r.entries r.verdict) (sym is) readable.read;
        legal = subst (λ (o : Result Work Stop). DueBy o (judgement_line Legal (length r.entries)) 0) (sym (judge-files of threads system scenario trace text w f once held short)) legal;
      }

  -- the work's system and scenario are those of the files
  of-files : (w : Work) (status : ℕ) (s : System) (c : Scenario) (f : RunFiles of threads system scenario w) → (system_at of system).gives ≡ Ok s → (scenario_at of s scenario).gives ≡ Ok c → c.restarts ≡ 0
      → RunDue f.s f.c f.programs threads text status → of trace ≡ Some text → OrderReplays of (judge Replay system scenario trace) s text
  of-files w status s c f system_is scenario_is once due held =
      let same_system : f.s ≡ s = ok-same (system_at of system).gives f.s s f.system_is system_is in
      let own : (scenario_at of s scenario).gives ≡ Ok f.c = subst (λ (x : System). (scenario_at of x scenario).gives ≡ Ok f.c) same_system f.scenario_is in
      let same_scenario : f.c ≡ c = ok-same (scenario_at of s scenario).gives f.c c own scenario_is in
      subst (λ (x : System). OrderReplays of (judge Replay system scenario trace) x text) same_system (replayed w status f (ap (λ (x : Scenario). x.restarts) same_scenario ∙ once) due held)

  ran : (status : ℕ) (s : System) (c : Scenario) → (system_at of system).gives ≡ Ok s → (scenario_at of s scenario).gives ≡ Ok c → c.restarts ≡ 0
      → OrderDue (Some (run threads system scenario)) of text status → status ≢ 1 → of trace ≡ Some text → OrderReplays of (judge Replay system scenario trace) s text
  ran status s c system_is scenario_is once due accepted held =
      let go : (o : Result Work Stop) → (run_at of threads system scenario).gives ≡ o → DueBy o text status → OrderReplays of (judge Replay system scenario trace) s text = elim [
        | Ok w ↦ λ e d.
            let f : RunFiles of threads system scenario w = run-files of threads system scenario w e in
            of-files w status s c f system_is scenario_is once (subst (λ (x : Work). WorkDue x text status) f.work d) held
        | Err stop ↦ λ e d. absurd (accepted (refusal-status stop text status d))
      ] in
      go (run_at of threads system scenario).gives refl due

pub is_replayed : (of : Contents) (words others : List (List ℕ)) → IsReplayed of words others
is_replayed of words others threads system scenario trace text status s c first second system_is scenario_is once due accepted held =
    let it = ran of threads system scenario trace text status s c system_is scenario_is once (subst (λ (o : Option Order). OrderDue o of text status) first due) accepted held in
    record { entries = it.entries; ended = it.ended; read = it.read; legal = subst (λ (o : Option Order). OrderDue o of (judgement_line Legal (length it.entries)) 0) (sym second) it.legal }
