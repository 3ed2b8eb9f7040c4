-- A trace, one entry further audited.
use Rattle.std.proofs.Common.{ℕ, ◌≡◌, ◌+◌, ◌-◌, Bool, true, false, List, [], ◌∷◌, ◌++◌, length, take, Option, Some, None, arith, ◌∙◌, ap, sym, refl, subst, append_assoc, append-nil, length-append}
use Rattle.std.specs.Prelude.{Result, Ok, Err, IfOk, if◌then◌else◌}
use Rattle.std.specs.List.{cons_option}
use Rattle.std.specs.Option.{option_map_or}
use Rattle.std.proofs.Math.Seq.{take-append_seam}
use Rattle.law_lists.proofs.Options.{some-and}
use Rattle.ffm_model.specs.declared.system.System.{System}
use Rattle.ffm_model.specs.declared.machine.Entry.{Entry}
use Rattle.ffm_model.specs.declared.machine.Handle.{Handle}
use Rattle.ffm_model.specs.declared.machine.Verdict.{Verdict}
use Rattle.ffm_model.specs.Memory.{ByteMap}
use Rattle.ffm_model.specs.State.{State, opening}
use Rattle.ffm_model.specs.Step.{step}
use Rattle.ffm_model.specs.Verdicts.{Legal, IllegalAt, judged, verdict_at, verdict_eq}
use Rattle.machine_calls.specs.Machine.{spm_of_objects, state_of}
use Rattle.ffm_model.specs.Ranges.{ranges_of}
use Rattle.memory_image.specs.Pieces.{byte_at, regions_of}
use Rattle.machine_check.specs.declared.auditing.AuditReport.{AuditReport}
use Rattle.machine_check.specs.declared.auditing.Auditor.{Auditor}
use Rattle.machine_check.specs.declared.auditing.Change.{Change}
use Rattle.machine_check.specs.declared.judging.Checked.TheVariants as checked
use Rattle.machine_check.specs.declared.judging.Checker.{Checker}
use Rattle.machine_check.specs.Answers.{judgement}
use Rattle.machine_check.specs.Auditing.{legal_entries, AreChanges, IsAudit, IsChangeOf}
use Rattle.machine_check.specs.Audited.{Audits, AuditsTo, Begins, IsAudited, IsReady, IsUpToDate, Tells}
use Rattle.machine_check.specs.Checking.{Accepts, IsAccepted}
use Rattle.machine_check.specs.declared.written.Ranges.{Ranges}
use Rattle.machine_check.specs.Written.{written, HasFourSizes}
use Rattle.machine_check.proofs.Covered.{step-covered, IsCovered}
use Rattle.machine_check.proofs.Judged.{from_start, next_entry, no_entry}

-- ---- one entry

-- what follows from an answer's fact
pub if_ok_more : {R E : Type 0} (r : Result R E) (P Q : R → Type 0) → ((x : R) → P x → Q x) → IfOk r P → IfOk r Q
if_ok_more (Ok x) P Q more p = more x p
if_ok_more (Err e) P Q more p = tt

pub tells : (s : System) (a : ℕ) (old new : Auditor) (here : Option Change) → IsChangeOf s old.checker.count a (byte_at old.before) (byte_at old.checker.machine.memory) here
    → new.changes.items ≡ old.changes.items ++ cons_option here [] → regions_of new.before ≡ ranges_of s.regions → byte_at new.before ≡ byte_at new.checker.machine.memory → Tells s a old new
tells s a old new here is changes regions bytes = record { here = here; is_change = is; changes = changes; same = record { regions = regions; bytes = bytes } }

-- an entry was accepted, and then its change told
pub audited : (s : System) (limit : ℕ) (old new : Auditor) (mid : Checker) (all : List Handle) (e : Entry) → IsAccepted s limit old.checker all e mid
    → new.checker ≡ mid → IsUpToDate s old → Tells s e.actor.0 (record { checker = mid; before = old.before; changes = old.changes }) new → IsAudited s limit old all e new
audited s limit old new mid all e accepted is same told = record {
  accepted = subst (IsAccepted s limit old.checker all e) (sym is) accepted;
  here = told.here;
  is_change =
      subst (λ (k : Checker). IsChangeOf s k.count e.actor.0 (byte_at old.checker.machine.memory) (byte_at k.machine.memory) told.here) (sym is)
      (subst (λ (m : ByteMap). IsChangeOf s mid.count e.actor.0 m (byte_at mid.machine.memory) told.here) same.bytes told.is_change);
  changes = told.changes;
  same = told.same;
}

-- ---- the trace

pub ready : (s : System) (m : ByteMap) (limit : ℕ) (es : List Entry) (v : Verdict) (a : Auditor) (left : List Entry) → AuditsTo s m limit es v a left → IsReady s a
ready s m limit es v a left k = record { all = k.checks.all; knows = k.checks.knows; kept = k.checks.kept; made = k.checks.made; same = k.same }

pub audit_begins : (s : System) (m : ByteMap) (limit : ℕ) (es : List Entry) (v : Verdict) (a : Auditor) → Begins s m a → AuditsTo s m limit es v a es
unfolding from_start
audit_begins s m limit es v a begin = record {
  checks = from_start s m limit v es a.checker begin.starts;
  front = [];
  passed = refl;
  count = sym begin.starts.count;
  same = begin.same;
  changes = λ more later told.
      subst (λ (cs : List Change). AreChanges s 1 (opening s m) more (cs ++ later)) (sym begin.changes)
      (subst (λ (st : State). AreChanges s 1 st more later) begin.starts.state (subst (λ n. AreChanges s (n + 1) (state_of a.checker.machine []) more later) begin.starts.count told));
}

one_change : (here : Option Change) (cs later : List Change) → cs ++ cons_option here later ≡ (cs ++ cons_option here []) ++ later
one_change None cs later = ap (λ l. l ++ later) (sym (append-nil cs))
one_change (Some c) cs later = sym (append_assoc cs (c ∷ []) later)

pub next_audited : (s : System) (m : ByteMap) (limit : ℕ) (es : List Entry) (v : Verdict) (a new : Auditor) (e : Entry) (left : List Entry) (k : AuditsTo s m limit es v a (e ∷ left))
    → IsAudited s limit a k.checks.all e new → AuditsTo s m limit es v new left
unfolding next_entry
next_audited s m limit es v a new e left k it = record {
  checks = next_entry s limit v (judged s m limit es v) a.checker new.checker e left k.checks it.accepted;
  front = k.front ++ e ∷ [];
  passed = k.passed ∙ sym (append_assoc k.front (e ∷ []) left);
  count = length-append k.front (e ∷ []) ∙ omega (arith, k.count, it.accepted.count);
  same = it.same;
  changes = λ more later told.
      let st = state_of a.checker.machine k.checks.all in
      let next = state_of new.checker.machine it.accepted.given in
      let place = a.checker.count + 1 in
      let here : IsChangeOf s place e.actor.0 st.memory next.memory it.here = subst (λ n. IsChangeOf s n e.actor.0 st.memory next.memory it.here) it.accepted.count it.is_change in
      let rest : AreChanges s (place + 1) next more later = subst (λ n. AreChanges s (n + 1) next more later) it.accepted.count told in
      let with_it : AreChanges s place st (e ∷ more) (cons_option it.here later) =
      (it.here, later, refl, some-and (step s st e) next (λ (x : State). IsChangeOf s place e.actor.0 st.memory x.memory it.here × AreChanges s (place + 1) x more later) it.accepted.is_step (here, rest)) in
      let all : AreChanges s 1 (opening s m) (k.front ++ e ∷ more) (a.changes.items ++ cons_option it.here later) = k.changes (e ∷ more) (cons_option it.here later) with_it in
      subst (λ (front : List Entry). AreChanges s 1 (opening s m) front (new.changes.items ++ later)) (sym (append_assoc k.front (e ∷ []) more))
      (subst (λ (cs : List Change). AreChanges s 1 (opening s m) (k.front ++ e ∷ more) cs) (one_change it.here a.changes.items later ∙ ap (λ cs. cs ++ later) (sym it.changes)) all);
}

-- ---- the report

-- all that was told, where no more is to be told
told_so_far : (s : System) (m : ByteMap) (limit : ℕ) (es : List Entry) (v : Verdict) (a : Auditor) (left : List Entry)
    (k : AuditsTo s m limit es v a left) → AreChanges s 1 (opening s m) k.front a.changes.items
told_so_far s m limit es v a left k =
    subst (λ (cs : List Change). AreChanges s 1 (opening s m) k.front cs) (append-nil a.changes.items)
    (subst (λ (front : List Entry). AreChanges s 1 (opening s m) front (a.changes.items ++ [])) (append-nil k.front) (k.changes [] [] refl))

front_of : (s : System) (m : ByteMap) (limit : ℕ) (es : List Entry) (v : Verdict) (a : Auditor) (left : List Entry) (k : AuditsTo s m limit es v a left) → legal_entries (IllegalAt (a.checker.count + 1)) es ≡ k.front
front_of s m limit es v a left k =
    let n : a.checker.count + 1 - 1 ≡ length k.front = omega (arith, k.count) in
    ap (λ i. take i es) n ∙ ap (take (length k.front)) k.passed ∙ take-append_seam k.front left

pub report_of : (s : System) (m : ByteMap) (limit : ℕ) (es : List Entry) (v : Verdict) (a : Auditor) (left : List Entry) (k : AuditsTo s m limit es v a left) (report : AuditReport)
    → report.changes ≡ a.changes.items → judgement report.result ≡ judged s m limit es v → legal_entries (judged s m limit es v) es ≡ k.front → IsAudit s m limit es v report
report_of s m limit es v a left k report changes result legal = record {
  result = result;
  changes = subst (λ (cs : List Change). AreChanges s 1 (opening s m) (legal_entries (judged s m limit es v) es) cs) (sym changes)
      (subst (λ (l : List Entry). AreChanges s 1 (opening s m) l a.changes.items) (sym legal) (told_so_far s m limit es v a left k));
}

-- an entry was not accepted
pub illegal_report : (s : System) (m : ByteMap) (limit : ℕ) (es : List Entry) (v : Verdict) (a new : Auditor) (e : Entry) (left : List Entry) (b : Bool) (k : AuditsTo s m limit es v a (e ∷ left)) (report : AuditReport)
    → Audits s limit a k.checks.all e (Ok b) new → b ≡ false → report.changes ≡ new.changes.items → report.result ≡ checked.IllegalAt (new.checker.count + 1) → IsAudit s m limit es v report
illegal_report s m limit es v a new e left true k report audits is changes result = absurd (cc)
illegal_report s m limit es v a new e left false k report audits is changes result =
    let illegal = no_entry s limit v (judged s m limit es v) a.checker new.checker e left false k.checks audits.0 refl in
    report_of s m limit es v a (e ∷ left) k report (changes ∙ ap (λ cs. cs.items) audits.1)
    (ap judgement result ∙ ap (λ n. IllegalAt (n + 1)) illegal.1 ∙ sym illegal.0)
    (ap (λ j. legal_entries j es) illegal.0 ∙ front_of s m limit es v a (e ∷ left) k)

-- all entries are legal
all_legal : (s : System) (m : ByteMap) (limit : ℕ) (es : List Entry) (v : Verdict) (a : Auditor) (k : AuditsTo s m limit es v a []) → legal_entries (judged s m limit es v) es ≡ k.front
all_legal s m limit es v a k =
    let go : (b : Bool) → legal_entries (if b then Legal else IllegalAt (a.checker.count + 1)) es ≡ k.front = elim [ true ↦ k.passed ∙ append-nil k.front | false ↦ front_of s m limit es v a [] k ] in
    ap (λ j. legal_entries j es) k.checks.judged ∙ go (option_map_or (verdict_eq v) (verdict_at s limit a.checker.count (state_of a.checker.machine k.checks.all).spm) false)

pub whole_report : (s : System) (m : ByteMap) (limit : ℕ) (es : List Entry) (v : Verdict) (a : Auditor) (k : AuditsTo s m limit es v a []) (report : AuditReport)
    → report.changes ≡ a.changes.items → judgement report.result ≡ judged s m limit es v → IsAudit s m limit es v report
whole_report s m limit es v a k report changes result = report_of s m limit es v a [] k report changes result (all_legal s m limit es v a k)

pub was_audited : (s : System) (limit : ℕ) (a new : Auditor) (all : List Handle) (e : Entry) (b : Bool) → Audits s limit a all e (Ok b) new → b ≡ true → IsAudited s limit a all e new
was_audited s limit a new all e true audits is = audits
was_audited s limit a new all e false audits is = absurd (cc)

-- what an accepted entry wrote
pub covered : (s : System) (old : Auditor) (mid : Checker) (limit : ℕ) (e : Entry) (w : Ranges) (r : IsReady s old) → IsAccepted s limit old.checker r.all e mid → HasFourSizes e.outcome
    → w ≡ written s (spm_of_objects old.checker.machine.objects) e → IsCovered s (byte_at old.checker.machine.memory) (byte_at mid.machine.memory) w
covered s old mid limit e w r accepted sizes is =
    subst (IsCovered s (byte_at old.checker.machine.memory) (byte_at mid.machine.memory)) (sym is)
    (step-covered s (state_of old.checker.machine r.all) (state_of mid.machine accepted.given) e r.kept.messages sizes accepted.is_step)

pub was_refused : (s : System) (limit : ℕ) (c new : Checker) (all : List Handle) (e : Entry) (b : Bool) → Accepts s limit c all e (Ok b) new → b ≡ false → Accepts s limit c all e (Ok false) new
was_refused s limit c new all e true accepts is = absurd (cc)
was_refused s limit c new all e false accepts is = accepts
