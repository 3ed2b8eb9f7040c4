-- The runs of an SFN partition are those of its loop.
use Rattle.std.proofs.Common.{ℕ, ◌+◌, ◌≡◌, List, [], ◌∷◌, refl, ap, sym, ◌∙◌, subst, Bool, true, false, inl, inr}
use Rattle.std.specs.Prelude.{Some, IsSome, if◌then◌else◌, find, ◌↔◌, ◌⊎◌}
use Rattle.std.specs.List.{AllByRecursion}
use Rattle.ffm_model.specs.declared.constants.TheConstants.{PSA_BLOCK}
use Rattle.ffm_model.specs.declared.machine.Entry.{Entry}
use Rattle.ffm_model.specs.declared.machine.Status.{Status}
use Rattle.ffm_model.specs.declared.machine.Message.{Message}
use Rattle.ffm_model.specs.declared.machine.Call.{Call}
use Rattle.ffm_model.specs.declared.machine.Call.TheVariants as call
use Rattle.ffm_model.specs.declared.machine.Outcome.{Outcome}
use Rattle.ffm_model.specs.declared.machine.Outcome.TheVariants as outcome
use Rattle.ffm_model.specs.declared.script.Instruction.{Instruction}
use Rattle.ffm_model.specs.Records.{is_blocked_outcome, ends_blocked}
use Rattle.ffm_model.specs.Plans.{engine_after}
use Rattle.ffm_model.specs.ScriptRuns.{Point, point, start, most_lines, noted, behind, arrived, call_at}
use Rattle.ffm_model.specs.SfnScripts.{IsFunction}
use Rattle.ffm_model.specs.Functions.{SfnService, SfnPartition, signals_in, lowest, asserts, function_registers, returns_at, function_call_at}
use Rattle.ffm_model.specs.SfnRuns.{Work, Stage, reached, work_call, work_after, stage_after, begun, SfnRunFrom}
use Rattle.ffm_model.specs.SfnRuns.Stage.{idle, waiting, signalled, working}
use Rattle.sfn_calls.specs.Loop.{expanded}
use Rattle.sfn_calls.specs.Answers.{IsHandle, IsBlockedWait, IsReturn, AreAnswered, IsSfnPartition, SameRuns}
use Rattle.sfn_calls.proofs.Rounds.{answered, due, RunAt, run-to, run-from}
use Rattle.sfn_calls.proofs.Stages.{AtWait, wait-call, wait-line, AfterWait, after-signals, to-get, get-call, AtWork, work-call, to-work, stays-open, goes-on, goes-back, return-call}
use Rattle.ffm_model.proofs.ScriptLemmas.{local_step-at, steps-none}
use Rattle.law_lists.proofs.Options.{some-value}

-- ---- the machine's answers, of fewer entries

pub answered-tail : (p : SfnPartition) (x : Entry) (es : List Entry) → AreAnswered p (x ∷ es) → AreAnswered p es
answered-tail p x es a = record {
  waits = λ before behind e eq. a.waits (x ∷ before) behind e (ap (λ (l : List Entry). x ∷ l) eq);
  returns = λ before behind w e eq. a.returns (x ∷ before) behind w e (ap (λ (l : List Entry). x ∷ l) eq);
  gets = λ before behind w r e signals v eq. a.gets (x ∷ before) behind w r e signals v (ap (λ (l : List Entry). x ∷ l) eq);
  replies = λ before behind e h status eq. a.replies (x ∷ before) behind e h status (ap (λ (l : List Entry). x ∷ l) eq);
}

-- ---- what is known at a stage

abbrev pub is_open : Stage → Bool
is_open (idle rs) = false
is_open (waiting rs) = true
is_open (signalled rs signals) = false
is_open (working w) = w.pending

-- where the loop stands
abbrev pub LoopStands : SfnPartition → Stage → Point → Type 0
LoopStands p (idle rs) q = AtWait (expanded p) rs q
LoopStands p (waiting rs) q = AtWait (expanded p) rs q
LoopStands p (signalled rs signals) q = AfterWait rs signals q
LoopStands p (working w) q = AtWork (expanded p) w q

-- what the machine answers from here on
abbrev pub Facts : SfnPartition → Stage → List Entry → Type 0
Facts p (idle rs) es = AreAnswered p es
Facts p (waiting rs) es = (w : Entry) × (IsBlockedWait p w × AreAnswered p (w ∷ es))
Facts p (signalled rs signals) es = (w : Entry) × ((r : Entry) × (IsBlockedWait p w × (IsReturn r signals × (AreAnswered p (w ∷ (r ∷ es)) × IsSome (lowest p.services signals)))))
Facts p (working w) es = AreAnswered p es

-- ---- both ways at once

lines-by : (e v : SfnService) (vs : List SfnService) (p : SfnService → Bool) (b : Bool) → IsFunction e.lines → (if b then Some e else find p vs) ≡ Some v → (find p vs ≡ Some v → IsFunction v.lines) → IsFunction v.lines
lines-by e v vs p true fine eq go = let same : e ≡ v = cc in subst (λ (x : SfnService). IsFunction x.lines) same fine
lines-by e v vs p false fine eq go = go eq

lines-of : (vs : List SfnService) (p : SfnService → Bool) (v : SfnService) → AllByRecursion (λ v. IsFunction v.lines) vs → find p vs ≡ Some v → IsFunction v.lines
lines-of [] p v each eq = cc
lines-of (e ∷ vs) p v each eq = lines-by e v vs p (p e) each.0 eq (lines-of vs p v each.1)

lowest-fits : (p : SfnPartition) (signals : ℕ) (v : SfnService) → IsSfnPartition p → lowest p.services signals ≡ Some v → IsFunction v.lines
unfolding lowest
lowest-fits p signals v fine eq = lines-of p.services (asserts signals) v fine.functions eq

-- an outcome that is known leads to where its branch leads
pub at-outcome : (code : List Instruction) (q : Point) (es : List Entry) (o u : Outcome) → o ≡ u → RunAt code (is_blocked_outcome o) (answered code o q) es
    → RunAt code (is_blocked_outcome u) (answered code u q) es
at-outcome code q es o u e h = subst (λ (x : Outcome). RunAt code (is_blocked_outcome x) (answered code x q) es) e h

-- ---- one stage after another

work-due : (p : SfnPartition) (w : Work) (q : Point) (b : Bool) → w.pending ≡ b → AtWork (expanded p) w q → due (expanded p) w.pending q ≡ work_call w
work-due p w q b e a = ap (λ (c : Call). if w.pending then call.Resume else c) (work-call (expanded p) w q a)

-- after a call of the function, whatever is answered
pub record After (p : SfnPartition) (w : Work) (q : Point) (o : Outcome) : Type 0 where
  pub stands : LoopStands p (stage_after w o) (answered (expanded p) o q)
  pub opens : is_open (stage_after w o) ≡ is_blocked_outcome o

-- by whether the function returned, and whether the call is blocked
after-by : (p : SfnPartition) (w : Work) (q : Point) (o : Outcome) (r b : Bool) → returns_at w.lines (reached w) ≡ r → is_blocked_outcome o ≡ b → AtWork (expanded p) w q
    → (r ≡ true → (b ≡ false) × (noted o (arrived (expanded p) q).registers ≡ (arrived (expanded p) q).registers))
    → LoopStands p (if r then idle (reached w).registers else working (if b then record w { pending = true } else record w { budget = most_lines; at = point (noted o (reached w).registers) ((reached w).place + 1); pending = false }))
    (if b then q else behind (expanded p) o (arrived (expanded p) q))
    × (is_open (if r then idle (reached w).registers else working (if b then record w { pending = true } else record w { budget = most_lines; at = point (noted o (reached w).registers) ((reached w).place + 1); pending = false })) ≡ b)
after-by p w q o true true er eb a quiet = let no = (quiet refl).0 in cc
after-by p w q o true false er eb a quiet = (goes-back p w q o a er (quiet refl).1, refl)
after-by p w q o false true er eb a quiet = (stays-open (expanded p) w q a er, refl)
after-by p w q o false false er eb a quiet = (goes-on (expanded p) w q o a er, refl)

after-work : (p : SfnPartition) (w : Work) (q : Point) (o : Outcome) → AtWork (expanded p) w q
    → (returns_at w.lines (reached w) ≡ true → (is_blocked_outcome o ≡ false) × (noted o (arrived (expanded p) q).registers ≡ (arrived (expanded p) q).registers))
    → After p w q o
after-work p w q o a quiet =
    let x = after-by p w q o (returns_at w.lines (reached w)) (is_blocked_outcome o) refl refl a quiet in
    record { stands = x.0; opens = x.1 }

-- a reply is answered quietly
quiet-by : (o : Outcome) (rs : List ℕ) → (o ≡ outcome.Done) ⊎ (o ≡ outcome.Panicked) → (is_blocked_outcome o ≡ false) × (noted o rs ≡ rs)
quiet-by o rs (inl e) = subst (λ (x : Outcome). (is_blocked_outcome x ≡ false) × (noted x rs ≡ rs)) (sym e) (refl, refl)
quiet-by o rs (inr e) = subst (λ (x : Outcome). (is_blocked_outcome x ≡ false) × (noted x rs ≡ rs)) (sym e) (refl, refl)

work-call-return : (w : Work) → w.pending ≡ false → returns_at w.lines (reached w) ≡ true → (status : Status) × (work_call w ≡ call.Reply w.handle status)
work-call-return w closed r = let x = return-call w r in (x.0, ap (λ (b : Bool). if b then call.Resume else function_call_at w.lines w.handle (reached w)) closed ∙ x.1)

closed-by : (b : Bool) → (b ≡ true → true ≡ false) → b ≡ false
closed-by true h = h refl
closed-by false h = refl

-- the machine answers a return quietly
quiet-work : (p : SfnPartition) (w : Work) (q : Point) (e : Entry) (es : List Entry) → AtWork (expanded p) w q → AreAnswered p (e ∷ es) → e.call ≡ work_call w
    → returns_at w.lines (reached w) ≡ true → (is_blocked_outcome e.outcome ≡ false) × (noted e.outcome (arrived (expanded p) q).registers ≡ (arrived (expanded p) q).registers)
quiet-work p w q e es a facts c r =
    let closed = closed-by w.pending (λ h. sym r ∙ a.stays h) in
    let x = work-call-return w closed r in
    quiet-by e.outcome _ (facts.replies [] es e w.handle x.0 refl (c ∙ x.1))

facts-by : (p : SfnPartition) (w : Work) (o : Outcome) (es : List Entry) (r : Bool) → AreAnswered p es → Facts p (if r then idle (reached w).registers else working (work_after w o)) es
facts-by p w o es true a = a
facts-by p w o es false a = a

working-facts : (p : SfnPartition) (w : Work) (o : Outcome) (es : List Entry) → AreAnswered p es → Facts p (stage_after w o) es
working-facts p w o es a = facts-by p w o es (returns_at w.lines (reached w)) a

-- ---- the induction

pub same_signals : (a b : ℕ) → ◌≡◌ {A = Outcome} (outcome.Signals a) (outcome.Signals b) → a ≡ b
same_signals a b e = cc

same_message : (a b : Message) → ◌≡◌ {A = Outcome} (outcome.Got a) (outcome.Got b) → a ≡ b
same_message a b e = cc

-- from any stage on, the entries are the loop's run exactly where they are the rest of rounds
pub same-from : (p : SfnPartition) → IsSfnPartition p → (es : List Entry) (stage : Stage) (q : Point) → LoopStands p stage q → Facts p stage es
    → RunAt (expanded p) (is_open stage) q es ↔ SfnRunFrom p stage es
same-from p fine [] stage q stands facts = ((λ _. tt), (λ _. tt))
same-from p fine (e ∷ es) (idle rs) q at facts =
    let code = expanded p in
    let made : call_at code (arrived code q) ≡ call.Wait (signals_in p.services) PSA_BLOCK = ap (call_at code) at.arrives ∙ wait-call p _ in
    let blocked : e.call ≡ call.Wait (signals_in p.services) PSA_BLOCK → e.outcome ≡ outcome.Blocked = λ c. facts.waits [] es e refl c in
    let next : e.call ≡ call.Wait (signals_in p.services) PSA_BLOCK → RunAt code true q es ↔ SfnRunFrom p (waiting rs) es =
    λ c. same-from p fine es (waiting rs) q at (e, (record { call = c; blocked = blocked c }, facts)) in (
      (λ h. let c = h.0 ∙ made in (c, (blocked c, (next c).0 (at-outcome code q es e.outcome outcome.Blocked (blocked c) h.1)))),
      (λ h. (h.0 ∙ sym made, at-outcome code q es outcome.Blocked e.outcome (sym h.1.0) ((next h.0).1 h.1.1))),
    )
same-from p fine (e ∷ es) (waiting rs) q at facts =
    let code = expanded p in
    let w : Entry = facts.0 in
    let given : e.call ≡ call.Resume → (signals : ℕ) × ((e.outcome ≡ outcome.Signals signals) × IsSome (lowest p.services signals)) =
    λ c. facts.1.1.returns [] es w e refl facts.1.0 c in
    let next : (signals : ℕ) → e.call ≡ call.Resume → e.outcome ≡ outcome.Signals signals → IsSome (lowest p.services signals)
    → RunAt code false (answered code (outcome.Signals signals) q) es ↔ SfnRunFrom p (signalled rs signals) es =
    λ signals c o some. same-from p fine es (signalled rs signals) _ (after-signals p rs signals q at) (w, (e, (facts.1.0, (record { call = c; shown = o }, (facts.1.1, some))))) in (
      (λ h. let g = given h.0 in (h.0, (g.0, (g.1.0, (next g.0 h.0 g.1.0 g.1.1).0 (at-outcome code q es e.outcome (outcome.Signals g.0) g.1.0 h.1))))),
      (λ h. let g = given h.0 in
          let same : g.0 ≡ h.1.0 = same_signals g.0 h.1.0 (sym g.1.0 ∙ h.1.1.0) in
          let some : IsSome (lowest p.services h.1.0) = subst (λ (s : ℕ). IsSome (lowest p.services s)) same g.1.1 in
          (h.0, at-outcome code q es (outcome.Signals h.1.0) e.outcome (sym h.1.1.0) ((next h.1.0 h.0 h.1.1.0 some).1 h.1.1.1))),
    )
same-from p fine (e ∷ es) (signalled rs signals) q after facts =
    let code = expanded p in
    let w : Entry = facts.0 in
    let r : Entry = facts.1.0 in
    let rest : AreAnswered p (e ∷ es) = answered-tail p r (e ∷ es) (answered-tail p w (r ∷ (e ∷ es)) facts.1.1.1.1.0) in
    let made : (v : SfnService) → lowest p.services signals ≡ Some v → call_at code (arrived code q) ≡ call.Get v.signal p.base =
    λ v found. let x = to-get p rs signals q v fine after found in get-call p rs signals q v x.0 x.1 in
    let given : (v : SfnService) → lowest p.services signals ≡ Some v → e.call ≡ call.Get v.signal p.base → (m : Message) × ((e.outcome ≡ outcome.Got m) × IsHandle m.handle) =
    λ v found c. facts.1.1.1.1.0.gets [] es w r e signals v refl facts.1.1.0 facts.1.1.1.0 found c in
    let next : (v : SfnService) (m : Message) → lowest p.services signals ≡ Some v → IsHandle m.handle → RunAt code false (answered code (outcome.Got m) q) es ↔ SfnRunFrom p (working (begun v m rs)) es =
    λ v m found handle. let x = to-get p rs signals q v fine after found in
    same-from p fine es (working (begun v m rs)) _ (to-work p rs signals q v m (lowest-fits p signals v fine found) handle x.0 x.1) (answered-tail p e es rest) in (
      (λ h. let v = some-value (lowest p.services signals) facts.1.1.1.1.1 in
          let c = h.0 ∙ made v.0 v.1 in
          let g = given v.0 v.1 c in
          (v.0, (v.1, (c, (g.0, (g.1.0, (next v.0 g.0 v.1 g.1.1).0 (at-outcome code q es e.outcome (outcome.Got g.0) g.1.0 h.1))))))),
      (λ h. let v : SfnService = h.0 in
          let found = h.1.0 in
          let c = h.1.1.0 in
          let m : Message = h.1.1.1.0 in
          let o = h.1.1.1.1.0 in
          let g = given v found c in
          let handle : IsHandle m.handle = subst (λ (x : Message). IsHandle x.handle) (same_message g.0 m (sym g.1.0 ∙ o)) g.1.1 in
          (c ∙ sym (made v found), at-outcome code q es (outcome.Got m) e.outcome (sym o) ((next v m found handle).1 h.1.1.1.1.1))),
    )
same-from p fine (e ∷ es) (working w) q at facts =
    let code = expanded p in
    let made : due code w.pending q ≡ work_call w = work-due p w q w.pending refl at in
    let after_it : e.call ≡ work_call w → After p w q e.outcome = λ c. after-work p w q e.outcome at (quiet-work p w q e es at facts c) in
    let next : e.call ≡ work_call w → RunAt code (is_blocked_outcome e.outcome) (answered code e.outcome q) es ↔ SfnRunFrom p (stage_after w e.outcome) es =
    λ c. subst (λ (b : Bool). RunAt code b (answered code e.outcome q) es ↔ SfnRunFrom p (stage_after w e.outcome) es) (after_it c).opens
    (same-from p fine es (stage_after w e.outcome) _ (after_it c).stands (working-facts p w e.outcome es (answered-tail p e es facts))) in (
      (λ h. let c = h.0 ∙ made in (c, (next c).0 h.1)),
      (λ h. (h.0 ∙ sym made, (next h.0).1 h.1)),
    )

-- ---- the law

opening-stands : (p : SfnPartition) → AtWait (expanded p) function_registers start
unfolding arrived
opening-stands p = record {
  r14 = 0;
  r15 = 0;
  arrives = steps-none (expanded p) most_lines start (local_step-at (expanded p) start _ (wait-line p));
  long = refl;
}

pub same-runs : (p : SfnPartition) → IsSfnPartition p → SameRuns p
unfolding ends_blocked engine_after
same-runs p fine es facts =
    let x = same-from p fine es (idle function_registers) start (opening-stands p) facts in
    ((λ h. x.0 (run-to (expanded p) es [] false start refl refl h)), (λ h. run-from (expanded p) es [] false start refl refl (x.1 h)))
