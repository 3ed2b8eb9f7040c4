-- What the steps of one turn tell, put together.
use Rattle.std.proofs.Common.{◌≡◌, ◌≢◌, ℕ, ◌+◌, inl, inr, length, List, [], ◌∷◌, ◌++◌, Option, Some, None, sym, refl, ap, ◌∙◌, subst}
use Rattle.std.specs.Prelude.{◌≤◌}
use Rattle.ffm_model.proofs.RecordLemmas.{entries_of-same}
use mathlib.Core.Option.{some}
use Rattle.atomic_table.specs.Table.{Me, rest}
use Rattle.ffm_model.specs.declared.constants.TheConstants.{MAX_ENTRIES}
use Rattle.ffm_model.specs.declared.machine.Entry.{Entry}
use Rattle.ffm_model.specs.declared.machine.Call.{Call}
use Rattle.ffm_model.specs.declared.machine.Answer.{Answer}
use Rattle.ffm_model.specs.declared.machine.Answer.TheVariants.{Made, Gone, Over, Full, NotYet}
use Rattle.ffm_model.specs.Passes.{IsAnswered}
use Rattle.ffm_model.specs.Records.{entries_of, outcomes_of, ends_blocked, is_blocked_outcome}
use Rattle.spm_core.specs.Manager.{Opening, Managed, StepAnswers, awaits_return}
use Rattle.spm_lock.specs.declared.view.Stage.TheVariants.{Waits, Has}
use Rattle.spm_lock.specs.declared.view.View.{View}
use Rattle.spm_lock.specs.Histories.{IsRun}
use Rattle.spm_lock.specs.Views.{pass_with, right_of}
use Rattle.spm_lock.specs.Rule.{drew, looked, counted}
use Rattle.spm_lock.specs.Passes.{SharedView, PassView, IsOwn, IsDoneAt, IsDone, record_of, IsIdle, IsWaiting, HasTurn, HasStepped, IsTurn, front, turns}
use Rattle.spm_lock.proofs.Entries.{ends_with}
use Rattle.spm_lock.proofs.Done.{gone_refused, over_refused, full_refused, stop_made}
use Rattle.spm_lock.proofs.Moves.{held_value}

-- an answer without an entry leaves the history
pub made_nothing : (o : Opening) (h : List Entry) (a : ℕ) (call : Call) (answer : Answer) (after : List Entry) → ((place : ℕ) (e : Entry) → answer ≡ Made place e → ⊥) → StepAnswers o h a call answer after → after ≡ h
made_nothing o h a call (Made place e) after not ans = absurd (not place e refl)
made_nothing o h a call _ after not ans = ans.unchanged

-- a run stays one
still_run : (o : Opening) (h : List Entry) (a : ℕ) (call : Call) (answer : Answer) (after : List Entry) → IsRun o h → StepAnswers o h a call answer after → IsRun o after
still_run o h a call (Made place e) after run ans = ans.is_state
still_run o h a call _ after run ans = subst (IsRun o) (sym ans.unchanged) run

-- a turn, as the simulator sees it
answers_as : (o : Opening) (a : ℕ) (old : List Entry) (call : Call) (answer : Answer) (new : List Entry) → IsTurn o a old call answer new
    → IsAnswered a call answer (entries_of a old) (entries_of a new) (IsDoneAt o a new)
answers_as o a old call (Made place e) new t = let m = t.answered in record {
  added = ap (entries_of a) m.added ∙ (entries_of-same a t.seen e m.actor ∙ ap (λ (l : List Entry). l ++ e ∷ []) t.own);
  actor = m.actor;
  called = m.called;
  stopped = λ stop. inl (stop_made o t.seen new a place call e m stop);
}
answers_as o a old call Gone new t = (ap (entries_of a) t.answered.unchanged ∙ t.own, inl (gone_refused o t.seen new a t.answered))
answers_as o a old call Over new t = (ap (entries_of a) t.answered.unchanged ∙ t.own, inr (over_refused o t.seen new a t.answered))
answers_as o a old call Full new t = (ap (entries_of a) t.answered.unchanged ∙ t.own, inr (full_refused o t.seen new a t.within t.answered))
answers_as o a old call NotYet new t = ap (entries_of a) t.answered.unchanged ∙ t.own

pub answered_as : (s : SharedView) (p q : PassView) (call : Call) (answer : Answer) → IsOwn s q → q.actor ≡ p.actor → IsTurn s.opening p.actor p.front call answer q.front
    → IsAnswered p.actor call answer (record_of p) (record_of q) (IsDone q)
answered_as s p q call answer own same t =
    subst (λ (a : ℕ). IsAnswered p.actor call answer (record_of p) (entries_of a q.front) (IsDoneAt q.opening a q.front)) (sym same)
    (subst (λ (o : Opening). IsAnswered p.actor call answer (record_of p) (entries_of p.actor q.front) (IsDoneAt o p.actor q.front)) (sym own.1)
    (answers_as s.opening p.actor p.front call answer q.front t))

-- whether the next event is a return, after a turn without an entry and after one with it
pub pending_after : (o : Opening) (a : ℕ) (old : List Entry) (call : Call) (answer : Answer) (new : List Entry) → ((place : ℕ) (e : Entry) → answer ≡ Made place e → ⊥) → IsTurn o a old call answer new
    → awaits_return old a ≡ awaits_return new a
pending_after o a old call answer new not t =
    ap (λ (l : List Entry). ends_blocked (outcomes_of l)) (sym (ap (entries_of a) (made_nothing o t.seen a call answer new not t.answered) ∙ t.own))

pub pending_made : (o : Opening) (a : ℕ) (old : List Entry) (call : Call) (place : ℕ) (e : Entry) (new : List Entry) → IsTurn o a old call (Made place e) new → is_blocked_outcome e.outcome ≡ awaits_return new a
pending_made o a old call place e new t = let m = t.answered in
    sym (ap (λ (l : List Entry). ends_blocked (outcomes_of (entries_of a l))) m.added ∙ (ap (λ (l : List Entry). ends_blocked (outcomes_of l)) (entries_of-same a t.seen e m.actor) ∙ ends_with (entries_of a t.seen) e))

module _ {B : Type 0} (managed : B → Managed) where
  abbrev M : Type 0
  M = Me (Option B) View

  pub waits_from : (a : ℕ) (m m' : M) (n : ℕ) → IsIdle a m → drew managed m n m' → IsWaiting a m n m'
  waits_from a m m' n idle d = record {
    number = d.0;
    ticket_is = d.1;
    seat_is = d.2 ∙ ap (λ (z : M). let w : M = (record z.0 { stage = Waits d.0 }, z.1) in w) idle;
  }

  pub misses_from : (a : ℕ) (m m' m'' : M) (n k : ℕ) → IsWaiting a m n m' → looked managed m' k m'' → k ≢ n → IsWaiting a m n m''
  misses_from a m m' m'' n k w l miss = record {
    number = w.number;
    ticket_is = w.ticket_is;
    seat_is = (l w.number (ap (λ (z : M). z.0.stage) w.seat_is)).1 (λ e. miss (e ∙ sym w.ticket_is)) ∙ w.seat_is;
  }

  pub turn_from : (a : ℕ) (m m' m'' : M) (n k : ℕ) → IsWaiting a m n m' → looked managed m' k m'' → k ≡ n → HasTurn managed a m m''
  turn_from a m m' m'' n k w l hit =
      let got = (l w.number (ap (λ (z : M). z.0.stage) w.seat_is)).0 (hit ∙ w.ticket_is) (right_of a (turns m) (front m)) (ap (λ (z : M). z.0.rights) w.seat_is) in
      let b : B = got.0 in
      let start : m'.0.start ≡ m.0.start = ap (λ (z : M). z.0.start) w.seat_is in record {
        ticket = w.number;
        value = b;
        seat_is = got.1 ∙ ap (λ (z : M). let u : M = (record z.0 { rights = right_of a (turns m + 1) (managed b).history ∷ []; stage = Has w.number }, (0, Some b) ∷ z.1) in u) w.seat_is;
        opening_is = got.2 ∙ ap (λ (z : Managed). z.opening) start;
        later = got.3;
        own = got.4;
        run = subst (λ (z : Managed). IsRun z.opening (managed b).history) start got.5;
      }

  pub same_manager : (a : ℕ) (m m' : M) (got : Option B) (b : B) → (t : HasTurn managed a m m') → m'.1 ≡ (0, got) ∷ rest m'.1 → got ≡ Some b → b ≡ t.value
  same_manager a m m' got b t e is =
      let p : Some t.value ≡ Some b = sym (ap held_value (ap (λ (y : M). y.1) t.seat_is)) ∙ (ap held_value e ∙ is) in cc

  -- the manager was at the turn's history
  answered_at : (a : ℕ) (m m' : M) (t : HasTurn managed a m m') (v : Managed) (call : Call) (answer : Answer) (after : List Entry) → v ≡ managed t.value
      → StepAnswers v.opening v.history a call answer after → StepAnswers m.0.start.opening (managed t.value).history a call answer after
  answered_at a m m' t v call answer after is ans =
      subst (λ (o : Opening). StepAnswers o (managed t.value).history a call answer after) t.opening_is
      (subst (λ (z : Managed). StepAnswers z.opening z.history a call answer after) is ans)

  pub turned : (a : ℕ) (m m' : M) (t : HasTurn managed a m m') (v : Managed) (call : Call) (answer : Answer) (after : Managed) → v ≡ managed t.value
      → StepAnswers v.opening v.history a call answer after.history → after.opening ≡ v.opening → length after.history ≤ after.opening.limit
      → IsTurn m.0.start.opening a (front m) call answer after.history
  turned a m m' t v call answer after is ans kept short =
      let at = answered_at a m m' t v call answer after.history is ans in record {
        seen = (managed t.value).history;
        later = t.later;
        own = t.own;
        answered = at;
        run = still_run m.0.start.opening (managed t.value).history a call answer after.history t.run at;
        within = subst (λ (o : Opening). length after.history ≤ o.limit) (kept ∙ (ap (λ (z : Managed). z.opening) is ∙ t.opening_is)) short;
      }

  -- what a seat has after the manager was taken out
  pub taken_out : (a : ℕ) (m m' m2 : M) (w : Option B) → (t : HasTurn managed a m m') → m2 ≡ (m'.0, (0, w) ∷ rest m'.1)
      → m2 ≡ (pass_with m.0.start (right_of a (turns m + 1) (managed t.value).history) (Has t.ticket), (0, w) ∷ [])
  taken_out a m m' m2 w t e = e ∙ ap (λ (y : M). let u : M = (y.0, (0, w) ∷ rest y.1) in u) t.seat_is

  -- what a seat has after the manager was taken out and made a step
  pub stepped : (a : ℕ) (m m' m2 : M) (t : HasTurn managed a m m') (v : Managed) (call : Call) (answer : Answer) (after : Managed) → v ≡ managed t.value
      → StepAnswers v.opening v.history a call answer after.history → after.opening ≡ v.opening → length after.history ≤ MAX_ENTRIES → m2 ≡ (m'.0, (0, None) ∷ rest m'.1)
      → HasStepped a m2 after answer
  stepped a m m' m2 t v call answer after is ans kept short out =
      let seat : m2 ≡ (pass_with m.0.start (right_of a (turns m + 1) (managed t.value).history) (Has t.ticket), (0, None) ∷ []) = taken_out a m m' m2 None t out in
      let start : m2.0.start ≡ m.0.start = ap (λ (y : M). y.0.start) seat in
      let was : front m2 ≡ (managed t.value).history = ap front seat in
      record {
        ticket = t.ticket;
        call = call;
        seat_is = seat ∙ ap (λ (y : M). let u : M = (pass_with y.0.start (right_of a (turns y) (front y)) (Has t.ticket), (0, None) ∷ []) in u) (sym seat);
        opening_is = kept ∙ (ap (λ (z : Managed). z.opening) is ∙ (t.opening_is ∙ ap (λ (z : Managed). z.opening) (sym start)));
        answered = subst (λ (z : Managed). StepAnswers z.opening (front m2) a call answer after.history) (sym start)
            (subst (λ (h : List Entry). StepAnswers m.0.start.opening h a call answer after.history) (sym was) (answered_at a m m' t v call answer after.history is ans));
        short = short;
      }

  pub seat_counted : (x : Managed) (a n t k : ℕ) (old : List Entry) (z : Option B) (b : B) (m3 m4 : M) → m3 ≡ (pass_with x (right_of a n old) (Has t), (0, z) ∷ []) → counted managed (some (Some b)) m3 k m4
      → m4 ≡ (pass_with x (right_of a n (managed b).history) (Has t), (0, z) ∷ [])
  seat_counted x a n t k old z b m3 m4 is told =
      told (right_of a n old) b (ap (λ (y : M). y.0.rights) is) refl
      ∙ ap (λ (y : M). let u : M = (record y.0 { rights = right_of a n (managed b).history ∷ [] }, y.1) in u) is

  pub put_in : (v : View) (z w : Option B) (m3 m4 : M) → m3 ≡ (v, (0, z) ∷ []) → m4 ≡ (m3.0, (0, w) ∷ rest m3.1) → m4 ≡ (v, (0, w) ∷ [])
  put_in v z w m3 m4 is e = e ∙ ap (λ (y : M). let u : M = (y.0, (0, w) ∷ rest y.1) in u) is
