-- What contracts see of a shared manager and of a pass, and what a turn and the end of sharing give.
-- Source: this simulator's.
use Rattle.std.specs.Prelude.{◌≡◌, ℕ, ◌+◌, ◌<◌, ◌≤◌, ◌%◌, ◌^◌, ◌⊎◌, Bool, true, List, [], ◌∷◌, length, slice_get, Option, Some, None, IsSome}
use Rattle.atomic_table.specs.Table.{Me}
use Rattle.atomic_table.specs.Seated.{TableId}
use Rattle.ffm_model.specs.declared.constants.TheConstants.{MAX_ENTRIES}
use Rattle.ffm_model.specs.declared.machine.Call.{Call}
use Rattle.ffm_model.specs.declared.machine.Answer.{Answer}
use Rattle.ffm_model.specs.declared.machine.Entry.{Entry}
use Rattle.ffm_model.specs.Records.{entries_of}
use Rattle.ffm_model.specs.Verdicts.{verdict_of}
use Rattle.memory_image.specs.Pieces.{byte_at}
use Rattle.spm_core.specs.Manager.{Opening, Managed, StepAnswers, is_actor_gone, awaits_return}
use Rattle.spm_lock.specs.Histories.{actors, IsRun, Begins}
use Rattle.spm_lock.specs.declared.view.Right.{Right}
use Rattle.spm_lock.specs.declared.view.Stage.TheVariants.{Idle, Waits, Has}
use Rattle.spm_lock.specs.declared.view.View.{View}
use Rattle.spm_lock.specs.Views.{pass_with, right_of, front_of}

-- ---- what contracts see

-- a shared manager: its table, and the opening of the manager that was shared
pub record SharedView : Type 0 where
  pub table : TableId
  pub opening : Opening

-- a pass: of which table it is, which actor's, how many turns it had, and its front, the history as it stood at the last of them
pub record PassView : Type 0 where
  pub table : TableId
  pub opening : Opening
  pub actor : ℕ
  pub turns : ℕ
  pub front : List Entry

-- the pass is one of this shared manager
abbrev pub IsOwn : SharedView → PassView → Type 0
IsOwn s p = (p.table ≡ s.table) × (p.opening ≡ s.opening)

-- the entries that the pass was answered
abbrev pub record_of : PassView → List Entry
record_of p = entries_of p.actor p.front

-- the run has a verdict: no actor can go on, or it has as many entries as it may have
abbrev pub has_verdict : Opening → List Entry → Type 0
has_verdict o history = IsSome (verdict_of o.system (byte_at o.memory) o.limit history)

-- after the front the actor makes no further entry: it has ended or panicked, or the run has a verdict
abbrev pub IsDoneAt : Opening → ℕ → List Entry → Type 0
IsDoneAt o a front = (is_actor_gone o front a ≡ true) ⊎ has_verdict o front

abbrev pub IsDone : PassView → Type 0
IsDone p = IsDoneAt p.opening p.actor p.front

-- ---- a turn

-- the turn saw a history which begins with the old front, with no more entries of the actor than it had, and the call was answered on that history, as the manager answers
pub record IsTurn (o : Opening) (a : ℕ) (old : List Entry) (call : Call) (answer : Answer) (new : List Entry) : Type 0 where
  pub seen : List Entry
  pub later : Begins old seen
  pub own : entries_of a seen ≡ entries_of a old
  pub answered : StepAnswers o seen a call answer new
  pub run : IsRun o new
  pub within : length new ≤ o.limit

-- ---- the beginning and the end

-- the passes of the first n actors, in actor order
pub record FirstPasses (s : SharedView) (n : ℕ) (ps : List PassView) : Type 0 where
  pub all : length ps ≡ n
  pub each : (k : ℕ) (p : PassView) → slice_get ps k ≡ Some p → IsOwn s p × (p.actor ≡ k)

-- one pass of this manager for each actor, in actor order
abbrev pub ArePasses : SharedView → List PassView → Type 0
ArePasses s ps = FirstPasses s (actors s.opening) ps

-- no pass had a turn
abbrev pub AreNew : List PassView → Type 0
AreNew ps = (k : ℕ) (p : PassView) → slice_get ps k ≡ Some p → (p.front ≡ []) × (p.turns ≡ 0)

-- the history begins with the front of the pass, and has the actor's entries that the pass was answered and no more
pub record Keeps (history : List Entry) (p : PassView) : Type 0 where
  pub begins : Begins p.front history
  pub own : entries_of p.actor history ≡ record_of p

-- ---- seats

abbrev pub turns_of : List Right → ℕ
turns_of [] = 0
turns_of (r ∷ rs) = r.turns

abbrev pub front : {S : Type 0} → Me S View → List Entry
front m = front_of m.0.rights

abbrev pub turns : {S : Type 0} → Me S View → ℕ
turns m = turns_of m.0.rights

-- the seat is that of an idle pass of the actor
abbrev pub IsIdle : {S : Type 0} → ℕ → Me S View → Type 0
IsIdle a m = m ≡ (pass_with m.0.start (right_of a (turns m) (front m)) Idle, [])

-- a pass between two calls: its seat is idle, its actor exists, and it knows whether the actor's next event is a return
pub record IsAtRest {S : Type 0} (a : ℕ) (pending : Bool) (m : Me S View) : Type 0 where
  pub idle : IsIdle a m
  pub exists : a < actors m.0.start.opening
  pub pending_is : pending ≡ awaits_return (front m) a

-- the right that a pass has
abbrev pub right_in : PassView → Right
right_in p = right_of p.actor p.turns p.front

-- the seat holds a ticket, which is known modulo 2 ^ 64
pub record IsWaiting {S : Type 0} (a : ℕ) (m : Me S View) (ticket : ℕ) (m' : Me S View) : Type 0 where
  pub number : ℕ
  pub ticket_is : ticket ≡ number % 2 ^ 64
  pub seat_is : m' ≡ (pass_with m.0.start (right_of a (turns m) (front m)) (Waits number), [])

module _ {B : Type 0} (managed : B → Managed) where
  -- the seat got its turn, and has the manager
  pub record HasTurn (a : ℕ) (m m' : Me (Option B) View) : Type 0 where
    pub ticket : ℕ
    pub value : B
    pub seat_is : m' ≡ (pass_with m.0.start (right_of a (turns m + 1) (managed value).history) (Has ticket), (0, Some value) ∷ [])
    pub opening_is : (managed value).opening ≡ m.0.start.opening
    pub later : Begins (front m) (managed value).history
    pub own : entries_of a (managed value).history ≡ entries_of a (front m)
    pub run : IsRun m.0.start.opening (managed value).history

-- the manager is out with the seat, and made the step that the answer tells
pub record HasStepped {B : Type 0} (a : ℕ) (m : Me (Option B) View) (x : Managed) (answer : Answer) : Type 0 where
  pub ticket : ℕ
  pub call : Call
  pub seat_is : m ≡ (pass_with m.0.start (right_of a (turns m) (front m)) (Has ticket), (0, None) ∷ [])
  pub opening_is : x.opening ≡ m.0.start.opening
  pub answered : StepAnswers m.0.start.opening (front m) a call answer x.history
  pub short : length x.history ≤ MAX_ENTRIES
