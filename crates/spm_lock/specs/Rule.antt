-- The rule of the table, and what each step on it tells.
-- Word 0 is the length of the history, word 1 counts the tickets that were drawn, and word 2 those that were served, both modulo 2 ^ 64.
-- Source: this simulator's.
use Rattle.std.specs.Prelude.{◌≡◌, ◌≢◌, ℕ, ◌+◌, ◌%◌, ◌^◌, ◌<◌, ◌≤◌, List, [], ◌∷◌, length, Option, Some}
use mathlib.Core.Option.{some, none}
use mathlib.Core.Option as maybe
use lib.ListN.{get_elem?}
use Rattle.atomic_table.specs.Table.{State, Me, rest}
use Rattle.ffm_model.specs.declared.machine.Entry.{Entry}
use Rattle.ffm_model.specs.Records.{entries_of}
use Rattle.spm_core.specs.Manager.{Managed}
use Rattle.spm_lock.specs.Histories.{actors, IsRun, Begins}
use Rattle.spm_lock.specs.declared.view.Right.{Right}
use Rattle.spm_lock.specs.declared.view.Stage.{Stage}
use Rattle.spm_lock.specs.declared.view.Stage.TheVariants.{Idle, Waits, Has}
use Rattle.spm_lock.specs.declared.view.View.{View}
use Rattle.spm_lock.specs.Views.{total, turns_by, has, held, ticket_of, weight, rights_to, taker, front_of}

-- the actor's entries all stand in the front, with which the history begins
abbrev pub Fits : List Entry → Right → Type 0
Fits history r = Begins r.front history × (entries_of r.actor history ≡ entries_of r.actor r.front)

abbrev pub AllFit : List Entry → List Right → Type 0
AllFit history [] = Unit {0}
AllFit history (r ∷ rs) = Fits history r × AllFit history rs

-- what a seat at a stage knows: its ticket is to be served or is served, and then the manager is out with this seat, whose front is the history
abbrev pub Staged : {S : Type 0} → ℕ → ℕ → List Entry → List (maybe.Option S) → List Right → Stage → Type 0
Staged drawn served history homes rs Idle = Unit {0}
Staged drawn served history homes rs (Waits t) = (served ≤ t) × (t < drawn) × (0 < length rs)
Staged drawn served history homes rs (Has t) = (t ≡ served) × (t < drawn) × (0 < length rs) × (homes ≡ none ∷ []) × (front_of rs ≡ history)

pub record Sits {S : Type 0} (x : Managed) (drawn served : ℕ) (history : List Entry) (homes : List (maybe.Option S)) (v : View) : Type 0 where
  pub start_is : 0 < weight v → v.start ≡ x
  pub staged : Staged drawn served history homes v.rights v.stage
  pub fit : AllFit history v.rights
  pub unmade : (a : ℕ) → v.next ≤ a → a < v.last → entries_of a history ≡ []

abbrev pub words_of : ℕ → ℕ → List Entry → List ℕ
words_of drawn served history = length history ∷ drawn % 2 ^ 64 ∷ served % 2 ^ 64 ∷ []

module _ {B : Type 0} (managed : B → Managed) where
  -- the manager is at home, with this history
  abbrev pub AtHome : Managed → List Entry → List (maybe.Option (Option B)) → Type 0
  AtHome x history homes = (b : B) × (homes ≡ some (Some b) ∷ []) × ((managed b).opening ≡ x.opening) × ((managed b).history ≡ history)

  -- of the slot and the views. Each turn is one ticket's, no two seats have one ticket, and no actor two rights
  pub record Ruled (x : Managed) (drawn served : ℕ) (history : List Entry) (homes : List (maybe.Option (Option B))) (views : List View) : Type 0 where
    pub run : IsRun x.opening history
    pub small : actors x.opening < 2 ^ 32
    pub short : length history < 2 ^ 32
    pub tickets : total held views + served ≡ drawn
    pub turned : total turns_by views ≡ served + total has views
    pub few : total weight views ≤ actors x.opening
    pub one_right : (a : ℕ) → total (rights_to a) views ≤ 1
    pub each : (j : ℕ) (v : View) → get_elem? views j ≡ some v → Sits x drawn served history homes v
    pub apart : (j k t : ℕ) (v w : View) → get_elem? views j ≡ some v → get_elem? views k ≡ some w → ticket_of v.stage ≡ Some t → ticket_of w.stage ≡ Some t → j ≡ k
    pub home : ((j t : ℕ) (v : View) → get_elem? views j ≡ some v → v.stage ≡ Has t → ⊥) → AtHome x history homes

  pub record Kept (x : Managed) (s : State (Option B) View) : Type 0 where
    pub drawn : ℕ
    pub served : ℕ
    pub history : List Entry
    pub words : s.words ≡ words_of drawn served history
    pub ruled : Ruled x drawn served history s.homes s.views

  abbrev Sat : Type 0
  Sat = Me (Option B) View

  abbrev pub drew : Sat → ℕ → Sat → Type 0
  drew m n m' = (t : ℕ) × (n ≡ t % 2 ^ 64) × (m' ≡ (record m.0 { stage = Waits t }, m.1))

  -- the seat has the manager, whose history is the front from now on. It had the actor's entries before
  abbrev pub Seizes : ℕ → Sat → Sat → Type 0
  Seizes t m m' = (r : Right) → m.0.rights ≡ r ∷ []
      → (b : B) × (m' ≡ (record m.0 { rights = record { actor = r.actor; turns = r.turns + 1; front = (managed b).history } ∷ []; stage = Has t }, (0, Some b) ∷ m.1))
      × ((managed b).opening ≡ m.0.start.opening) × Begins r.front (managed b).history × (entries_of r.actor (managed b).history ≡ entries_of r.actor r.front)
      × IsRun m.0.start.opening (managed b).history

  abbrev pub looked : Sat → ℕ → Sat → Type 0
  looked m n m' = (t : ℕ) → m.0.stage ≡ Waits t → (n ≡ t % 2 ^ 64 → Seizes t m m') × (n ≢ t % 2 ^ 64 → m' ≡ m)

  -- the front becomes the history of the manager that the step was told
  abbrev pub counted : maybe.Option (Option B) → Sat → ℕ → Sat → Type 0
  counted said m n m' = (r : Right) (b : B) → m.0.rights ≡ r ∷ [] → said ≡ some (Some b)
      → m' ≡ (record m.0 { rights = record { actor = r.actor; turns = r.turns; front = (managed b).history } ∷ [] }, m.1)

  abbrev pub gave_back : Sat → ℕ → Sat → Type 0
  gave_back m n m' = m' ≡ (record m.0 { stage = Idle }, rest m.1)

  -- a new seat that takes rights in. `m` is the first seat of the table
  abbrev pub came : Sat → ℕ → Sat → Type 0
  came m n m' = m'.0 ≡ taker m.0.start []
