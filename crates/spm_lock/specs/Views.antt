-- What seats know of a shared manager, and what is counted over all of them.
-- Source: this simulator's.
use Rattle.std.specs.Prelude.{◌≡◌, ℕ, ◌+◌, ◌-◌, ◌==◌, ◌&&◌, nat_le, nat_lt, true, if◌then◌else◌, List, [], ◌∷◌, ◌++◌, length, Option, Some, None, refl}
use Rattle.ffm_model.specs.declared.machine.Entry.{Entry}
use Rattle.ffm_model.specs.declared.system.System.{System}
use Rattle.ffm_model.specs.declared.system.Region.{Region}
use Rattle.ffm_model.specs.declared.system.Class.TheVariants.{NonSecure}
use Rattle.ffm_model.specs.WellFormed.{is_well_formed}
use Rattle.spm_core.specs.Manager.{Managed}
use Rattle.spm_lock.specs.Histories.{actors}
use Rattle.spm_lock.specs.declared.view.Right.{Right}
use Rattle.spm_lock.specs.declared.view.Stage.{Stage}
use Rattle.spm_lock.specs.declared.view.Stage.TheVariants.{Idle, Waits, Has}
use Rattle.spm_lock.specs.declared.view.View.{View}

-- f of each view, added up
abbrev pub total : (View → ℕ) → List View → ℕ
total f [] = 0
total f (v ∷ vs) = f v + total f vs

-- how many tickets the seat holds
abbrev pub held_at : Stage → ℕ
held_at Idle = 0
held_at (Waits t) = 1
held_at (Has t) = 1

abbrev pub held : View → ℕ
held v = held_at v.stage

abbrev pub ticket_of : Stage → Option ℕ
ticket_of Idle = None
ticket_of (Waits t) = Some t
ticket_of (Has t) = Some t

-- how many turns the rights had
abbrev pub turns_in : List Right → ℕ
turns_in [] = 0
turns_in (r ∷ rs) = r.turns + turns_in rs

abbrev pub turns_by : View → ℕ
turns_by v = turns_in v.rights

-- whether the seat has the manager
abbrev pub has_at : Stage → ℕ
has_at Idle = 0
has_at (Waits t) = 0
has_at (Has t) = 1

abbrev pub has : View → ℕ
has v = has_at v.stage

-- how many rights the seat has, and may still split off
abbrev pub weight : View → ℕ
weight v = length v.rights + (v.last - v.next)

-- how often the actor's right is among these
abbrev pub times : ℕ → List Right → ℕ
times a [] = 0
times a (r ∷ rs) = (if r.actor == a then 1 else 0) + times a rs

-- how often the seat has the actor's right, split off or not
abbrev pub rights_to : ℕ → View → ℕ
rights_to a v = times a v.rights + (if nat_le v.next a && nat_lt a v.last then 1 else 0)

abbrev pub right_of : ℕ → ℕ → List Entry → Right
right_of a n f = record { actor = a; turns = n; front = f }

abbrev pub front_of : List Right → List Entry
front_of [] = []
front_of (r ∷ rs) = r.front

-- the seat of one actor's pass
abbrev pub pass_with : Managed → Right → Stage → View
pass_with x r stage = record { start = x; next = 0; last = 0; rights = r ∷ []; stage = stage }

-- the seat that still splits off the rights from k on
abbrev pub maker : Managed → ℕ → View
maker x k = record { start = x; next = k; last = actors x.opening; rights = []; stage = Idle }

-- the seat that takes rights in
abbrev pub taker : Managed → List Right → View
taker x rs = record { start = x; next = 0; last = 0; rights = rs; stage = Idle }

-- a system that is the least one that fits: one empty region and nothing else
abbrev least_regions : List Region
least_regions = record { base = 0; size = 0; class = NonSecure } ∷ []

pub least_fits : is_well_formed 1 [] [] [] least_regions [] [] ≡ true
unfolding is_well_formed
least_fits = refl

abbrev pub least_system : System
least_system = record {
  level = 1;
  partitions = [];
  services = [];
  sources = [];
  regions = least_regions;
  clients = [];
  budgets = [];
  counted = refl;
  well_formed = least_fits;
}

-- a seat whose rights another took in: it has none, and what it began with tells nothing
abbrev pub spent_seat : View
spent_seat = taker (record { opening = record { system = least_system; memory = []; limit = 0 }; history = []; bytes = [] }) []

-- how a maker's view is split in two, and how two views are made one
abbrev pub maker_left : View → View
maker_left v = record v { next = v.next + 1 }

abbrev pub maker_right : View → View
maker_right v = pass_with v.start (right_of v.next 0 []) Idle

abbrev pub joined : View → View → View
joined v w = record v { rights = v.rights ++ w.rights }
