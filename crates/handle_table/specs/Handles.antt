-- Handles: the numbers that name slots of connections and messages to actors.
-- Source: this profile's choice of `psa_handle_t`, which FF-M 1.0 leaves open; a handle is positive and below 0x40000000.
use Rattle.std.specs.Prelude.{◌≡◌, ◌≢◌, ℕ, ◌+◌, ◌*◌, ◌<◌, ◌≤◌, ◌^◌, Bool, true, false, List, [], ◌∷◌, ◌++◌, length, Some, map, count_by, get_or, All}
use Rattle.std.specs.List.{list_any}
use Rattle.ffm_model.specs.declared.machine.Handle.{Handle}
use Rattle.ffm_model.specs.State.{State, handle_eq, fresh}
use Rattle.ffm_model.specs.Names.{SlotName, name_of, has_index, next_slot}
use Rattle.object_pools.specs.declared.slot.Slot.{Slot}
use Rattle.object_pools.specs.Pool.{Places, free_slot, item_at, taken, with_item, without}
use Rattle.handle_table.specs.declared.handles.Family.{Family}
use Rattle.handle_table.specs.declared.handles.Family.TheVariants.{Connection, Message}

-- indices are below this, so that no handle is one of both families
abbrev pub index_limit : ℕ
index_limit = 512

-- what a family's handles have more than the slot's own number
abbrev pub base_of : Family → ℕ
base_of Connection = 0
base_of Message = index_limit

-- how many indices a family's slots have: connections are at most 256, and 48 clients and partitions can each have one message more
abbrev pub indices_of : Family → ℕ
indices_of Connection = 256
indices_of Message = 304

-- the number of a slot's handle
abbrev pub handle_number : Family → Slot → ℕ
handle_number f s = s.generation * 1024 + s.index + base_of f

-- a pool's slot, as the machine's names have it
abbrev pub slot_name : Slot → SlotName
slot_name s = record { index = s.index; generation = s.generation }

-- the handle that names a slot of a family
abbrev pub handle_at : Family → Slot → Handle
handle_at f s = name_of (base_of f) (slot_name s)

-- a slot of a family that a handle can name
pub record IsNameable (f : Family) (s : Slot) : Type 0 where
  pub index : s.index < indices_of f
  pub first : 1 ≤ s.generation
  pub last : s.generation < 2 ^ 20

-- whether events have shown a handle
abbrev pub is_given : List Handle → Handle → Bool
is_given given h = list_any (handle_eq h) given

module _ {T : Type 0} where
  -- the names of the live slots, in the order of their takes
  abbrev pub live_names : Places T → List SlotName
  live_names p = map (λ h. slot_name h.slot) p.held

  -- all slots that a pool ever gave: each index as often as its last generation says
  pub record IsPast (p : Places T) (past : List SlotName) : Type 0 where
    pub uses : (i : ℕ) → count_by (has_index i) past ≡ get_or p.generations i 0

  -- a slot that a take gives is the next name, and belongs to the past from then on
  pub record TakesNextName (p : Places T) (past : List SlotName) (s : Slot) (x : T) : Type 0 where
    pub next : slot_name s ≡ next_slot (length p.generations) (live_names p) past
    pub after : IsPast (taken p s x) (past ++ slot_name s ∷ [])

  -- the handles that events have shown, as far as they are of this family and of the first n indices: none of a generation still to come, and none of a live slot that wasn't told
  pub record GivesFresh (f : Family) (n : ℕ) (told : T → Bool) (p : Places T) (given : List Handle) : Type 0 where
    pub future : (s : Slot) → s.index < n → get_or p.generations s.index 0 < s.generation → is_given given (handle_at f s) ≡ false
    pub untold : All (λ h. told h.item ≡ false → is_given given (handle_at f h.slot) ≡ false) p.held

  -- what a pool keeps of this, call by call
  pub record StaysFresh (f : Family) (n : ℕ) (told : T → Bool) (p : Places T) (given : List Handle) : Type 0 where
    -- the handle of a live slot that wasn't told is fresh
    pub new : (st : State) (s : Slot) (x : T) → st.handles_given ≡ given → item_at p s ≡ Some x → told x ≡ false → fresh st (handle_at f s) ≡ true
    pub after_take : (s : Slot) (x : T) → free_slot p ≡ Some s → GivesFresh f n told (taken p s x) given
    pub after_put_back : (s : Slot) → GivesFresh f n told (without p s) given
    pub after_telling : (s : Slot) (x y : T) → item_at p s ≡ Some x → told y ≡ true → GivesFresh f n told (with_item p s y) (given ++ handle_at f s ∷ [])
    pub after_change : (s : Slot) (x y : T) → item_at p s ≡ Some x → (told y ≡ false → told x ≡ false) → GivesFresh f n told (with_item p s y) given
    -- a handle of the other family is shown
    pub after_other : (g : Family) (s : Slot) → base_of g ≢ base_of f → s.index < index_limit → GivesFresh f n told p (given ++ handle_at g s ∷ [])
