-- What contracts see of a pool: for each index the last generation that it gave, the live items, and how many takes there were.
-- Source: of this repository; FF-M 1.0 leaves open how a manager keeps its connections and messages.
use Rattle.std.specs.Prelude.{◌≡◌, ℕ, ◌+◌, ◌<◌, ◌≤◌, ◌==◌, Bool, not, ◌&&◌, if◌then◌else◌, List, [], ◌∷◌, ◌++◌, length, Option, Some, None, Result, Ok, Err, find, map, filter, replicate, slice_set, get_or, count_by, All}
use Rattle.std.specs.List.{list_any, range_with_len, sum}
use Rattle.std.specs.Option.{option_map}
use Rattle.object_pools.specs.declared.slot.Slot.{Slot}
use Rattle.object_pools.specs.declared.slot.Held.{Held}

-- how often a pool is taken from at most: each take may need a generation of its own, and a handle shows those up to 0xfffff
abbrev pub most_takes : ℕ
most_takes = 0xfffff

pub record Places (T : Type 0) : Type 0 where
  -- by index, the last generation that was given, and 0 where none was
  pub generations : List ℕ
  -- the live items, in the order of their takes
  pub held : List (Held T)
  pub takes : ℕ

-- a slot of a live item has an index below the size, and the last generation that its index gave
pub record IsNamed (generations : List ℕ) (s : Slot) : Type 0 where
  pub below : s.index < length generations
  pub used : 1 ≤ s.generation
  pub latest : s.generation ≡ get_or generations s.index 0

module _ {T : Type 0} where
  -- an item at an index
  abbrev pub is_at : ℕ → Held T → Bool
  is_at i h = h.slot.index == i

  -- the item of a slot
  abbrev pub has_slot : Slot → Held T → Bool
  has_slot s h = (h.slot.index == s.index) && (h.slot.generation == s.generation)

  -- the item of a slot is another one
  abbrev pub item_put : Slot → T → Held T → Held T
  item_put s x h = if has_slot s h then record h { item = x } else h

  -- no item yet, and room for `size`
  abbrev pub empty : ℕ → Places T
  empty size = record { generations = replicate size 0; held = []; takes = 0 }

  -- the lowest index below the size that no live item has
  abbrev pub free_index : List (Held T) → ℕ → Option ℕ
  free_index held size = find (λ i. not (list_any (is_at i) held)) (range_with_len 0 size)

  -- the slot that the next take gives: the lowest free index with its next generation
  abbrev pub free_slot : Places T → Option Slot
  free_slot p = option_map (λ i. record { index = i; generation = get_or p.generations i 0 + 1 }) (free_index p.held (length p.generations))

  -- the live item of a slot
  abbrev pub item_at : Places T → Slot → Option T
  item_at p s = option_map (λ h. h.item) (find (has_slot s) p.held)

  -- the item goes last, and its slot's generation is the last of its index
  abbrev pub taken : Places T → Slot → T → Places T
  taken p s x = record {
    generations = slice_set p.generations s.index s.generation;
    held = p.held ++ record { slot = s; item = x } ∷ [];
    takes = p.takes + 1;
  }

  -- the item of a slot is gone; the generation of its index stays
  abbrev pub without : Places T → Slot → Places T
  without p s = record p { held = filter (λ h. not (has_slot s h)) p.held }

  -- the item of a slot is another one, and all else as it was
  abbrev pub with_item : Places T → Slot → T → Places T
  with_item p s x = record p { held = map (item_put s x) p.held }

  -- an item was taken in
  pub record IsTaken (old : Places T) (x : T) (s : Slot) (new : Places T) : Type 0 where
    pub lowest : free_slot old ≡ Some s
    pub after : new ≡ taken old s x

  -- an item was handed back, since no index is free
  pub record IsRefused (old : Places T) (x back : T) (new : Places T) : Type 0 where
    pub full : free_slot old ≡ None
    pub same : back ≡ x
    pub unchanged : new ≡ old

  -- what a take does in either case
  abbrev pub Takes : Places T → T → Result Slot T → Places T → Type 0
  Takes old x (Ok s) new = IsTaken old x s new
  Takes old x (Err back) new = IsRefused old x back new

  -- what every pool of at most `capacity` items keeps
  pub record IsKept (capacity : ℕ) (p : Places T) : Type 0 where
    pub size : length p.generations ≤ capacity
    pub live : length p.held ≤ length p.generations
    pub named : All (λ h. IsNamed p.generations h.slot) p.held
    -- no two live items share an index
    pub once : (i : ℕ) → count_by (is_at i) p.held ≤ 1
    -- no generation exceeds the number of takes
    pub given : (i : ℕ) → get_or p.generations i 0 ≤ p.takes
    pub takes_left : p.takes ≤ most_takes

  -- the last generations add up to the number of takes
  abbrev pub AddsUp : Places T → Type 0
  AddsUp p = sum p.generations ≡ p.takes
