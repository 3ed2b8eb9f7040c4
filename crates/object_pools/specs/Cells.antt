-- Where a pool keeps its items: an item stays in the cell of its index, and the order of the takes is a list of indices.
-- Source: of this repository; what it stores makes up the pool that contracts see.
use Rattle.std.specs.Prelude.{◌≡◌, ℕ, ◌≤◌, ◌<◌, ◌^◌, ◌==◌, true, is_some, if◌then◌else◌, List, length, Option, None, map, count_by, get_or, slice_get, option_and_then}
use Rattle.std.specs.List.{filter_map, sum}
use Rattle.std.specs.Option.{option_map}
use Rattle.object_pools.specs.declared.slot.Slot.{Slot}
use Rattle.object_pools.specs.declared.slot.Held.{Held}
use Rattle.object_pools.specs.declared.cells.Cell.{Cell}
use Rattle.object_pools.specs.Pool.{Places, most_takes}

module _ {T : Type 0} where
  -- an item with its slot
  abbrev pub under_slot : Slot → T → Held T
  under_slot s x = record { slot = s; item = x }

  -- what is live in the cell of an index, with its slot
  abbrev pub held_in : ℕ → Cell T → Option (Held T)
  held_in i c = option_map (under_slot (record { index = i; generation = c.generation })) c.item

  -- the live item at an index, with its slot
  abbrev pub held_at : List (Cell T) → ℕ → Option (Held T)
  held_at cells i = option_and_then (held_in i) (slice_get cells i)

  -- the live item of a slot: its cell's, where the cell has the slot's generation
  abbrev pub item_in : List (Cell T) → Slot → Option T
  item_in cells s = option_and_then (λ c. if c.generation == s.generation then c.item else None) (slice_get cells s.index)

  -- the last generation of each index
  abbrev pub generations_of : List (Cell T) → List ℕ
  generations_of cells = map (λ c. c.generation) cells

  -- the last generation of one index, and 0 where none was given
  abbrev pub generation_at : List (Cell T) → ℕ → ℕ
  generation_at cells i = get_or (generations_of cells) i 0

  -- the pool that the cells and the order make
  abbrev pub places_of : List (Cell T) → List ℕ → ℕ → Places T
  places_of cells order takes = record { generations = generations_of cells; held = filter_map (held_at cells) order; takes = takes }

  -- what the cells, the order and the number of takes of every pool keep
  pub record Stored (capacity : ℕ) (cells : List (Cell T)) (order : List ℕ) (takes : ℕ) : Type 0 where
    pub size : length cells ≤ capacity
    pub few : length cells < 2 ^ 32
    -- an index stands in the order once where an item is live there, and else not at all
    pub once : (i : ℕ) → count_by (λ k. k == i) order ≡ (if is_some (held_at cells i) then 1 else 0)
    -- where an item is live, a generation was given
    pub used : (i : ℕ) → is_some (held_at cells i) ≡ true → 1 ≤ generation_at cells i
    -- the last generations add up to the number of takes
    pub total : sum (generations_of cells) ≡ takes
    pub takes_left : takes ≤ most_takes
