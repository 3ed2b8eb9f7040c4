-- The state after a place of a trace.
-- Source: this simulator's; `after` and `judged` of the model.
use Rattle.std.specs.Prelude.{ℕ, ◌≡◌, ◌<◌, ◌≤◌, ◌+◌, ◌-◌, ◌⊎◌, List, All, length, take, drop, get_or, slice_get, None, IsSome, IsSomeAnd}
use Rattle.ffm_model.specs.declared.system.System.{System}
use Rattle.ffm_model.specs.declared.machine.Entry.{Entry}
use Rattle.ffm_model.specs.Actors.{actor_count}
use Rattle.ffm_model.specs.Memory.{ByteMap}
use Rattle.ffm_model.specs.Step.{after}
use Rattle.machine_check.specs.Reaching.{IsAfter, IsReached}
use Rattle.view_places.specs.declared.behind.Place.{Place}
use Rattle.view_places.specs.declared.behind.Place.TheVariants as place
use Rattle.view_places.specs.declared.behind.StateAfter.{StateAfter}

-- n is the place, counted from 1, of the last of these entries that is the actor's, and 0 where none is
pub record IsLastPlace (es : List Entry) (a n : ℕ) : Type 0 where
  pub within : n ≤ length es
  pub own : 0 < n → IsSomeAnd (slice_get es (n - 1)) (λ e. e.actor.0 ≡ a)
  pub none_later : All (λ e. e.actor.0 ≡ a → ⊥) (drop n es)

-- the place of each actor's last entry
pub record AreLastPlaces (s : System) (es : List Entry) (places : List ℕ) : Type 0 where
  pub actors : length places ≡ actor_count s
  pub each : (a : ℕ) → a < actor_count s → IsLastPlace es a (get_or places a 0)

-- the state after the first k of these entries, which are within the limit
pub record IsStateAfter (s : System) (m : ByteMap) (limit : ℕ) (es : List Entry) (k : ℕ) (b : StateAfter) : Type 0 where
  pub within : k ≤ limit
  pub behind : IsAfter s m (take k es) b.checker
  pub count : b.checker.count ≡ k
  pub total : b.total ≡ length es
  pub last : AreLastPlaces s (take k es) b.last.items

-- the entry at place n, counted from 1, is the first that exceeds the limit or is no step after those before it
pub record IsIllegalAt (s : System) (m : ByteMap) (limit : ℕ) (es : List Entry) (n : ℕ) : Type 0 where
  pub before : ℕ
  pub place : n ≡ before + 1
  pub there : before < length es
  pub within : before ≤ limit
  pub run : IsSome (after s m (take before es))
  pub illegal : (limit ≡ before) ⊎ (after s m (take n es) ≡ None)

-- the state after place k; or none, where there are fewer entries, or as many and one up to it is illegal
abbrev pub IsPlace : System → ByteMap → ℕ → List Entry → ℕ → Place → Type 0
IsPlace s m limit es k (place.State b) = IsStateAfter s m limit es k b
IsPlace s m limit es k place.Beyond = length es < k
IsPlace s m limit es k (place.Illegal n) = (k ≤ length es) × ((n ≤ k) × IsIllegalAt s m limit es n)

-- the state after all entries, or after those before the first illegal one
pub record IsLastLegal (s : System) (m : ByteMap) (limit : ℕ) (es : List Entry) (b : StateAfter) : Type 0 where
  pub reached : IsReached s m limit es b.checker
  pub total : b.total ≡ length es
  pub last : AreLastPlaces s (take b.checker.count es) b.last.items
