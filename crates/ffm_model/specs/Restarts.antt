-- The runs of a scenario: after a run in which a partition panicked the system is reset, and runs again.
-- Source: this simulator's; FF-M leaves to the implementation what follows a panic.
use Rattle.std.specs.Prelude.{ℕ, ◌-◌, ◌≡◌, nat_lt, Bool, true, false, ◌&&◌, List, [], ◌∷◌, length, if◌then◌else◌}
use Rattle.std.specs.List.{list_any, range_with_len}
use Rattle.std.specs.Option.{option_map_or}
use Rattle.ffm_model.specs.declared.machine.Entry.{Entry}
use Rattle.ffm_model.specs.declared.machine.Verdict.{Verdict}
use Rattle.ffm_model.specs.declared.machine.Verdict.TheVariants.{Quiet, Stalled, Full}
use Rattle.ffm_model.specs.declared.system.Class.{Class}
use Rattle.ffm_model.specs.declared.system.Class.TheVariants.{Ram, NonSecure, Mmio}
use Rattle.ffm_model.specs.declared.system.System.{System}
use Rattle.ffm_model.specs.Memory.{ByteMap}
use Rattle.ffm_model.specs.Reach.{covers}
use Rattle.ffm_model.specs.Signals.{is_panicked}
use Rattle.ffm_model.specs.State.{State, phase_of}
use Rattle.ffm_model.specs.Step.{after}

-- ---- one run

-- what a run made
pub record FinishedRun : Type 0 where
  pub entries : List Entry
  pub verdict : Verdict

abbrev pub is_ended : Verdict → Bool
is_ended Quiet = true
is_ended Stalled = true
is_ended Full = false

abbrev pub some_panicked : System → State → Bool
some_panicked s st = list_any (λ p. is_panicked (phase_of st.spm p)) (range_with_len 0 (length s.partitions))

-- the run from a memory came to an end, and a partition panicked in it
abbrev pub ends_panicked : System → ByteMap → FinishedRun → Bool
ends_panicked s m r = is_ended r.verdict && option_map_or (some_panicked s) (after s m r.entries) false

-- ---- the memory of the next run

abbrev pub is_mmio : Class → Bool
is_mmio (Ram domain) = false
is_mmio NonSecure = false
is_mmio (Mmio owner writable) = true

-- the memory that a run from m leaves
abbrev pub memory_after : System → ByteMap → List Entry → ByteMap
memory_after s m es = option_map_or (λ st. st.memory) (after s m es) m

-- MMIO bytes stay as the last run left them, and all other memory is as it was first
abbrev pub memory_reset : System → ByteMap → ByteMap → ByteMap
memory_reset s first last x = if list_any (λ r. is_mmio r.class && covers r x) s.regions then last x else first x

-- ---- all runs

-- `IsRun m r`: r is a run from the memory m
module _ (s : System) (IsRun : ByteMap → FinishedRun → Type 0) (first : ByteMap) where
  -- the runs from a memory on, where so many restarts are left: after a run that ends with a panicked partition comes another, while a restart is left, and after any other run none
  abbrev pub RunsFrom : ByteMap → ℕ → List FinishedRun → Type 0
  RunsFrom m left [] = ⊥
  RunsFrom m left (r ∷ []) = IsRun m r × ((nat_lt 0 left && ends_panicked s m r) ≡ false)
  RunsFrom m left (r ∷ q ∷ rs) =
      IsRun m r × ((nat_lt 0 left && ends_panicked s m r) ≡ true) × RunsFrom (memory_reset s first (memory_after s m r.entries)) (left - 1) (q ∷ rs)

  -- all runs with so many restarts at most
  abbrev pub Runs : ℕ → List FinishedRun → Type 0
  Runs restarts rs = RunsFrom first restarts rs
