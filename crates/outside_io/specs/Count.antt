-- Counts of faults and of calls, each kept as a u64 that stands still at its end.
-- Source: this project's rule for what files and sinks tell.
use Rattle.std.specs.Prelude.{ℕ, ◌+◌, ◌-◌, ◌^◌, ◌≤◌, min}

-- one more, or the count's end
abbrev pub one_more : ℕ → ℕ
one_more count = min (count + 1) (2 ^ 64 - 1)

-- the count rose, or stands at its end; it never falls
abbrev pub Rose : ℕ → ℕ → Type 0
Rose before now = (before ≤ now) × (one_more before ≤ now)
