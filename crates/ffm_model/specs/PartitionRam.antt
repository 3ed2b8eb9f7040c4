-- Where a partition's own RAM lies, and how much of it is heap.
-- Source: FF-M 1.0, the manifest's `stack_size` and `heap_size`; the layout is this simulator's.
use Rattle.std.specs.Prelude.{ℕ, Option, option_and_then, slice_get}
use Rattle.std.specs.Option.{option_map_or}
use Rattle.ffm_model.specs.declared.system.Region.{Region}
use Rattle.ffm_model.specs.declared.system.System.{System}
use Rattle.ffm_model.specs.WellFormed.{ram_size}

abbrev pub ram_of : System → ℕ → Option Region
ram_of s a = option_and_then (λ p. slice_get s.regions p.ram) (slice_get s.partitions a)

abbrev pub ram_base : System → ℕ → ℕ
ram_base s a = option_map_or (λ r. r.base) (ram_of s a) 0

abbrev pub ram_size_of : System → ℕ → ℕ
ram_size_of s a = option_map_or (ram_size s.regions) (slice_get s.partitions a) 0

abbrev pub heap_of : System → ℕ → ℕ
heap_of s a = option_map_or (λ p. p.heap) (slice_get s.partitions a) 0
