-- Which addresses a call on vectors reads and changes.
-- Source: FF-M 1.0, isolation of partitions.
use Rattle.std.specs.Prelude.{ℕ, ◌≡◌, ◌⊎◌, Bool, true, ◌&&◌}
use Rattle.std.specs.List.{list_any}
use Rattle.ffm_model.specs.declared.system.System.{System}
use Rattle.ffm_model.specs.Memory.{ByteMap, is_ram_of}
use Rattle.ffm_model.specs.Reach.{covers}

-- the address lies in RAM of the actor's domain
abbrev pub ram_has : System → ℕ → ℕ → Bool
ram_has s a x = list_any (λ r. is_ram_of s a r.class && covers r x) s.regions

-- the two memories have the same bytes where the test passes
abbrev pub AgreeWhere : (ℕ → Bool) → ByteMap → ByteMap → Type 0
AgreeWhere test one other = (x : ℕ) → test x ≡ true → one x ≡ other x

-- of two memories before and after, the byte at an address is the same in both afterwards, or wasn't changed in either
abbrev pub TellsNothingAt : ℕ → ByteMap → ByteMap → ByteMap → ByteMap → Type 0
TellsNothingAt x one other one_after other_after = (one_after x ≡ other_after x) ⊎ ((one_after x ≡ one x) × (other_after x ≡ other x))
