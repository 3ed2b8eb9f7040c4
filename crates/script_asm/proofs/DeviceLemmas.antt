-- The interrupts of the device fit a part of any length.
use Rattle.std.proofs.Common.{ℕ, List, [], ◌∷◌, length, map, Option, Some, None}
use Rattle.std.specs.List.{AllByRecursion}
use Rattle.ffm_model.specs.declared.scenario.RaiseItem.{RaiseItem}
use Rattle.ffm_model.specs.Scripts.{FitsIn, IsPart}
use Rattle.script_asm.specs.Device.{raised, raise}

raised-fits : (n source : ℕ) (result : Option ℕ) → FitsIn n (raised source result)
raised-fits n source None = (tt, (tt, (tt, (tt, (tt, (tt, tt))))))
raised-fits n source (Some answer) = (tt, (tt, (tt, (tt, (tt, (tt, tt))))))

raises-fit : (n : ℕ) (raises : List RaiseItem) → AllByRecursion (FitsIn n) (map raise raises)
raises-fit n [] = tt
raises-fit n (x ∷ xs) = (raised-fits n x.source x.result, raises-fit n xs)

pub raises-part : (raises : List RaiseItem) → IsPart (map raise raises)
raises-part raises = raises-fit (length (map raise raises)) raises
