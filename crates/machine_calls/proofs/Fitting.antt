-- Messages whose vectors fit the memory's regions.
use Rattle.std.proofs.Common.{ℕ, ◌≡◌, List}
use Rattle.machine_calls.specs.declared.machine.Objects.{Objects}
use Rattle.machine_calls.specs.Machine.{MessagesFit}

-- the same messages still fit
pub still_fit : (regions : List (ℕ × ℕ)) (old new : Objects) → new.messages ≡ old.messages → MessagesFit regions old → MessagesFit regions new
still_fit regions old new same fit = rw same fit
