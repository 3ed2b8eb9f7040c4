-- Steps of a script between its calls.
use Rattle.std.proofs.Common.{ℕ, zero, suc, ◌≡◌, List, refl}
use Rattle.std.specs.Prelude.{Some, None, slice_get}
use Rattle.ffm_model.specs.declared.script.Instruction.{Instruction}
use Rattle.ffm_model.specs.ScriptRuns.{Point, line_effect, local_step, local_steps}

pub local_step-at : (script : List Instruction) (p : Point) (line : Instruction) → slice_get script p.place ≡ Some line → local_step script p ≡ line_effect p line
unfolding local_step
local_step-at script p line e = rw e refl

pub steps-none : (script : List Instruction) (n : ℕ) (p : Point) → local_step script p ≡ None → local_steps script n p ≡ p
unfolding local_steps
steps-none script zero p e = refl
steps-none script (suc n) p e = rw e refl
