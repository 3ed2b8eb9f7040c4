-- Local lines, one after another.
-- Source: this simulator's script language.
use Rattle.std.proofs.Common.{length, get_or, ℕ, zero, suc, ◌≡◌, ◌<◌, ◌-◌, List, refl, ◌∙◌, arith}
use Rattle.std.specs.Prelude.{Option, Some, None}
use Rattle.std.specs.Prelude.{IfSome, IfNone}
use Rattle.std.proofs.lemmas.Option.{slice_get-get_or}
use Rattle.law_lists.proofs.Lists.{AllByRecursion-at}
use Rattle.ffm_model.specs.declared.script.Instruction.{Instruction}
use Rattle.ffm_model.specs.Scripts.{FitsIn, IsPart}
use Rattle.ffm_model.specs.ScriptRuns.{Point, line_effect, local_step, local_steps, point}
use Rattle.ffm_model.proofs.ScriptLemmas.{local_step-at}

pub steps-one : (script : List Instruction) (n : ℕ) (p q : Point) → 0 < n → local_step script p ≡ Some q → local_steps script n p ≡ local_steps script (n - 1) q
unfolding local_steps
steps-one script zero p q h e = absurd (omega arith)
steps-one script (suc n) p q h e =
    let less : suc n - 1 ≡ n = omega arith in
    rw (e, less) refl

pub steps-zero : (script : List Instruction) (n : ℕ) (p : Point) → n ≡ 0 → local_steps script n p ≡ p
unfolding local_steps
steps-zero script n p e = rw e refl

pub fits-at : (script : List Instruction) (i : ℕ) (d : Instruction) → IsPart script → i < length script → (count : ℕ) × FitsIn count (get_or script i d)
fits-at script i d h inside = (length script, AllByRecursion-at (FitsIn (length script)) script i (get_or script i d) h (slice_get-get_or script i d inside))

pub local_step-within : (script : List Instruction) (p : Point) (d : Instruction) → p.place < length script → local_step script p ≡ line_effect p (get_or script p.place d)
local_step-within script p d inside = local_step-at script p _ (slice_get-get_or script p.place d inside)

pub local-found : (script : List Instruction) (p : Point) (d : Instruction) (r : Option ℕ) (registers : List ℕ) → p.place < length script
    → IfSome r (λ to. line_effect p (get_or script p.place d) ≡ Some (point registers to)) → IfSome r (λ to. local_step script p ≡ Some (point registers to))
local-found script p d None registers inside h = h
local-found script p d (Some to) registers inside h = local_step-within script p d inside ∙ h

pub local-none : (script : List Instruction) (p : Point) (d : Instruction) (r : Option ℕ) → p.place < length script
    → IfNone r (line_effect p (get_or script p.place d) ≡ None) → IfNone r (local_step script p ≡ None)
local-none script p d None inside h = local_step-within script p d inside ∙ h
local-none script p d (Some to) inside h = h
