-- The loop of an SFN partition maps no vector.
use Rattle.std.proofs.Common.{ℕ, ◌+◌, ◌≡◌, false, List, [], ◌∷◌, refl}
use Rattle.std.specs.Prelude.{◌↔◌, length}
use Rattle.std.specs.List.{AllByRecursion}
use Rattle.law_lists.proofs.Lists.{AllByRecursion-append}
use Rattle.ffm_model.specs.declared.machine.Entry.{Entry}
use Rattle.ffm_model.specs.declared.script.Instruction.{Instruction}
use Rattle.ffm_model.specs.declared.script.Instruction.TheVariants as line
use Rattle.ffm_model.specs.declared.script.SfnFunction.{SfnFunction}
use Rattle.ffm_model.specs.declared.script.SfnInstruction.{SfnInstruction}
use Rattle.ffm_model.specs.declared.script.SfnInstruction.TheVariants.{Plain, Return}
use Rattle.ffm_model.specs.declared.system.System.{System}
use Rattle.ffm_model.specs.Held.{Holder}
use Rattle.ffm_model.specs.HeldPlans.{held_plan}
use Rattle.ffm_model.specs.Plans.{PlanRun}
use Rattle.ffm_model.specs.ScriptRuns.{ScriptRun}
use Rattle.ffm_model.specs.Scripts.{maps, MapsNothing}
use Rattle.ffm_model.specs.Functions.{SfnService}
use Rattle.ffm_model.specs.SfnRuns.{sfn_partition}
use Rattle.ffm_model.specs.SfnScripts.{FitsFunction, IsFunction, IsFunctionLine, IsSfnScript}
use Rattle.sfn_calls.specs.Loop.{expanded, lines_code, moved, service_code, service_size, services_code}
use Rattle.sfn_calls.proofs.CodeLemmas.{partition-fine}

-- a script that maps nothing calls as before, whatever messages are held
abbrev pub UnmappedRuns : Type 0
UnmappedRuns = (p : Holder) (script : List Instruction) (entries : List Entry) → MapsNothing script → PlanRun (held_plan p script) entries ↔ ScriptRun script entries

line-none : (to : ℕ → ℕ) (count : ℕ) (i : Instruction) → FitsFunction count i → maps (moved to i) ≡ false
line-none to count (line.Change o r v) h = refl
line-none to count (line.Jump t) h = refl
line-none to count (line.JumpIf c r v t) h = refl
line-none to count (line.Make n vs) h = refl
line-none to count (line.Map n vs) h = absurd h

lines-none : (to : ℕ → ℕ) (count : ℕ) (xs : List SfnInstruction) → AllByRecursion (IsFunctionLine count) xs → MapsNothing (lines_code to xs)
unfolding lines_code
lines-none to count [] h = (refl, (refl, tt))
lines-none to count (Plain i ∷ xs) h = (line-none to count i h.0, lines-none to count xs h.1)
lines-none to count (Return v ∷ xs) h = (refl, (refl, lines-none to count xs h.1))

service-none : (base at : ℕ) (v : SfnService) → IsFunction v.lines → MapsNothing (service_code base at v)
unfolding service_code
service-none base at v h = (refl, (refl, (refl, (refl, (refl, lines-none _ (length v.lines) v.lines h)))))

services-none : (base at : ℕ) (vs : List SfnService) → AllByRecursion (λ v. IsFunction v.lines) vs → MapsNothing (services_code base at vs)
unfolding services_code
services-none base at [] h = tt
services-none base at (v ∷ vs) h = AllByRecursion-append (λ (i : Instruction). maps i ≡ false) (service_code base at v) _ (service-none base at v h.0) (services-none base (at + service_size v.lines) vs h.1)

pub expanded-maps-nothing : (s : System) (a : ℕ) (functions : List SfnFunction) → IsSfnScript functions → MapsNothing (expanded (sfn_partition s a functions))
unfolding expanded
expanded-maps-nothing s a functions kept = (refl, services-none _ 1 (sfn_partition s a functions).services (partition-fine s a functions kept.fit))
