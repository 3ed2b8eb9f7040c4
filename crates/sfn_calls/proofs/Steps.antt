-- Local lines of a function, and those of its code.
use Rattle.std.proofs.Common.{ℕ, zero, suc, ◌+◌, ◌≡◌, List, [], ◌∷◌, ◌++◌, length, get_or, refl, ap, ap₂, sym, ◌∙◌, arith, Bool, true, false}
use mathlib.Core.Path.{fun_ext}
use Rattle.std.specs.Prelude.{Option, Some, None, slice_get, slice_set, option_and_then, if◌then◌else◌}
use Rattle.std.specs.Option.{option_map, option_map_or}
use Rattle.std.specs.Int.{w32, cast_unsigned, cast_signed}
use Rattle.std.proofs.lemmas.List.{length-set}
use Rattle.law_lists.proofs.Lists.{AllByRecursion-at}
use Rattle.ffm_model.specs.declared.machine.Handle.{Handle}
use Rattle.ffm_model.specs.declared.machine.Call.TheVariants as call
use Rattle.ffm_model.specs.declared.script.Operand.TheVariants.{Number}
use Rattle.ffm_model.specs.declared.script.Instruction.{Instruction}
use Rattle.ffm_model.specs.declared.script.Instruction.TheVariants.{Change, Jump, JumpIf, Make, Map}
use Rattle.ffm_model.specs.ScriptRuns.{Point, point, changed, meets, value_of, line_effect, local_step, local_steps, line_call, call_at, call_of}
use Rattle.ffm_model.specs.declared.script.SfnInstruction.{SfnInstruction}
use Rattle.ffm_model.specs.declared.script.SfnInstruction.TheVariants.{Plain, Return}
use Rattle.ffm_model.specs.SfnScripts.{IsFunctionLine, IsFunction}
use Rattle.ffm_model.specs.Functions.{function_effect, function_step, function_steps, function_line_call, function_call_at, answer}
use Rattle.sfn_calls.specs.Answers.{IsHandle}
use Rattle.sfn_calls.specs.Loop.{place_in, function_code}
use Rattle.sfn_calls.proofs.Registers.{get-low, set-low, value-low, operand-at, get-14}
use Rattle.sfn_calls.proofs.Places.{StandsAt, code_of, code-here, place-next}
use Rattle.ffm_model.proofs.ScriptLemmas.{local_step-at, steps-none}

-- ---- the runner's steps

pub steps-next : (script : List Instruction) (n : ℕ) (p q : Point) → local_step script p ≡ Some q → local_steps script (suc n) p ≡ local_steps script n q
unfolding local_steps
steps-next script n p q e = rw e refl

-- ---- a function's point, seen in the loop

-- the loop's point, with the handle in r14 and anything in r15
abbrev pub in_loop : List SfnInstruction → ℕ → ℕ → ℕ → Point → Point
in_loop lines at h t p = point (p.registers ++ h ∷ (t ∷ [])) (at + place_in lines p.place)

abbrev pub IsLong : Point → Type 0
IsLong p = length p.registers ≡ 14

-- what a local line gives keeps the registers' number
pub effect-long : (p : Point) (i : Instruction) (q : Point) → IsLong p → line_effect p i ≡ Some q → IsLong q
effect-long p (Change o r v) q long e =
    let x : ℕ = changed o (get_or p.registers r 0) (value_of p.registers v) in
    let s : point (slice_set p.registers r x) (p.place + 1) ≡ q = cc in
    ap (λ (y : Point). length y.registers) (sym s) ∙ (length-set p.registers r x ∙ long)
effect-long p (Jump t) q long e = let s : point p.registers t ≡ q = cc in ap (λ (x : Point). length x.registers) (sym s) ∙ long
effect-long p (JumpIf c r v t) q long e =
    let s : point p.registers (if meets c (get_or p.registers r 0) (value_of p.registers v) then t else p.place + 1) ≡ q = cc in
    ap (λ (x : Point). length x.registers) (sym s) ∙ long
effect-long p (Make n vs) q long e = cc
effect-long p (Map n vs) q long e = cc

-- the two places of a conditional jump
jump-cases : (b : Bool) (f : ℕ → ℕ) (t u v : ℕ) → f u ≡ v → (if b then f t else v) ≡ f (if b then t else u)
jump-cases true f t u v e = refl
jump-cases false f t u v e = sym e

effect-by : (lines : List SfnInstruction) (at h t : ℕ) (p : Point) (l : Option SfnInstruction) → slice_get lines p.place ≡ l → IsFunction lines → IsLong p
    → line_effect (in_loop lines at h t p) (code_of (λ u. at + place_in lines u) l) ≡ option_map (in_loop lines at h t) (option_and_then (function_effect p) l)
effect-by lines at h t p (Some (Plain (JumpIf c r v u))) e fine long =
    let xs : List ℕ = h ∷ (t ∷ []) in
    let low = AllByRecursion-at (IsFunctionLine (length lines)) lines p.place (Plain (JumpIf c r v u)) fine e in
    let next : at + place_in lines (p.place + 1) ≡ at + place_in lines p.place + 1 = omega (arith, place-next lines p.place (JumpIf c r v u) e) in
    ap (λ (k : ℕ). Some (point (p.registers ++ xs) k))
    (ap₂ (λ (a b : ℕ). if meets c a b then at + place_in lines u else at + place_in lines p.place + 1) (get-low p.registers xs r long low.0) (value-low p.registers xs v long low.1)
    ∙ jump-cases (meets c (get_or p.registers r 0) (value_of p.registers v)) (λ k. at + place_in lines k) u (p.place + 1) (at + place_in lines p.place + 1) next)
effect-by lines at h t p (Some (Plain (Change o r v))) e fine long =
    let xs : List ℕ = h ∷ (t ∷ []) in
    let low = AllByRecursion-at (IsFunctionLine (length lines)) lines p.place (Plain (Change o r v)) fine e in
    let next : at + place_in lines p.place + 1 ≡ at + place_in lines (p.place + 1) = omega (arith, place-next lines p.place (Change o r v) e) in
    let value = ap₂ (changed o) (get-low p.registers xs r long low.0) (value-low p.registers xs v long low.1) in
    ap₂ (λ (l : List ℕ) (k : ℕ). Some (point l k)) (ap (slice_set (p.registers ++ xs) r) value ∙ set-low p.registers xs r _ long low.0) next
effect-by lines at h t p _ e fine long = refl

-- one local line of a function is one of the loop
pub step-same : (code : List Instruction) (lines : List SfnInstruction) (at h t : ℕ) (p : Point) → StandsAt code at (function_code lines at) → IsFunction lines → IsLong p
    → local_step code (in_loop lines at h t p) ≡ option_map (in_loop lines at h t) (function_step lines p)
unfolding function_step
step-same code lines at h t p stands fine long = local_step-at code (in_loop lines at h t p) _ (code-here code lines at p.place stands) ∙ effect-by lines at h t p (slice_get lines p.place) refl fine long

function-long-by : (p : Point) (l : Option SfnInstruction) (q : Point) → IsLong p → option_and_then (function_effect p) l ≡ Some q → IsLong q
function-long-by p None q long e = cc
function-long-by p (Some (Plain i)) q long e = effect-long p i q long e
function-long-by p (Some (Return v)) q long e = cc

pub function-long : (lines : List SfnInstruction) (p q : Point) → IsLong p → function_step lines p ≡ Some q → IsLong q
unfolding function_step
function-long lines p q long e = function-long-by p (slice_get lines p.place) q long e

-- any number of them
steps-by : (code : List Instruction) (lines : List SfnInstruction) (at h t n : ℕ) (p : Point) (q : Option Point)
    → local_step code (in_loop lines at h t p) ≡ option_map (in_loop lines at h t) q
    → ((r : Point) → q ≡ Some r → local_steps code n (in_loop lines at h t r) ≡ in_loop lines at h t (function_steps lines n r))
    → local_steps code (suc n) (in_loop lines at h t p) ≡ in_loop lines at h t (option_map_or (function_steps lines n) q p)
steps-by code lines at h t n p None e go = steps-none code (suc n) (in_loop lines at h t p) e
steps-by code lines at h t n p (Some r) e go = steps-next code n (in_loop lines at h t p) (in_loop lines at h t r) e ∙ go r refl

pub steps-same : (code : List Instruction) (lines : List SfnInstruction) (at h t n : ℕ) (p : Point) → StandsAt code at (function_code lines at) → IsFunction lines → IsLong p
    → local_steps code n (in_loop lines at h t p) ≡ in_loop lines at h t (function_steps lines n p)
unfolding local_steps function_steps
steps-same code lines at h t zero p stands fine long = refl
steps-same code lines at h t (suc n) p stands fine long =
    steps-by code lines at h t n p (function_step lines p) (step-same code lines at h t p stands fine long)
    (λ r e. steps-same code lines at h t n r stands fine (function-long lines p r long e))

steps-long-by : (lines : List SfnInstruction) (n : ℕ) (p : Point) (q : Option Point) → function_step lines p ≡ q → IsLong p
    → ((r : Point) → IsLong r → IsLong (function_steps lines n r)) → IsLong (option_map_or (function_steps lines n) q p)
steps-long-by lines n p None e long go = long
steps-long-by lines n p (Some r) e long go = go r (function-long lines p r long e)

pub steps-long : (lines : List SfnInstruction) (n : ℕ) (p : Point) → IsLong p → IsLong (function_steps lines n p)
unfolding function_steps
steps-long lines zero p long = long
steps-long lines (suc n) p long = steps-long-by lines n p (function_step lines p) refl long (λ r l. steps-long lines n r l)

-- ---- calls

call-by : (lines : List SfnInstruction) (to : ℕ → ℕ) (h : Handle) (t : ℕ) (p : Point) (l : Option SfnInstruction) → slice_get lines p.place ≡ l → IsFunction lines → IsLong p → IsHandle h
    → line_call (p.registers ++ cast_unsigned w32 h.0 ∷ (t ∷ [])) (code_of to l) ≡ option_map_or (function_line_call h p.registers) l (answer h 0)
call-by lines to h t p None e fine long handle =
    ap (λ (x : Handle). call.Reply x (record { 0 = cast_signed w32 0 })) (λ i. record { 0 = (ap (cast_signed w32) (get-14 p.registers (cast_unsigned w32 h.0) t long) ∙ handle) i })
call-by lines to h t p (Some (Return v)) e fine long handle =
    let low = AllByRecursion-at (IsFunctionLine (length lines)) lines p.place (Return v) fine e in
    ap₂ (λ (x : Handle) (y : ℕ). call.Reply x (record { 0 = cast_signed w32 y })) (λ i. record { 0 = (ap (cast_signed w32) (get-14 p.registers (cast_unsigned w32 h.0) t long) ∙ handle) i })
    (value-low p.registers (cast_unsigned w32 h.0 ∷ (t ∷ [])) v long low)
call-by lines to h t p (Some (Plain (Make n vs))) e fine long handle =
    let low = AllByRecursion-at (IsFunctionLine (length lines)) lines p.place (Plain (Make n vs)) fine e in
    ap (call_of n) (fun_ext (λ i. value-low p.registers (cast_unsigned w32 h.0 ∷ (t ∷ [])) (get_or vs i (Number 0)) long (operand-at vs i low.1)))
call-by lines to h t p (Some (Plain (Map n vs))) e fine long handle = absurd (AllByRecursion-at (IsFunctionLine (length lines)) lines p.place (Plain (Map n vs)) fine e)
call-by lines to h t p _ e fine long handle = refl

-- a function's call is that of the loop
pub call-same : (code : List Instruction) (lines : List SfnInstruction) (at t : ℕ) (h : Handle) (p : Point) → StandsAt code at (function_code lines at) → IsFunction lines → IsLong p → IsHandle h
    → call_at code (in_loop lines at (cast_unsigned w32 h.0) t p) ≡ function_call_at lines h p
unfolding call_at function_call_at
call-same code lines at t h p stands fine long handle =
    rw (code-here code lines at p.place stands) (call-by lines (λ u. at + place_in lines u) h t p (slice_get lines p.place) refl fine long handle)
