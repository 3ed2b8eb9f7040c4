-- Where the loop stands at each stage of a round, and how an outcome leads on.
use Rattle.std.proofs.Common.{ℕ, suc, ◌+◌, ◌<◌, ◌≡◌, ◌≢◌, List, [], ◌∷◌, ◌++◌, length, get_or, refl, ap, ap₂, ◌∙◌, subst, arith, lit<, true, false, get_or-set_other, get_or-set_same}
use Rattle.std.specs.Prelude.{Option, Some, None, slice_get, slice_set, find}
use Rattle.std.specs.Option.{option_map_or}
use Rattle.std.specs.Int.{w32, cast_unsigned}
use Rattle.std.proofs.lemmas.List.{length-set}
use Rattle.std.proofs.lemmas.Option.{slice_get_within}
use Rattle.ffm_model.specs.declared.constants.TheConstants.{PSA_BLOCK}
use Rattle.ffm_model.specs.declared.machine.Handle.{Handle}
use Rattle.ffm_model.specs.declared.machine.Status.{Status}
use Rattle.ffm_model.specs.declared.machine.Message.{Message}
use Rattle.ffm_model.specs.declared.machine.Call.TheVariants as call
use Rattle.ffm_model.specs.declared.machine.Outcome.{Outcome}
use Rattle.ffm_model.specs.declared.machine.Outcome.TheVariants as outcome
use Rattle.ffm_model.specs.declared.script.Operand.TheVariants.{Register, Number}
use Rattle.ffm_model.specs.declared.script.Operation.TheVariants.{Set}
use Rattle.ffm_model.specs.declared.script.Instruction.{Instruction}
use Rattle.ffm_model.specs.declared.script.Instruction.TheVariants.{Change, Jump}
use Rattle.ffm_model.specs.declared.script.CallName.TheVariants as name
use Rattle.ffm_model.specs.ScriptRuns.{Point, point, most_lines, noted, with_message, place_after, behind, arrived, call_at, local_step, local_steps}
use Rattle.ffm_model.specs.declared.script.SfnInstruction.{SfnInstruction}
use Rattle.ffm_model.specs.declared.script.SfnInstruction.TheVariants.{Plain, Return}
use Rattle.ffm_model.specs.SfnScripts.{IsFunction}
use Rattle.ffm_model.specs.Functions.{SfnService, SfnPartition, signals_in, lowest, asserts, function_steps, function_call_at, function_line_call, answer, is_return, returns_at}
use Rattle.ffm_model.specs.SfnRuns.{Work, begun, first_budget, reached}
use Rattle.sfn_calls.specs.Loop.{place_in, function_code, call_line, services_code, expanded}
use Rattle.sfn_calls.specs.Answers.{IsHandle, IsSfnPartition}
use Rattle.sfn_calls.proofs.Registers.{get-low, set-low, set-14, message-low, message-long, noted-low, noted-long}
use Rattle.sfn_calls.proofs.Rounds.{answered}
use Rattle.sfn_calls.proofs.Places.{StandsAt, stands-tail, stands-head, stands-whole, code-here, back-here, IsReturning, place-first, place-next}
use Rattle.sfn_calls.proofs.Steps.{steps-next, in_loop, IsLong, steps-same, steps-long, call-same}
use Rattle.sfn_calls.proofs.Dispatch.{Dispatched, dispatch}
use Rattle.ffm_model.proofs.ScriptLemmas.{local_step-at, steps-none}

-- ---- psa_wait

-- the loop comes to its psa_wait
pub record AtWait (code : List Instruction) (rs : List ℕ) (q : Point) : Type 0 where
  pub r14 : ℕ
  pub r15 : ℕ
  pub arrives : arrived code q ≡ point (rs ++ r14 ∷ (r15 ∷ [])) 0
  pub long : length rs ≡ 14

pub wait-line : (p : SfnPartition) → slice_get (expanded p) 0 ≡ Some (call_line name.Wait (Number (signals_in p.services)) (Number PSA_BLOCK))
unfolding expanded
wait-line p = refl

pub wait-call : (p : SfnPartition) (rs : List ℕ) → call_at (expanded p) (point rs 0) ≡ call.Wait (signals_in p.services) PSA_BLOCK
unfolding call_at
wait-call p rs = rw (wait-line p) refl

-- after a line that is there
pub place-after : (code : List Instruction) (place : ℕ) (i : Instruction) → slice_get code place ≡ Some i → place_after code place ≡ place + 1
place-after code place i e = let inside : place < length code = slice_get_within code place i e in grind (arith, inside)

-- ---- the signals

pub record AfterWait (rs : List ℕ) (signals : ℕ) (q : Point) : Type 0 where
  pub r14 : ℕ
  pub r15 : ℕ
  pub here : q ≡ point (slice_set rs 0 signals ++ r14 ∷ (r15 ∷ [])) 1
  pub long : length rs ≡ 14

pub after-signals : (p : SfnPartition) (rs : List ℕ) (signals : ℕ) (q : Point) → AtWait (expanded p) rs q → AfterWait rs signals (answered (expanded p) (outcome.Signals signals) q)
after-signals p rs signals q at = record {
  r14 = at.r14;
  r15 = at.r15;
  here = ap (behind (expanded p) (outcome.Signals signals)) at.arrives
      ∙ ap₂ point (set-low rs (at.r14 ∷ (at.r15 ∷ [])) 0 signals at.long (lit< tt)) (place-after (expanded p) 0 _ (wait-line p));
  long = at.long;
}

-- ---- psa_get

services_code-stand : (p : SfnPartition) → StandsAt (expanded p) 1 (services_code p.base 1 p.services)
unfolding expanded
services_code-stand p = stands-tail (expanded p) 0 _ _ (stands-whole (expanded p))

first-register : (rs : List ℕ) (signals : ℕ) → length rs ≡ 14 → get_or (slice_set rs 0 signals) 0 0 ≡ signals
first-register rs signals long = let inside : 0 < length rs = omega arith in get_or-set_same rs 0 signals 0 inside

-- the tests lead from the signals to the psa_get of the lowest one
pub to-get : (p : SfnPartition) (rs : List ℕ) (signals : ℕ) (q : Point) (v : SfnService) → IsSfnPartition p → AfterWait rs signals q → lowest p.services signals ≡ Some v
    → (a : AfterWait rs signals q) × Dispatched (expanded p) p.base most_lines (slice_set rs 0 signals) a.r14 a.r15 1 v
unfolding lowest
to-get p rs signals q v fine a found =
    let long : length (slice_set rs 0 signals) ≡ 14 = length-set rs 0 signals ∙ a.long in
    let now : find (asserts (get_or (slice_set rs 0 signals) 0 0)) p.services ≡ Some v = ap (λ (s : ℕ). find (asserts s) p.services) (first-register rs signals a.long) ∙ found in
    (a, dispatch (expanded p) p.base v (slice_set rs 0 signals) a.r14 p.services 1 most_lines a.r15 (omega (arith, fine.few)) long (services_code-stand p) now)

get-line-call : (code : List Instruction) (place base : ℕ) (v : SfnService) (rs : List ℕ) → slice_get code place ≡ Some (call_line name.Get (Number v.signal) (Number base))
    → call_at code (point rs place) ≡ call.Get v.signal base
unfolding call_at
get-line-call code place base v rs e = rw e refl

pub get-arrives : (p : SfnPartition) (rs : List ℕ) (signals : ℕ) (q : Point) (v : SfnService) (a : AfterWait rs signals q)
    (g : Dispatched (expanded p) p.base most_lines (slice_set rs 0 signals) a.r14 a.r15 1 v) → arrived (expanded p) q ≡ point (slice_set rs 0 signals ++ a.r14 ∷ (g.last ∷ [])) g.place
unfolding arrived
get-arrives p rs signals q v a g = ap (local_steps (expanded p) most_lines) a.here ∙ g.arrives

pub get-call : (p : SfnPartition) (rs : List ℕ) (signals : ℕ) (q : Point) (v : SfnService) (a : AfterWait rs signals q)
    (g : Dispatched (expanded p) p.base most_lines (slice_set rs 0 signals) a.r14 a.r15 1 v) → call_at (expanded p) (arrived (expanded p) q) ≡ call.Get v.signal p.base
get-call p rs signals q v a g = ap (call_at (expanded p)) (get-arrives p rs signals q v a g) ∙ get-line-call (expanded p) g.place p.base v _ (stands-head _ _ _ _ g.stands)

-- ---- a function

-- the loop comes to where the function makes its next call
pub record AtWork (code : List Instruction) (w : Work) (q : Point) : Type 0 where
  pub from : ℕ
  pub r15 : ℕ
  pub stands : StandsAt code from (function_code w.lines from)
  pub fine : IsFunction w.lines
  pub long : length w.at.registers ≡ 14
  pub handle : IsHandle w.handle
  pub arrives : arrived code q ≡ in_loop w.lines from (cast_unsigned w32 w.handle.0) r15 (reached w)
  -- a return never stays open
  pub stays : w.pending ≡ true → returns_at w.lines (reached w) ≡ false

pub reached-long : (w : Work) → length w.at.registers ≡ 14 → IsLong (reached w)
unfolding reached
reached-long w long = steps-long w.lines w.budget w.at long

pub work-call : (code : List Instruction) (w : Work) (q : Point) → AtWork code w q → call_at code (arrived code q) ≡ function_call_at w.lines w.handle (reached w)
work-call code w q a = ap (call_at code) a.arrives ∙ call-same code w.lines a.from a.r15 w.handle (reached w) a.stands a.fine (reached-long w a.long) a.handle

-- ---- the message

set-twice : (l : List ℕ) (a b : ℕ) → slice_set (slice_set l 0 a) 0 b ≡ slice_set l 0 b
set-twice [] a b = refl
set-twice (x ∷ l) a b = refl

message-over : (m : Message) (rs : List ℕ) (signals : ℕ) → with_message m (slice_set rs 0 signals) ≡ with_message m rs
message-over m rs signals =
    ap (λ (l : List ℕ). slice_set (slice_set (slice_set (slice_set l 1 (cast_unsigned w32 m.kind)) 2 (cast_unsigned w32 m.handle.0)) 3 (cast_unsigned w32 m.client_id)) 4 m.rhandle)
    (set-twice rs signals 0)

second-of : (l : List ℕ) (h c r : ℕ) → 2 < length l → get_or (slice_set (slice_set (slice_set l 2 h) 3 c) 4 r) 2 0 ≡ h
second-of l h c r inside =
    let other4 : 2 ≢ 4 = omega arith in
    let other3 : 2 ≢ 3 = omega arith in
    get_or-set_other (slice_set (slice_set l 2 h) 3 c) 4 2 r 0 other4 ∙ (get_or-set_other (slice_set l 2 h) 3 2 c 0 other3 ∙ get_or-set_same l 2 h 0 inside)

message-handle : (m : Message) (rs : List ℕ) → length rs ≡ 14 → get_or (with_message m rs) 2 0 ≡ cast_unsigned w32 m.handle.0
message-handle m rs long =
    let inside : 2 < length (slice_set (slice_set rs 0 0) 1 (cast_unsigned w32 m.kind)) = omega (arith, length-set (slice_set rs 0 0) 1 (cast_unsigned w32 m.kind), length-set rs 0 0) in
    second-of (slice_set (slice_set rs 0 0) 1 (cast_unsigned w32 m.kind)) (cast_unsigned w32 m.handle.0) (cast_unsigned w32 m.client_id) m.rhandle inside

-- one local line keeps the handle, and the function begins
steps-begin : (code : List Instruction) (lines : List SfnInstruction) (m : Message) (rs : List ℕ) (r14 r15 place : ℕ) → length rs ≡ 14
    → StandsAt code place (Change Set 14 (Register 2) ∷ function_code lines (place + 1)) → IsFunction lines
    → local_steps code (suc first_budget) (point (with_message m rs ++ r14 ∷ (r15 ∷ [])) place)
    ≡ in_loop lines (place + 1) (cast_unsigned w32 m.handle.0) r15 (function_steps lines first_budget (point (with_message m rs) 0))
steps-begin code lines m rs r14 r15 place long stands fine =
    let long2 : length (with_message m rs) ≡ 14 = message-long m rs long in
    let h : ℕ = cast_unsigned w32 m.handle.0 in
    let put : local_step code (point (with_message m rs ++ r14 ∷ (r15 ∷ [])) place) ≡ Some (point (with_message m rs ++ h ∷ (r15 ∷ [])) (place + 1)) =
    local_step-at code _ _ (stands-head code place _ _ stands)
    ∙ ap (λ (l : List ℕ). Some (point l (place + 1)))
    (ap (slice_set (with_message m rs ++ r14 ∷ (r15 ∷ [])) 14) (get-low (with_message m rs) (r14 ∷ (r15 ∷ [])) 2 long2 (lit< tt) ∙ message-handle m rs long)
    ∙ set-14 (with_message m rs) r14 r15 h long2) in
    let at : point (with_message m rs ++ h ∷ (r15 ∷ [])) (place + 1) ≡ in_loop lines (place + 1) h r15 (point (with_message m rs) 0) =
    ap (point (with_message m rs ++ h ∷ (r15 ∷ []))) (omega (arith, place-first lines)) in
    steps-next code first_budget _ _ put
    ∙ (ap (local_steps code first_budget) at ∙ steps-same code lines (place + 1) h r15 first_budget (point (with_message m rs) 0) (stands-tail code place _ _ stands) fine long2)

-- after psa_get
pub to-work : (p : SfnPartition) (rs : List ℕ) (signals : ℕ) (q : Point) (v : SfnService) (m : Message) → IsFunction v.lines → IsHandle m.handle
    → (a : AfterWait rs signals q) (g : Dispatched (expanded p) p.base most_lines (slice_set rs 0 signals) a.r14 a.r15 1 v)
    → AtWork (expanded p) (begun v m rs) (answered (expanded p) (outcome.Got m) q)
unfolding arrived reached
to-work p rs signals q v m fine handle a g =
    let code = expanded p in
    let long : length (slice_set rs 0 signals) ≡ 14 = length-set rs 0 signals ∙ a.long in
    let line = stands-head code g.place _ _ g.stands in
    let next : StandsAt code (g.place + 1) (Change Set 14 (Register 2) ∷ function_code v.lines (g.place + 1 + 1)) =
    subst (λ (k : ℕ). StandsAt code (g.place + 1) (Change Set 14 (Register 2) ∷ function_code v.lines k)) (omega arith) (stands-tail code g.place _ _ g.stands) in
    let here : answered code (outcome.Got m) q ≡ point (with_message m rs ++ a.r14 ∷ (g.last ∷ [])) (g.place + 1) =
    ap (behind code (outcome.Got m)) (get-arrives p rs signals q v a g)
    ∙ ap₂ point (message-low m (slice_set rs 0 signals) (a.r14 ∷ (g.last ∷ [])) long ∙ ap (λ (l : List ℕ). l ++ a.r14 ∷ (g.last ∷ [])) (message-over m rs signals)) (place-after code g.place _ line) in
    record {
      from = g.place + 1 + 1;
      r15 = g.last;
      stands = stands-tail code (g.place + 1) _ _ next;
      fine = fine;
      long = message-long m rs a.long;
      handle = handle;
      arrives = ap (local_steps code most_lines) here ∙ steps-begin code v.lines m rs a.r14 g.last (g.place + 1) a.long next fine;
      stays = λ e. cc;
    }

-- ---- after a call of the function

-- a blocked call
pub stays-open : (code : List Instruction) (w : Work) (q : Point) → AtWork code w q → returns_at w.lines (reached w) ≡ false → AtWork code (record w { pending = true }) q
unfolding reached
stays-open code w q a r = record {
  from = a.from;
  r15 = a.r15;
  stands = a.stands;
  fine = a.fine;
  long = a.long;
  handle = a.handle;
  arrives = a.arrives;
  stays = λ e. r;
}

-- what stands where the function doesn't return
plain-at : (l : Option SfnInstruction) → option_map_or is_return l true ≡ false → (i : Instruction) × (l ≡ Some (Plain i))
plain-at None e = cc
plain-at (Some (Plain i)) e = (i, refl)
plain-at (Some (Return v)) e = cc

return-at : (l : Option SfnInstruction) → option_map_or is_return l true ≡ true → IsReturning l
return-at None e = tt
return-at (Some (Plain i)) e = cc
return-at (Some (Return v)) e = tt

-- another outcome: the function goes on after the call
pub goes-on : (code : List Instruction) (w : Work) (q : Point) (o : Outcome) → AtWork code w q → returns_at w.lines (reached w) ≡ false
    → AtWork code (record w { budget = most_lines; at = point (noted o (reached w).registers) ((reached w).place + 1); pending = false }) (behind code o (arrived code q))
unfolding arrived reached returns_at
goes-on code w q o a r =
    let h : ℕ = cast_unsigned w32 w.handle.0 in
    let xs : List ℕ = h ∷ (a.r15 ∷ []) in
    let at : Point = function_steps w.lines w.budget w.at in
    let long : length at.registers ≡ 14 = steps-long w.lines w.budget w.at a.long in
    let line = code-here code w.lines a.from at.place a.stands in
    let plain = plain-at (slice_get w.lines at.place) r in
    let place : place_after code (a.from + place_in w.lines at.place) ≡ a.from + place_in w.lines (at.place + 1) =
    place-after code (a.from + place_in w.lines at.place) _ line ∙ omega (arith, place-next w.lines at.place plain.0 plain.1) in
    let here : behind code o (local_steps code most_lines q) ≡ in_loop w.lines a.from h a.r15 (point (noted o at.registers) (at.place + 1)) =
    ap (behind code o) a.arrives ∙ ap₂ point (noted-low o at.registers xs long) place in
    record {
      from = a.from;
      r15 = a.r15;
      stands = a.stands;
      fine = a.fine;
      long = noted-long o at.registers long;
      handle = a.handle;
      arrives = ap (local_steps code most_lines) here ∙ steps-same code w.lines a.from h a.r15 most_lines (point (noted o at.registers) (at.place + 1)) a.stands a.fine (noted-long o at.registers long);
      stays = λ e. cc;
    }

-- after its reply the loop goes back to psa_wait
steps-back : (p : SfnPartition) (rs : List ℕ) (place : ℕ) → slice_get (expanded p) place ≡ Some (Jump 0) → local_steps (expanded p) (suc first_budget) (point rs place) ≡ point rs 0
steps-back p rs place jump =
    steps-next (expanded p) first_budget (point rs place) (point rs 0) (local_step-at (expanded p) (point rs place) _ jump)
    ∙ steps-none (expanded p) first_budget (point rs 0) (local_step-at (expanded p) (point rs 0) _ (wait-line p))

pub goes-back : (p : SfnPartition) (w : Work) (q : Point) (o : Outcome) → AtWork (expanded p) w q → returns_at w.lines (reached w) ≡ true → noted o (arrived (expanded p) q).registers ≡ (arrived (expanded p) q).registers
    → AtWait (expanded p) (reached w).registers (behind (expanded p) o (arrived (expanded p) q))
unfolding arrived returns_at
goes-back p w q o a r quiet =
    let code = expanded p in
    let at : Point = reached w in
    let h : ℕ = cast_unsigned w32 w.handle.0 in
    let line = code-here code w.lines a.from at.place a.stands in
    let jump = back-here code w.lines a.from at.place a.stands (return-at (slice_get w.lines at.place) r) in
    let here : behind code o (local_steps code most_lines q) ≡ point (at.registers ++ h ∷ (a.r15 ∷ [])) (a.from + place_in w.lines at.place + 1) =
    ap₂ point (quiet ∙ ap (λ (x : Point). x.registers) a.arrives) (ap (λ (x : Point). place_after code x.place) a.arrives ∙ place-after code _ _ line) in
    record {
      r14 = h;
      r15 = a.r15;
      arrives = ap (local_steps code most_lines) here ∙ steps-back p (at.registers ++ h ∷ (a.r15 ∷ [])) (a.from + place_in w.lines at.place + 1) jump;
      long = reached-long w a.long;
    }

-- the call of a return
answer-by : (h : Handle) (rs : List ℕ) (l : Option SfnInstruction) → option_map_or is_return l true ≡ true → (status : Status) × (option_map_or (function_line_call h rs) l (answer h 0) ≡ call.Reply h status)
answer-by h rs None e = (_, refl)
answer-by h rs (Some (Plain i)) e = cc
answer-by h rs (Some (Return v)) e = (_, refl)

pub return-call : (w : Work) → returns_at w.lines (reached w) ≡ true → (status : Status) × (function_call_at w.lines w.handle (reached w) ≡ call.Reply w.handle status)
unfolding function_call_at returns_at
return-call w r = answer-by w.handle (reached w).registers (slice_get w.lines (reached w).place) r
