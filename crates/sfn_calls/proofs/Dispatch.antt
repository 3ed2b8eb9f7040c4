-- The loop's tests: between psa_wait and the psa_get of the lowest signal.
use Rattle.std.proofs.Common.{ℕ, suc, ◌+◌, ◌*◌, ◌≤◌, ◌≡◌, ◌==◌, List, [], ◌∷◌, ◌++◌, length, get_or, refl, ap, ap₂, ◌∙◌, subst, arith, Bool, true, false, length-append}
use Rattle.std.specs.Prelude.{Some, slice_set, if◌then◌else◌, not, find, bit_and}
use Rattle.ffm_model.specs.declared.script.Operand.TheVariants.{Register, Number}
use Rattle.ffm_model.specs.declared.script.Operation.TheVariants.{Set}
use Rattle.ffm_model.specs.declared.script.Instruction.{Instruction}
use Rattle.ffm_model.specs.declared.script.Instruction.TheVariants.{Change}
use Rattle.ffm_model.specs.declared.script.CallName.TheVariants as name
use Rattle.ffm_model.specs.ScriptRuns.{point, local_step, local_steps}
use Rattle.ffm_model.specs.declared.script.SfnInstruction.{SfnInstruction}
use Rattle.ffm_model.specs.Functions.{SfnService, asserts}
use Rattle.sfn_calls.specs.Loop.{place_in, lines_code, function_code, dispatch_code, service_size, service_code, services_code, call_line}
use Rattle.ffm_model.specs.declared.script.SfnInstruction.TheVariants.{Plain, Return}
use Rattle.sfn_calls.proofs.Registers.{get-low, set-15, get-15}
use Rattle.sfn_calls.proofs.Places.{StandsAt, stands-left, stands-right, stands-tail, stands-head, stands-moved}
use Rattle.sfn_calls.proofs.Steps.{steps-next}
use Rattle.ffm_model.proofs.ScriptLemmas.{local_step-at, steps-none}

-- ---- how long a service's code is

lines-length : (to : ℕ → ℕ) (xs : List SfnInstruction) → length (lines_code to xs) ≡ place_in xs (length xs) + 2
unfolding place_in lines_code
lines-length to [] = refl
lines-length to (Plain i ∷ xs) = let h = lines-length to xs in omega arith
lines-length to (Return v ∷ xs) = let h = lines-length to xs in omega arith

pub service_code-length : (base at : ℕ) (v : SfnService) → length (service_code base at v) ≡ service_size v.lines
unfolding service_code service_size
service_code-length base at v =
    let h = lines-length (λ t. at + 5 + place_in v.lines t) v.lines in
    length-append (dispatch_code v.signal base (at + service_size v.lines)) (function_code v.lines (at + 5)) ∙ omega (arith, h)

-- ---- one test

-- what stands after the test of a signal that is asserted
abbrev pub IsGet : List Instruction → ℕ → ℕ → SfnService → Type 0
IsGet code place base v =
    StandsAt code place (call_line name.Get (Number v.signal) (Number base) ∷ (Change Set 14 (Register 2) ∷ function_code v.lines (place + 2)))

-- three local lines leave the signal's bit in r15, and lead on by it
pub tested : (code : List Instruction) (at signal base end n : ℕ) (rs : List ℕ) (h t : ℕ) → StandsAt code at (dispatch_code signal base end) → length rs ≡ 14
    → local_steps code (suc (suc (suc n))) (point (rs ++ h ∷ (t ∷ [])) at)
    ≡ local_steps code n (point (rs ++ h ∷ (bit_and (get_or rs 0 0) signal ∷ [])) (if bit_and (get_or rs 0 0) signal == 0 then end else at + 3))
tested code at signal base end n rs h t stands long =
    let s : ℕ = get_or rs 0 0 in
    let bit : ℕ = bit_and s signal in
    let two = stands-tail code at _ _ stands in
    let three = stands-tail code (at + 1) _ _ two in
    let p1 : local_step code (point (rs ++ h ∷ (t ∷ [])) at) ≡ Some (point (rs ++ h ∷ (s ∷ [])) (at + 1)) =
    local_step-at code _ _ (stands-head code at _ _ stands) ∙ ap (λ (l : List ℕ). Some (point l (at + 1)))
    (ap (slice_set (rs ++ h ∷ (t ∷ [])) 15) (get-low rs (h ∷ (t ∷ [])) 0 long (omega arith)) ∙ set-15 rs h t s long) in
    let p2 : local_step code (point (rs ++ h ∷ (s ∷ [])) (at + 1)) ≡ Some (point (rs ++ h ∷ (bit ∷ [])) (at + 1 + 1)) =
    local_step-at code _ _ (stands-head code (at + 1) _ _ two) ∙ ap (λ (l : List ℕ). Some (point l (at + 1 + 1)))
    (ap (λ (x : ℕ). slice_set (rs ++ h ∷ (s ∷ [])) 15 (bit_and x signal)) (get-15 rs h s long) ∙ set-15 rs h s bit long) in
    let place : at + 1 + 1 + 1 ≡ at + 3 = omega arith in
    let p3 : local_step code (point (rs ++ h ∷ (bit ∷ [])) (at + 1 + 1)) ≡ Some (point (rs ++ h ∷ (bit ∷ [])) (if bit == 0 then end else at + 3)) =
    local_step-at code _ _ (stands-head code (at + 1 + 1) _ _ three)
    ∙ ap₂ (λ (x y : ℕ). Some (point (rs ++ h ∷ (bit ∷ [])) (if x == 0 then end else y))) (get-15 rs h bit long) place in
    steps-next code (suc (suc n)) _ _ p1 ∙ (steps-next code (suc n) _ _ p2 ∙ steps-next code n _ _ p3)

-- ---- all tests

-- the tests lead to the psa_get of the first service whose signal is asserted
pub record Dispatched (code : List Instruction) (base n : ℕ) (rs : List ℕ) (h t at : ℕ) (v : SfnService) : Type 0 where
  pub place : ℕ
  pub last : ℕ
  pub arrives : local_steps code n (point (rs ++ h ∷ (t ∷ [])) at) ≡ point (rs ++ h ∷ (last ∷ [])) place
  pub stands : IsGet code place base v

get-stays : (code : List Instruction) (base place n : ℕ) (v : SfnService) (rs : List ℕ) → IsGet code place base v → local_steps code n (point rs place) ≡ point rs place
get-stays code base place n v rs stands = steps-none code n (point rs place) (local_step-at code _ _ (stands-head code place _ _ stands))

get-stands : (code : List Instruction) (base at : ℕ) (v : SfnService) → StandsAt code at (service_code base at v) → IsGet code (at + 3) base v
unfolding service_code
get-stands code base at v stands =
    let a = stands-tail code at _ _ stands in
    let b = stands-tail code (at + 1) _ _ a in
    let c = stands-tail code (at + 1 + 1) _ _ b in
    let place : at + 1 + 1 + 1 ≡ at + 3 = omega arith in
    let behind : at + 5 ≡ at + 3 + 2 = omega arith in
    subst (λ (k : ℕ). StandsAt code (at + 3) (call_line name.Get (Number v.signal) (Number base) ∷ (Change Set 14 (Register 2) ∷ function_code v.lines k))) behind
    (stands-moved code (at + 1 + 1 + 1) (at + 3) _ place c)

test-stands : (code : List Instruction) (base at : ℕ) (v : SfnService) → StandsAt code at (service_code base at v) → StandsAt code at (dispatch_code v.signal base (at + service_size v.lines))
unfolding service_code
test-stands code base at v stands = stands-left code at _ (function_code v.lines (at + 5)) stands

dispatch-by : (code : List Instruction) (base at n : ℕ) (e v : SfnService) (vs : List SfnService) (rs : List ℕ) (h t : ℕ) (b : Bool) → (bit_and (get_or rs 0 0) e.signal == 0) ≡ b
    → StandsAt code at (service_code base at e) → length rs ≡ 14
    → (if not b then Some e else find (asserts (get_or rs 0 0)) vs) ≡ Some v
    → ((t : ℕ) → find (asserts (get_or rs 0 0)) vs ≡ Some v → Dispatched code base n rs h t (at + service_size e.lines) v)
    → Dispatched code base (suc (suc (suc n))) rs h t at v
dispatch-by code base at n e v vs rs h t false zero? stands long found go =
    let same : e ≡ v = cc in
    let bit : ℕ = bit_and (get_or rs 0 0) e.signal in
    let here = get-stands code base at e stands in
    record {
      place = at + 3;
      last = bit;
      arrives = tested code at e.signal base (at + service_size e.lines) n rs h t (test-stands code base at e stands) long
          ∙ (ap (λ (b : Bool). local_steps code n (point (rs ++ h ∷ (bit ∷ [])) (if b then at + service_size e.lines else at + 3))) zero?
          ∙ get-stays code base (at + 3) n e (rs ++ h ∷ (bit ∷ [])) here);
      stands = subst (λ (x : SfnService). IsGet code (at + 3) base x) same here;
    }
dispatch-by code base at n e v vs rs h t true zero? stands long found go =
    let bit : ℕ = bit_and (get_or rs 0 0) e.signal in
    let rest = go bit found in
    record {
      place = rest.place;
      last = rest.last;
      arrives = tested code at e.signal base (at + service_size e.lines) n rs h t (test-stands code base at e stands) long
          ∙ (ap (λ (b : Bool). local_steps code n (point (rs ++ h ∷ (bit ∷ [])) (if b then at + service_size e.lines else at + 3))) zero? ∙ rest.arrives);
      stands = rest.stands;
    }

pub dispatch : (code : List Instruction) (base : ℕ) (v : SfnService) (rs : List ℕ) (h : ℕ) (vs : List SfnService) (at n t : ℕ) → 3 * length vs ≤ n → length rs ≡ 14
    → StandsAt code at (services_code base at vs) → find (asserts (get_or rs 0 0)) vs ≡ Some v → Dispatched code base n rs h t at v
unfolding services_code
dispatch code base v rs h [] at n t room long stands found = cc
dispatch code base v rs h (e ∷ vs) at (suc (suc (suc n))) t room long stands found =
    let here = stands-left code at (service_code base at e) _ stands in
    let rest = stands-moved code _ (at + service_size e.lines) _ (ap (λ (k : ℕ). at + k) (service_code-length base at e)) (stands-right code at (service_code base at e) _ stands) in
    dispatch-by code base at n e v vs rs h t (bit_and (get_or rs 0 0) e.signal == 0) refl here long found
    (λ u f. dispatch code base v rs h vs (at + service_size e.lines) n u (omega arith) long rest f)
dispatch code base v rs h (e ∷ vs) at _ t room long stands found = absurd (omega arith)
