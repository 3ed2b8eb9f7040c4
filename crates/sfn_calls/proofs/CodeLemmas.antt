-- What the code of the loop is made of, piece by piece.
use Rattle.std.proofs.Common.{ℕ, zero, suc, ◌+◌, ◌-◌, ◌*◌, ◌<◌, ◌≤◌, ◌≡◌, ◌==◌, ◌^◌, List, [], ◌∷◌, ◌++◌, length, get_or, drop, refl, ap, ap₂, sym, ◌∙◌, subst, arith, Bool, true, false, append_assoc, length-append, append-nil}
use Rattle.std.specs.Prelude.{Result, Ok, Err, OnOk, IfOk, Option, Some, None, find, map, fold, bit_or, if◌then◌else◌}
use Rattle.std.specs.Option.{option_map, option_map_or, option_to_list}
use Rattle.std.specs.List.{AllByRecursion}
use Rattle.std.proofs.Math.Seq.{drop-cons}
use Rattle.ffm_model.specs.declared.script.Operand.{Operand}
use Rattle.ffm_model.specs.declared.script.Operand.TheVariants.{Register, Number}
use Rattle.ffm_model.specs.declared.script.Instruction.{Instruction}
use Rattle.ffm_model.specs.declared.script.Instruction.TheVariants.{Change, Jump, JumpIf, Make, Map}
use Rattle.ffm_model.specs.declared.system.System.{System}
use Rattle.ffm_model.specs.ServiceCalls.{service_of_signal}
use Rattle.ffm_model.specs.Scripts.{IsOperand, FitsIn, IsPart}
use Rattle.ffm_model.specs.declared.script.SfnInstruction.{SfnInstruction}
use Rattle.ffm_model.specs.declared.script.SfnInstruction.TheVariants.{Plain, Return}
use Rattle.ffm_model.specs.declared.script.SfnFunction.{SfnFunction}
use Rattle.ffm_model.specs.Functions.{SfnService, SfnPartition, signals_in}
use Rattle.ffm_model.specs.PartitionRam.{ram_base}
use Rattle.ffm_model.specs.SfnScripts.{IsFunctionOperand, FitsFunction, IsFunctionLine, IsFunction}
use Rattle.ffm_model.specs.declared.constants.TheConstants.{PSA_BLOCK}
use Rattle.ffm_model.specs.declared.script.CallName.TheVariants as name
use Rattle.sfn_calls.specs.Loop.{call_line, width, place_in, moved, reply_code, line_code, lines_code, function_code, dispatch_code, service_size, service_code, services_code, expanded}
use Rattle.ffm_model.specs.SfnRuns.{lines_for, sfn_service_at, sfn_services_from, sfn_partition}
use Rattle.sfn_calls.proofs.Places.{place-first}
use Rattle.sfn_calls.proofs.Dispatch.{service_code-length}
use Rattle.law_lists.proofs.Lists.{AllByRecursion-append}

-- ---- places

pub place-more : (xs : List SfnInstruction) (i : ℕ) (v : SfnInstruction) → i < length xs → place_in xs (i + 1) ≡ place_in xs i + width (get_or xs i v)
unfolding place_in
place-more [] i v h = absurd (omega arith)
place-more (x ∷ xs) zero v h = rw (place-first xs) (omega arith)
place-more (x ∷ xs) (suc i) v h =
    let n : suc i + 1 ≡ suc (i + 1) = omega arith in
    let e = place-more xs i v (omega arith) in
    rw n (omega arith)

pub place-past : (xs : List SfnInstruction) (t : ℕ) → length xs ≤ t → place_in xs t ≡ place_in xs (length xs)
unfolding place_in
place-past [] t h = refl
place-past (x ∷ xs) zero h = absurd (omega arith)
place-past (x ∷ xs) (suc t) h = ap (λ (n : ℕ). width x + n) (place-past xs t (omega arith))

pub place-start : (xs : List SfnInstruction) → 0 ≡ place_in xs 0
place-start xs = sym (place-first xs)

width-some : (x : SfnInstruction) → width x ≤ 2
width-some (Plain i) = omega arith
width-some (Return v) = omega arith

pub place-within : (xs : List SfnInstruction) (t : ℕ) → place_in xs t ≤ place_in xs (length xs)
unfolding place_in
place-within [] t = omega arith
place-within (x ∷ xs) zero = omega arith
place-within (x ∷ xs) (suc t) = let h = place-within xs t in omega arith

pub place-few : (xs : List SfnInstruction) (t : ℕ) → place_in xs t ≤ 2 * length xs
unfolding place_in
place-few [] t = omega arith
place-few (x ∷ xs) zero = omega arith
place-few (x ∷ xs) (suc t) = let h = place-few xs t in let w = width-some x in omega arith

-- ---- lines

pub lines-drop : (to : ℕ → ℕ) (xs : List SfnInstruction) (i : ℕ) (v : SfnInstruction) → i < length xs → lines_code to (drop i xs) ≡ line_code to (get_or xs i v) ++ lines_code to (drop (i + 1) xs)
unfolding lines_code
lines-drop to xs i v h = let n : i + 1 ≡ suc i = omega arith in rw (n, drop-cons xs i v h) refl

pub lines-end : (to : ℕ → ℕ) (xs : List SfnInstruction) (i : ℕ) → length xs ≤ i → lines_code to (drop i xs) ≡ reply_code (Number 0)
unfolding lines_code
lines-end to [] zero h = refl
lines-end to [] (suc i) h = refl
lines-end to (x ∷ xs) zero h = absurd (omega arith)
lines-end to (x ∷ xs) (suc i) h = lines-end to xs i (omega arith)

-- one more line
pub lines-more : (to : ℕ → ℕ) (xs : List SfnInstruction) (i : ℕ) (v : SfnInstruction) (old now new : List Instruction) → i < length xs
    → now ++ lines_code to (drop i xs) ≡ old ++ lines_code to xs → new ≡ now ++ line_code to (get_or xs i v) → new ++ lines_code to (drop (i + 1) xs) ≡ old ++ lines_code to xs
lines-more to xs i v old now new h so added =
    ap (λ (l : List Instruction). l ++ lines_code to (drop (i + 1) xs)) added
    ∙ (append_assoc now (line_code to (get_or xs i v)) (lines_code to (drop (i + 1) xs))
    ∙ (ap (λ (l : List Instruction). now ++ l) (sym (lines-drop to xs i v h)) ∙ so))

-- after the last line
pub lines-done : {E : Type 0} (r : Result (Unit {0}) E) (to : ℕ → ℕ) (xs : List SfnInstruction) (i : ℕ) (old now new : List Instruction) → length xs ≤ i
    → now ++ lines_code to (drop i xs) ≡ old ++ lines_code to xs → OnOk r (new ≡ now ++ reply_code (Number 0)) → OnOk r (new ≡ old ++ lines_code to xs)
lines-done (Ok u) to xs i old now new h so added = added ∙ (ap (λ (l : List Instruction). now ++ l) (sym (lines-end to xs i h)) ∙ so)
lines-done (Err e) to xs i old now new h so added = tt

-- ---- services

pub services_code-push : (base : ℕ) (xs ys : List SfnService) (at : ℕ) → services_code base at (xs ++ ys) ≡ services_code base at xs ++ services_code base (at + length (services_code base at xs)) ys
unfolding services_code
services_code-push base [] ys at = ap (λ (n : ℕ). services_code base n ys) (omega arith)
services_code-push base (x ∷ xs) ys at =
    let next : ℕ = at + service_size x.lines in
    let long : next + length (services_code base next xs) ≡ at + length (service_code base at x ++ services_code base next xs) =
    omega (arith, length-append (service_code base at x) (services_code base next xs), service_code-length base at x) in
    ap (λ (l : List Instruction). service_code base at x ++ l) (services_code-push base xs ys next)
    ∙ (ap (λ (n : ℕ). service_code base at x ++ (services_code base next xs ++ services_code base n ys)) long
    ∙ sym (append_assoc (service_code base at x) (services_code base next xs) (services_code base (at + length (service_code base at x ++ services_code base next xs)) ys)))

pub services-push : (s : System) (a : ℕ) (fs : List SfnFunction) (n b : ℕ) → sfn_services_from s a fs b (n + 1) ≡ sfn_services_from s a fs b n ++ option_to_list (sfn_service_at s a fs (b + n))
unfolding sfn_services_from
services-push s a fs zero b = let e : b + 0 ≡ b = omega arith in rw e (append-nil (option_to_list (sfn_service_at s a fs b)))
services-push s a fs (suc n) b =
    let e : b + 1 + n ≡ b + suc n = omega arith in
    let one : suc n + 1 ≡ suc (n + 1) = omega arith in
    ap (sfn_services_from s a fs b) one
    ∙ (ap (λ (l : List SfnService). option_to_list (sfn_service_at s a fs b) ++ l) (services-push s a fs n (b + 1))
    ∙ (ap (λ (k : ℕ). option_to_list (sfn_service_at s a fs b) ++ (sfn_services_from s a fs (b + 1) n ++ option_to_list (sfn_service_at s a fs k))) e
    ∙ sym (append_assoc (option_to_list (sfn_service_at s a fs b)) (sfn_services_from s a fs (b + 1) n) (option_to_list (sfn_service_at s a fs (b + suc n))))))

fold-append : (f : ℕ → ℕ → ℕ) (xs ys : List SfnService) (x : ℕ) → fold f x (map (λ (v : SfnService). v.signal) (xs ++ ys)) ≡ fold f (fold f x (map (λ (v : SfnService). v.signal) xs)) (map (λ (v : SfnService). v.signal) ys)
fold-append f [] ys x = refl
fold-append f (v ∷ xs) ys x = fold-append f xs ys (f x v.signal)

pub signals-none : (xs : List SfnService) → signals_in (xs ++ []) ≡ signals_in xs
unfolding signals_in
signals-none xs = fold-append bit_or xs [] 0

pub signals-push : (xs : List SfnService) (v : SfnService) → signals_in (xs ++ v ∷ []) ≡ bit_or (signals_in xs) v.signal
unfolding signals_in
signals-push xs v = fold-append bit_or xs (v ∷ []) 0

pub signals-zero : (s : System) (a : ℕ) (fs : List SfnFunction) → 0 ≡ signals_in (sfn_services_from s a fs 4 0)
unfolding signals_in sfn_services_from
signals-zero s a fs = refl

-- ---- the loop fits a script

plain-operand : (v : Operand) → IsFunctionOperand v → IsOperand v
plain-operand (Register r) h = omega arith
plain-operand (Number n) h = tt

plain-operands : (vs : List Operand) → AllByRecursion IsFunctionOperand vs → AllByRecursion IsOperand vs
plain-operands [] h = tt
plain-operands (v ∷ vs) h = (plain-operand v h.0, plain-operands vs h.1)

moved-fits : (N count : ℕ) (to : ℕ → ℕ) (i : Instruction) → ((t : ℕ) → to t ≤ N) → FitsFunction count i → FitsIn N (moved to i)
moved-fits N count to (Change o r v) low h = (omega (arith, h.0), plain-operand v h.1)
moved-fits N count to (Jump t) low h = low t
moved-fits N count to (JumpIf c r v t) low h = (omega (arith, h.0), plain-operand v h.1, low t)
moved-fits N count to (Make n vs) low h = plain-operands vs h.1
moved-fits N count to (Map n vs) low h = absurd h

reply-fits : (N : ℕ) (v : Operand) → IsFunctionOperand v → AllByRecursion (FitsIn N) (reply_code v)
reply-fits N v h = ((omega arith, (plain-operand v h, (tt, (tt, (tt, (tt, tt)))))), (omega arith, tt))

line-fits : (N count : ℕ) (to : ℕ → ℕ) (x : SfnInstruction) → ((t : ℕ) → to t ≤ N) → IsFunctionLine count x → AllByRecursion (FitsIn N) (line_code to x)
line-fits N count to (Plain i) low h = (moved-fits N count to i low h, tt)
line-fits N count to (Return v) low h = reply-fits N v h

lines-fit : (N count : ℕ) (to : ℕ → ℕ) (xs : List SfnInstruction) → ((t : ℕ) → to t ≤ N) → AllByRecursion (IsFunctionLine count) xs → AllByRecursion (FitsIn N) (lines_code to xs)
unfolding lines_code
lines-fit N count to [] low h = reply-fits N (Number 0) tt
lines-fit N count to (x ∷ xs) low h = AllByRecursion-append (FitsIn N) (line_code to x) (lines_code to xs) (line-fits N count to x low h.0) (lines-fit N count to xs low h.1)

service_code-fits : (N base at : ℕ) (v : SfnService) → at + service_size v.lines ≤ N → IsFunction v.lines → AllByRecursion (FitsIn N) (service_code base at v)
unfolding service_code service_size
service_code-fits N base at v room fine =
    AllByRecursion-append (FitsIn N) (dispatch_code v.signal base (at + (5 + place_in v.lines (length v.lines) + 2))) (function_code v.lines (at + 5))
    ((omega arith, omega arith), ((omega arith, tt), ((omega arith, tt, room), ((tt, (tt, (tt, (tt, (tt, (tt, tt)))))), ((omega arith, omega arith), tt)))))
    (lines-fit N (length v.lines) (λ t. at + 5 + place_in v.lines t) v.lines (λ t. let w = place-within v.lines t in omega arith) fine)

services_code-fit : (N base : ℕ) (vs : List SfnService) (at : ℕ) → at + length (services_code base at vs) ≤ N → AllByRecursion (λ v. IsFunction v.lines) vs → AllByRecursion (FitsIn N) (services_code base at vs)
unfolding services_code
services_code-fit N base [] at room h = tt
services_code-fit N base (v ∷ vs) at room h =
    let next : ℕ = at + service_size v.lines in
    let long : length (service_code base at v ++ services_code base next vs) ≡ service_size v.lines + length (services_code base next vs) =
    length-append (service_code base at v) (services_code base next vs) ∙ ap (λ (n : ℕ). n + length (services_code base next vs)) (service_code-length base at v) in
    AllByRecursion-append (FitsIn N) (service_code base at v) (services_code base next vs) (service_code-fits N base at v (omega (arith, long)) h.0) (services_code-fit N base vs next (omega (arith, long)) h.1)

pub expanded-fits : (p : SfnPartition) → AllByRecursion (λ v. IsFunction v.lines) p.services → IsPart (expanded p)
unfolding expanded
expanded-fits p h = ((tt, (tt, (tt, (tt, (tt, (tt, tt)))))), services_code-fit (length (expanded p)) p.base p.services 1 (omega arith) h)

-- ---- the service of a bit

service-at : (s : System) (a : ℕ) (fs : List SfnFunction) (bit x v : ℕ) → Some v ≡ service_of_signal s a x → x ≡ 2 ^ bit
    → sfn_service_at s a fs bit ≡ Some (record { signal = 2 ^ bit; lines = lines_for fs v })
service-at s a fs bit x v found e =
    ap (option_map (λ (service : ℕ). record { signal = 2 ^ bit; lines = lines_for fs service })) (ap (service_of_signal s a) (sym e) ∙ sym found)

no-service : (s : System) (a : ℕ) (fs : List SfnFunction) (bit x : ℕ) → None ≡ service_of_signal s a x → x ≡ 2 ^ bit → sfn_service_at s a fs bit ≡ None
no-service s a fs bit x found e =
    ap (option_map (λ (service : ℕ). record { signal = 2 ^ bit; lines = lines_for fs service })) (ap (service_of_signal s a) (sym e) ∙ sym found)

pub signal-added : (s : System) (a : ℕ) (fs : List SfnFunction) (bit x v signals : ℕ) → Some v ≡ service_of_signal s a x → x ≡ 2 ^ bit
    → (vs : List SfnService) → signals ≡ signals_in vs → bit_or signals x ≡ signals_in (vs ++ option_to_list (sfn_service_at s a fs bit))
signal-added s a fs bit x v signals found e vs now =
    ap₂ bit_or now e
    ∙ (sym (signals-push vs (record { signal = 2 ^ bit; lines = lines_for fs v }))
    ∙ ap (λ (o : Option SfnService). signals_in (vs ++ option_to_list o)) (sym (service-at s a fs bit x v found e)))

pub signal-kept : (s : System) (a : ℕ) (fs : List SfnFunction) (bit x signals : ℕ) → None ≡ service_of_signal s a x → x ≡ 2 ^ bit
    → (vs : List SfnService) → signals ≡ signals_in vs → signals ≡ signals_in (vs ++ option_to_list (sfn_service_at s a fs bit))
signal-kept s a fs bit x signals found e vs now =
    now ∙ (sym (signals-none vs) ∙ ap (λ (o : Option SfnService). signals_in (vs ++ option_to_list o)) (sym (no-service s a fs bit x found e)))

pub signals-more : (s : System) (a : ℕ) (fs : List SfnFunction) (bit signals : ℕ) → 4 ≤ bit
    → signals ≡ signals_in (sfn_services_from s a fs 4 (bit - 4) ++ option_to_list (sfn_service_at s a fs bit)) → signals ≡ signals_in (sfn_services_from s a fs 4 (bit + 1 - 4))
signals-more s a fs bit signals low e =
    let one : bit + 1 - 4 ≡ bit - 4 + 1 = omega arith in
    let here : 4 + (bit - 4) ≡ bit = omega arith in
    e ∙ sym (ap (λ (n : ℕ). signals_in (sfn_services_from s a fs 4 n)) one
    ∙ (ap signals_in (services-push s a fs (bit - 4) 4) ∙ ap (λ (k : ℕ). signals_in (sfn_services_from s a fs 4 (bit - 4) ++ option_to_list (sfn_service_at s a fs k))) here))

service_code-alone : (base at : ℕ) (v : SfnService) → services_code base at (v ∷ []) ≡ service_code base at v
unfolding services_code
service_code-alone base at v = append-nil (service_code base at v)

-- the code of the service
pub service_code-added : (s : System) (a : ℕ) (fs : List SfnFunction) (base bit x v : ℕ) (old new : List Instruction) → Some v ≡ service_of_signal s a x → x ≡ 2 ^ bit
    → new ≡ old ++ service_code base (length old) (record { signal = x; lines = lines_for fs v }) → new ≡ old ++ services_code base (length old) (option_to_list (sfn_service_at s a fs bit))
service_code-added s a fs base bit x v old new found e now =
    now ∙ (ap (λ (k : ℕ). old ++ service_code base (length old) (record { signal = k; lines = lines_for fs v })) e
    ∙ sym (ap (λ (o : Option SfnService). old ++ services_code base (length old) (option_to_list o)) (service-at s a fs bit x v found e)
    ∙ ap (λ (l : List Instruction). old ++ l) (service_code-alone base (length old) (record { signal = 2 ^ bit; lines = lines_for fs v }))))

pub service_code-none : (s : System) (a : ℕ) (fs : List SfnFunction) (base bit x : ℕ) (old : List Instruction) → None ≡ service_of_signal s a x → x ≡ 2 ^ bit
    → old ≡ old ++ services_code base (length old) (option_to_list (sfn_service_at s a fs bit))
unfolding services_code
service_code-none s a fs base bit x old found e =
    sym (ap (λ (o : Option SfnService). old ++ services_code base (length old) (option_to_list o)) (no-service s a fs bit x found e) ∙ append-nil old)

pub service_code-short : (base : ℕ) (v : SfnService) (old new : List Instruction) → length v.lines ≤ 4096 → new ≡ old ++ service_code base (length old) v → length new ≤ length old + 8199
unfolding service_size
service_code-short base v old new short e =
    let long : length (service_code base (length old) v) ≡ 5 + place_in v.lines (length v.lines) + 2 = service_code-length base (length old) v in
    omega (arith, ap (λ (l : List Instruction). length l) e, length-append old (service_code base (length old) v), long, place-few v.lines (length v.lines))

-- the whole loop, service by service
pub loop-more : (s : System) (a : ℕ) (fs : List SfnFunction) (base bit : ℕ) (w : Instruction) (old new : List Instruction) → 4 ≤ bit
    → old ≡ w ∷ services_code base 1 (sfn_services_from s a fs 4 (bit - 4)) → new ≡ old ++ services_code base (length old) (option_to_list (sfn_service_at s a fs bit))
    → new ≡ w ∷ services_code base 1 (sfn_services_from s a fs 4 (bit + 1 - 4))
loop-more s a fs base bit w old new low was now =
    let vs : List SfnService = sfn_services_from s a fs 4 (bit - 4) in
    let more : List SfnService = option_to_list (sfn_service_at s a fs bit) in
    let one : bit + 1 - 4 ≡ bit - 4 + 1 = omega arith in
    let here : 4 + (bit - 4) ≡ bit = omega arith in
    let long : length (w ∷ services_code base 1 vs) ≡ 1 + length (services_code base 1 vs) = omega arith in
    let all : sfn_services_from s a fs 4 (bit + 1 - 4) ≡ vs ++ more =
    ap (sfn_services_from s a fs 4) one ∙ (services-push s a fs (bit - 4) 4 ∙ ap (λ (k : ℕ). vs ++ option_to_list (sfn_service_at s a fs k)) here) in
    now ∙ (ap (λ (l : List Instruction). l ++ services_code base (length l) more) was
    ∙ (ap (λ (n : ℕ). w ∷ (services_code base 1 vs ++ services_code base n more)) long
    ∙ sym (ap (λ (l : List SfnService). w ∷ services_code base 1 l) all ∙ ap (λ (l : List Instruction). w ∷ l) (services_code-push base vs more 1))))

pub service_code-added-on : {E : Type 0} (r : Result (Unit {0}) E) (s : System) (a : ℕ) (fs : List SfnFunction) (base bit x v : ℕ) (lines : List SfnInstruction) (old new : List Instruction)
    → Some v ≡ service_of_signal s a x → x ≡ 2 ^ bit → lines ≡ lines_for fs v
    → OnOk r (new ≡ old ++ service_code base (length old) (record { signal = x; lines = lines })) → OnOk r (new ≡ old ++ services_code base (length old) (option_to_list (sfn_service_at s a fs bit)))
service_code-added-on (Ok u) s a fs base bit x v lines old new found e is now =
    service_code-added s a fs base bit x v old new found e (now ∙ ap (λ (b : List SfnInstruction). old ++ service_code base (length old) (record { signal = x; lines = b })) is)
service_code-added-on (Err error) s a fs base bit x v lines old new found e is now = tt

pub service_code-short-on : {E : Type 0} (r : Result (Unit {0}) E) (base : ℕ) (v : SfnService) (old new : List Instruction) → length v.lines ≤ 4096
    → OnOk r (new ≡ old ++ service_code base (length old) v) → OnOk r (length new ≤ length old + 8199)
service_code-short-on (Ok u) base v old new short e = service_code-short base v old new short e
service_code-short-on (Err error) base v old new short e = tt

-- ---- what the functions keep

short-by : (b : Bool) (f : SfnFunction) (o : Option SfnFunction) → length f.instructions ≤ 4096 → length (option_map_or (λ f. f.instructions) o []) ≤ 4096
    → length (option_map_or (λ f. f.instructions) (if b then Some f else o) []) ≤ 4096
short-by true f o h k = h
short-by false f o h k = k

pub lines-short : (fs : List SfnFunction) (v : ℕ) → AllByRecursion (λ f. length f.instructions ≤ 4096) fs → length (lines_for fs v) ≤ 4096
lines-short [] v h = omega arith
lines-short (f ∷ fs) v h = short-by (f.service == v) f (find (λ f. f.service == v) fs) h.0 (lines-short fs v h.1)

fine-by : (b : Bool) (f : SfnFunction) (o : Option SfnFunction) → IsFunction f.instructions → IsFunction (option_map_or (λ f. f.instructions) o [])
    → IsFunction (option_map_or (λ f. f.instructions) (if b then Some f else o) [])
fine-by true f o h k = h
fine-by false f o h k = k

pub lines-fine : (fs : List SfnFunction) (v : ℕ) → AllByRecursion (λ f. IsFunction f.instructions) fs → IsFunction (lines_for fs v)
lines-fine [] v h = tt
lines-fine (f ∷ fs) v h = fine-by (f.service == v) f (find (λ f. f.service == v) fs) h.0 (lines-fine fs v h.1)

service-fine : (fs : List SfnFunction) (signal : ℕ) (o : Option ℕ) → AllByRecursion (λ f. IsFunction f.instructions) fs
    → AllByRecursion (λ (v : SfnService). IsFunction v.lines) (option_to_list (option_map (λ service. record { signal = signal; lines = lines_for fs service }) o))
service-fine fs signal None h = tt
service-fine fs signal (Some v) h = (lines-fine fs v h, tt)

pub services-fine : (s : System) (a : ℕ) (fs : List SfnFunction) (n bit : ℕ) → AllByRecursion (λ f. IsFunction f.instructions) fs → AllByRecursion (λ (v : SfnService). IsFunction v.lines) (sfn_services_from s a fs bit n)
unfolding sfn_services_from
services-fine s a fs zero bit h = tt
services-fine s a fs (suc n) bit h =
    AllByRecursion-append (λ (v : SfnService). IsFunction v.lines) (option_to_list (sfn_service_at s a fs bit)) (sfn_services_from s a fs (bit + 1) n) (service-fine fs (2 ^ bit) (service_of_signal s a (2 ^ bit)) h) (services-fine s a fs n (bit + 1) h)

-- ---- the whole loop

pub loop-start : (s : System) (a : ℕ) (fs : List SfnFunction) (base : ℕ) (w : Instruction) (new : List Instruction) → new ≡ [] ++ w ∷ [] → new ≡ w ∷ services_code base 1 (sfn_services_from s a fs 4 0)
unfolding sfn_services_from services_code
loop-start s a fs base w new e = e

pub loop-whole : (s : System) (a : ℕ) (fs : List SfnFunction) (base mask bit : ℕ) (code : List Instruction) → bit ≡ 32 → base ≡ ram_base s a → mask ≡ signals_in (sfn_services_from s a fs 4 28)
    → code ≡ call_line name.Wait (Number mask) (Number PSA_BLOCK) ∷ services_code base 1 (sfn_services_from s a fs 4 (bit - 4)) → code ≡ expanded (sfn_partition s a fs)
unfolding expanded sfn_partition
loop-whole s a fs base mask bit code at is masked e =
    let n : bit - 4 ≡ 28 = omega arith in
    e ∙ (ap (λ (k : ℕ). call_line name.Wait (Number mask) (Number PSA_BLOCK) ∷ services_code base 1 (sfn_services_from s a fs 4 k)) n
    ∙ ap₂ (λ (m b : ℕ). call_line name.Wait (Number m) (Number PSA_BLOCK) ∷ services_code b 1 (sfn_services_from s a fs 4 28)) masked is)

pub partition-fine : (s : System) (a : ℕ) (fs : List SfnFunction) → AllByRecursion (λ f. IsFunction f.instructions) fs → AllByRecursion (λ v. IsFunction v.lines) (sfn_partition s a fs).services
unfolding sfn_partition
partition-fine s a fs h = services-fine s a fs 28 4 h

pub loop-fits : (s : System) (a : ℕ) (fs : List SfnFunction) (code : List Instruction) → AllByRecursion (λ f. IsFunction f.instructions) fs → code ≡ expanded (sfn_partition s a fs) → IsPart code
loop-fits s a fs code h e = subst IsPart (sym e) (expanded-fits (sfn_partition s a fs) (partition-fine s a fs h))

pub script-made : {E : Type 0} (r : Result (List (List Instruction)) E) (code whole : List Instruction) → code ≡ whole → IfOk r (λ s. s ≡ code ∷ []) → IfOk r (λ s. s ≡ whole ∷ [])
script-made (Ok x) code whole e h = h ∙ ap (λ (c : List Instruction). c ∷ []) e
script-made (Err error) code whole e h = tt
