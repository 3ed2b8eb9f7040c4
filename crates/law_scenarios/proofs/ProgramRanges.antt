-- The numbers of programs that were read are in range.
use Rattle.std.proofs.Common.{ℕ, zero, suc, ◌≡◌, ◌<◌, ◌+◌, Bool, true, false, List, [], ◌∷◌, ◌++◌, ◌⊎◌, length, map, get_or, replicate, set, inl, inr, arith, refl, ap, sym, subst, ◌∙◌}
use Rattle.std.specs.Prelude.{Option, Some, None, Result, Ok, Err, IfOk, if◌then◌else◌}
use Rattle.std.specs.List.{AllByRecursion, enumerate_from, flat_map}
use Rattle.std.proofs.lemmas.Bool.{cases_lt}
use Rattle.std.proofs.lemmas.List.{get_or-map, get_or_past, length-map}
use Rattle.std.proofs.lemmas.List.FromFn.{get_or-enumerate_from}
use Rattle.law_lists.proofs.Lists.{AllByRecursion-append, AllByRecursion-push}
use Rattle.ffm_model.specs.declared.machine.ActorId.{ActorId}
use Rattle.ffm_model.specs.declared.scenario.RaiseItem.{RaiseItem}
use Rattle.ffm_model.specs.declared.scenario.Scenario.{Scenario}
use Rattle.ffm_model.specs.declared.script.Instruction.{Instruction}
use Rattle.ffm_model.specs.declared.script.SfnFunction.{SfnFunction}
use Rattle.ffm_model.specs.declared.system.Source.{Source}
use Rattle.ffm_model.specs.declared.system.System.{System}
use Rattle.ffm_model.specs.Actors.{kind_of}
use Rattle.ffm_model.specs.Reading.{Stop}
use Rattle.script_asm.specs.Lines.{script_read}
use Rattle.sfn_calls.specs.FunctionLines.{functions_read}
use Rattle.sfn_calls.specs.Partitions.{is_sfn}
use Rattle.actor_programs.specs.declared.program.Program.{Program}
use Rattle.actor_programs.specs.declared.program.Program.TheVariants.{Plain, Functions}
use Rattle.actor_programs.specs.Programs.{◌>>=◌, Made, all_joined, as_functions, as_script, device_made, first_made, joined, made_from, made_with, next_lines, parts_of, program_read, programs_of, with_program}
use Rattle.law_scenarios.specs.Ranges.{FunctionsFit, LineFits, PartsFit, ProgramFits, ProgramsFit}
use Rattle.law_scenarios.proofs.Assembly.{device-fits, script-fits}
use Rattle.law_scenarios.proofs.FunctionRanges.{functions-read-fit}
use Rattle.law_scenarios.proofs.Openings.{RaiseFits}

-- ---- one program

program-read-fits : (s : System) (number a : ℕ) (lines : List (List ℕ)) → IfOk (program_read s number a lines) (ProgramFits s a)
program-read-fits s number a lines =
    let functions : is_sfn s a ≡ true → (r : Result (List SfnFunction) Stop) → IfOk r FunctionsFit → IfOk (as_functions r) (ProgramFits s a) = λ own. elim [ Ok fs ↦ λ h. (own, h) | Err e ↦ λ h. tt ] in
    let script : (r : Result (List (List Instruction)) Stop) → IfOk r PartsFit → IfOk (as_script r) (ProgramFits s a) = elim [ Ok parts ↦ λ h. h | Err e ↦ λ h. tt ] in
    let go : (b : Bool) → is_sfn s a ≡ b → IfOk (if b then as_functions (functions_read s a number lines) else as_script (script_read (kind_of s a) number lines)) (ProgramFits s a) = elim [
      | true ↦ λ own. functions own (functions_read s a number lines) (functions-read-fit s a number lines)
      | false ↦ λ own. script (script_read (kind_of s a) number lines) (script-fits (kind_of s a) number lines)
    ] in
    go (is_sfn s a) refl

-- ---- all programs, actor by actor

abbrev MadeFits : System → Made → Type 0
MadeFits s made = (a : ℕ) → AllByRecursion (ProgramFits s a) (get_or made a [])

-- what a list has at a place after one of its items was put
put-at : {X : Type 0} (xs : List X) (i a : ℕ) (x d : X) → ((get_or (set xs i x) a d ≡ x) × (a ≡ i)) ⊎ (get_or (set xs i x) a d ≡ get_or xs a d)
put-at [] i a x d = inr refl
put-at (y ∷ ys) zero zero x d = inl (refl, refl)
put-at (y ∷ ys) zero (suc a) x d = inr refl
put-at (y ∷ ys) (suc i) zero x d = inr refl
put-at (y ∷ ys) (suc i) (suc a) x d = elim (put-at ys i a x d) [ inl h ↦ inl (h.0, ap suc h.1) | inr h ↦ inr h ]

with-program-fits : (s : System) (made : Made) (actor : ActorId) (p : Program) → ProgramFits s actor.0 p → MadeFits s made → MadeFits s (with_program made actor p)
with-program-fits s made actor p h all a =
    let own : List Program = get_or made actor.0 [] ++ p ∷ [] in
    elim (put-at made actor.0 a own []) [
      | inl here ↦ subst (AllByRecursion (ProgramFits s a)) (sym here.0)
          (subst (λ (b : ℕ). AllByRecursion (ProgramFits s b) own) (sym here.1) (AllByRecursion-push (ProgramFits s actor.0) (get_or made actor.0 []) p (all actor.0) h))
      | inr there ↦ subst (AllByRecursion (ProgramFits s a)) (sym there) (all a)
    ]

more-fits : (s : System) (number : ℕ) (actor : ActorId) (made : Made) (o : Option (List (List ℕ))) → MadeFits s made → IfOk (made_with s number actor made o) (MadeFits s)
more-fits s number actor made None all = all
more-fits s number actor made (Some lines) all = on (program_read s number actor.0 lines) (program-read-fits s number actor.0 lines) where
  on : (r : Result Program Stop) → IfOk r (ProgramFits s actor.0) → IfOk (r >>= (λ p. Ok (with_program made actor p))) (MadeFits s)
  on (Ok p) h = with-program-fits s made actor p h all
  on (Err e) h = tt

made-fits : (s : System) (c : Scenario) (actors : List ActorId) (number : ℕ) (made : Made) → MadeFits s made → IfOk (made_from s c number actors made) (MadeFits s)
unfolding made_from
made-fits s c [] number made all = all
made-fits s c (actor ∷ actors) number made all =
    let go : (r : Result Made Stop) → IfOk r (MadeFits s) → IfOk (r >>= (λ more. made_from s c (number + 1) actors more)) (MadeFits s) = elim [
      | Ok more ↦ λ h. made-fits s c actors (number + 1) more h
      | Err e ↦ λ h. tt
    ] in
    go (made_with s number actor made (next_lines c actor made)) (more-fits s number actor made (next_lines c actor made) all)

-- programs that fit whichever actor has them
abbrev FitAny : System → List Program → Type 0
FitAny s own = (a : ℕ) → AllByRecursion (ProgramFits s a) own

any-at : (s : System) (made : Made) (a : ℕ) → AllByRecursion (FitAny s) made → FitAny s (get_or made a [])
any-at s [] a all = λ b. tt
any-at s (own ∷ rest) zero all = all.0
any-at s (own ∷ rest) (suc a) all = any-at s rest a all.1

none-fit : (s : System) (n : ℕ) → AllByRecursion (FitAny s) (replicate n [])
none-fit s zero = tt
none-fit s (suc n) = ((λ a. tt), none-fit s n)

device-made-fits : (s : System) (sources : List Source) (raises : List RaiseItem) → AllByRecursion RaiseFits raises → AllByRecursion (FitAny s) (device_made sources raises)
device-made-fits s [] raises h = tt
device-made-fits s (x ∷ xs) raises h = ((λ a. (device-fits raises h, tt)), tt)

first-fits : (s : System) (c : Scenario) → AllByRecursion RaiseFits c.raises → MadeFits s (first_made s c)
unfolding first_made
first-fits s c h a =
    any-at s _ a (AllByRecursion-append (FitAny s) (replicate (length s.partitions + length s.clients) []) (device_made s.sources c.raises) (none-fit s (length s.partitions + length s.clients)) (device-made-fits s s.sources c.raises h)) a

-- ---- the programs of an actor as one

parts-fit : (s : System) (a : ℕ) (p : Program) → ProgramFits s a p → PartsFit (parts_of p)
parts-fit s a (Plain parts) h = h
parts-fit s a (Functions functions) h = tt

all-parts-fit : (s : System) (a : ℕ) (ps : List Program) → AllByRecursion (ProgramFits s a) ps → PartsFit (flat_map parts_of ps)
all-parts-fit s a [] h = tt
all-parts-fit s a (p ∷ ps) h = AllByRecursion-append (AllByRecursion LineFits) (parts_of p) (flat_map parts_of ps) (parts-fit s a p h.0) (all-parts-fit s a ps h.1)

joined-fits : (s : System) (a : ℕ) (ps : List Program) → AllByRecursion (ProgramFits s a) ps → ProgramFits s a (joined s a ps)
joined-fits s a [] h =
    let go : (b : Bool) → is_sfn s a ≡ b → ProgramFits s a (if b then Functions [] else Plain ([] ∷ [])) = elim [ true ↦ λ own. (own, tt) | false ↦ λ own. (tt, tt) ] in
    go (is_sfn s a) refl
joined-fits s a (p ∷ []) h = h.0
joined-fits s a (p ∷ q ∷ ps) h = all-parts-fit s a (p ∷ q ∷ ps) h

length-enumerated : {X : Type 0} (k : ℕ) (xs : List X) → length (enumerate_from k xs) ≡ length xs
length-enumerated k [] = refl
length-enumerated k (x ∷ xs) = ap suc (length-enumerated (k + 1) xs)

all-joined-fit : (s : System) (made : Made) → MadeFits s made → ProgramsFit s (all_joined s made)
all-joined-fit s made all a inside =
    let f : ℕ × List Program → Program = λ own. joined s own.0 own.1 in
    let items : List (ℕ × List Program) = enumerate_from 0 made in
    elim (cases_lt a (length made)) [
      | inl below ↦
          let at : a < length items = omega (arith, below, length-enumerated 0 made) in
          let item : get_or items a (0, []) ≡ (0 + a, get_or made a []) = get_or-enumerate_from 0 made a (0, []) below in
          let here : 0 + a ≡ a = omega arith in
          subst (ProgramFits s a) (sym (get_or-map f items a (0, []) (Plain []) at ∙ ap f item ∙ ap (λ (i : ℕ). joined s i (get_or made a [])) here)) (joined-fits s a (get_or made a []) (all a))
      | inr past ↦ subst (ProgramFits s a) (sym (get_or_past (map f items) a (Plain []) (omega (arith, past, length-map items f, length-enumerated 0 made)))) tt
    ]

pub programs-fit : (s : System) (c : Scenario) → AllByRecursion RaiseFits c.raises → IfOk (programs_of s c) (ProgramsFit s)
unfolding programs_of
programs-fit s c h = on (made_from s c 0 c.order (first_made s c)) (made-fits s c c.order 0 (first_made s c) (first-fits s c h)) where
  on : (r : Result Made Stop) → IfOk r (MadeFits s) → IfOk (r >>= (λ made. Ok (all_joined s made))) (ProgramsFit s)
  on (Ok made) all = all-joined-fit s made all
  on (Err e) all = tt
