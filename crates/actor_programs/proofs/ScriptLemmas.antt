-- The programs of actors are those of the scripts that the scenario has for them.
use Rattle.std.proofs.Common.{ℕ, ◌≡◌, ◌<◌, ◌≤◌, ◌+◌, ◌++◌, Bool, true, false, cond, List, [], ◌∷◌, ⊎_elim, length, take, get_or, refl, ap, sym, ◌∙◌, subst, arith}
use Rattle.std.specs.Prelude.{Result, Ok, Err, Some, None, ◌==◌, map, min, count_by, replicate, if◌then◌else◌}
use Rattle.std.specs.List.{flat_map}
use Rattle.std.proofs.lemmas.Bool.{eqb-true, eqb-false, cases_lt}
use Rattle.std.proofs.lemmas.List.{get_or_append_left, get_or-set_other, get_or-set_same, length-append, length-replicate, map-append, take_all, take_more, nil_from_length}
use Rattle.std.proofs.lemmas.List.Sums.{sum_by-cons}
use Rattle.std.proofs.lemmas.Option.{slice_get_cases}
use Rattle.ffm_model.specs.declared.machine.ActorId.{ActorId}
use Rattle.ffm_model.specs.declared.scenario.Scenario.{Scenario}
use Rattle.ffm_model.specs.declared.script.Instruction.{Instruction}
use Rattle.ffm_model.specs.declared.script.SfnFunction.{SfnFunction}
use Rattle.ffm_model.specs.declared.system.ActorKind.{ActorKind}
use Rattle.ffm_model.specs.declared.system.System.{System}
use Rattle.ffm_model.specs.Actors.{actor_count, kind_of}
use Rattle.ffm_model.specs.Reading.{Stop}
use Rattle.ffm_model.specs.Scenarios.{IsScenarioOf, most_scripts}
use Rattle.script_asm.specs.Lines as asm
use Rattle.script_asm.specs.Lines.{assembled, lines_of, script_or_refusal}
use Rattle.sfn_calls.specs.Sections.{before, sections}
use Rattle.sfn_calls.specs.FunctionLines.{functions_below, functions_of, functions_or_refusal, limited}
use Rattle.sfn_calls.specs.Partitions.{is_sfn}
use Rattle.actor_programs.specs.declared.program.Program.{Program}
use Rattle.actor_programs.specs.declared.program.Program.TheVariants.{Plain, Functions}
use Rattle.actor_programs.proofs.ActorLemmas.{several}
use Rattle.actor_programs.proofs.MadeLemmas.{none-at, with_long, first_long, no_programs}
use Rattle.actor_programs.proofs.ProgramLemmas.{joined-at}
use Rattle.actor_programs.specs.Programs.{◌>>=◌, Made, Parts, AreOfScripts, IsListed, IsOfScripts, all_joined, as_functions, as_script, device_made, first_made, joined, made_from, made_with, next_lines, parts_of, program_read, programs_of, times_named, with_program}

-- ---- one script

abbrev right_of : Program → Result Program Stop
right_of p = Ok p

some-program : {p q : Program} → right_of p ≡ right_of q → p ≡ q
some-program e = cc

-- the number counts in refusals alone
script-number : (n k : ℕ) (r : Result (List Instruction) ℕ) (p : Program) → as_script (script_or_refusal n r) ≡ Ok p → as_script (script_or_refusal k r) ≡ Ok p
script-number n k (Ok i) p e = e
script-number n k (Err line) p e = cc

functions-number : (n k : ℕ) (r : Result (List SfnFunction) ℕ) (p : Program) → as_functions (functions_or_refusal n r) ≡ Ok p → as_functions (functions_or_refusal k r) ≡ Ok p
functions-number n k (Ok fs) p e = e
functions-number n k (Err line) p e = cc

number-by : (b : Bool) (n k : ℕ) (r : Result (List Instruction) ℕ) (q : Result (List SfnFunction) ℕ) (p : Program)
    → (if b then as_functions (functions_or_refusal n q) else as_script (script_or_refusal n r)) ≡ Ok p → (if b then as_functions (functions_or_refusal k q) else as_script (script_or_refusal k r)) ≡ Ok p
number-by true n k r q p e = functions-number n k q p e
number-by false n k r q p e = script-number n k r p e

any-number : (s : System) (n k a : ℕ) (texts : List (List ℕ)) (p : Program) → program_read s n a texts ≡ Ok p → program_read s k a texts ≡ Ok p
any-number s n k a texts p e = number-by (is_sfn s a) n k (assembled (kind_of s a) texts) (limited (length texts) (functions_of s a (lines_of texts))) p e

-- ---- the scripts of an actor so far

abbrev Texts : Type 0
Texts = List (List ℕ)

-- the programs are those of the first of the scripts
record Front (s : System) (a : ℕ) (scripts : List Texts) (ps : List Program) : Type 0 where
  read : map (program_read s 0 a) (take (length ps) scripts) ≡ map right_of ps
  within : length ps ≤ length scripts

abbrev Follows : System → Scenario → ℕ → Made → Type 0
Follows s c a made = Front s a (get_or c.lines a []) (get_or made a [])

front-none : (s : System) (a : ℕ) (scripts : List Texts) → Front s a scripts []
front-none s a scripts = record { read = refl; within = omega arith }

front-more : (s : System) (n a : ℕ) (scripts : List Texts) (ps : List Program) (texts : Texts) (p : Program) → Front s a scripts ps → length ps < length scripts → get_or scripts (length ps) texts ≡ texts
    → program_read s n a texts ≡ Ok p → Front s a scripts (ps ++ p ∷ [])
front-more s n a scripts ps texts p front lt is right =
    let longer = length-append ps (p ∷ []) in
    let more : take (length ps + 1) scripts ≡ take (length ps) scripts ++ texts ∷ [] = take_more scripts (length ps) texts lt ∙ ap (λ (t : Texts). take (length ps) scripts ++ t ∷ []) is in
    let first : program_read s 0 a texts ≡ right_of p = any-number s n 0 a texts p right in
    record {
      read =
          ap (λ (k : ℕ). map (program_read s 0 a) (take k scripts)) longer
          ∙ (ap (map (program_read s 0 a)) more
          ∙ (map-append (program_read s 0 a) (take (length ps) scripts) (texts ∷ [])
          ∙ (ap (λ (rs : List (Result Program Stop)). rs ++ program_read s 0 a texts ∷ []) front.read
          ∙ (ap (λ (r : Result Program Stop). map right_of ps ++ r ∷ []) first
          ∙ sym (map-append right_of ps (p ∷ []))))));
      within = omega (arith, longer);
    }

-- ---- one script more

record Step (s : System) (c : Scenario) (a : ℕ) (actor : ActorId) (made more : Made) : Type 0 where
  place : a < length more
  front : Follows s c a more
  count : length (get_or more a []) ≡ min (length (get_or made a []) + cond (actor.0 == a) 1 0) (length (get_or c.lines a []))

past-by : (own all : ℕ) (b : Bool) → own ≤ all → (b ≡ true → all ≤ own) → own ≡ min (own + cond b 1 0) all
past-by own all true within past = let le : all ≤ own = past refl in omega arith
past-by own all false within past = omega arith

-- all its scripts are assembled already
step-past : (s : System) (c : Scenario) (a : ℕ) (actor : ActorId) (made more : Made) → made ≡ more → a < length made → Follows s c a made
    → length (get_or c.lines actor.0 []) ≤ length (get_or made actor.0 []) → Step s c a actor made more
step-past s c a actor made more is lt front past =
    subst (Step s c a actor made) is (record {
      place = lt;
      front = front;
      count = past-by (length (get_or made a [])) (length (get_or c.lines a [])) (actor.0 == a) front.within
          (λ e. subst (λ (k : ℕ). length (get_or c.lines k []) ≤ length (get_or made k [])) (eqb-true actor.0 a e) past);
    })

record Longer (s : System) (c : Scenario) (a : ℕ) (made more : Made) : Type 0 where
  front : Follows s c a more
  count : length (get_or more a []) ≡ length (get_or made a []) + 1

step-same : (s : System) (c : Scenario) (n : ℕ) (actor : ActorId) (made : Made) (texts : Texts) (p : Program) → actor.0 < length made → Follows s c actor.0 made
    → length (get_or made actor.0 []) < length (get_or c.lines actor.0 []) → get_or (get_or c.lines actor.0 []) (length (get_or made actor.0 [])) texts ≡ texts
    → program_read s n actor.0 texts ≡ Ok p → Longer s c actor.0 made (with_program made actor p)
step-same s c n actor made texts p here front lt is right =
    let same : get_or (with_program made actor p) actor.0 [] ≡ get_or made actor.0 [] ++ p ∷ [] = get_or-set_same made actor.0 (get_or made actor.0 [] ++ p ∷ []) [] here in
    record {
      front = subst (Front s actor.0 (get_or c.lines actor.0 [])) (sym same) (front-more s n actor.0 (get_or c.lines actor.0 []) (get_or made actor.0 []) texts p front lt is right);
      count = ap length same ∙ length-append (get_or made actor.0 []) (p ∷ []);
    }

longer-count : (own new all : ℕ) (b : Bool) → b ≡ true → own < all → new ≡ own + 1 → new ≡ min (own + cond b 1 0) all
longer-count own new all true e lt is = omega arith
longer-count own new all false e lt is = cc

same-count : (own all : ℕ) (b : Bool) → b ≡ false → own ≤ all → own ≡ min (own + cond b 1 0) all
same-count own all true e within = cc
same-count own all false e within = omega arith

step-with : (s : System) (c : Scenario) (n a : ℕ) (actor : ActorId) (made : Made) (texts : Texts) (p : Program) (b : Bool) → (actor.0 == a) ≡ b → a < length made → Follows s c a made
    → length (get_or made actor.0 []) < length (get_or c.lines actor.0 []) → get_or (get_or c.lines actor.0 []) (length (get_or made actor.0 [])) texts ≡ texts
    → program_read s n actor.0 texts ≡ Ok p → Step s c a actor made (with_program made actor p)
step-with s c n a actor made texts p true e lt front room is right =
    let here : actor.0 ≡ a = eqb-true actor.0 a e in
    let longer : Longer s c a made (with_program made actor p) =
    subst (λ (k : ℕ). Longer s c k made (with_program made actor p)) here
    (step-same s c n actor made texts p (subst (λ (k : ℕ). k < length made) (sym here) lt) (subst (λ (k : ℕ). Follows s c k made) (sym here) front) room is right) in
    let room_here : length (get_or made a []) < length (get_or c.lines a []) = subst (λ (k : ℕ). length (get_or made k []) < length (get_or c.lines k [])) here room in
    record {
      place = subst (λ (k : ℕ). a < k) (sym (with_long made actor p)) lt;
      front = longer.front;
      count = longer-count (length (get_or made a [])) _ (length (get_or c.lines a [])) (actor.0 == a) e room_here longer.count;
    }
step-with s c n a actor made texts p false e lt front room is right =
    let other : a ≡ actor.0 → ⊥ = λ same. eqb-false actor.0 a e (sym same) in
    let same : get_or (with_program made actor p) a [] ≡ get_or made a [] = get_or-set_other made actor.0 a (get_or made actor.0 [] ++ p ∷ []) [] other in
    record {
      place = subst (λ (k : ℕ). a < k) (sym (with_long made actor p)) lt;
      front = subst (Front s a (get_or c.lines a [])) (sym same) front;
      count = ap length same ∙ same-count (length (get_or made a [])) (length (get_or c.lines a [])) (actor.0 == a) e front.within;
    }

step-read : (s : System) (c : Scenario) (n a : ℕ) (actor : ActorId) (made more : Made) (texts : Texts) (r : Result Program Stop) → program_read s n actor.0 texts ≡ r
    → (r >>= (λ p. Ok (with_program made actor p))) ≡ Ok more → a < length made → Follows s c a made
    → length (get_or made actor.0 []) < length (get_or c.lines actor.0 []) → get_or (get_or c.lines actor.0 []) (length (get_or made actor.0 [])) texts ≡ texts → Step s c a actor made more
step-read s c n a actor made more texts (Ok p) right e lt front room is =
    let same : with_program made actor p ≡ more = cc in
    subst (Step s c a actor made) same (step-with s c n a actor made texts p (actor.0 == a) refl lt front room is right)
step-read s c n a actor made more texts (Err stop) right e lt front room is = cc

step : (s : System) (c : Scenario) (n a : ℕ) (actor : ActorId) (made more : Made) → a < length made → Follows s c a made → made_with s n actor made (next_lines c actor made) ≡ Ok more → Step s c a actor made more
step s c n a actor made more lt front e =
    let scripts = get_or c.lines actor.0 [] in
    let count = length (get_or made actor.0 []) in
    ⊎_elim
    (λ there.
    let lines = there.0 in
    let goes : made_with s n actor made (Some lines) ≡ Ok more = ap (made_with s n actor made) (sym there.2) ∙ e in
    step-read s c n a actor made more lines (program_read s n actor.0 lines) refl goes lt front there.1 there.3)
    (λ past.
    let goes : made_with s n actor made None ≡ Ok more = ap (made_with s n actor made) (sym past.1) ∙ e in
    let same : made ≡ more = cc in
    step-past s c a actor made more same lt front past.0)
    (slice_get_cases scripts count).1

-- ---- all scripts

record Ends (s : System) (c : Scenario) (a : ℕ) (actors : List ActorId) (made m : Made) : Type 0 where
  place : a < length m
  front : Follows s c a m
  count : length (get_or m a []) ≡ min (length (get_or made a []) + count_by (λ b. b.0 == a) actors) (length (get_or c.lines a []))

count-arith : (own new all once rest whole final : ℕ) → new ≡ min (own + once) all → whole ≡ once + rest → final ≡ min (new + rest) all → final ≡ min (own + whole) all
count-arith own new all once rest whole final e f g = omega arith

ends-next : (s : System) (c : Scenario) (n a : ℕ) (x : ActorId) (xs : List ActorId) (made m : Made) (r : Result Made Stop)
    → ((more : Made) → a < length more → Follows s c a more → made_from s c (n + 1) xs more ≡ Ok m → Ends s c a xs more m)
    → a < length made → Follows s c a made → made_with s n x made (next_lines c x made) ≡ r → (r >>= (λ (k : Made). made_from s c (n + 1) xs k)) ≡ Ok m → Ends s c a (x ∷ xs) made m
ends-next s c n a x xs made m (Ok more) rest lt front is e =
    let one = step s c n a x made more lt front is in
    let all = rest more one.place one.front e in
    record {
      place = all.place;
      front = all.front;
      count = count-arith (length (get_or made a [])) (length (get_or more a [])) (length (get_or c.lines a [])) (cond (x.0 == a) 1 0) (count_by (λ b. b.0 == a) xs) _ _
          one.count (sum_by-cons (λ (b : ActorId). cond (b.0 == a) 1 0) x xs) all.count;
    }
ends-next s c n a x xs made m (Err stop) rest lt front is e = cc

ends : (s : System) (c : Scenario) (n a : ℕ) (xs : List ActorId) (made m : Made) → a < length made → Follows s c a made → made_from s c n xs made ≡ Ok m → Ends s c a xs made m
unfolding made_from
ends s c n a [] made m lt front e =
    let same : made ≡ m = cc in
    subst (Ends s c a [] made) same (record { place = lt; front = front; count = omega (arith, front.within) })
ends s c n a (x ∷ xs) made m lt front e = ends-next s c n a x xs made m (made_with s n x made (next_lines c x made)) (λ more. ends s c (n + 1) a xs more m) lt front refl e

-- ---- the programs of an actor's scripts as one

read-plain : (k : ActorKind) (r : Result (List Instruction) ℕ) (p : Program) → as_script (script_or_refusal 0 r) ≡ Ok p → (i : List Instruction) × ((r ≡ Ok i) × (p ≡ Plain (i ∷ [])))
read-plain k (Ok i) p e = (i, (refl, sym (some-program e)))
read-plain k (Err line) p e = cc

plain-by : (s : System) (a : ℕ) (texts : Texts) (p : Program) → is_sfn s a ≡ false → program_read s 0 a texts ≡ Ok p
    → (i : List Instruction) × ((assembled (kind_of s a) texts ≡ Ok i) × (p ≡ Plain (i ∷ [])))
plain-by s a texts p plain e = read-plain (kind_of s a) (assembled (kind_of s a) texts) p (rw plain at e)

abbrev instructions_right : List Instruction → Result (List Instruction) ℕ
instructions_right i = Ok i

-- the parts are the scripts' instructions, in order
plain-parts : (s : System) (a : ℕ) (scripts : List Texts) (ps : List Program) → is_sfn s a ≡ false → map (program_read s 0 a) scripts ≡ map right_of ps
    → map (assembled (kind_of s a)) scripts ≡ map instructions_right (flat_map parts_of ps)
plain-parts s a [] [] plain e = refl
plain-parts s a [] (p ∷ ps) plain e = cc
plain-parts s a (x ∷ xs) [] plain e = cc
plain-parts s a (x ∷ xs) (p ∷ ps) plain e =
    let head : program_read s 0 a x ≡ Ok p = cc in
    let tail : map (program_read s 0 a) xs ≡ map right_of ps = cc in
    let one = plain-by s a x p plain head in
    let parts : parts_of p ≡ one.0 ∷ [] = ap parts_of one.1.1 in
    ap (λ (r : Result (List Instruction) ℕ). r ∷ map (assembled (kind_of s a)) xs) one.1.0
    ∙ (ap (λ (rs : List (Result (List Instruction) ℕ)). instructions_right one.0 ∷ rs) (plain-parts s a xs ps plain tail)
    ∙ ap (λ (x : Parts). map instructions_right (x ++ flat_map parts_of ps)) (sym parts))

of-plain : (s : System) (a : ℕ) (scripts : List Texts) (ps : List Program) → is_sfn s a ≡ false → 0 < length scripts → map (program_read s 0 a) scripts ≡ map right_of ps
    → IsOfScripts s a scripts (joined s a ps)
of-plain s a [] ps plain some e = absurd (omega arith)
of-plain s a (x ∷ xs) [] plain some e = cc
of-plain s a (x ∷ xs) (p ∷ []) plain some e =
    let head : program_read s 0 a x ≡ Ok p = cc in
    let one = plain-by s a x p plain head in
    let parts : parts_of p ≡ one.0 ∷ [] = ap parts_of one.1.1 in
    subst (IsOfScripts s a (x ∷ xs)) (sym one.1.1)
    (plain-parts s a (x ∷ xs) (p ∷ []) plain e ∙ ap (λ (y : Parts). map instructions_right (y ++ [])) parts)
of-plain s a (x ∷ xs) (p ∷ q ∷ ps) plain some e = plain-parts s a (x ∷ xs) (p ∷ (q ∷ ps)) plain e

read-functions : (r : Result (List SfnFunction) ℕ) (p : Program) → as_functions (functions_or_refusal 0 r) ≡ Ok p → (fs : List SfnFunction) × ((r ≡ Ok fs) × (p ≡ Functions fs))
read-functions (Ok fs) p e = (fs, (refl, sym (some-program e)))
read-functions (Err line) p e = cc

abbrev functions_made : System → ℕ → Texts → Result (List SfnFunction) ℕ
functions_made s a texts = limited (length texts) (functions_of s a (lines_of texts))

functions-by : (s : System) (a : ℕ) (texts : Texts) (p : Program) → is_sfn s a ≡ true → program_read s 0 a texts ≡ Ok p
    → (fs : List SfnFunction) × ((functions_made s a texts ≡ Ok fs) × (p ≡ Functions fs))
functions-by s a texts p sfn e = read-functions (functions_made s a texts) p (rw sfn at e)

of-functions : (s : System) (a : ℕ) (scripts : List Texts) (ps : List Program) → is_sfn s a ≡ true → length scripts ≡ 1 → map (program_read s 0 a) scripts ≡ map right_of ps
    → IsOfScripts s a scripts (joined s a ps)
of-functions s a [] ps sfn one e = absurd (omega arith)
of-functions s a (x ∷ y ∷ xs) ps sfn one e = absurd (omega arith)
of-functions s a (x ∷ []) [] sfn one e = cc
of-functions s a (x ∷ []) (p ∷ q ∷ ps) sfn one e = cc
of-functions s a (x ∷ []) (p ∷ []) sfn one e =
    let head : program_read s 0 a x ≡ Ok p = cc in
    let made = functions-by s a x p sfn head in
    subst (IsOfScripts s a (x ∷ [])) (sym made.1.1) (ap (λ (r : Result (List SfnFunction) ℕ). r ∷ []) made.1.0)

no-lines : (k : ActorKind) → assembled k [] ≡ Ok []
unfolding assembled asm.assembled_lines asm.made_from
no-lines k = refl

no-functions-made : (s : System) (a : ℕ) → functions_of s a [] ≡ Ok []
unfolding functions_of functions_below before sections
no-functions-made s a = refl

empty-by : (s : System) (a : ℕ) (b : Bool) → IsOfScripts s a ([] ∷ []) (if b then Functions [] else Plain ([] ∷ []))
empty-by s a true = ap (λ (r : Result (List SfnFunction) ℕ). limited 0 r ∷ []) (no-functions-made s a)
empty-by s a false = ap (λ (r : Result (List Instruction) ℕ). r ∷ []) (no-lines (kind_of s a))

of-all : (s : System) (a : ℕ) (scripts : List Texts) (ps : List Program) (b : Bool) → is_sfn s a ≡ b → 0 < length scripts → length scripts ≤ most_scripts s a → Front s a scripts ps → length ps ≡ length scripts
    → IsOfScripts s a scripts (joined s a ps)
of-all s a scripts ps b sfn some few front all =
    let whole : take (length ps) scripts ≡ scripts = take_all (length ps) scripts (omega arith) in
    let read : map (program_read s 0 a) scripts ≡ map right_of ps = ap (map (program_read s 0 a)) (sym whole) ∙ front.read in
    elim b as (λ v. is_sfn s a ≡ v → IsOfScripts s a scripts (joined s a ps)) [
      | true ↦ λ is.
          of-functions s a scripts ps is
          (⊎_elim (λ (many : 1 < length scripts). let not : is_sfn s a ≡ false = several s a (omega arith) in let both : true ≡ false = sym is ∙ not in cc) (λ (one : length scripts ≤ 1). omega arith) (cases_lt 1 (length scripts))) read
      | false ↦ λ is. of-plain s a scripts ps is some read
    ] sfn

of-listed : (s : System) (c : Scenario) (a : ℕ) (ps : List Program) → 0 < length (get_or c.lines a []) → length (get_or c.lines a []) ≤ most_scripts s a → Front s a (get_or c.lines a []) ps
    → length ps ≡ min (times_named c a) (length (get_or c.lines a [])) → IsListed c a → IsOfScripts s a (get_or c.lines a []) (joined s a ps)
of-listed s c a ps some few front count listed =
    ⊎_elim
    (λ (all : times_named c a ≡ length (get_or c.lines a [])). of-all s a (get_or c.lines a []) ps (is_sfn s a) refl some few front (omega arith))
    (λ none.
    let gone : ps ≡ [] = nil_from_length ps (omega (arith, none.0)) in
    subst (λ (x : List Texts). IsOfScripts s a x (joined s a ps)) (sym none.1) (subst (λ (x : List Program). IsOfScripts s a ([] ∷ []) (joined s a x)) (sym gone) (empty-by s a (is_sfn s a))))
    listed

-- ---- all actors

abbrev right_programs : List Program → Result (List Program) Stop
right_programs ps = Ok ps

first-none : (s : System) (c : Scenario) (a : ℕ) → a < length s.partitions + length s.clients → get_or (first_made s c) a [] ≡ no_programs
unfolding first_made
first-none s c a lt =
    let n = length s.partitions + length s.clients in
    get_or_append_left (replicate n no_programs) (device_made s.sources c.raises) no_programs a (subst (λ (k : ℕ). a < k) (sym (length-replicate n no_programs)) lt) ∙ none-at n a

all-by : (s : System) (c : Scenario) (ps : List Program) (r : Result Made Stop) → IsScenarioOf s c → made_from s c 0 c.order (first_made s c) ≡ r → (r >>= (λ (m : Made). Ok (all_joined s m))) ≡ Ok ps → AreOfScripts s c ps
all-by s c ps (Ok m) scenario is e =
    let same : all_joined s m ≡ ps = cc in
    record {
      each = λ a lt listed.
          let within : a < actor_count s = omega arith in
          let place : a < length (first_made s c) = subst (λ (k : ℕ). a < k) (sym (first_long s c)) within in
          let none : Follows s c a (first_made s c) = subst (Front s a (get_or c.lines a [])) (sym (first-none s c a lt)) (front-none s a (get_or c.lines a [])) in
          let all = ends s c 0 a c.order (first_made s c) m place none is in
          let own = scenario.scripts a within in
          let begun : length (get_or (first_made s c) a []) ≡ 0 = ap length (first-none s c a lt) in
          let count : length (get_or m a []) ≡ min (times_named c a) (length (get_or c.lines a [])) = all.count ∙ ap (λ (k : ℕ). min (k + times_named c a) (length (get_or c.lines a []))) begun ∙ ap (λ (k : ℕ). min k (length (get_or c.lines a []))) (omega arith) in
          let here : joined s a (get_or m a []) ≡ get_or ps a (Plain []) = sym (joined-at s m a all.place) ∙ ap (λ (x : List Program). get_or x a (Plain [])) same in
          subst (IsOfScripts s a (get_or c.lines a [])) here (of-listed s c a (get_or m a []) own.0 own.1 all.front count listed);
    }
all-by s c ps (Err stop) scenario is e = cc

-- all scripts assembled, and joined
pub all-read : (s : System) (c : Scenario) (m : Made) (ps : List Program) → made_from s c 0 c.order (first_made s c) ≡ Ok m → ps ≡ all_joined s m → programs_of s c ≡ Ok ps
unfolding programs_of
all-read s c m ps e is = ap (λ (r : Result Made Stop). r >>= (λ (k : Made). right_programs (all_joined s k))) e ∙ ap right_programs (sym is)

-- the programs are those of the scripts that the scenario has for each actor
pub of-scripts : (s : System) (c : Scenario) (ps : List Program) → IsScenarioOf s c → programs_of s c ≡ Ok ps → AreOfScripts s c ps
unfolding programs_of
of-scripts s c ps scenario e = all-by s c ps (made_from s c 0 c.order (first_made s c)) scenario refl e
