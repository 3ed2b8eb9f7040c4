-- The scripts of a scenario: no actor has more than it may have, the file has no more than all actors have, and none has too many lines.
use Rattle.std.proofs.Common.{◌≡◌, ℕ, ◌+◌, ◌<◌, ◌≤◌, List, [], ◌∷◌, ◌++◌, length, map, suc, zero, Bool, true, false, not, cond, Some, None, Option, Result, Ok, Err, refl, subst, ◌∙◌, ap, eqb-true, arith, if◌then◌else◌}
use Rattle.std.specs.Prelude.{filter, count_by, get_or, nat_lt, ◌==◌}
use Rattle.std.specs.List.{AllByRecursion, range_with_len, sum_by}
use Rattle.std.proofs.lemmas.Bool.Decides.{nat_tests}
use Rattle.std.proofs.lemmas.List.{length-map}
use Rattle.std.proofs.lemmas.List.Filters.{length-filter_both}
use Rattle.std.proofs.lemmas.List.FromFn.{get_or-map-range_with_len, sum_by-map-range_with_len_more}
use Rattle.std.proofs.lemmas.List.Sums.{length-filter, sum_by-append}
use Rattle.serde_json.specs.Data.{Data, Items, no_items, item}
use Rattle.serde_json.specs.Find.{get, as_array}
use Rattle.ffm_model.specs.declared.codes.TheConstants.{WRONG_TYPE, BAD_VALUE, UNKNOWN_ACTOR, MISSING_ATTRIBUTE}
use Rattle.ffm_model.specs.declared.constants.TheConstants.{MAX_SCRIPT_LINES}
use Rattle.ffm_model.specs.declared.key.Key.{Key}
use Rattle.ffm_model.specs.declared.key.Key.TheVariants as key
use Rattle.ffm_model.specs.declared.machine.ActorId.{ActorId}
use Rattle.ffm_model.specs.declared.script_item.ScriptItem.{ScriptItem}
use Rattle.ffm_model.specs.declared.place.PartRefusal.{PartRefusal}
use Rattle.ffm_model.specs.declared.place.PathStep.{PathStep}
use Rattle.ffm_model.specs.declared.place.PathStep.TheVariants as step
use Rattle.ffm_model.specs.declared.system.System.{System}
use Rattle.ffm_model.specs.Attributes.{◌>>=◌, refuse, or_refuse, within, if_there, required, optional, name_of, object_of, items_after, list_after, list_up_to}
use Rattle.ffm_model.specs.Keys.{key_text}
use Rattle.ffm_model.proofs.ActorLemmas.{some_scripts}
use Rattle.ffm_model.specs.Scenarios.{actor_named, most_scripts, may_have_another, line_of, new_actor_of, script_of, lines_for, or_empty_script, lines_by_actor, AreScriptsOf}

-- ---- what a reading that gave a value gave on the way

before : {A B : Type 0} (read : Result A PartRefusal) (next : A → Result B PartRefusal) (y : B) → (read >>= next) ≡ Ok y → (x : A) × (read ≡ Ok x) × (next x ≡ Ok y)
before (Ok x) next y h = (x, refl, h)
before (Err r) next y h = absurd cc

placed_here : {A : Type 0} (s : PathStep) (read : Result A PartRefusal) (x : A) → within s read ≡ Ok x → read ≡ Ok x
placed_here s (Ok y) x h = h
placed_here s (Err r) x h = absurd cc

there : {A : Type 0} (read : Data → Result A PartRefusal) (held : Option Data) (x : A) → if_there read (refuse MISSING_ATTRIBUTE) held ≡ Ok x → (d : Data) × (read d ≡ Ok x)
there read None x h = absurd cc
there read (Some d) x h = (d, h)

of_required : {A : Type 0} (read : Data → Result A PartRefusal) (k : Key) (d : Data) (x : A) → required read k d ≡ Ok x → (part : Data) × (read part ≡ Ok x)
of_required read k d x h = there read (get (key_text k) d) x (placed_here (step.Key k) (if_there read (refuse MISSING_ATTRIBUTE) (get (key_text k) d)) x h)

-- ---- no actor has more scripts than it may have

abbrev count : ℕ → List ScriptItem → ℕ
count a scripts = count_by (λ script. script.actor.0 == a) scripts

abbrev pub Fits : System → List ScriptItem → Type 0
Fits s scripts = (a : ℕ) → count_by (λ script. script.actor.0 == a) scripts ≤ most_scripts s a

if_allowed : (b : Bool) (actor x : ActorId) → (if b then Ok actor else refuse BAD_VALUE) ≡ Ok x → (actor ≡ x) × (b ≡ true)
if_allowed true actor x h = (cc, refl)
if_allowed false actor x h = absurd cc

is_new : (s : System) (scripts : List ScriptItem) (d : Data) (x : ActorId) → new_actor_of s scripts d ≡ Ok x → may_have_another s scripts x ≡ true
unfolding new_actor_of
is_new s scripts d x h =
    let named = before (name_of d) _ x h in
    let known = before (or_refuse UNKNOWN_ACTOR (actor_named s named.0)) _ x named.2 in
    let here = if_allowed (may_have_another s scripts known.0) known.0 x known.2 in
    let P : ActorId → Type 0 = λ actor. may_have_another s scripts actor ≡ true in
    subst P here.0 here.1

is_after : (s : System) (scripts : List ScriptItem) (d : Data) (x : ScriptItem) → script_of s scripts d ≡ Ok x → may_have_another s scripts x.actor ≡ true
unfolding script_of
is_after s scripts d x h =
    let object = before (object_of d) _ x h in
    let actor = before (required (new_actor_of s scripts) key.Actor d) _ x object.2 in
    let lines = before (required (list_up_to MAX_SCRIPT_LINES line_of) key.Lines d) _ x actor.2 in
    let found = of_required (new_actor_of s scripts) key.Actor d actor.0 actor.1 in
    let same : actor.0 ≡ x.actor = cc in
    let P : ActorId → Type 0 = λ a. may_have_another s scripts a ≡ true in
    subst P same (is_new s scripts found.0 actor.0 found.1)

fits_push : (s : System) (scripts : List ScriptItem) (x : ScriptItem) → Fits s scripts → may_have_another s scripts x.actor ≡ true → Fits s (scripts ++ x ∷ [])
fits_push s scripts x fits allowed a =
    let counted : count a (scripts ++ x ∷ []) ≡ count a scripts + count a (x ∷ []) = sum_by-append (λ script. cond (script.actor.0 == a) 1 0) scripts (x ∷ []) in
    let less : count x.actor.0 scripts < most_scripts s x.actor.0 = (let h : nat_lt (count x.actor.0 scripts) (most_scripts s x.actor.0) ≡ true = allowed in grind (arith, nat_tests)) in
    elim (x.actor.0 == a) as (λ b. (x.actor.0 == a) ≡ b → count a (scripts ++ x ∷ []) ≤ most_scripts s a) [
      | true ↦ λ e.
          let one : count a (x ∷ []) ≡ 1 = rw e refl in
          let here : count a scripts < most_scripts s a = subst (λ (n : ℕ). count n scripts < most_scripts s n) (eqb-true x.actor.0 a e) less in
          omega arith
      | false ↦ λ e.
          let none : count a (x ∷ []) ≡ 0 = rw e refl in
          omega (arith, fits a)
    ] refl

fits_items : (s : System) (front : List ScriptItem) (i : ℕ) (ds : Items) (scripts : List ScriptItem) → items_after (script_of s) front i ds ≡ Ok scripts → Fits s front → Fits s scripts
unfolding items_after
fits_items s front i no_items scripts h fits =
    let same : front ≡ scripts = cc in
    subst (Fits s) same fits
fits_items s front i (item d ds) scripts h fits =
    let first = before (within (step.Index i) (script_of s front d)) _ scripts h in
    let read = placed_here (step.Index i) (script_of s front d) first.0 first.1 in
    fits_items s (front ++ first.0 ∷ []) (i + 1) ds scripts first.2 (fits_push s front first.0 fits (is_after s front d first.0 read))

fits_none : (s : System) → Fits s []
fits_none s a = omega arith

fits_list : (s : System) (d : Data) (scripts : List ScriptItem) → list_after (script_of s) d ≡ Ok scripts → Fits s scripts
unfolding list_after
fits_list s d scripts h =
    let items = before (or_refuse WRONG_TYPE (as_array d)) _ scripts h in
    fits_items s [] 0 items.0 scripts items.2 (fits_none s)

fits_if_there : (s : System) (held : Option Data) (scripts : List ScriptItem) → if_there (list_after (script_of s)) (Ok []) held ≡ Ok scripts → Fits s scripts
fits_if_there s None scripts h =
    let same : [] ≡ scripts = cc in
    subst (Fits s) same (fits_none s)
fits_if_there s (Some d) scripts h = fits_list s d scripts h

pub fitting : (s : System) (d : Data) (scripts : List ScriptItem) → optional (list_after (script_of s)) [] key.Scripts d ≡ Ok scripts → Fits s scripts
fitting s d scripts h = fits_if_there s (get (key_text key.Scripts) d) scripts (placed_here (step.Key key.Scripts) (if_there (list_after (script_of s)) (Ok []) (get (key_text key.Scripts) d)) scripts h)

-- ---- the file has no more than all actors have

-- the scripts of the actors below n, without those of n
abbrev below : ℕ → List ScriptItem → List ScriptItem
below n scripts = filter (λ script. not (script.actor.0 == n)) scripts

below_kept : (n : ℕ) (scripts : List ScriptItem) → AllByRecursion (λ script. script.actor.0 < suc n) scripts → AllByRecursion (λ script. script.actor.0 < n) (below n scripts)
below_kept n [] all = tt
below_kept n (x ∷ xs) all =
    let later = below_kept n xs all.1 in
    let first : x.actor.0 < suc n = all.0 in
    elim (x.actor.0 == n) as (λ b. (x.actor.0 == n) ≡ b → AllByRecursion (λ script. script.actor.0 < n) (below n (x ∷ xs))) [
      | true ↦ λ e. rw e later
      | false ↦ λ e. let here : x.actor.0 < n = grind (arith, nat_tests) in rw e (here, later)
    ] refl

count_first : (a : ℕ) (x : ScriptItem) (xs : List ScriptItem) → count a (x ∷ xs) ≡ count a (x ∷ []) + count a xs
count_first a x xs = sum_by-append (λ script. cond (script.actor.0 == a) 1 0) (x ∷ []) xs

count_below : (n a : ℕ) (scripts : List ScriptItem) → count a (below n scripts) ≤ count a scripts
count_below n a [] = omega arith
count_below n a (x ∷ xs) =
    let later = count_below n a xs in
    elim (x.actor.0 == n) as (λ b. (x.actor.0 == n) ≡ b → count a (below n (x ∷ xs)) ≤ count a (x ∷ xs)) [
      | true ↦ λ e.
          let fewer : below n (x ∷ xs) ≡ below n xs = rw e refl in
          rw fewer (omega (arith, count_first a x xs))
      | false ↦ λ e.
          let same : below n (x ∷ xs) ≡ x ∷ below n xs = rw e refl in
          rw same (omega (arith, count_first a x xs, count_first a x (below n xs)))
    ] refl

few_each : (f : ℕ → List (List (List ℕ))) (n : ℕ) (scripts : List ScriptItem) → AllByRecursion (λ script. script.actor.0 < n) scripts → ((a : ℕ) → count a scripts ≤ length (f a))
    → length scripts ≤ sum_by (λ own. length own) (map f (range_with_len 0 n))
few_each f zero [] all each = omega arith
few_each f zero (x ∷ xs) all each = absurd (omega (arith, all.0))
few_each f (suc n) scripts all each =
    let rest = few_each f n (below n scripts) (below_kept n scripts all) (λ a. omega (arith, count_below n a scripts, each a)) in
    let parts = length-filter_both (λ script. script.actor.0 == n) (λ script. not (script.actor.0 == n)) (λ script. refl) scripts in
    let own = length-filter (λ script. script.actor.0 == n) scripts in
    let on : n + 1 ≡ suc n = omega arith in
    let more = sum_by-map-range_with_len_more (λ own. length own) f 0 n n (omega arith) in
    omega (arith, rest, parts, own, each n, more, ap (λ k. sum_by (λ own. length own) (map f (range_with_len 0 k))) on)

own_counted : (a : ℕ) (scripts : List ScriptItem) → length (lines_for scripts a) ≡ count a scripts
own_counted a scripts = length-map (filter (λ script. script.actor.0 == a) scripts) (λ script. script.lines) ∙ length-filter (λ script. script.actor.0 == a) scripts

or_longer : (scripts : List (List (List ℕ))) → length scripts ≤ length (or_empty_script scripts)
or_longer [] = omega arith
or_longer (x ∷ xs) = omega arith

pub few_scripts : (n : ℕ) (scripts : List ScriptItem) → AllByRecursion (λ script. script.actor.0 < n) scripts
    → length (map (λ (script : ScriptItem). script.actor) scripts) ≤ sum_by (λ own. length own) (lines_by_actor n scripts)
few_scripts n scripts all =
    rw length-map (few_each (λ a. or_empty_script (lines_for scripts a)) n scripts all (λ a. omega (arith, own_counted a scripts, or_longer (lines_for scripts a))))

-- ---- the scripts of each actor

scripts_here : (m : ℕ) (scripts : List (List (List ℕ))) → 1 ≤ m → length scripts ≤ m → (0 < length (or_empty_script scripts)) × (length (or_empty_script scripts) ≤ m)
scripts_here m [] some few = (omega arith, omega arith)
scripts_here m (x ∷ xs) some few = (omega arith, few)

pub scripts_of : (s : System) (n : ℕ) (scripts : List ScriptItem) → Fits s scripts → (a : ℕ) → a < n → AreScriptsOf s a (get_or (lines_by_actor n scripts) a [])
scripts_of s n scripts fits a lt =
    let at : get_or (lines_by_actor n scripts) a [] ≡ or_empty_script (lines_for scripts a) = get_or-map-range_with_len (λ b. or_empty_script (lines_for scripts b)) 0 n a a [] lt (omega arith) in
    let own = own_counted a scripts in
    rw at (scripts_here (most_scripts s a) (lines_for scripts a) (some_scripts s a) (omega (arith, own, fits a)))

pub first_kept : {A : Type 0} (P Q : A → Type 0) (xs : List A) → AllByRecursion (λ x. P x × Q x) xs → AllByRecursion P xs
first_kept P Q [] all = tt
first_kept P Q (x ∷ xs) all = (all.0.0, first_kept P Q xs all.1)

pub second_kept : {A : Type 0} (P Q : A → Type 0) (xs : List A) → AllByRecursion (λ x. P x × Q x) xs → AllByRecursion Q xs
second_kept P Q [] all = tt
second_kept P Q (x ∷ xs) all = (all.0.1, second_kept P Q xs all.1)

abbrev IsShort : List (List ℕ) → Type 0
IsShort lines = length lines ≤ MAX_SCRIPT_LINES

short_for : (a : ℕ) (scripts : List ScriptItem) → AllByRecursion (λ script. length script.lines ≤ MAX_SCRIPT_LINES) scripts → AllByRecursion IsShort (lines_for scripts a)
short_for a [] short = tt
short_for a (x ∷ xs) short =
    let later = short_for a xs short.1 in
    elim (x.actor.0 == a) as (λ b. (x.actor.0 == a) ≡ b → AllByRecursion IsShort (lines_for (x ∷ xs) a)) [
      | true ↦ λ e. rw e (short.0, later)
      | false ↦ λ e. rw e later
    ] refl

short_or_empty : (scripts : List (List (List ℕ))) → AllByRecursion IsShort scripts → AllByRecursion IsShort (or_empty_script scripts)
short_or_empty [] short = (omega arith, tt)
short_or_empty (x ∷ xs) short = short

short_each : (actors : List ℕ) (scripts : List ScriptItem) → AllByRecursion (λ script. length script.lines ≤ MAX_SCRIPT_LINES) scripts → AllByRecursion (AllByRecursion IsShort) (map (λ a. or_empty_script (lines_for scripts a)) actors)
short_each [] scripts short = tt
short_each (a ∷ actors) scripts short = (short_or_empty (lines_for scripts a) (short_for a scripts short), short_each actors scripts short)

pub short_lines : (n : ℕ) (scripts : List ScriptItem) → AllByRecursion (λ script. length script.lines ≤ MAX_SCRIPT_LINES) scripts → AllByRecursion (AllByRecursion (λ lines. length lines ≤ MAX_SCRIPT_LINES)) (lines_by_actor n scripts)
short_lines n scripts short = short_each (range_with_len 0 n) scripts short
