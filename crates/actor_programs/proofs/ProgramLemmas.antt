-- The programs of all actors, and the scripts by which they run.
use Rattle.std.proofs.Common.{ℕ, ◌≡◌, ◌<◌, ◌≤◌, ◌+◌, ◌++◌, Bool, true, false, List, [], ◌∷◌, ⊎_elim, length, map, get_or, refl, ap, sym, ◌∙◌, subst, arith}
use Rattle.std.specs.Prelude.{if◌then◌else◌}
use Rattle.std.specs.List.{AllByRecursion, enumerate_from, flat_map}
use Rattle.std.proofs.lemmas.List.FromFn.{length-enumerate_from, get_or-enumerate_from}
use Rattle.std.proofs.lemmas.List.{length-append, length-map, get_or_append_left, get_or-map}
use Rattle.std.proofs.Math.Seq.{get_or-append_seam}
use Rattle.std.proofs.lemmas.Bool.{cases_eq}
use Rattle.ffm_model.specs.declared.system.System.{System}
use Rattle.ffm_model.specs.Scenarios.{most_scripts}
use Rattle.actor_programs.specs.declared.program.Program.{Program}
use Rattle.actor_programs.specs.declared.program.Program.TheVariants.{Plain, Functions}
use Rattle.sfn_calls.specs.Partitions.{is_sfn}
use Rattle.ffm_model.proofs.ActorLemmas.{some_scripts}
use Rattle.sfn_calls.proofs.AssemblyLemmas.{no-functions}
use Rattle.actor_programs.proofs.ActorLemmas.{several}
use Rattle.actor_programs.specs.Programs.{Parts, Made, AreMade, ArePrograms, AreScriptsOf, IsOfOneScript, IsOnePart, IsProgramOf, all_joined, empty_program, joined, parts_of, script_of}

-- ---- the programs of an actor's scripts as one

empty-by : (s : System) (a : ℕ) (b : Bool) → is_sfn s a ≡ b → IsProgramOf s a (if b then Functions [] else Plain ([] ∷ []))
empty-by s a true e = (e, no-functions)
empty-by s a false e = (e, omega arith, some_scripts s a)

empty-fits : (s : System) (a : ℕ) → IsProgramOf s a (empty_program s a)
empty-fits s a = empty-by s a (is_sfn s a) refl

one-fits : (s : System) (a : ℕ) (p : Program) → IsOfOneScript s a p → IsProgramOf s a p
one-fits s a (Plain parts) h = (h.0, omega (arith, h.1), omega (arith, h.1, some_scripts s a))
one-fits s a (Functions functions) h = h

-- scripts, where the actor isn't one of the SFN model
pub plain-each : (s : System) (a : ℕ) (ps : List Program) → is_sfn s a ≡ false → AllByRecursion (IsOfOneScript s a) ps → AllByRecursion IsOnePart ps
plain-each s a [] plain h = tt
plain-each s a (Plain parts ∷ ps) plain h = (h.0.1, plain-each s a ps plain h.1)
plain-each s a (Functions functions ∷ ps) plain h = let e : true ≡ false = sym h.0.0 ∙ plain in cc

-- a part for each
pub parts-counted : (ps : List Program) → AllByRecursion IsOnePart ps → length (flat_map parts_of ps) ≡ length ps
parts-counted [] h = refl
parts-counted (Plain parts ∷ ps) h = length-append parts (flat_map parts_of ps) ∙ (ap (λ (n : ℕ). n + length (flat_map parts_of ps)) h.0 ∙ (ap (λ (n : ℕ). 1 + n) (parts-counted ps h.1) ∙ omega arith))
parts-counted (Functions functions ∷ ps) h = absurd h.0

pub parts-each : (ps : List Program) → AllByRecursion IsOnePart ps → AllByRecursion (λ (s : Parts). length s ≡ 1) (map parts_of ps)
parts-each [] h = tt
parts-each (Plain parts ∷ ps) h = (h.0, parts-each ps h.1)
parts-each (Functions functions ∷ ps) h = absurd h.0

-- the parts of all scripts, in order
pub parts-joined : (ps : List Program) → flat_map (λ (parts : Parts). parts) (map parts_of ps) ≡ flat_map parts_of ps
parts-joined [] = refl
parts-joined (p ∷ ps) = ap (λ (more : Parts). parts_of p ++ more) (parts-joined ps)

pub joined-many : (s : System) (a : ℕ) (ps : List Program) → 1 < length ps → Plain (flat_map parts_of ps) ≡ joined s a ps
joined-many s a [] more = absurd (omega arith)
joined-many s a (p ∷ []) more = absurd (omega arith)
joined-many s a (p ∷ q ∷ ps) more = refl

many-fit : (s : System) (a : ℕ) (ps : List Program) → 1 < length ps → length ps ≤ most_scripts s a → AllByRecursion (IsOfOneScript s a) ps → IsProgramOf s a (Plain (flat_map parts_of ps))
many-fit s a ps more few each =
    let plain : is_sfn s a ≡ false = several s a (omega arith) in
    let counted = parts-counted ps (plain-each s a ps plain each) in
    (plain, omega (arith, counted), omega (arith, counted))

pub joined-fits : (s : System) (a : ℕ) (ps : List Program) → length ps ≤ most_scripts s a → AllByRecursion (IsOfOneScript s a) ps → IsProgramOf s a (joined s a ps)
joined-fits s a [] few each = empty-fits s a
joined-fits s a (p ∷ []) few each = one-fits s a p each.0
joined-fits s a (p ∷ q ∷ ps) few each = many-fit s a (p ∷ (q ∷ ps)) (omega arith) few each

-- ---- the programs of all actors

pub joined_long : (s : System) (made : Made) → length (all_joined s made) ≡ length made
joined_long s made = length-map (enumerate_from 0 made) (λ (own : ℕ × List Program). joined s own.0 own.1) ∙ length-enumerate_from 0 made

pub joined-at : (s : System) (made : Made) (a : ℕ) → a < length made → get_or (all_joined s made) a (Plain []) ≡ joined s a (get_or made a [])
joined-at s made a lt =
    get_or-map (λ (own : ℕ × List Program). joined s own.0 own.1) (enumerate_from 0 made) a (0, []) (Plain []) (rw length-enumerate_from lt)
    ∙ (ap (λ (own : ℕ × List Program). joined s own.0 own.1) (get_or-enumerate_from 0 made a (0, []) lt) ∙ ap (λ (n : ℕ). joined s n (get_or made a [])) (omega arith))

pub joined_fit : (s : System) (made : Made) → AreMade s made → ArePrograms s (all_joined s made)
joined_fit s made are = record {
  each = λ a lt.
      let low : a < length made = subst (λ (k : ℕ). a < k) (joined_long s made) lt in
      subst (IsProgramOf s a) (sym (joined-at s made a low)) (joined-fits s a (get_or made a []) (are.few a low) (are.each a low));
}

abbrev joined_own : System → ℕ × List Program → Program
joined_own s own = joined s own.0 own.1

joined-from : (s : System) (made : Made) (own : List Program) (k : ℕ)
    → map (joined_own s) (enumerate_from k (made ++ own ∷ [])) ≡ map (joined_own s) (enumerate_from k made) ++ joined s (k + length made) own ∷ []
joined-from s [] own k = let here : k ≡ k + 0 = omega arith in ap (λ (n : ℕ). joined s n own ∷ []) here
joined-from s (x ∷ xs) own k =
    let here : k + 1 + length xs ≡ k + length (x ∷ xs) = omega arith in
    ap (λ (ps : List Program). joined s k x ∷ ps) (joined-from s xs own (k + 1) ∙ ap (λ (n : ℕ). map (joined_own s) (enumerate_from (k + 1) xs) ++ joined s n own ∷ []) here)

-- one actor more
pub joined-more : (s : System) (made : Made) (own : List Program) (n : ℕ) → n ≡ length made → all_joined s (made ++ own ∷ []) ≡ all_joined s made ++ joined s n own ∷ []
joined-more s made own n here =
    let at : 0 + length made ≡ n = omega (arith, here) in
    joined-from s made own 0 ∙ ap (λ (k : ℕ). all_joined s made ++ joined s k own ∷ []) at

-- what is known of the programs of the next actor
pub own-kept : (s : System) (made front behind : Made) (own : List Program) (n : ℕ) → AreMade s made → front ++ own ∷ behind ≡ made → n ≡ length front
    → AllByRecursion (IsOfOneScript s n) own × (length own ≤ most_scripts s n)
own-kept s made front behind own n are whole here =
    let parted : AreMade s (front ++ own ∷ behind) = subst (AreMade s) (sym whole) are in
    let at : get_or (front ++ own ∷ behind) (length front) [] ≡ own = get_or-append_seam front own behind [] in
    let counted : length (front ++ own ∷ behind) ≡ length front + length (own ∷ behind) = length-append front (own ∷ behind) in
    let within : length front < length (front ++ own ∷ behind) = omega (arith, counted) in (
      subst (λ (k : ℕ). AllByRecursion (IsOfOneScript s k) own) (sym here) (subst (AllByRecursion (IsOfOneScript s (length front))) at (parted.each (length front) within)),
      subst (λ (k : ℕ). length own ≤ most_scripts s k) (sym here) (subst (λ (x : List Program). length x ≤ most_scripts s (length front)) at (parted.few (length front) within)),
    )

-- ---- the scripts by which programs run

pub scripts_none : (s : System) → AreScriptsOf s [] []
scripts_none s = record { long = refl; each = λ a lt. absurd (omega arith) }

-- one more
pub scripts-more : (s : System) (ps : List Program) (xs : List Parts) (p : Program) (x : Parts) (n : ℕ) → n ≡ length xs → AreScriptsOf s ps xs → x ≡ script_of s n p → AreScriptsOf s (ps ++ p ∷ []) (xs ++ x ∷ [])
scripts-more s ps xs p x n here are one = record {
  long = length-append xs (x ∷ []) ∙ (ap (λ (k : ℕ). k + 1) are.long ∙ sym (length-append ps (p ∷ [])));
  each = λ a lt.
      let within : a < length ps + 1 = subst (λ (k : ℕ). a < k) (length-append ps (p ∷ [])) lt in
      let long : length xs ≡ length ps = are.long in
      ⊎_elim
      (λ e.
      let at : a ≡ length xs = e ∙ sym long in
      subst (λ (k : ℕ). get_or (xs ++ x ∷ []) k [] ≡ script_of s k (get_or (ps ++ p ∷ []) k (Plain []))) (sym e)
      (ap (λ (k : ℕ). get_or (xs ++ x ∷ []) k []) (sym long) ∙ get_or-append_seam xs x [] [] ∙ one ∙ ap (λ (k : ℕ). script_of s k p) (here ∙ long) ∙ ap (script_of s (length ps)) (sym (get_or-append_seam ps p [] (Plain [])))))
      (λ other.
      let low : a < length ps = omega arith in
      let low_too : a < length xs = omega (arith, long) in
      get_or_append_left xs (x ∷ []) [] a low_too ∙ are.each a low ∙ ap (script_of s a) (sym (get_or_append_left ps (p ∷ []) (Plain []) a low)))
      (cases_eq a (length ps));
}
