-- The arrows of a trace name the place of a call once.
use Rattle.std.proofs.Common.{ℕ, zero, suc, ◌≡◌, ◌<◌, ◌≤◌, ◌+◌, ◌==◌, Bool, true, false, ◌&&◌, List, [], ◌∷◌, ◌++◌, length, get_or, arith, ◌∙◌, ap, sym, refl, subst}
use Rattle.std.specs.Prelude.{nat_le, count_by, Option, Some, None, if◌then◌else◌, map, replicate, slice_set}
use Rattle.std.specs.Option.{option_map_or}
use Rattle.std.proofs.lemmas.Bool.{and_from, and_parts, eqb-true}
use Rattle.law_lists.proofs.Counts.{bit, count-cons, count-le, some-found}
use Rattle.law_lists.proofs.Tests.{find-passes}
use Rattle.law_lists.proofs.Lists.{AllByRecursion-all, get_or-replicate_same}
use Rattle.ffm_model.specs.declared.system.System.{System}
use Rattle.ffm_model.specs.declared.machine.Entry.{Entry}
use Rattle.ffm_model.specs.declared.objects.ActorPhase.TheVariants.{Blocked}
use Rattle.ffm_model.specs.Actors.{actor_count}
use Rattle.ffm_model.specs.Memory.{ByteMap}
use Rattle.ffm_model.specs.Signals.{is_blocked}
use Rattle.ffm_model.specs.State.{SpmState, State, opening, phase_of}
use Rattle.ffm_model.specs.Step.{step}
use Rattle.law_counting.proofs.Panic.{count-append}
use Rattle.law_counting.proofs.Parts.{is_itself, same_or_not}
use Rattle.law_counting.proofs.Steps.{step-is, step-kind}
use Rattle.law_counting.proofs.Turns.{Turns, kinds-turn}
use Rattle.view_diagram.specs.declared.arrows.Arrow.{Arrow}
use Rattle.view_diagram.specs.declared.gathering.Part.{Part}
use Rattle.view_diagram.specs.declared.gathering.PlacedArrow.{PlacedArrow}
use Rattle.view_diagram.specs.Arrows.{arrows_of}
use Rattle.view_diagram.specs.Gathering.{arrows_at, arrows_from, is_answer, is_in_part, placed}
use Rattle.view_diagram.specs.Pairs.{EachIsAnsweredOnce, answers_call_at}
use Rattle.view_diagram.proofs.Once.{Event, Once, entry-once, frees, none-counted}
use Rattle.view_diagram.proofs.Pairs.{blocked-phase, length-push}
use Rattle.view_diagram.proofs.Waiting.{Kept, is-inside, opening-kept, set-other, set-own, step-kept, was-blocked}

-- ---- the places of the actors' last entries

-- two actors have no place alike but 0, and no place is above n
record Noted (last : List ℕ) (n : ℕ) : Type 0 where
  pub apart : (x y : ℕ) → get_or last x 0 ≡ get_or last y 0 → 1 ≤ get_or last x 0 → x ≡ y
  pub within : (x : ℕ) → get_or last x 0 ≤ n

opening-noted : (k : ℕ) → Noted (replicate k 0) 0
opening-noted k = record { apart = λ x y e some. absurd (omega (arith, get_or-replicate_same {X = ℕ} k x 0, some)); within = λ x. omega (arith, get_or-replicate_same {X = ℕ} k x 0) }

next-noted : (last : List ℕ) (n a : ℕ) → a < length last → Noted last n → Noted (slice_set last a (n + 1)) (n + 1)
next-noted last n a inside k = record {
  apart = λ x y e some. same_or_not x a (x ≡ y)
      (λ z. same_or_not y a (x ≡ y) (λ w. z ∙ sym w)
      (λ w. absurd (omega (arith, ap (λ (i : ℕ). get_or (slice_set last a (n + 1)) i 0) z, set-own last a (n + 1) inside, e, set-other last a y (n + 1) w, k.within y))))
      (λ z. same_or_not y a (x ≡ y)
      (λ w. absurd (omega (arith, ap (λ (i : ℕ). get_or (slice_set last a (n + 1)) i 0) w, set-own last a (n + 1) inside, e, set-other last a x (n + 1) z, k.within x)))
      (λ w. k.apart x y (sym (set-other last a x (n + 1) z) ∙ e ∙ set-other last a y (n + 1) w) (omega (arith, some, set-other last a x (n + 1) z))));
  within = λ x. same_or_not x a (get_or (slice_set last a (n + 1)) x 0 ≤ n + 1)
      (λ z. omega (arith, ap (λ (i : ℕ). get_or (slice_set last a (n + 1)) i 0) z, set-own last a (n + 1) inside))
      (λ z. omega (arith, set-other last a x (n + 1) z, k.within x));
}

-- ---- the arrows of an entry that name a place

abbrev names : ℕ → ℕ → SpmState → List ℕ → Arrow → Bool
names place k b last y = answers_call_at place (placed k b last y)

record Named (place : ℕ) (b : SpmState) (last : List ℕ) (y : Arrow) : Type 0 where
  pub answers : is_answer y.meaning ≡ true
  pub blocked : phase_of b y.to.0 ≡ Blocked
  pub at : get_or last y.to.0 0 ≡ place

named-by : (place : ℕ) (b : SpmState) (last : List ℕ) (y : Arrow) (x z : Bool) → is_answer y.meaning ≡ x → is_blocked (phase_of b y.to.0) ≡ z → option_map_or (λ (i : ℕ). i == place) (if x && z then Some (get_or last y.to.0 0) else None) false ≡ true
    → Named place b last y
named-by place b last y true true answers blocked e = record { answers = answers; blocked = blocked-phase (phase_of b y.to.0) blocked; at = eqb-true (get_or last y.to.0 0) place e }
named-by place b last y true false answers blocked e = cc
named-by place b last y false z answers blocked e = cc

named : (place k : ℕ) (b : SpmState) (last : List ℕ) (y : Arrow) → names place k b last y ≡ true → Named place b last y
named place k b last y e = named-by place b last y (is_answer y.meaning) (is_blocked (phase_of b y.to.0)) refl refl e

here-few : (place k : ℕ) (b : SpmState) (last : List ℕ) (xs : List Arrow) → count_by (answers_call_at place) (map (placed k b last) xs) ≤ count_by (names place k b last) xs
here-few place k b last [] = omega arith
here-few place k b last (x ∷ xs) = omega (arith, count-cons (answers_call_at place) (placed k b last x) (map (placed k b last) xs), count-cons (names place k b last) x xs, here-few place k b last xs)

part-few : (place k : ℕ) (b : SpmState) (last : List ℕ) (xs : List Arrow) (x : Bool) → count_by (answers_call_at place) (if x then map (placed k b last) xs else []) ≤ count_by (names place k b last) xs
part-few place k b last xs true = here-few place k b last xs
part-few place k b last xs false = omega arith

-- ---- the entries left

inside-of : (s : System) (m : ByteMap) (past : List Entry) (last : List ℕ) (st new : State) (e : Entry) → Kept s m past last st → step s st e ≡ Some new → e.actor.0 < length last
inside-of s m past last st new e k is = subst (λ (n : ℕ). e.actor.0 < n) (sym k.long) (is-inside e.actor.0 (actor_count s) (and_parts _ _ (step-is s st new e is).may).0)

was : (s : System) (m : ByteMap) (past : List Entry) (last : List ℕ) (st new : State) (e : Entry) (x : ℕ) → Kept s m past last st → step s st e ≡ Some new → (x == e.actor.0) ≡ false → phase_of new.spm x ≡ Blocked → phase_of st.spm x ≡ Blocked
was s m past last st new e x k is apart now =
    let it = step-kind s st new e (λ o spm given. Turns e.actor.0 st.spm spm o) (kinds-turn s st.spm st.handles_given e.actor.0 e.call k.balanced (k.sound e.actor.0)) is in
    was-blocked _ _ (it.2.others x apart) now

-- what is known at an entry
abbrev Follows : System → ByteMap → List Entry → ℕ → List ℕ → State → Type 0
Follows s m past n last st = (n ≡ length past) × (Kept s m past last st × Noted last n)

follows-next : (s : System) (m : ByteMap) (past : List Entry) (n : ℕ) (last : List ℕ) (st new : State) (e : Entry) → Follows s m past n last st → step s st e ≡ Some new → Follows s m (past ++ e ∷ []) (n + 1) (slice_set last e.actor.0 (n + 1)) new
follows-next s m past n last st new e f is = (
  ap (λ k. k + 1) f.0 ∙ sym (length-push past e),
  (subst (λ k. Kept s m (past ++ e ∷ []) (slice_set last e.actor.0 (k + 1)) new) (sym f.0) (step-kept s m past last st new e f.1.0 is), next-noted last n e.actor.0 (inside-of s m past last st new e f.1.0 is) f.1.1),
)

-- nobody is Blocked in the call at a place, so no arrow names it
abbrev NoneAt : ℕ → List ℕ → State → Type 0
NoneAt place last st = (x : ℕ) → get_or last x 0 ≡ place → phase_of st.spm x ≡ Blocked → ⊥

none-named : (place k : ℕ) (st : State) (last : List ℕ) (xs : List Arrow) → NoneAt place last st → count_by (names place k st.spm last) xs ≡ 0
none-named place k st last xs none =
    none-counted (names place k st.spm last) xs
    (AllByRecursion-all (λ (y : Arrow). names place k st.spm last y ≡ false)
    (λ y. let go : (x : Bool) → names place k st.spm last y ≡ x → names place k st.spm last y ≡ false = elim [ true ↦ λ e. let it : Named place st.spm last y = named place k st.spm last y e in absurd (none y.to.0 it.at it.blocked) | false ↦ λ e. e ] in
    go (names place k st.spm last y) refl)
    xs)

none-next : (s : System) (m : ByteMap) (past : List Entry) (n : ℕ) (last : List ℕ) (st new : State) (e : Entry) (place : ℕ) → Follows s m past n last st → step s st e ≡ Some new → place ≤ n
    → ((x : ℕ) → (x == e.actor.0) ≡ false → get_or last x 0 ≡ place → phase_of new.spm x ≡ Blocked → ⊥) → NoneAt place (slice_set last e.actor.0 (n + 1)) new
none-next s m past n last st new e place f is low none =
    λ x at now. same_or_not x e.actor.0 ⊥
    (λ z. absurd (omega (arith, ap (λ (i : ℕ). get_or (slice_set last e.actor.0 (n + 1)) i 0) z, set-own last e.actor.0 (n + 1) (inside-of s m past last st new e f.1.0 is), at, low)))
    (λ z. none x z (sym (set-other last e.actor.0 x (n + 1) z) ∙ at) now)

none-left : (s : System) (m : ByteMap) (limit : ℕ) (part : Part) (past left : List Entry) (n : ℕ) (last : List ℕ) (st : State) (place : ℕ) → Follows s m past n last st → place ≤ n → NoneAt place last st
    → count_by (answers_call_at place) (arrows_from s limit part n last left st) ≡ 0
none-left s m limit part past [] n last st place f low none = refl
none-left s m limit part past (e ∷ left) n last st place f low none =
    let a : ℕ = e.actor.0 in
    let here : List PlacedArrow = arrows_at s part (n + 1) st.spm last e in
    let rest : State → List PlacedArrow = λ (new : State). arrows_from s limit part (n + 1) (slice_set last a (n + 1)) left new in
    let stepped : (o : Option State) → step s st e ≡ o → count_by (answers_call_at place) (option_map_or (λ (new : State). here ++ rest new) o []) ≡ 0 =
    elim [
      | None ↦ λ is. refl
      | Some new ↦ λ is.
          omega (
            arith,
            count-append (answers_call_at place) here (rest new),
            part-few place (n + 1) st.spm last (arrows_of s st.spm e) (is_in_part part (n + 1)),
            none-named place (n + 1) st last (arrows_of s st.spm e) none,
            none-left s m limit part (past ++ e ∷ []) left (n + 1) (slice_set last a (n + 1)) new place (follows-next s m past n last st new e f is) (omega (arith, low))
                (none-next s m past n last st new e place f is low (λ x z at now. none x at (was s m past last st new e x f.1.0 is z now))),
          )
    ] in
    let go : (x : Bool) → count_by (answers_call_at place) (if x then [] else option_map_or (λ (new : State). here ++ rest new) (step s st e) []) ≡ 0 = elim [ true ↦ refl | false ↦ stepped (step s st e) refl ] in
    go (nat_le limit n)

-- an arrow that names a place goes to the one actor whose last entry is there
names-frees : (place k : ℕ) (b : SpmState) (last : List ℕ) (n c : ℕ) → Noted last n → get_or last c 0 ≡ place → 1 ≤ place → (y : Arrow) → bit (names place k b last y) ≤ bit (frees c y)
names-frees place k b last n c noted at some y =
    let go : (x : Bool) → names place k b last y ≡ x → bit x ≤ bit (frees c y) =
    elim [
      | true ↦ λ e.
          let it : Named place b last y = named place k b last y e in
          let same : y.to.0 ≡ c = noted.apart y.to.0 c (it.at ∙ sym at) (omega (arith, it.at, some)) in
          omega (arith, ap bit (and_from (is_answer y.meaning) (y.to.0 == c) it.answers (ap (λ (x : ℕ). x == c) same ∙ is_itself c)))
      | false ↦ λ e. omega arith
    ] in
    go (names place k b last y) refl

-- so its call is answered once
answered : (s : System) (m : ByteMap) (past : List Entry) (n : ℕ) (last : List ℕ) (st new : State) (e : Entry) (place k : ℕ) (y : Arrow) → Follows s m past n last st → step s st e ≡ Some new → 1 ≤ place → Named place st.spm last y
    → 1 ≤ count_by (names place k st.spm last) (arrows_of s st.spm e) → (count_by (names place k st.spm last) (arrows_of s st.spm e) ≤ 1) × NoneAt place (slice_set last e.actor.0 (n + 1)) new
answered s m past n last st new e place k y f is some it found =
    let c : ℕ = y.to.0 in
    let event : Event s st new e c = record { balanced = f.1.0.balanced; sound = f.1.0.sound e.actor.0; is = is; blocked = it.blocked } in
    let once : Once c (arrows_of s st.spm e) new.spm = entry-once s st new e c event in
    let below : count_by (names place k st.spm last) (arrows_of s st.spm e) ≤ count_by (frees c) (arrows_of s st.spm e) = count-le (names place k st.spm last) (frees c) (names-frees place k st.spm last n c f.1.1 it.at some) (arrows_of s st.spm e) in (
      omega (arith, below, once.few),
      none-next s m past n last st new e place f is (omega (arith, f.1.1.within c, it.at))
          (λ x z at now. once.free (omega (arith, below, found)) (ap (phase_of new.spm) (sym (f.1.1.apart x c (at ∙ sym it.at) (omega (arith, at, some)))) ∙ now)),
    )

once-left : (s : System) (m : ByteMap) (limit : ℕ) (part : Part) (past left : List Entry) (n : ℕ) (last : List ℕ) (st : State) (place : ℕ) → Follows s m past n last st → 1 ≤ place
    → count_by (answers_call_at place) (arrows_from s limit part n last left st) ≤ 1
once-left s m limit part past [] n last st place f some = omega arith
once-left s m limit part past (e ∷ left) n last st place f some =
    let a : ℕ = e.actor.0 in
    let xs : List Arrow = arrows_of s st.spm e in
    let here : List PlacedArrow = arrows_at s part (n + 1) st.spm last e in
    let rest : State → List PlacedArrow = λ (new : State). arrows_from s limit part (n + 1) (slice_set last a (n + 1)) left new in
    let few : count_by (answers_call_at place) here ≤ count_by (names place (n + 1) st.spm last) xs = part-few place (n + 1) st.spm last xs (is_in_part part (n + 1)) in
    let split : (new : State) → count_by (answers_call_at place) (here ++ rest new) ≡ count_by (answers_call_at place) here + count_by (answers_call_at place) (rest new) = λ new. count-append (answers_call_at place) here (rest new) in
    let next : (new : State) → step s st e ≡ Some new → Follows s m (past ++ e ∷ []) (n + 1) (slice_set last a (n + 1)) new = λ new is. follows-next s m past n last st new e f is in
    let counted : (new : State) → step s st e ≡ Some new → (k : ℕ) → count_by (names place (n + 1) st.spm last) xs ≡ k → count_by (answers_call_at place) (here ++ rest new) ≤ 1 =
    λ new is. elim [
      | zero ↦ λ none. omega (arith, split new, few, none, once-left s m limit part (past ++ e ∷ []) left (n + 1) (slice_set last a (n + 1)) new place (next new is) some)
      | suc k ↦ λ found.
          let one : 1 ≤ count_by (names place (n + 1) st.spm last) xs = omega (arith, found) in
          let y = some-found (names place (n + 1) st.spm last) xs one in
          let it : Named place st.spm last y.0 = named place (n + 1) st.spm last y.0 (find-passes (names place (n + 1) st.spm last) xs y.0 y.1) in
          let both = answered s m past n last st new e place (n + 1) y.0 f is some it one in
          omega (
            arith,
            split new,
            few,
            both.0,
            none-left s m limit part (past ++ e ∷ []) left (n + 1) (slice_set last a (n + 1)) new place (next new is) (omega (arith, f.1.1.within y.0.to.0, it.at)) both.1,
          )
    ] in
    let stepped : (o : Option State) → step s st e ≡ o → count_by (answers_call_at place) (option_map_or (λ (new : State). here ++ rest new) o []) ≤ 1 =
    elim [ None ↦ λ is. omega arith | Some new ↦ λ is. counted new is (count_by (names place (n + 1) st.spm last) xs) refl ] in
    let go : (x : Bool) → count_by (answers_call_at place) (if x then [] else option_map_or (λ (new : State). here ++ rest new) (step s st e) []) ≤ 1 = elim [ true ↦ omega arith | false ↦ stepped (step s st e) refl ] in
    go (nat_le limit n)

pub each-answered-once : EachIsAnsweredOnce
each-answered-once s m limit part es place some = once-left s m limit part [] es 0 _ (opening s m) place (refl, (opening-kept s m, opening-noted (actor_count s))) some
