-- The arrows of a trace, one entry further.
use Rattle.std.proofs.Common.{ℕ, ◌≡◌, ◌≤◌, ◌+◌, Bool, true, false, List, [], ◌∷◌, ◌++◌, replicate, ap, sym, ◌∙◌, inl, inr, ◌⊎◌, append_assoc, append-nil, arith}
use Rattle.std.proofs.lemmas.Bool.{le-leb, lt-leb, cond-true, cond-false}
use Rattle.std.specs.Prelude.{slice_set, nat_le, Ok, Option, None}
use Rattle.std.specs.Option.{option_map_or}
use Rattle.ffm_model.specs.declared.system.System.{System}
use Rattle.ffm_model.specs.declared.machine.Entry.{Entry}
use Rattle.ffm_model.specs.declared.machine.Handle.{Handle}
use Rattle.ffm_model.specs.Actors.{actor_count}
use Rattle.ffm_model.specs.Memory.{ByteMap}
use Rattle.ffm_model.specs.State.{State}
use Rattle.ffm_model.specs.Step.{step}
use Rattle.machine_calls.specs.Machine.{IsMachineOf, spm_of_objects, state_of}
use Rattle.machine_check.specs.declared.judging.Checker.{Checker}
use Rattle.machine_check.specs.Checking.{Accepts, IsAccepted, Starts}
use Rattle.machine_check.specs.Performed.{Knows}
use Rattle.machine_check.proofs.Judged.{either}
use Rattle.view_diagram.specs.declared.gathering.Part.{Part}
use Rattle.view_diagram.specs.declared.gathering.PlacedArrow.{PlacedArrow}
use Rattle.view_diagram.specs.Gathering.{arrows_at, arrows_from, arrows_in}

-- the arrows of the trace are those gathered and those of the entries left, from the state that is kept
pub record GathersTo (s : System) (m : ByteMap) (limit : ℕ) (part : Part) (es : List Entry) (c : Checker) (last : List ℕ) (so_far : List PlacedArrow) (left : List Entry) : Type 0 where
  pub all : List Handle
  pub knows : Knows c.given all
  pub kept : IsMachineOf s c.machine
  pub made : c.machine.objects.connections_made ≤ c.count
  pub arrows : arrows_in s m limit part es ≡ so_far ++ arrows_from s limit part c.count last left (state_of c.machine all)

-- before the first entry
pub gather_begins : (s : System) (m : ByteMap) (limit : ℕ) (part : Part) (es : List Entry) (c : Checker) (last : List ℕ) (so_far : List PlacedArrow) → Starts s m c → last ≡ replicate (actor_count s) 0 → so_far ≡ []
    → GathersTo s m limit part es c last so_far es
gather_begins s m limit part es c last so_far start none empty = record {
  all = [];
  knows = start.knows;
  kept = start.kept;
  made = omega (arith, start.made);
  arrows =
      ap (λ st. arrows_from s limit part 0 (replicate (actor_count s) 0) es st) (sym start.state)
      ∙ ap (λ n. arrows_from s limit part n (replicate (actor_count s) 0) es (state_of c.machine [])) (sym start.count)
      ∙ ap (λ l. arrows_from s limit part c.count l es (state_of c.machine [])) (sym none)
      ∙ ap (λ l. l ++ arrows_from s limit part c.count last es (state_of c.machine [])) (sym empty);
}

-- ---- one entry

-- an entry was accepted, its arrows were added and its place was noted
pub next_gathered : (s : System) (m : ByteMap) (limit : ℕ) (part : Part) (es : List Entry) (c new : Checker) (last noted : List ℕ) (so_far found more : List PlacedArrow) (e : Entry) (left : List Entry)
    (k : GathersTo s m limit part es c last so_far (e ∷ left)) → IsAccepted s limit c k.all e new → more ≡ so_far ++ found → found ≡ arrows_at s part (c.count + 1) (spm_of_objects c.machine.objects) last e → noted ≡ slice_set last e.actor.0 new.count
    → GathersTo s m limit part es new noted more left
next_gathered s m limit part es c new last noted so_far found more e left k it added these placed = record {
  all = it.given;
  knows = it.knows;
  kept = it.kept;
  made = it.made;
  arrows =
      let here = arrows_at s part (c.count + 1) (spm_of_objects c.machine.objects) last e in
      let put = λ (n : ℕ). slice_set last e.actor.0 n in
      let rest = λ (st : State). here ++ arrows_from s limit part (c.count + 1) (put (c.count + 1)) left st in
      let later = arrows_from s limit part new.count noted left (state_of new.machine it.given) in
      k.arrows
      ∙ ap (λ l. so_far ++ l)
      (cond-false (nat_le limit c.count) [] _ (lt-leb limit c.count it.below)
      ∙ ap (λ (o : Option State). option_map_or rest o []) it.is_step
      ∙ ap (λ n. here ++ arrows_from s limit part n (put n) left (state_of new.machine it.given)) (sym it.count)
      ∙ ap (λ l. here ++ arrows_from s limit part new.count l left (state_of new.machine it.given)) (sym placed))
      ∙ sym (append_assoc so_far here later)
      ∙ ap (λ l. (so_far ++ l) ++ later) (sym these)
      ∙ ap (λ l. l ++ later) (sym added);
}

-- an entry was not accepted, so no arrow is left
none_after : (s : System) (limit : ℕ) (part : Part) (c : Checker) (last : List ℕ) (e : Entry) (left : List Entry) (st : State) → (limit ≤ c.count) ⊎ (step s st e ≡ None) → arrows_from s limit part c.count last (e ∷ left) st ≡ []
none_after s limit part c last e left st (inl over) = cond-true (nat_le limit c.count) [] _ (le-leb limit c.count over)
none_after s limit part c last e left st (inr none) =
    either (nat_le limit c.count) [] _ (ap (λ (o : Option State). option_map_or (λ x. arrows_at s part (c.count + 1) st.spm last e ++ arrows_from s limit part (c.count + 1) (slice_set last e.actor.0 (c.count + 1)) left x) o []) none)

pub none_left : (s : System) (m : ByteMap) (limit : ℕ) (part : Part) (es : List Entry) (c new : Checker) (last : List ℕ) (so_far : List PlacedArrow) (e : Entry) (left : List Entry) (b : Bool)
    (k : GathersTo s m limit part es c last so_far (e ∷ left)) → Accepts s limit c k.all e (Ok b) new → b ≡ false → (result : List PlacedArrow) → result ≡ so_far → result ≡ arrows_in s m limit part es
none_left s m limit part es c new last so_far e left true k accepts is result same = absurd (cc)
none_left s m limit part es c new last so_far e left false k accepts is result same =
    same ∙ sym (append-nil so_far) ∙ ap (λ l. so_far ++ l) (sym (none_after s limit part c last e left (state_of c.machine k.all) accepts.0)) ∙ sym k.arrows

-- all entries were accepted
pub all_gathered : (s : System) (m : ByteMap) (limit : ℕ) (part : Part) (es : List Entry) (c : Checker) (last : List ℕ) (so_far : List PlacedArrow) → GathersTo s m limit part es c last so_far []
    → (result : List PlacedArrow) → result ≡ so_far → result ≡ arrows_in s m limit part es
all_gathered s m limit part es c last so_far k result same = same ∙ sym (append-nil so_far) ∙ sym k.arrows
