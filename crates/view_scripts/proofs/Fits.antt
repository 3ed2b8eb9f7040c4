-- Where scripts stand can be told.
use Rattle.std.proofs.Common.{ℕ, ◌≡◌, ◌<◌, Bool, true, false, List, [], ◌∷◌, get_or, length, arith, refl, subst, sym}
use Rattle.std.specs.Prelude.{if◌then◌else◌, nat_lt}
use Rattle.std.proofs.lemmas.Bool.Decides.{nat_tests}
use Rattle.ffm_model.specs.declared.machine.Outcome.{Outcome}
use Rattle.ffm_model.specs.declared.system.System.{System}
use Rattle.ffm_model.specs.declared.machine.Entry.{Entry}
use Rattle.ffm_model.specs.Actors.{actor_count, counts_of}
use Rattle.ffm_model.specs.Counts.{ActorCounts}
use Rattle.ffm_model.specs.TraceText.{IsActorOf}
use Rattle.view_texts.proofs.Actors.{known}
use Rattle.ffm_model.specs.Contexts.{Contexts, context_engine, contexts_then, opening_contexts}
use Rattle.ffm_model.specs.Held.{holder_of}
use Rattle.ffm_model.specs.Plans.{engine_after, engine_answered}
use Rattle.ffm_model.specs.Records.{entries_of, is_blocked_outcome, outcomes_of}
use Rattle.packed_state.specs.declared.engine.Engine.{Engine}
use Rattle.packed_state.specs.declared.engine.Engine.TheVariants as engine
use Rattle.script_points.specs.Points.{AreContexts, Parts}
use Rattle.script_points.proofs.Turns.{opening-are, then-are}
use Rattle.view_scripts.specs.declared.standing.Standing.{Standing}
use Rattle.view_scripts.specs.declared.standing.Standing.TheVariants.{Ended, Follows, Left}
use Rattle.view_scripts.specs.Standings.{no_standing, AreShown, AreStandings, GoesOnAt, IsEngineOf, IsShown, IsStanding, IsTaken}

-- the actor of an entry
pub actor-fits : (s : System) (a b : ℕ) (counts : ActorCounts) → counts ≡ counts_of s → b ≡ a → a < actor_count s → IsActorOf counts b
actor-fits s a b counts same own there =
    subst (λ (k : ActorCounts). IsActorOf k b) (sym same) (subst (IsActorOf (counts_of s)) (sym own) (known s a there))

pub answered-are : (parts : Parts) (o : Outcome) (x : Contexts) → AreContexts parts x → AreContexts parts (engine_answered (context_engine parts) o x)
answered-are parts o x are =
    let go : (b : Bool) → AreContexts parts (if b then x else contexts_then parts o x) = elim [ true ↦ are | false ↦ then-are parts o x are ] in
    go (is_blocked_outcome o)

-- after an entry that was taken
pub taken-are : (parts : Parts) (x y : Contexts) (pending taken : Bool) (es : List Entry) (k : ℕ) (d : Entry) → taken ≡ true → IsTaken (context_engine parts) x pending (get_or es k d) y taken
    → AreContexts parts x → AreContexts parts y
taken-are parts x y pending taken es k d same is are =
    let so : IsTaken (context_engine parts) x pending (get_or es k d) y true = subst (IsTaken (context_engine parts) x pending (get_or es k d) y) same is in
    subst (AreContexts parts) (sym so.1) (answered-are parts (get_or es k d).outcome x are)

after-are : (parts : Parts) (os : List Outcome) (x : Contexts) → AreContexts parts x → AreContexts parts (engine_after (context_engine parts) x os)
unfolding engine_after
after-are parts [] x are = are
after-are parts (o ∷ os) x are = after-are parts os (engine_answered (context_engine parts) o x) (answered-are parts o x are)

standing-shown : (s : System) (a : ℕ) (parts : Parts) (es : List Entry) (standing : Standing) → IsStanding s a parts es standing → IsShown s a parts standing
standing-shown s a parts es (Ended end) is = tt
standing-shown s a parts es (Left place) is = tt
standing-shown s a parts es (Follows at) is =
    let goes : (b : Bool) (e : Engine) → nat_lt a (length s.partitions) ≡ b → GoesOnAt b (holder_of s a) parts (outcomes_of (entries_of a es)) e → IsEngineOf s a parts e = elim [
      | true ↦ elim [ engine.Holding x ↦ λ t h. grind (arith, nat_tests, t) | engine.Turning x ↦ λ t h. absurd h ]
      | false ↦ elim [
        | engine.Holding x ↦ λ t h. absurd h
        | engine.Turning x ↦ λ t h. λ some. subst (AreContexts parts) (sym h) (after-are parts (outcomes_of (entries_of a es)) (opening_contexts parts) (opening-are parts some))
      ]
    ] in
    goes (nat_lt a (length s.partitions)) at refl is.0.1

pub all-shown : (s : System) (scripts : List Parts) (es : List Entry) (standings : List Standing) → AreStandings s scripts es standings → AreShown s scripts standings
all-shown s scripts es standings are a low =
    let there : a < length scripts = subst (λ (n : ℕ). a < n) are.long low in
    standing-shown s a (get_or scripts a []) es (get_or standings a no_standing) (are.each a there)
