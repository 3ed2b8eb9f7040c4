-- What each step keeps, each state of a run has; and so each state of a run is balanced.
use Rattle.std.proofs.Common.{ℕ, zero, suc, ◌≡◌, List, [], ◌∷◌, ◌++◌, get_or, arith, sym, refl, subst}
use Rattle.std.specs.Prelude.{Option, Some, None, fold, replicate, option_and_then}
use Rattle.std.proofs.lemmas.List.{append_assoc, append-nil}
use Rattle.ffm_model.specs.declared.system.System.{System}
use Rattle.ffm_model.specs.declared.machine.Entry.{Entry}
use Rattle.ffm_model.specs.declared.objects.ActorPhase.TheVariants.{Running, Ended}
use Rattle.ffm_model.specs.Actors.{actor_count}
use Rattle.ffm_model.specs.Memory.{ByteMap}
use Rattle.ffm_model.specs.State.{State, opening, opening_spm}
use Rattle.ffm_model.specs.Step.{step, after}
use Rattle.law_counting.specs.Objects.{ObjectsFit, HandlesFit, PhaseFits}
use Rattle.law_counting.proofs.Balance.{Balanced, balanced-fit}
use Rattle.law_counting.proofs.Resume.{times}
use Rattle.law_counting.proofs.Steps.{step-kind}
use Rattle.law_counting.proofs.Keeps.{kinds-balance}

-- a step keeps the balance
pub step-keeps : (s : System) (st new : State) (e : Entry) → Balanced s (times st.handles_given) st.spm → step s st e ≡ Some new → Balanced s (times new.handles_given) new.spm
step-keeps s st new e b h = (step-kind s st new e (λ o spm given. Balanced s (times given) spm) (kinds-balance s st.spm st.handles_given e.actor.0 e.call b) h).2

-- what holds of the entries so far and of what they lead to, step by step
pub folds-keep : {X : Type 0} (f : X → Entry → Option X) (P : List Entry → X → Type 0) → ((es : List Entry) (x new : X) (e : Entry) → P es x → f x e ≡ Some new → P (es ++ e ∷ []) new)
    → (past es : List Entry) (o : Option X) (new : X) → ((x : X) → o ≡ Some x → P past x) → fold (λ (y : Option X) (e : Entry). option_and_then (λ x. f x e) y) o es ≡ Some new → P (past ++ es) new
folds-keep f P keeps past [] o new b h = subst (λ (xs : List Entry). P xs new) (sym (append-nil past)) (b new h)
folds-keep {X = X} f P keeps past (e ∷ es) o new b h =
    let next : (o : Option X) → ((x : X) → o ≡ Some x → P past x) → (y : X) → option_and_then (λ x. f x e) o ≡ Some y → P (past ++ e ∷ []) y =
    elim [ None ↦ λ k y g. cc | Some x ↦ λ k y g. keeps past x y e (k x refl) g ] in
    subst (λ (xs : List Entry). P xs new) (append_assoc past (e ∷ []) es) (folds-keep f P keeps (past ++ e ∷ []) es (option_and_then (λ x. f x e) o) new (next o b) h)

pub run-has : (s : System) (m : ByteMap) (P : List Entry → State → Type 0) → P [] (opening s m) → ((es : List Entry) (st new : State) (e : Entry) → P es st → step s st e ≡ Some new → P (es ++ e ∷ []) new)
    → (es : List Entry) (st : State) → after s m es ≡ Some st → P es st
run-has s m P first keeps es st h =
    folds-keep (λ x e. step s x e) P keeps [] es (Some (opening s m)) st (λ x e. let it : opening s m ≡ x = cc in subst (λ (y : State). P [] y) it first) h

open-fits : (n a : ℕ) → PhaseFits (get_or (replicate n Running) a Ended) 0 0 (λ m. 0)
open-fits zero a = refl
open-fits (suc n) zero = refl
open-fits (suc n) (suc a) = open-fits n a

pub opening-balanced : (s : System) → Balanced s (times []) (opening_spm s)
opening-balanced s = record {
  within = λ a v. omega arith;
  paired = λ t. refl;
  called = refl;
  rising = omega arith;
  fitting = λ a. open-fits (actor_count s) a;
  shown = refl;
  handles = λ h. omega arith;
  single = λ h. omega arith;
}

pub run-balanced : (s : System) (m : ByteMap) (es : List Entry) (st : State) → after s m es ≡ Some st → Balanced s (times st.handles_given) st.spm
run-balanced s m es st h =
    run-has s m (λ xs x. Balanced s (times x.handles_given) x.spm) (opening-balanced s) (λ xs x new e b k. step-keeps s x new e b k) es st h

-- in each state of a run the objects fit, and so do the handles
pub run-objects : (s : System) (m : ByteMap) (es : List Entry) (st : State) → after s m es ≡ Some st → ObjectsFit s st.spm
run-objects s m es st h = balanced-fit s (times st.handles_given) st.spm (run-balanced s m es st h)

pub run-handles : (s : System) (m : ByteMap) (es : List Entry) (st : State) → after s m es ≡ Some st → HandlesFit st
run-handles s m es st h = let b = run-balanced s m es st h in record { given = b.handles; once = b.single }
