-- Rights, when the history grows by an entry of an actor to which they do not belong.
use Rattle.std.proofs.Common.{◌≡◌, ◌≢◌, ℕ, ◌+◌, ◌<◌, ◌≤◌, List, [], ◌∷◌, ◌++◌, sym, ap, ◌∙◌, arith, append_assoc}
use Rattle.std.proofs.lemmas.Bool.Decides.{nat_tests}
use Rattle.ffm_model.proofs.RecordLemmas.{entries_of-apart}
use Rattle.ffm_model.specs.declared.machine.Entry.{Entry}
use Rattle.spm_lock.specs.declared.view.Right.{Right}
use Rattle.spm_lock.specs.declared.view.View.{View}
use Rattle.spm_lock.specs.Views.{times, rights_to}
use Rattle.spm_lock.specs.Histories.{Begins}
use Rattle.spm_lock.specs.Rule.{Fits, AllFit}

pub Begins-more : (f h : List Entry) (e : Entry) → Begins f h → Begins f (h ++ e ∷ [])
Begins-more f h e b = (b.0 ++ e ∷ [], ap (λ (y : List Entry). y ++ e ∷ []) b.1 ∙ append_assoc f b.0 (e ∷ []))

pub Fits-more : (h : List Entry) (e : Entry) (r : Right) → e.actor.0 ≢ r.actor → Fits h r → Fits (h ++ e ∷ []) r
Fits-more h e r other fit = (Begins-more r.front h e fit.0, entries_of-apart r.actor h e other ∙ fit.1)

-- an actor whose right is not among them
pub not_among : (a : ℕ) (r : Right) (rs : List Right) → times a (r ∷ rs) ≡ 0 → (r.actor ≢ a) × (times a rs ≡ 0)
not_among a r rs none_of = ((λ same. absurd (grind (arith, nat_tests))), grind (arith, nat_tests))

pub AllFit-more : (h : List Entry) (e : Entry) (rs : List Right) → times e.actor.0 rs ≡ 0 → AllFit h rs → AllFit (h ++ e ∷ []) rs
AllFit-more h e [] none_of fit = tt
AllFit-more h e (r ∷ rs) none_of fit = let n = not_among e.actor.0 r rs none_of in (Fits-more h e r (λ same. n.0 (sym same)) fit.0, AllFit-more h e rs n.1 fit.1)

pub times-append : (a : ℕ) (xs ys : List Right) → times a (xs ++ ys) ≡ times a xs + times a ys
times-append a [] ys = omega arith
times-append a (x ∷ xs) ys = let h = times-append a xs ys in omega arith

pub AllFit-append : (h : List Entry) (xs ys : List Right) → AllFit h xs → AllFit h ys → AllFit h (xs ++ ys)
AllFit-append h [] ys p q = q
AllFit-append h (x ∷ xs) ys p q = (p.0, AllFit-append h xs ys p.1 q)

-- the pass of an actor has one right to it
pub one_to : (a : ℕ) (r : Right) (v : View) → r.actor ≡ a → v.rights ≡ r ∷ [] → 1 ≤ rights_to a v
one_to a r v is has = let here : times a v.rights ≡ 1 = ap (times a) has ∙ grind (arith, nat_tests) in omega arith

-- a seat with no right to an actor
pub no_right : (a : ℕ) (v : View) → rights_to a v ≡ 0 → times a v.rights ≡ 0
no_right a v is = omega arith

pub not_unmade : (a : ℕ) (v : View) → rights_to a v ≡ 0 → v.next ≤ a → a < v.last → ⊥
not_unmade a v is low high = grind (arith, nat_tests)
