-- The first refusal of several rules.
use Rattle.std.proofs.Common.{◌≡◌, List, [], ◌∷◌, ◌++◌, append_assoc, Some, Result, Ok, Err, refl, ap, sym, ◌∙◌, subst}
use Rattle.std.specs.Result.{IsErrAnd}
use Rattle.ffm_model.specs.declared.place.ReadError.{ReadError}
use Rattle.ffm_model.specs.declared.place.ReadError.TheVariants.{Refused, Memory}
use Rattle.ffm_model.specs.declared.place.Refusal.{Refusal}
use Rattle.ffm_model.specs.declared.system.System.{System}
use Rattle.ffm_model.specs.Compiled.{compiled}
use Rattle.ffm_model.specs.PartsItems.{PartsRecord}
use Rattle.ffm_model.specs.Reading.{Reads}
use Rattle.ffm_model.specs.Repeats.{first}
use Rattle.ffm_model.specs.Rules.{broken, duplicate_partitions, duplicate_services, duplicate_sids, unknown_dependencies, self_dependencies, dependency_cycle, too_many_signals, unknown_regions, overlapping_regions, too_many_partitions, too_many_connections, budgets_without_permission, duplicate_sources, memory_too_large, duplicate_indices, too_many_stateless}
use Rattle.manifest_compile.specs.Keeps.{Keeps}
use Rattle.manifest_compile.proofs.SystemLemmas.{refused_first}

-- an error that the rules give, whatever value there could be
abbrev pub IsFirst : ReadError → List Refusal → Type 0
IsFirst (Refused r) rules = first rules ≡ Some r
IsFirst Memory rules = Unit {0}

-- the answer of the one call is that of another
first_by : {A : Type 0} (r : Result A ReadError) (e : ReadError) (rules : List Refusal) → r ≡ Err e → Keeps r rules → IsFirst e rules
first_by (Ok v) e rules same k = absurd cc
first_by (Err (Refused s)) e rules same k = let here : Refused s ≡ e = cc in let P : ReadError → Type 0 = λ x. IsFirst x rules in subst P here k
first_by (Err Memory) e rules same k = let here : Memory ≡ e = cc in let P : ReadError → Type 0 = λ x. IsFirst x rules in subst P here tt

keeps_first : {B : Type 0} (r : Result B ReadError) (e : ReadError) (rules : List Refusal) → IsErrAnd r (λ y. y ≡ e) → IsFirst e rules → Keeps r rules
keeps_first (Ok v) e rules h k = absurd h
keeps_first (Err (Refused s)) e rules h k = let P : ReadError → Type 0 = λ x. IsFirst x rules in subst P (sym h) k
keeps_first (Err Memory) e rules h k = tt

first_of_more : (rules more : List Refusal) (r : Refusal) → first rules ≡ Some r → first (rules ++ more) ≡ Some r
first_of_more [] more r e = cc
first_of_more (x ∷ rules) more r e = e

-- the rules after those of which one is broken
first_more : (e : ReadError) (rules more : List Refusal) → IsFirst e rules → IsFirst e (rules ++ more)
first_more (Refused r) rules more k = first_of_more rules more r k
first_more Memory rules more k = tt

-- the rules from that on the number of partitions on
abbrev since_partitions : PartsRecord → List Refusal
since_partitions p = too_many_partitions p ++ (too_many_connections p ++ (budgets_without_permission p ++ (duplicate_sources p ++ (memory_too_large p ++ (duplicate_indices p ++ too_many_stateless p)))))

pub since_regions : (p : PartsRecord)
    → duplicate_partitions p ≡ [] → duplicate_services p ≡ [] → duplicate_sids p ≡ [] → unknown_dependencies p ≡ [] → self_dependencies p ≡ [] → dependency_cycle p ≡ [] → too_many_signals p ≡ []
    → (unknown_regions p ++ overlapping_regions p) ++ since_partitions p ≡ broken p
since_regions p a b c d e f g = append_assoc (unknown_regions p) (overlapping_regions p) (since_partitions p) ∙ sym (rw (a, b, c, d, e, f, g) refl)

-- where no rule before those on indices is broken
pub since_indices : (p : PartsRecord) → too_many_partitions p ≡ [] → too_many_connections p ≡ [] → budgets_without_permission p ≡ [] → duplicate_sources p ≡ [] → memory_too_large p ≡ []
    → duplicate_indices p ++ too_many_stateless p ≡ since_partitions p
since_indices p a b c d e = sym (rw (a, b, c, d, e) refl)

-- rules after some of which none is broken
pub behind : (front rest all : List Refusal) → front ≡ [] → front ++ rest ≡ all → rest ≡ all
behind front rest all none is = ap (λ rules. rules ++ rest) (sym none) ∙ is

-- what a part of the rules refuses, they refuse where none in front of the part is broken
pub part_refused : {A B : Type 0} (rules more all : List Refusal) (asked : Result A ReadError) (r : Result B ReadError) (e : ReadError) → asked ≡ Err e → IsErrAnd r (λ y. y ≡ e)
    → Keeps asked rules → rules ++ more ≡ all → Keeps r all
part_refused rules more all asked r e was same k is = keeps_first r e all same (subst (IsFirst e) is (first_more e rules more (first_by asked e rules was k)))

-- what is refused is not compiled
pub reads_refusal : {A : Type 0} (p : PartsRecord) (asked : Result A ReadError) (r : Result System ReadError) (e : ReadError) → asked ≡ Err e → IsErrAnd r (λ y. y ≡ e) → Keeps asked (broken p)
    → Reads (λ s. s) r (compiled p)
reads_refusal p asked (Ok s) e was same k = absurd same
reads_refusal p asked (Err (Refused f)) e was same k =
    let P : ReadError → Type 0 = λ x. IsFirst x (broken p) in
    refused_first p f (subst P (sym same) (first_by asked e (broken p) was k))
reads_refusal p asked (Err Memory) e was same k = tt
