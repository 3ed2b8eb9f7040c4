-- Partitions that differ in priorities fit alike.
use Rattle.std.proofs.Common.{ℕ, ◌≡◌, ◌+◌, ◌==◌, Bool, not, ◌&&◌, ◌||◌, List, [], ◌∷◌, length, refl, ap, ap₂, sym, ◌∙◌}
use Rattle.std.specs.Prelude.{nat_le}
use Rattle.std.specs.List.{enumerate_from, list_all, list_any}
use Rattle.std.proofs.lemmas.List.{length-map}
use mathlib.Core.Path.{fun_ext}
use Rattle.ffm_model.specs.declared.system.Partition.{Partition}
use Rattle.ffm_model.specs.declared.system.Region.{Region}
use Rattle.ffm_model.specs.declared.system.Service.{Service}
use Rattle.ffm_model.specs.declared.system.System.{System}
use Rattle.ffm_model.specs.WellFormed.{budgets_fit, each_pair, functions_fit, is_ram, is_well_formed, models_fit, partitions_fit, ram_size, regions_fit, signals_fit, stateless_fit}
use Rattle.law_scenarios.specs.Priorities.{FitAlike, aside, plain}

all-plain : (f : Partition → Bool) → ((p : Partition) → f (plain p) ≡ f p) → (ps : List Partition) → list_all f (aside ps) ≡ list_all f ps
all-plain f blind [] = refl
all-plain f blind (p ∷ ps) = ap₂ (λ a b. a && b) (blind p) (all-plain f blind ps)

any-plain : (f : Partition → Bool) → ((p : Partition) → f (plain p) ≡ f p) → (ps : List Partition) → list_any f (aside ps) ≡ list_any f ps
any-plain f blind [] = refl
any-plain f blind (p ∷ ps) = ap₂ (λ a b. a || b) (blind p) (any-plain f blind ps)

first-plain : (f : Partition → Partition → Bool) → ((p q : Partition) → f (plain p) (plain q) ≡ f p q) → (p : Partition) (ps : List Partition) → list_all (f (plain p)) (aside ps) ≡ list_all (f p) ps
first-plain f blind p [] = refl
first-plain f blind p (q ∷ qs) = ap₂ (λ a b. a && b) (blind p q) (first-plain f blind p qs)

pairs-plain : (f : Partition → Partition → Bool) → ((p q : Partition) → f (plain p) (plain q) ≡ f p q) → (ps : List Partition) → each_pair f (aside ps) ≡ each_pair f ps
pairs-plain f blind [] = refl
pairs-plain f blind (p ∷ ps) = ap₂ (λ a b. a && b) (first-plain f blind p ps) (pairs-plain f blind ps)

places-plain : (f : ℕ × Partition → Bool) → ((e : ℕ × Partition) → f (e.0, plain e.1) ≡ f e) → (k : ℕ) (ps : List Partition) → list_all f (enumerate_from k (aside ps)) ≡ list_all f (enumerate_from k ps)
places-plain f blind k [] = refl
places-plain f blind k (p ∷ ps) = ap₂ (λ a b. a && b) (blind (k, p)) (places-plain f blind (k + 1) ps)

-- each partition has RAM, no two the same, and all RAM is some partition's
partitions-plain : (ps : List Partition) (regions : List Region) → partitions_fit (aside ps) regions ≡ partitions_fit ps regions
partitions-plain ps regions =
    let owned : (λ (e : ℕ × Region). not (is_ram e.1.class) || list_any (λ p. p.ram == e.0) (aside ps)) ≡ (λ (e : ℕ × Region). not (is_ram e.1.class) || list_any (λ p. p.ram == e.0) ps) =
    fun_ext (λ e. ap (λ (b : Bool). not (is_ram e.1.class) || b) (any-plain (λ p. p.ram == e.0) (λ p. refl) ps)) in
    ap₂ (λ a b. a && b) (ap₂ (λ a b. a && b) (all-plain _ (λ p. refl) ps) (pairs-plain (λ p q. not (p.ram == q.ram)) (λ p q. refl) ps))
    (ap (λ (f : ℕ × Region → Bool). list_all f (enumerate_from 0 regions)) owned)

models-plain : (ps : List Partition) (services : List Service) (regions : List Region) → models_fit (aside ps) services regions ≡ models_fit ps services regions
models-plain ps services regions =
    ap₂ (λ a b. a && b) (places-plain (functions_fit services regions) (λ e. refl) 0 ps) (all-plain (λ p. nat_le p.heap (ram_size regions p)) (λ p. refl) ps)

-- with priorities aside they fit as before
fits-plain : (s : System) (ps : List Partition) → is_well_formed s.level (aside ps) s.services s.sources s.regions s.clients s.budgets ≡ is_well_formed s.level ps s.services s.sources s.regions s.clients s.budgets
unfolding is_well_formed
fits-plain s ps =
    let count : length (aside ps) ≡ length ps = length-map ps plain in
    let made : ℕ → Bool → Bool → Bool = λ n models partitions.
    (nat_le 1 s.level && nat_le s.level 3 && nat_le n 32 && nat_le (length s.clients) 16)
    && models
    && stateless_fit s.services s.budgets
    && partitions
    && regions_fit n s.regions
    && signals_fit n s.services s.sources
    && each_pair (λ v w. not (v.sid.0 == w.sid.0)) s.services
    && budgets_fit (n + length s.clients) s.services s.budgets in
    ap (λ (n : ℕ). made n (models_fit (aside ps) s.services s.regions) (partitions_fit (aside ps) s.regions)) count
    ∙ ap₂ (λ (a b : Bool). made (length ps) a b) (models-plain ps s.services s.regions) (partitions-plain ps s.regions)

pub fit_alike : (s : System) (partitions : List Partition) → FitAlike s partitions
fit_alike s qs same =
    sym (fits-plain s qs)
    ∙ ap (λ (xs : List Partition). is_well_formed s.level xs s.services s.sources s.regions s.clients s.budgets) same
    ∙ fits-plain s s.partitions
    ∙ s.well_formed
