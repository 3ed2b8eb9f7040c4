-- The system that the generated system file stands for.
use Rattle.std.proofs.Common.{ℕ, ◌≡◌, Bool, true, List, [], ◌∷◌, ◌++◌, map, inl, refl, ap, ◌∙◌, arith}
use Rattle.std.specs.Prelude.{Ok, codes, ◌&&◌}
use Rattle.std.specs.Fmt.{decimal, digits}
use Rattle.std.specs.List.{AllByRecursion, list_all}
use Rattle.std.proofs.lemmas.Bool.{and_parts}
use Rattle.ffm_model.specs.declared.system.System.{System}
use Rattle.ffm_model.specs.Compiled.{compiled, system_parts}
use Rattle.ffm_model.specs.ManifestItems.{IsManifest, IsName}
use Rattle.ffm_model.specs.PartsItems.{IsParts}
use Rattle.ffm_model.specs.Reading.{Reading, asks_nothing, go_on, ◌>>=◌}
use Rattle.ffm_model.specs.Systems.{system_of}
use Rattle.ffm_model.specs.Texts.{is_name}
use Rattle.ffm_model.proofs.PartsLemmas.{system_with}
use Rattle.law_systems.proofs.Fit.{compiled_is, parts_are_numbered, parts_fit}
use Rattle.system_texts.specs.Texts.{numbers, system_text}
use Rattle.work_orders.specs.Work.{system_in}
use Rattle.law_texts.specs.Admitted.{nothing}
use Rattle.law_texts.proofs.Parts.{client_name, made_manifest, made_parts, none-broken, text-read}

-- ---- the parts keep their ranges

all-named : (names : List (List ℕ)) → list_all is_name names ≡ true → AllByRecursion IsName names
all-named [] e = tt
all-named (name ∷ names) e = let both = and_parts _ _ e in (both.0, all-named names both.1)

abbrev has-names : ℕ → Bool
has-names n = is_name (codes "P" ++ decimal n) && is_name (codes "S" ++ decimal n)

manifest-fits : (n : ℕ) → has-names n ≡ true → IsManifest (made_manifest n)
unfolding is_name
manifest-fits n e =
    let both : IsName (codes "P" ++ decimal n) × IsName (codes "S" ++ decimal n) = and_parts _ _ e in
    record {
      framework = inl refl;
      name = both.0;
      entry_point = inl refl;
      stack_size = λ off. absurd cc;
      has_service = λ off. absurd cc;
      no_irqs = λ off. absurd cc;
      mmio = tt;
      services = (record { name = both.1; version = omega arith; index = omega arith; unstated = λ on. refl }, tt);
      dependencies = tt;
      irqs = tt;
    }

manifests-fit : (ns : List ℕ) → list_all has-names ns ≡ true → AllByRecursion IsManifest (map made_manifest ns)
manifests-fit [] e = tt
manifests-fit (n ∷ ns) e = let both = and_parts _ _ e in (manifest-fits n both.0, manifests-fit ns both.1)

pub parts-keep : IsParts made_parts
unfolding is_name digits numbers
parts-keep = record {
  level = omega arith;
  level_end = omega arith;
  manifests = manifests-fit numbers refl;
  manifest_count = omega arith;
  regions = tt;
  clients = all-named (map client_name numbers) refl;
  client_count = omega arith;
  connections = tt;
}

-- ---- the system

abbrev pub made_system : System
made_system = system_with (system_parts made_parts) (parts_are_numbered made_parts parts-keep none-broken) (parts_fit made_parts parts-keep none-broken)

gives-on : {A B : Type 0} (r : Reading A) (f : A → Reading B) (x : A) → r.gives ≡ Ok x → (r >>= f).gives ≡ (f x).gives
gives-on r f x e = ap (λ g. (go_on r.names g f).gives) e

pub system-read : (system_in nothing system_text).gives ≡ Ok made_system
unfolding system_in
system-read =
    gives-on (system_of nothing system_text) (λ parts. asks_nothing (compiled parts)) made_parts text-read
    ∙ compiled_is made_parts made_system none-broken refl
