-- What the generated system file says, and that it breaks no rule.
use Rattle.std.proofs.Common.{ℕ, ◌≡◌, ◌+◌, Bool, true, false, List, [], ◌∷◌, ◌++◌, map, refl, ap, ap₂}
use Rattle.std.specs.Prelude.{None, Ok, codes, find, nat_lt}
use Rattle.std.specs.Fmt.{decimal, digits}
use Rattle.std.specs.Str.{chars, is_utf8}
use Rattle.std.proofs.lemmas.Bool.{and_right}
use Rattle.serde_json.proofs.OnLiterals.{serde_json_on_literals}
use Rattle.ffm_model.specs.declared.system.Policy.TheVariants.{Strict}
use Rattle.ffm_model.specs.declared.system.Priority.TheVariants.{Normal}
use Rattle.ffm_model.specs.declared.system.RotType.TheVariants.{ApplicationRot}
use Rattle.ffm_model.specs.Attributes.{boolean_of, items_after, list_after, list_of_some, list_up_to, name_of, number_of, object_of, whole, whole_between}
use Rattle.ffm_model.specs.Keys.{key_text}
use Rattle.ffm_model.specs.ManifestItems.{ManifestRecord, ServiceRecord}
use Rattle.ffm_model.specs.Manifests.{first_irq_of, index_of, location_of, manifest_of, mmio_of, named_of, numbered_of, second_irq_of, service_of, source_of, stack_of, version_of}
use Rattle.ffm_model.specs.PartsItems.{PartsRecord}
use Rattle.ffm_model.specs.Quote.{is_fraction_byte, is_marked, is_run_byte, quoted}
use Rattle.ffm_model.specs.Circles.{are_different, is_circle, is_way, lists_up_to}
use Rattle.ffm_model.specs.Rules.{broken, cycle_refusals, duplicate_partitions, duplicate_services, duplicate_sids, unknown_dependencies, self_dependencies, dependency_cycle, too_many_signals, unknown_regions, overlapping_regions, too_many_partitions, too_many_connections, budgets_without_permission, duplicate_sources, memory_too_large, duplicate_indices, too_many_stateless}
use Rattle.ffm_model.specs.SystemAttributes.{connection_of, level_of, manifest_in, parts_with, region_of}
use Rattle.ffm_model.specs.Systems.{manifest_named, manifests_after, manifests_of, parts_of, system_of}
use Rattle.ffm_model.specs.Texts.{hex_number, is_name}
use Rattle.ffm_model.specs.Trees.{tree_of}
use Rattle.system_texts.specs.Texts.{client_text, manifest_text, numbers, system_text}
use Rattle.law_texts.specs.Admitted.{nothing}

-- the service of partition `Pn`, and its manifest
abbrev pub made_service : ℕ → ServiceRecord
made_service n = record {
  name = codes "S" ++ decimal n;
  sid = record { 0 = 4096 + n };
  nonsecure = true;
  version = 1;
  policy = Strict;
  connection_based = true;
  stateless_handle = 0;
  mm = false;
}

abbrev pub made_manifest : ℕ → ManifestRecord
made_manifest n = record {
  framework = 256;
  name = codes "P" ++ decimal n;
  rot = ApplicationRot;
  priority = Normal;
  sfn = false;
  entry_point = codes "main";
  stack_size = 1024;
  heap_size = 0;
  mmio = [];
  services = made_service n ∷ [];
  dependencies = [];
  irqs = [];
}

abbrev pub client_name : ℕ → List ℕ
client_name n = codes "N" ++ decimal n

-- what the file says
abbrev pub made_parts : PartsRecord
made_parts = record {
  level = 3;
  manifests = map made_manifest numbers;
  regions = [];
  non_secure_ram = 65536;
  clients = map client_name numbers;
  connections = [];
}

pub text-read : (system_of nothing system_text).gives ≡ Ok made_parts
unfolding
    serde_json_on_literals is_utf8 chars digits tree_of quoted is_marked is_run_byte is_fraction_byte key_text is_name hex_number
    boolean_of items_after list_after list_of_some list_up_to name_of number_of object_of whole whole_between
    first_irq_of index_of location_of manifest_of mmio_of named_of numbered_of second_irq_of service_of source_of stack_of version_of
    connection_of level_of manifest_in parts_with region_of manifest_named manifests_after manifests_of parts_of system_of
    system_text manifest_text client_text numbers
text-read = refl

-- ---- no rule is broken

duplicate-partitions-none : duplicate_partitions made_parts ≡ []
unfolding digits numbers
duplicate-partitions-none = refl

duplicate-services-none : duplicate_services made_parts ≡ []
unfolding digits numbers
duplicate-services-none = refl

duplicate-sids-none : duplicate_sids made_parts ≡ []
unfolding digits numbers
duplicate-sids-none = refl

unknown-dependencies-none : unknown_dependencies made_parts ≡ []
unfolding digits numbers
unknown-dependencies-none = refl

self-dependencies-none : self_dependencies made_parts ≡ []
unfolding digits numbers
self-dependencies-none = refl

-- no partition depends on another
way-none : (n : ℕ) (home x : ℕ) (ys : List ℕ) → is_way n (λ i j. false) home x ys ≡ false
way-none n home x [] = refl
way-none n home x (y ∷ ys) = and_right (nat_lt y n) false refl

circle-none : (n : ℕ) (xs : List ℕ) → is_circle n (λ i j. false) xs ≡ false
circle-none n [] = refl
circle-none n (x ∷ xs) = and_right (nat_lt x n) _ (and_right (are_different (x ∷ xs)) _ (way-none n x x xs))

none-found : {A : Type 0} (is : A → Bool) → ((x : A) → is x ≡ false) → (xs : List A) → find is xs ≡ None
none-found is off [] = refl
none-found is off (x ∷ xs) = rw (off x) (none-found is off xs)

dependency-cycle-none : dependency_cycle made_parts ≡ []
unfolding numbers
dependency-cycle-none = ap cycle_refusals (none-found (is_circle 16 (λ i j. false)) (circle-none 16) (lists_up_to 16 16))

too-many-signals-none : too_many_signals made_parts ≡ []
unfolding digits numbers
too-many-signals-none = refl

unknown-regions-none : unknown_regions made_parts ≡ []
unfolding digits numbers
unknown-regions-none = refl

overlapping-regions-none : overlapping_regions made_parts ≡ []
unfolding digits numbers
overlapping-regions-none = refl

too-many-partitions-none : too_many_partitions made_parts ≡ []
unfolding digits numbers
too-many-partitions-none = refl

too-many-connections-none : too_many_connections made_parts ≡ []
unfolding digits numbers
too-many-connections-none = refl

budgets-without-permission-none : budgets_without_permission made_parts ≡ []
unfolding digits numbers
budgets-without-permission-none = refl

duplicate-sources-none : duplicate_sources made_parts ≡ []
unfolding digits numbers
duplicate-sources-none = refl

memory-too-large-none : memory_too_large made_parts ≡ []
unfolding digits numbers
memory-too-large-none = refl

duplicate-indices-none : duplicate_indices made_parts ≡ []
unfolding digits numbers
duplicate-indices-none = refl

too-many-stateless-none : too_many_stateless made_parts ≡ []
unfolding digits numbers
too-many-stateless-none = refl

both : {A : Type 0} {xs ys : List A} → xs ≡ [] → ys ≡ [] → xs ++ ys ≡ []
both e f = ap₂ (λ (xs ys : List _). xs ++ ys) e f

pub none-broken : broken made_parts ≡ []
none-broken =
    both duplicate-partitions-none (both duplicate-services-none (both duplicate-sids-none
    (both unknown-dependencies-none (both self-dependencies-none (both dependency-cycle-none
    (both too-many-signals-none (both unknown-regions-none (both overlapping-regions-none
    (both too-many-partitions-none (both too-many-connections-none (both budgets-without-permission-none
    (both duplicate-sources-none (both memory-too-large-none
    (both duplicate-indices-none too-many-stateless-none))))))))))))))
