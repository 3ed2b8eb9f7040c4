-- What partitions that differ in priorities have in common.
use Rattle.std.proofs.Common.{ℕ, zero, suc, ◌≡◌, List, [], ◌∷◌, length, map, refl, ap, sym, ◌∙◌}
use Rattle.std.specs.Prelude.{Option, Some, None, option_and_then, slice_get}
use Rattle.std.specs.Option.{option_map, option_map_or}
use Rattle.std.proofs.lemmas.List.{length-map}
use Rattle.ffm_model.specs.declared.system.Partition.{Partition}
use Rattle.law_scenarios.specs.Priorities.{aside, plain}

slice_get-map : {X Y : Type 0} (f : X → Y) (xs : List X) (i : ℕ) → slice_get (map f xs) i ≡ option_map f (slice_get xs i)
slice_get-map f [] i = refl
slice_get-map f (x ∷ xs) zero = refl
slice_get-map f (x ∷ xs) (suc i) = slice_get-map f xs i

module _ (ps qs : List Partition) (same : aside qs ≡ aside ps) where
  pub count-same : length qs ≡ length ps
  count-same = sym (length-map qs plain) ∙ ap (λ (xs : List Partition). length xs) same ∙ length-map ps plain

  pub place-same : (i : ℕ) → option_map plain (slice_get qs i) ≡ option_map plain (slice_get ps i)
  place-same i = sym (slice_get-map plain qs i) ∙ ap (λ (xs : List Partition). slice_get xs i) same ∙ slice_get-map plain ps i

  -- whatever is made of a partition without looking at its priority
  pub made-same : {X : Type 0} (f : Partition → X) (none : X) → ((p : Partition) → f (plain p) ≡ f p) → (i : ℕ) → option_map_or f (slice_get qs i) none ≡ option_map_or f (slice_get ps i) none
  made-same {X} f none blind i =
      let over : (o : Option Partition) → option_map_or f (option_map plain o) none ≡ option_map_or f o none = elim [ None ↦ refl | Some p ↦ blind p ] in
      sym (over (slice_get qs i)) ∙ ap (λ (o : Option Partition). option_map_or f o none) (place-same i) ∙ over (slice_get ps i)

  pub chosen-same : {X : Type 0} (f : Partition → Option X) → ((p : Partition) → f (plain p) ≡ f p) → (i : ℕ) → option_and_then f (slice_get qs i) ≡ option_and_then f (slice_get ps i)
  chosen-same {X} f blind i =
      let over : (o : Option Partition) → option_and_then f (option_map plain o) ≡ option_and_then f o = elim [ None ↦ refl | Some p ↦ blind p ] in
      sym (over (slice_get qs i)) ∙ ap (λ (o : Option Partition). option_and_then f o) (place-same i) ∙ over (slice_get ps i)
