-- Where the services of manifests stand.
use Rattle.std.proofs.Common.{ℕ, ◌≡◌, ◌<◌, ◌+◌, List, [], ◌∷◌, ◌++◌, length, get_or, length-append, append_assoc, refl, subst, sym, arith}
use Rattle.std.specs.List.{AllByRecursion as Each}
use Rattle.law_lists.proofs.Lists.{AllByRecursion-weaker, AllByRecursion-append}
use Rattle.ffm_model.specs.Layout.{Located, located_in, located_from}
use Rattle.ffm_model.specs.ManifestItems.{ManifestRecord, ServiceRecord}
use Rattle.manifest_compile.proofs.GraphLemmas.{each_at}

-- a service of one of these manifests, at a place of its list
abbrev pub HasPlace : List ManifestRecord → Located ServiceRecord → Type 0
HasPlace ms x = (x.manifest < length ms) × ((d : ManifestRecord) → x.item < length (get_or ms x.manifest d).services)

get_after : (front : List ManifestRecord) (m : ManifestRecord) (ms : List ManifestRecord) (k : ℕ) (d : ManifestRecord) → length front ≡ k → get_or (front ++ m ∷ ms) k d ≡ m
get_after [] m ms k d e = rw (← e) refl
get_after (y ∷ ys) m ms k d e = rw (← e) (get_after ys m ms (length ys) d refl)

items_in : (k i : ℕ) (xs : List ServiceRecord) → Each (λ x. (x.manifest ≡ k) × (x.item < i + length xs)) (located_in k i xs)
items_in k i [] = tt
items_in k i (x ∷ xs) = (
  (refl, omega arith),
  AllByRecursion-weaker (λ y. (y.manifest ≡ k) × (y.item < i + 1 + length xs)) (λ y. (y.manifest ≡ k) × (y.item < i + length (x ∷ xs))) (λ y h. (h.0, let l : y.item < i + 1 + length xs = h.1 in omega arith)) (located_in k (i + 1) xs) (items_in k (i + 1) xs),
)

here : (front : List ManifestRecord) (m : ManifestRecord) (ms : List ManifestRecord) (k : ℕ) (x : Located ServiceRecord) → length front ≡ k → x.manifest ≡ k → x.item < 0 + length m.services → HasPlace (front ++ m ∷ ms) x
here front m ms k x e is below = (
  let all : length (front ++ m ∷ ms) ≡ length front + length (m ∷ ms) = length-append front (m ∷ ms) in omega (arith, all),
  λ d. rw (is, get_after front m ms k d e) (omega arith),
)

places_from : (front : List ManifestRecord) (k : ℕ) (ms : List ManifestRecord) → length front ≡ k → Each (HasPlace (front ++ ms)) (located_from (λ m. m.services) k ms)
places_from front k [] e = tt
places_from front k (m ∷ ms) e =
    AllByRecursion-append (HasPlace (front ++ m ∷ ms)) (located_in k 0 m.services) (located_from (λ m. m.services) (k + 1) ms)
    (AllByRecursion-weaker (λ x. (x.manifest ≡ k) × (x.item < 0 + length m.services)) (HasPlace (front ++ m ∷ ms)) (λ x h. here front m ms k x e h.0 h.1) (located_in k 0 m.services) (items_in k 0 m.services))
    (subst (λ all. Each (HasPlace all) (located_from (λ m. m.services) (k + 1) ms)) (append_assoc front (m ∷ []) ms)
    (places_from (front ++ m ∷ []) (k + 1) ms (let l = length-append front (m ∷ []) in omega arith)))

-- each of them stands in its manifest
pub place_of : (ms : List ManifestRecord) (items : List (Located ServiceRecord)) (i : ℕ) (x : Located ServiceRecord) → items ≡ located_from (λ m. m.services) 0 ms → i < length items → get_or items i x ≡ x → HasPlace ms x
place_of ms items i x e below is =
    let all : Each (HasPlace ms) items = subst (Each (HasPlace ms)) (sym e) (places_from [] 0 ms refl) in
    subst (HasPlace ms) is (each_at (HasPlace ms) items i x all below)
