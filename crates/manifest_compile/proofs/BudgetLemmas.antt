-- Numbers of connections, item by item.
use Rattle.std.proofs.Common.{ℕ, ◌≡◌, ◌<◌, ◌+◌, ◌&&◌, List, [], ◌∷◌, length, take, get_or, Option, Some, None, Bool, true, false, cond, fold, map, refl, ap, ◌∙◌, sym}
use Rattle.std.specs.Prelude.{if◌then◌else◌}
use Rattle.std.specs.Borrow.{Bor}
use Rattle.std.specs.BTreeMap.{is_at}
use Rattle.std.specs.Cmp.Lexicographic.{slice_cmp}
use Rattle.std.specs.Option.{unwrap_or}
use Rattle.std.specs.Ordering.{nat_cmp, ordering_then, is_eq}
use Rattle.std.specs.Str.{bytes_eq}
use Rattle.std.specs.declared.cmp.Ordering.{Ordering}
use Rattle.std.specs.declared.cmp.Ordering.TheVariants.{Less, Equal, Greater}
use Rattle.std.proofs.lemmas.Map.Text.{is_eq-slice_cmp}
use Rattle.std.proofs.lemmas.List.Sums.{fold_more}
use Rattle.std.specs.BTreeMap.{BTreeMap}
use Rattle.std.specs.BTreeSet.{BTreeSet}
use Rattle.std.specs.List.{list_any}
use Rattle.ffm_model.specs.declared.system.Budget.{Budget}
use Rattle.ffm_model.specs.PartsItems.{PartsRecord, ConnectionRecord}
use Rattle.ffm_model.specs.Permissions.{Permitted, permitted, is_for, count_for, budgets_of}
use Rattle.manifest_compile.specs.Budgets.{names_cmp, named_pair, has_pair, HasPairs, TellsCounts, budget_by}

-- ---- keys of two names

is_eq-then : (a b : Ordering) → is_eq (ordering_then a b) ≡ (is_eq a && is_eq b)
is_eq-then Less b = refl
is_eq-then Equal b = refl
is_eq-then Greater b = refl

-- a key is another where both names are the other's
pub is_key : (a b : List ℕ) (key : Bor (List ℕ) × Bor (List ℕ)) → is_at (names_cmp a b) key ≡ (bytes_eq a key.0.now && bytes_eq b key.1.now)
is_key a b key =
    is_eq-then (slice_cmp nat_cmp a key.0.now) (slice_cmp nat_cmp b key.1.now)
    ∙ ap (λ t. t && is_eq (slice_cmp nat_cmp b key.1.now)) (is_eq-slice_cmp a key.0.now)
    ∙ ap (λ t. bytes_eq a key.0.now && t) (is_eq-slice_cmp b key.1.now)

abbrev pub key_of : List ℕ → List ℕ → Bor (List ℕ) × Bor (List ℕ)
key_of client service = (record { ref_ptr = (0, 0); now = client }, record { ref_ptr = (0, 0); now = service })

-- ---- the number that the last item for a pair declares

abbrev pub newer_count : Permitted → Option ℕ → ConnectionRecord → Option ℕ
newer_count pair count c = cond (is_for pair c) (Some c.count) count

abbrev pub last_count : Permitted → List ConnectionRecord → Option ℕ
last_count pair connections = fold (newer_count pair) None connections

chosen : (b : Bool) (n m : ℕ) (o : Option ℕ) → unwrap_or (cond b (Some n) o) m ≡ cond b n (unwrap_or o m)
chosen true n m o = refl
chosen false n m o = refl

counted : (pair : Permitted) (o : Option ℕ) (connections : List ConnectionRecord)
    → unwrap_or (fold (newer_count pair) o connections) 1 ≡ fold (λ n c. if is_for pair c then c.count else n) (unwrap_or o 1) connections
counted pair o [] = refl
counted pair o (c ∷ cs) =
    counted pair (newer_count pair o c) cs
    ∙ ap (λ m. fold (λ n d. if is_for pair d then d.count else n) m cs) (chosen (is_for pair c) c.count 1 o)

pub last_count-counts : (client service : List ℕ) (connections : List ConnectionRecord) → unwrap_or (last_count (named_pair client service) connections) 1 ≡ count_for connections (named_pair client service)
last_count-counts client service connections = counted (named_pair client service) None connections

-- one item more
pub counts_more : (pair : Permitted) (xs : List ConnectionRecord) (i : ℕ) (d : ConnectionRecord) (old new : Option ℕ) → i < length xs
    → new ≡ newer_count pair old (get_or xs i d) → old ≡ last_count pair (take i xs) → new ≡ last_count pair (take (i + 1) xs)
counts_more pair xs i d old new below step so_far =
    step ∙ ap (λ o. newer_count pair o (get_or xs i d)) so_far ∙ sym (fold_more (newer_count pair) None xs i d below)

-- the budgets by the map are those of the pairs
pub budgets_by : (counts : BTreeMap (Bor (List ℕ) × Bor (List ℕ)) ℕ) (p : PartsRecord) → TellsCounts counts p.connections → map (budget_by counts) (permitted p) ≡ budgets_of p
budgets_by counts p tells =
    ap (λ (f : Permitted → Budget). map f (permitted p))
    (λ i pair. record { client = record { 0 = pair.client }; service = pair.service; count = if pair.connects then tells pair.client_name pair.service_name i else 0 })

-- the set tells which items are for a permitted pair that connects
pub permitted_by : (names : BTreeSet (Bor (List ℕ) × Bor (List ℕ))) (p : PartsRecord) (pairs : List Permitted) → HasPairs names pairs → pairs ≡ permitted p
    → (c : ConnectionRecord) → has_pair names c.client c.service ≡ list_any (λ pair. pair.connects && is_for pair c) (permitted p)
permitted_by names p pairs has e c = has c.client c.service ∙ ap (list_any (λ pair. pair.connects && is_for pair c)) e
