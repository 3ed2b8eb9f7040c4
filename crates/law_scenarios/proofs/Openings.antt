-- The memory and the interrupts of a scenario that was read are in range.
use Rattle.std.proofs.Common.{ℕ, ◌≡◌, ◌≤◌, Bool, true, false, ◌&&◌, List, [], ◌∷◌, length, arith, refl}
use Rattle.std.specs.Prelude.{Option, Some, None, Result, Ok, IfOk, IfSome, fold, if◌then◌else◌, is_some, nat_le, position}
use Rattle.std.specs.List.{AllByRecursion, list_any}
use Rattle.std.specs.Str.{bytes_eq}
use Rattle.std.proofs.lemmas.Bool.{and_parts}
use Rattle.std.proofs.lemmas.Bool.Decides.{nat_tests}
use Rattle.serde_json.specs.Data.{Data}
use Rattle.serde_json.specs.Find.{as_object}
use Rattle.ffm_model.specs.declared.codes.TheConstants.{BAD_VALUE, UNKNOWN_ACTOR}
use Rattle.ffm_model.specs.declared.key.Key.TheVariants as key
use Rattle.ffm_model.specs.declared.place.Root.TheVariants as root
use Rattle.ffm_model.specs.declared.scenario.Bytes.{Bytes}
use Rattle.ffm_model.specs.declared.scenario.RaiseItem.{RaiseItem}
use Rattle.ffm_model.specs.declared.scenario.Scenario.{Scenario}
use Rattle.ffm_model.specs.declared.system.Region.{Region}
use Rattle.ffm_model.specs.declared.system.System.{System}
use Rattle.ffm_model.specs.Attributes.{list_after, list_of, number_of, object_of, optional, or_refuse, refuse, required, text_as, whole, whole_between, whole_from}
use Rattle.ffm_model.specs.Manifests.{source_of}
use Rattle.ffm_model.specs.Memory.{ByteMap, lies_in, opening_memory, write_bytes}
use Rattle.ffm_model.specs.Scenarios.{answered_raise_of, bytes_of, hex_bytes, plain_raise_of, raise_of, raised_source_of, scenario_from, scenario_in, scenario_of, script_of, source_named, turn_of}
use Rattle.ffm_model.specs.SignalCalls.{has_flih}
use Rattle.ffm_model.specs.TraceText.{IsU32}
use Rattle.ffm_model.specs.Trees.{tree_of}
use Rattle.ffm_model.proofs.SourceLemmas.{place_below}
use Rattle.law_scenarios.specs.Ranges.{HasBytes}
use Rattle.law_scenarios.proofs.Digits.{bytes-of}
use Rattle.law_scenarios.proofs.Numbers.{AreBytes, written}
use Rattle.law_scenarios.proofs.Results.{knows, list-has, optional-has, past, placed-has, required-has, text-has}

-- ---- memory

abbrev pub PieceFits : Bytes → Type 0
PieceFits piece = AreBytes piece.content

pieces-fit : (m : ByteMap) (pieces : List Bytes) → HasBytes m → AllByRecursion PieceFits pieces → HasBytes (fold (λ m b. write_bytes m b.address b.content) m pieces)
pieces-fit m [] h all = h
pieces-fit m (b ∷ bs) h all = pieces-fit (write_bytes m b.address b.content) bs (written m b.address b.content h all.0) all.1

pub opening-fits : (pieces : List Bytes) → AllByRecursion PieceFits pieces → HasBytes (opening_memory pieces)
opening-fits pieces all = pieces-fit (λ x. 0) pieces (λ x. omega arith) all

chosen : {X E : Type 0} (P : X → Type 0) (b : Bool) (x : X) (r : Result X E) → P x → IfOk r P → IfOk (if b then Ok x else r) P
chosen P true x r h k = h
chosen P false x r h k = k

piece-fits : (regions : List Region) (d : Data) → IfOk (bytes_of regions d) PieceFits
unfolding bytes_of
piece-fits regions d =
    past PieceFits (object_of d) _ (λ object. past PieceFits (required number_of key.Address d) _ (λ address.
    knows AreBytes PieceFits (required (text_as hex_bytes) key.Bytes d) _ (required-has AreBytes (text_as hex_bytes) key.Bytes d (λ x. text-has AreBytes hex_bytes x bytes-of)) (λ content h.
    chosen PieceFits (list_any (lies_in address (length content)) regions) _ _ h tt)))

-- ---- interrupts

pub record RaiseFits (x : RaiseItem) : Type 0 where
  pub source : IsU32 x.source
  pub answer : IfSome x.result IsU32

source-fits : (s : System) (d : Data) → IfOk (raised_source_of s d) IsU32
unfolding raised_source_of
source-fits s d =
    past IsU32 (source_of d) _ (λ name.
    let go : (o : Option ℕ) → position (λ x. bytes_eq name x.name) s.sources ≡ o → IfOk (or_refuse UNKNOWN_ACTOR o) IsU32 = elim [ None ↦ λ e. tt | Some i ↦ λ e. place_below s (λ x. bytes_eq name x.name) i e ] in
    go (source_named s name) refl)

answer-of : (b : Bool) → IfSome (if b then Some 1 else None) IsU32
answer-of true = omega arith
answer-of false = tt

plain-fits : (s : System) (d : Data) → IfOk (plain_raise_of s d) RaiseFits
unfolding plain_raise_of
plain-fits s d = knows IsU32 RaiseFits (raised_source_of s d) _ (source-fits s d) (λ source h. record { source = h; answer = answer-of (has_flih s source) })

between : (least most : ℕ) (o : Option ℕ) → IfOk (whole_from least most o) (λ n. n ≤ most)
between least most (Some n) =
    let go : (b : Bool) → (nat_le least n && nat_le n most) ≡ b → IfOk (if b then Ok n else refuse BAD_VALUE) (λ n. n ≤ most) = elim [
      | true ↦ λ e. (let high : nat_le n most ≡ true = (and_parts (nat_le least n) (nat_le n most) e).1 in let short : n ≤ most = grind (arith, nat_tests) in short)
      | false ↦ λ e. tt
    ] in
    go (nat_le least n && nat_le n most) refl
between least most None = tt

between-fits : (least most : ℕ) (d : Data) → IfOk (whole_between least most d) (λ n. n ≤ most)
unfolding whole_between
between-fits least most d = between least most (whole d)

answered-fits : (s : System) (d : Data) → IfOk (answered_raise_of s d) RaiseFits
unfolding answered_raise_of
answered-fits s d =
    knows IsU32 RaiseFits (required (raised_source_of s) key.Source d) _ (required-has IsU32 (raised_source_of s) key.Source d (source-fits s)) (λ source h.
    knows (λ n. n ≤ 1) RaiseFits (required (whole_between 0 1) key.RaiseResult d) _ (required-has (λ n. n ≤ 1) (whole_between 0 1) key.RaiseResult d (between-fits 0 1)) (λ answer k.
    chosen RaiseFits (has_flih s source) _ _ (record { source = h; answer = omega (arith, k) }) tt))

raise-fits : (s : System) (d : Data) → IfOk (raise_of s d) RaiseFits
raise-fits s d = elim (is_some (as_object d)) as (λ (b : Bool). IfOk (if b then answered_raise_of s d else plain_raise_of s d) RaiseFits) [ true ↦ answered-fits s d | false ↦ plain-fits s d ]

-- ---- a scenario

pub record ScenarioFits (c : Scenario) : Type 0 where
  pub limit : c.limit ≤ 262144
  pub raises : AllByRecursion RaiseFits c.raises
  pub memory : AllByRecursion PieceFits c.memory

scenario-of-fits : (s : System) (d : Data) → IfOk (scenario_of s d) ScenarioFits
unfolding scenario_of
scenario-of-fits s d =
    past ScenarioFits (object_of d) _ (λ object.
    knows (λ n. n ≤ 262144) ScenarioFits (optional (whole_between 1 262144) 4096 key.EventLimit d) _ (optional-has (λ n. n ≤ 262144) (whole_between 1 262144) 4096 key.EventLimit d (omega arith) (between-fits 1 262144)) (λ limit few.
    past ScenarioFits (optional (list_after (script_of s)) [] key.Scripts d) _ (λ scripts.
    past ScenarioFits (optional (list_of (turn_of s)) [] key.Schedule d) _ (λ schedule.
    knows (AllByRecursion RaiseFits) ScenarioFits (optional (list_of (raise_of s)) [] key.Interrupts d) _ (optional-has (AllByRecursion RaiseFits) (list_of (raise_of s)) [] key.Interrupts d tt (list-has RaiseFits (λ front. raise_of s) (λ front. raise-fits s))) (λ raises h.
    knows (AllByRecursion PieceFits) ScenarioFits (optional (list_of (bytes_of s.regions)) [] key.Memory d) _ (optional-has (AllByRecursion PieceFits) (list_of (bytes_of s.regions)) [] key.Memory d tt (list-has PieceFits (λ front. bytes_of s.regions) (λ front. piece-fits s.regions))) (λ memory k.
    past ScenarioFits (optional (whole_between 0 15) 0 key.Restarts d) _ (λ restarts. record { limit = few; raises = h; memory = k })))))))

pub scenario-fits : (s : System) (bytes : List ℕ) → IfOk (scenario_in s bytes) ScenarioFits
unfolding scenario_in
scenario-fits s bytes =
    placed-has ScenarioFits root.Scenario [] (scenario_from s (tree_of bytes)) (elim (tree_of bytes) as (λ (o : Option Data). IfOk (scenario_from s o) ScenarioFits) [ None ↦ tt | Some d ↦ scenario-of-fits s d ])
