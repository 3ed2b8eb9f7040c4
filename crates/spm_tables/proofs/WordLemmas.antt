-- The words that a board keeps, as what asserts signals changes.
use Rattle.std.proofs.Common.{ℕ, zero, ◌≡◌, ◌≢◌, ◌<◌, ◌≤◌, ◌+◌, ◌==◌, Bool, true, false, ◌&&◌, List, [], ◌∷◌, length, map, get_or, set, replicate, ◌∙◌, ap, sym, refl, subst, arith, suc}
use Rattle.std.specs.Prelude.{Option, Some, None, if◌then◌else◌, bit_or, nat_lt}
use Rattle.std.specs.List.{filter_map, enumerate_from, cons_option, list_all}
use Rattle.std.proofs.Math.ListN.{length-set}
use Rattle.std.proofs.lemmas.List.{get_or-set_same, get_or-set_other, get_or_past, get_or-replicate, length-replicate}
use Rattle.std.proofs.lemmas.Bool.Decides.{nat_tests}
use Rattle.std.proofs.lemmas.Bool.{and_parts, eqb-true}
use Rattle.std.proofs.lemmas.Option.{same_Some}
use Rattle.object_pools.proofs.Orders.{other_number}
use Rattle.ffm_model.specs.declared.constants.TheConstants.{PSA_DOORBELL}
use Rattle.ffm_model.specs.declared.objects.SourceFlags.{SourceFlags}
use Rattle.ffm_model.specs.declared.system.System.{System}
use Rattle.ffm_model.specs.declared.system.Service.{Service}
use Rattle.ffm_model.specs.declared.system.Source.{Source}
use Rattle.ffm_model.specs.State.{no_flags}
use Rattle.ffm_model.specs.Signals.{union_of, signals_of, service_signals, source_signals, doorbell_signal, has_undelivered}
use Rattle.ffm_model.specs.WellFormed.{signal_fits, is_signal_bit}
use Rattle.ffm_model.proofs.WellFormedLemmas.{service_signals_hold, source_signals_hold}
use Rattle.spm_tables.specs.declared.signals.OwnedSignal.{OwnedSignal}
use Rattle.spm_tables.specs.TablesView.{TablesView, Shape, MadeFor, spm_of, asserted}
use Rattle.spm_tables.specs.Queues.{QueuesView, has_waiting, AllWaitAsBefore, OthersWaitAsBefore}
use Rattle.spm_tables.specs.Words.{InputsView, first_flags, opening_inputs, word_of, owner_at, KeepsWords, with_word, ShowsQueues}
use Rattle.spm_tables.proofs.SignalLemmas.{word-of}

-- ---- the signals that pass a test

-- tests that agree at the owner's places pass the same signals
same-from : (t u : ℕ → Bool) (owner : ℕ) (xs : List OwnedSignal) (n : ℕ)
    → ((i : ℕ) → owner_at xs i ≡ Some owner → t (n + i) ≡ u (n + i))
    → filter_map (λ e. if (e.1.owner == owner) && t e.0 then Some e.1.signal else None) (enumerate_from n xs)
    ≡ filter_map (λ e. if (e.1.owner == owner) && u e.0 then Some e.1.signal else None) (enumerate_from n xs)
same-from t u owner [] n agree = refl
same-from t u owner (x ∷ xs) n agree =
    let next : (i : ℕ) → owner_at xs i ≡ Some owner → t (n + 1 + i) ≡ u (n + 1 + i) =
    λ i e. subst (λ k. t k ≡ u k) (omega arith) (agree (suc i) e) in
    let rest : filter_map (λ e. if (e.1.owner == owner) && t e.0 then Some e.1.signal else None) (enumerate_from (n + 1) xs)
    ≡ filter_map (λ e. if (e.1.owner == owner) && u e.0 then Some e.1.signal else None) (enumerate_from (n + 1) xs) = same-from t u owner xs (n + 1) next in
    let here : (b : Bool) → (x.owner == owner) ≡ b → (b && t n) ≡ (b && u n) = elim [
      | true ↦ λ e. subst (λ k. t k ≡ u k) (omega arith) (agree 0 (ap (λ k. Some k) (eqb-true x.owner owner e)))
      | false ↦ λ e. refl
    ] in
    ap (λ (ys : List ℕ). cons_option (if (x.owner == owner) && t n then Some x.signal else None) ys) rest
    ∙ ap (λ (b : Bool). cons_option (if b then Some x.signal else None)
    (filter_map (λ e. if (e.1.owner == owner) && u e.0 then Some e.1.signal else None) (enumerate_from (n + 1) xs))) (here (x.owner == owner) refl)

-- a test that changes at one place passes the same signals of all partitions but its owner
same-else : (t u : ℕ → Bool) (xs : List OwnedSignal) (v owner : ℕ) → ((i : ℕ) → i ≢ v → t i ≡ u i) → (owner_at xs v ≡ Some owner → ⊥)
    → asserted t xs owner ≡ asserted u xs owner
same-else t u xs v owner same apart =
    same-from t u owner xs 0 (λ i e. subst (λ k. t k ≡ u k) (omega arith) (same i (λ at. apart (subst (λ k. owner_at xs k ≡ Some owner) at e))))

-- a test that nothing passes
none-from : (t : ℕ → Bool) → ((i : ℕ) → t i ≡ false) → (owner : ℕ) (xs : List OwnedSignal) (n : ℕ)
    → filter_map (λ e. if (e.1.owner == owner) && t e.0 then Some e.1.signal else None) (enumerate_from n xs) ≡ []
none-from t fails owner [] n = refl
none-from t fails owner (x ∷ xs) n =
    let rest : filter_map (λ e. if (e.1.owner == owner) && t e.0 then Some e.1.signal else None) (enumerate_from (n + 1) xs) ≡ [] = none-from t fails owner xs (n + 1) in
    let off : (b c : Bool) → c ≡ false → (b && c) ≡ false = elim [ true ↦ λ c e. e | false ↦ λ c e. refl ] in
    ap (λ (b : Bool). cons_option (if b then Some x.signal else None) (filter_map (λ e. if (e.1.owner == owner) && t e.0 then Some e.1.signal else None) (enumerate_from (n + 1) xs)))
    (off (x.owner == owner) (t n) (fails n)) ∙ rest

-- ---- a word made anew

remade : (w u : ℕ → ℕ) (o : Option ℕ) (words : List ℕ) → ((p : ℕ) → p < length words → get_or words p 0 ≡ w p) → ((p : ℕ) → (o ≡ Some p → ⊥) → w p ≡ u p)
    → (p : ℕ) → p < length words → get_or (with_word o u words) p 0 ≡ u p
remade w u None words old same p inside = old p inside ∙ same p (λ e. cc e)
remade w u (Some o) words old same p inside =
    let go : (b : Bool) → (p == o) ≡ b → get_or (set words o (u o)) p 0 ≡ u p = elim [
      | true ↦ λ e. let at : p ≡ o = eqb-true p o e in
          subst (λ k. get_or (set words k (u k)) p 0 ≡ u p) at (get_or-set_same words p (u p) 0 inside)
      | false ↦ λ e. let apart : p ≢ o = other_number p o e in
          get_or-set_other words o p (u o) 0 apart ∙ old p inside ∙ same p (λ at. apart (sym (same_Some o p at)))
    ] in
    go (p == o) refl

pub count-kept : (o : Option ℕ) (u : ℕ → ℕ) (words : List ℕ) → length (with_word o u words) ≡ length words
count-kept None u words = refl
count-kept (Some p) u words = length-set words p (u p)

-- a partition's signals, of those of its services, its doorbell and those of its sources
abbrev united : List ℕ → Bool → List ℕ → ℕ
united services rang sources = bit_or (union_of services) (bit_or (if rang then PSA_DOORBELL else 0) (union_of sources))

keeps-word : (a b : InputsView) (words : List ℕ) (o : Option ℕ) → KeepsWords a words → length b.doorbells ≡ length a.doorbells
    → ((p : ℕ) → (o ≡ Some p → ⊥) → word_of a p ≡ word_of b p) → KeepsWords b (with_word o (word_of b) words)
keeps-word a b words o k as_long same =
    let counted = count-kept o (word_of b) words in
    record {
      counted = counted ∙ k.counted ∙ sym as_long;
      right = λ p inside. remade (word_of a) (word_of b) o words k.right same p (subst (λ n. p < n) counted inside);
    }

-- whether a message waits for one service changes
pub keeps-waiting : (a : InputsView) (words : List ℕ) (v : ℕ) (waits : Bool) → KeepsWords a words
    → KeepsWords (record a { waiting = set a.waiting v waits }) (with_word (owner_at a.services v) (word_of (record a { waiting = set a.waiting v waits })) words)
keeps-waiting a words v waits k =
    keeps-word a (record a { waiting = set a.waiting v waits }) words (owner_at a.services v) k refl
    (λ p apart. ap (λ (ys : List ℕ). united ys (get_or a.doorbells p false) (asserted (λ i. (get_or a.flags i no_flags).asserted) a.sources p))
    (same-else (λ i. get_or a.waiting i false) (λ i. get_or (set a.waiting v waits) i false) a.services v p
    (λ i other. sym (get_or-set_other a.waiting v i waits false other)) apart))

-- one doorbell changes
pub keeps-bells : (a : InputsView) (words : List ℕ) (v : ℕ) (b : Bool) → KeepsWords a words
    → KeepsWords (record a { doorbells = set a.doorbells v b }) (with_word (Some v) (word_of (record a { doorbells = set a.doorbells v b })) words)
keeps-bells a words v b k =
    keeps-word a (record a { doorbells = set a.doorbells v b }) words (Some v) k (length-set a.doorbells v b)
    (λ p apart. ap (λ (rang : Bool). united (asserted (λ i. get_or a.waiting i false) a.services p) rang (asserted (λ i. (get_or a.flags i no_flags).asserted) a.sources p))
    (sym (get_or-set_other a.doorbells v p b false (λ at. apart (ap (λ (n : ℕ). Some n) (sym at))))))

-- the flags of one source change
pub keeps-flags : (a : InputsView) (words : List ℕ) (v : ℕ) (f : SourceFlags) → KeepsWords a words
    → KeepsWords (record a { flags = set a.flags v f }) (with_word (owner_at a.sources v) (word_of (record a { flags = set a.flags v f })) words)
keeps-flags a words v f k =
    keeps-word a (record a { flags = set a.flags v f }) words (owner_at a.sources v) k refl
    (λ p apart. ap (λ (ys : List ℕ). united (asserted (λ i. get_or a.waiting i false) a.services p) (get_or a.doorbells p false) ys)
    (same-else (λ i. (get_or a.flags i no_flags).asserted) (λ i. (get_or (set a.flags v f) i no_flags).asserted) a.sources v p
    (λ i other. ap (λ (x : SourceFlags). x.asserted) (sym (get_or-set_other a.flags v i f no_flags other))) apart))

-- ---- the services for which a message waits

pub shows-same : (b : InputsView) (q r : QueuesView) → ShowsQueues b q → r.services ≡ q.services → AllWaitAsBefore q.messages r.messages → ShowsQueues b r
shows-same b q r k same all = record { owned = k.owned ∙ sym same; told = k.told ∙ sym same; right = λ v. k.right v ∙ sym (all v) }

pub shows-changed : (b : InputsView) (q r : QueuesView) (v : ℕ) (waits : Bool) → ShowsQueues b q → r.services ≡ q.services → OthersWaitAsBefore v q.messages r.messages
    → waits ≡ has_waiting r.messages v → (waits ≡ true → v < r.services) → ShowsQueues (record b { waiting = set b.waiting v waits }) r
shows-changed b q r v waits k same others is known = record {
  owned = k.owned ∙ sym same;
  told = length-set b.waiting v waits ∙ k.told ∙ sym same;
  right = λ w. at w (w == v) refl;
} where
  past : (x : Bool) → (x ≡ true → v < r.services) → length b.waiting ≤ v → get_or (set b.waiting v x) v false ≡ x
  past true low high = absurd (omega (arith, low refl, k.told, same))
  past false low high = get_or_past (set b.waiting v false) v false (omega (arith, length-set b.waiting v false))

  here : (x : Bool) → nat_lt v (length b.waiting) ≡ x → get_or (set b.waiting v waits) v false ≡ waits
  here true low = get_or-set_same b.waiting v waits false (grind (arith, nat_tests))
  here false high = past waits known (grind (arith, nat_tests))

  at : (w : ℕ) (x : Bool) → (w == v) ≡ x → get_or (set b.waiting v waits) w false ≡ has_waiting r.messages w
  at w true e =
      subst (λ (n : ℕ). get_or (set b.waiting v waits) n false ≡ has_waiting r.messages n) (sym (eqb-true w v e)) (here (nat_lt v (length b.waiting)) refl ∙ is)
  at w false e =
      let apart : w ≢ v = other_number w v e in
      get_or-set_other b.waiting v w waits false apart ∙ k.right w ∙ sym (others w apart)

-- ---- at the start

all-clear : (X : Type 0) (f : X → Bool) (n i : ℕ) (x d : X) → f x ≡ false → f d ≡ false → f (get_or (replicate n x) i d) ≡ false
all-clear X f n i x d e g =
    let as_long : length (replicate n x) ≡ n = length-replicate n x in
    let go : (b : Bool) → nat_lt i n ≡ b → f (get_or (replicate n x) i d) ≡ false = elim [
      | true ↦ λ low. ap f (get_or-replicate n i x d (grind (arith, nat_tests))) ∙ e
      | false ↦ λ high. ap f (get_or_past (replicate n x) i d (subst (λ k. k ≤ i) (sym as_long) (grind (arith, nat_tests)))) ∙ g
    ] in
    go (nat_lt i n) refl

pub unasserted : (xs : List Source) (i : ℕ) → (get_or (map first_flags xs) i no_flags).asserted ≡ false
unasserted [] i = refl
unasserted (x ∷ xs) zero = refl
unasserted (x ∷ xs) (suc i) = unasserted xs i

-- nothing asserts a signal: no message waits, no doorbell rang and no source is asserted
silent : (s : System) (p : ℕ) → word_of (opening_inputs s) p ≡ 0
silent s p =
    let b = opening_inputs s in
    let clear : (n i : ℕ) → get_or (replicate n false) i false ≡ false = λ n i. all-clear Bool (λ x. x) n i false false refl refl in
    let waiting = none-from (λ v. get_or b.waiting v false) (clear (length s.services)) p b.services 0 in
    let sources = none-from (λ i. (get_or b.flags i no_flags).asserted) (unasserted s.sources) p b.sources 0 in
    ap (λ (ys : List ℕ). united ys (get_or b.doorbells p false) (asserted (λ i. (get_or b.flags i no_flags).asserted) b.sources p)) waiting
    ∙ ap (λ (ys : List ℕ). united [] (get_or b.doorbells p false) ys) sources
    ∙ ap (λ (rang : Bool). united [] rang []) (clear (length s.partitions) p)

pub keeps-new : (s : System) → KeepsWords (opening_inputs s) (replicate (length s.partitions) 0)
keeps-new s = record {
  counted = length-replicate (length s.partitions) 0 ∙ sym (length-replicate (length s.partitions) false);
  right = λ p inside. get_or-replicate (length s.partitions) p 0 0 (subst (λ q. p < q) (length-replicate (length s.partitions) 0) inside) ∙ sym (silent s p);
}

-- ---- beyond the partitions

none-beyond : (X : Type 0) (owner signal : X → ℕ) (n p : ℕ) → n ≤ p → (t : ℕ → Bool) (xs : List X) (i : ℕ)
    → list_all (λ x. signal_fits n (owner x) (signal x)) xs ≡ true
    → filter_map (λ e. if (owner e.1 == p) && t e.0 then Some (signal e.1) else None) (enumerate_from i xs) ≡ []
none-beyond X owner signal n p past t [] i fits = refl
none-beyond X owner signal n p past t (x ∷ xs) i fits =
    let split = and_parts (signal_fits n (owner x) (signal x)) (list_all (λ y. signal_fits n (owner y) (signal y)) xs) fits in
    let low : nat_lt (owner x) n ≡ true = (and_parts (nat_lt (owner x) n) (is_signal_bit (signal x)) split.0).0 in
    let other : (owner x == p) ≡ false = grind (arith, nat_tests) in
    let rest : filter_map (λ e. if (owner e.1 == p) && t e.0 then Some (signal e.1) else None) (enumerate_from (i + 1) xs) ≡ [] = none-beyond X owner signal n p past t xs (i + 1) split.1 in
    ap (λ (b : Bool). cons_option (if b && t i then Some (signal x) else None) (filter_map (λ e. if (owner e.1 == p) && t e.0 then Some (signal e.1) else None) (enumerate_from (i + 1) xs))) other
    ∙ rest

-- no partition is there, so no signal is asserted
pub none-there : (d : TablesView) (s : System) (p : ℕ) → length d.doorbells ≤ p → MadeFor d s → 0 ≡ signals_of s (spm_of d) p
none-there d s p past made =
    let many : length d.doorbells ≡ length s.partitions = ap (λ (h : Shape). h.partitions) made in
    let beyond : length s.partitions ≤ p = subst (λ n. n ≤ p) many past in
    let services : service_signals s (spm_of d) p ≡ [] = none-beyond Service (λ v. v.owner) (λ v. v.signal) (length s.partitions) p beyond (has_undelivered (spm_of d)) s.services 0 (service_signals_hold s) in
    let sources : source_signals s (spm_of d) p ≡ [] = none-beyond Source (λ v. v.owner) (λ v. v.signal) (length s.partitions) p beyond (λ i. (get_or d.flags i no_flags).asserted) s.sources 0 (source_signals_hold s) in
    let bell : get_or d.doorbells p false ≡ false = get_or_past d.doorbells p false past in
    sym (ap (λ (ys : List ℕ). bit_or (union_of ys) (bit_or (doorbell_signal (spm_of d) p) (union_of (source_signals s (spm_of d) p)))) services
    ∙ ap (λ (ys : List ℕ). bit_or 0 (bit_or (doorbell_signal (spm_of d) p) (union_of ys))) sources
    ∙ ap (λ (b : Bool). bit_or 0 (bit_or (if b then PSA_DOORBELL else 0) 0)) bell)

-- what asserts the signals of tables
abbrev inputs_of : TablesView → List Bool → InputsView
inputs_of d waiting = record { services = d.services; sources = d.sources; waiting = waiting; doorbells = d.doorbells; flags = d.flags }

-- the stored word of a partition is what the machine asserts
pub stored : (d : TablesView) (s : System) (waiting : List Bool) (n word p : ℕ) → ShowsQueues (inputs_of d waiting) (record { messages = d.messages; services = n })
    → (p < length d.doorbells → word ≡ word_of (inputs_of d waiting) p) → (length d.doorbells ≤ p → word ≡ 0) → MadeFor d s → word ≡ signals_of s (spm_of d) p
stored d s waiting n word p shows there none made =
    let same : ◌≡◌ {A = ℕ → Bool} (λ v. get_or waiting v false) (λ v. has_waiting d.messages v) = λ j v. shows.right v j in
    let go : (b : Bool) → nat_lt p (length d.doorbells) ≡ b → word ≡ signals_of s (spm_of d) p = elim [
      | true ↦ λ low. there (grind (arith, nat_tests))
          ∙ ap (λ (q : ℕ → Bool). united (asserted q d.services p) (get_or d.doorbells p false) (asserted (λ i. (get_or d.flags i no_flags).asserted) d.sources p)) same
          ∙ word-of d s p made
      | false ↦ λ high.
          let past : length d.doorbells ≤ p = grind (arith, nat_tests) in
          none past ∙ none-there d s p past made
    ] in
    go (nat_lt p (length d.doorbells)) refl
