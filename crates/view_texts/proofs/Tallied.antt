-- What is counted, one entry further.
use Rattle.std.proofs.Common.{arith, ap, ap₂, ⊎_elim, ℕ, ◌≡◌, ◌≢◌, ◌<◌, ◌≤◌, ◌+◌, ◌*◌, ◌-◌, ◌^◌, ◌==◌, Bool, true, false, List, get_or, length, max, min, replicate, take, refl, subst, sym, ◌∙◌}
use Rattle.std.specs.Prelude.{count_by, IfSome, IsSomeAnd, None, Option, Some}
use Rattle.std.proofs.Math.ListN.{get_or-replicate, length-replicate}
use Rattle.std.proofs.lemmas.Bool.{and_from, and_parts, cases_lt, eq-eqb, eqb-false, eqb-true}
use Rattle.std.proofs.lemmas.Grind.{get_or-set_at}
use Rattle.std.proofs.lemmas.List.{get_or-set_other, length-set, length-take-le}
use Rattle.std.proofs.lemmas.List.Sums.{count_by-le-length, count_by_more_no, count_by_more_yes}
use Rattle.ffm_model.specs.declared.system.System.{System}
use Rattle.ffm_model.specs.declared.machine.Call.{Call}
use Rattle.ffm_model.specs.declared.machine.Call.TheVariants as call
use Rattle.ffm_model.specs.declared.machine.Entry.{Entry}
use Rattle.ffm_model.specs.Actors.{actor_count}
use Rattle.ffm_model.specs.Memory.{ByteMap}
use Rattle.ffm_model.specs.State.{SpmState, State, opening}
use Rattle.ffm_model.specs.Step.{after}
use Rattle.view_texts.specs.Counted.{AreCounts, IsMost, is_call_of, is_of, one_more, connection_count, message_count}
use Rattle.view_texts.specs.declared.calls.TheConstants.{CALL_COUNT}
use Rattle.view_texts.specs.Calls.{place_of}

-- ---- a number of a table

-- the number at the place that one more was counted at
more_at : (xs : List ℕ) (i j : ℕ) → j ≡ i → i < length xs → get_or xs i 0 < 2 ^ 31 → get_or (one_more xs i) j 0 ≡ get_or xs j 0 + 1
more_at xs i j same there few =
    let stored : get_or (one_more xs i) j 0 ≡ min (get_or xs i 0 + 1) (2 ^ 32 - 1) = get_or-set_at xs i j (min (get_or xs i 0 + 1) (2 ^ 32 - 1)) 0 same there in
    let one : get_or xs j 0 ≡ get_or xs i 0 = ap (λ k. get_or xs k 0) same in
    omega (arith, stored, one)

-- the numbers at other places
same_at : (xs : List ℕ) (i j : ℕ) → j ≢ i → get_or (one_more xs i) j 0 ≡ get_or xs j 0
same_at xs i j other = get_or-set_other xs i j (min (get_or xs i 0 + 1) (2 ^ 32 - 1)) 0 other

-- a number that counts the entries with a property counts them one further
count_more : (p : Entry → Bool) (xs : List ℕ) (es : List Entry) (k i j : ℕ) (d : Entry) → k < length es → length es < 2 ^ 31 → j < length xs
    → (p (get_or es k d) ≡ true → j ≡ i) → (p (get_or es k d) ≡ false → j ≢ i) → get_or xs j 0 ≡ count_by p (take k es) → get_or (one_more xs i) j 0 ≡ count_by p (take (k + 1) es)
count_more p xs es k i j d below few there at other so = by (p (get_or es k d)) refl where
  by : (b : Bool) → p (get_or es k d) ≡ b → get_or (one_more xs i) j 0 ≡ count_by p (take (k + 1) es)
  by true is =
      let same : j ≡ i = at is in
      let long : length (take k es) ≡ k = length-take-le k es (omega (arith, below)) in
      let most : count_by p (take k es) ≤ length (take k es) = count_by-le-length p (take k es) in
      let one : get_or xs j 0 ≡ get_or xs i 0 = ap (λ n. get_or xs n 0) same in
      more_at xs i j same (omega (arith, there, same)) (omega (arith, one, so, most, long, below, few)) ∙ ap (λ n. n + 1) so ∙ sym (count_by_more_yes p es k d below is)
  by false is = same_at xs i j (other is) ∙ so ∙ sym (count_by_more_no p es k d below is)

-- ---- the table with a row of calls for each actor

-- a place of a row is one of the table's
in_row : (a n call : ℕ) → a < n → call < CALL_COUNT → a * CALL_COUNT + call < n * CALL_COUNT
in_row a n call there among = omega (arith, there, among)

-- two places that are one are in one row, at one call
one_place : (a b x y : ℕ) → x < CALL_COUNT → y < CALL_COUNT → a * CALL_COUNT + x ≡ b * CALL_COUNT + y → (a ≡ b) × (x ≡ y)
one_place a b x y few less same = (omega (arith, few, less, same), omega (arith, few, less, same))

-- each call has a place
place_within : (c : Call) → place_of c < CALL_COUNT
place_within call.FrameworkVersion = omega arith
place_within (call.Version x0) = omega arith
place_within (call.Connect x0 x1) = omega arith
place_within (call.Invoke x0 x1 x2 x3 x4 x5) = omega arith
place_within (call.Close x0) = omega arith
place_within (call.Wait x0 x1) = omega arith
place_within (call.Get x0 x1) = omega arith
place_within (call.SetRhandle x0 x1) = omega arith
place_within (call.Read x0 x1 x2 x3) = omega arith
place_within (call.Skip x0 x1 x2) = omega arith
place_within (call.Write x0 x1 x2 x3) = omega arith
place_within (call.Reply x0 x1) = omega arith
place_within (call.Notify x0) = omega arith
place_within call.Clear = omega arith
place_within (call.Eoi x0) = omega arith
place_within (call.IrqEnable x0) = omega arith
place_within (call.IrqDisable x0) = omega arith
place_within (call.ResetSignal x0) = omega arith
place_within call.Panic = omega arith
place_within (call.Load x0 x1) = omega arith
place_within (call.Store x0 x1 x2) = omega arith
place_within (call.Raise x0) = omega arith
place_within (call.Fire x0 x1) = omega arith
place_within (call.Stop x0) = omega arith
place_within call.Resume = omega arith

true_is_not_false : true ≡ false → ⊥
true_is_not_false same = cc

-- ---- the most of a run

-- the opening has none
pub most_none : (size : SpmState → ℕ) (s : System) (m : ByteMap) (es : List Entry) → size (opening s m).spm ≡ 0 → IsMost size s m es 0 0
most_none size s m es none = record {
  none_more = λ k few.
      let first : 0 ≡ k = omega (arith, few) in
      subst (λ n. IfSome (after s m (take n es)) (λ st. size st.spm ≤ 0)) first (omega (arith, none));
  reached = (0, omega arith, none);
}

weaker : (size : SpmState → ℕ) (o : Option State) (n new : ℕ) → n ≤ new → IfSome o (λ st. size st.spm ≤ n) → IfSome o (λ st. size st.spm ≤ new)
weaker size (Some st) n new more few = omega (arith, more, few)
weaker size None n new more few = tt

the_same : (size : SpmState → ℕ) (o : Option State) (n new : ℕ) → n ≡ new → IsSomeAnd o (λ st. size st.spm ≡ n) → IsSomeAnd o (λ st. size st.spm ≡ new)
the_same size (Some st) n new same is = is ∙ same
the_same size None n new same is = absurd is

-- one entry further
pub most_more : (size : SpmState → ℕ) (s : System) (m : ByteMap) (es : List Entry) (k n new : ℕ) (st : State) → after s m (take (k + 1) es) ≡ Some st
    → new ≡ max n (size st.spm) → IsMost size s m es k n → IsMost size s m es (k + 1) new
most_more size s m es k n new st next is most = record { none_more = none_more; reached = reached } where
  no_less : n ≤ new
  no_less = omega (arith, is)

  here : (j : ℕ) → k + 1 ≡ j → IfSome (after s m (take j es)) (λ x. size x.spm ≤ new)
  here j same = subst (λ i. IfSome (after s m (take i es)) (λ x. size x.spm ≤ new)) same
      (subst (λ o. IfSome o (λ x. size x.spm ≤ new)) (sym next) (omega (arith, is)))

  none_more : (j : ℕ) → j ≤ k + 1 → IfSome (after s m (take j es)) (λ x. size x.spm ≤ new)
  none_more j few = ⊎_elim
      (λ (before : j < k + 1). weaker size (after s m (take j es)) n new no_less (most.none_more j (omega (arith, before))))
      (λ (last : k + 1 ≤ j). here j (omega (arith, last, few)))
      (cases_lt j (k + 1))

  reached : (j : ℕ) × (j ≤ k + 1) × IsSomeAnd (after s m (take j es)) (λ x. size x.spm ≡ new)
  reached = ⊎_elim
      (λ (greater : n < size st.spm). (k + 1, omega arith, subst (λ o. IsSomeAnd o (λ x. size x.spm ≡ new)) (sym next) (omega (arith, is, greater))))
      (λ (no_greater : size st.spm ≤ n). (most.reached.0, omega (arith, most.reached.1), the_same size (after s m (take most.reached.0 es)) n new (omega (arith, is, no_greater)) most.reached.2))
      (cases_lt n (size st.spm))

-- ---- all counts

-- before the first entry
pub counts_none : (s : System) (m : ByteMap) (es : List Entry) (entries calls : List ℕ) (connections messages : ℕ)
    → entries ≡ replicate (actor_count s) 0 → calls ≡ replicate (actor_count s * CALL_COUNT) 0 → connections ≡ 0 → messages ≡ 0 → AreCounts s m es 0 entries calls connections messages
counts_none s m es entries calls connections messages es_is calls_is c_is m_is = record {
  entries_len = ap length es_is ∙ length-replicate (actor_count s) 0;
  calls_len = ap length calls_is ∙ length-replicate (actor_count s * CALL_COUNT) 0;
  by_actor = λ a there. ap (λ xs. get_or xs a 0) es_is ∙ get_or-replicate (actor_count s) a 0 0 there;
  by_call = λ a call there among.
      ap (λ xs. get_or xs (a * CALL_COUNT + call) 0) calls_is ∙ get_or-replicate (actor_count s * CALL_COUNT) (a * CALL_COUNT + call) 0 0 (in_row a (actor_count s) call there among);
  of_connections = subst (λ n. IsMost connection_count s m es 0 n) (sym c_is) (most_none connection_count s m es refl);
  of_messages = subst (λ n. IsMost message_count s m es 0 n) (sym m_is) (most_none message_count s m es refl);
}

-- one entry further, after which the run has this state
pub counts_more : (s : System) (m : ByteMap) (es : List Entry) (k : ℕ) (d : Entry) (entries new_entries calls new_calls : List ℕ) (connections new_connections messages new_messages : ℕ) (st : State)
    → k < length es → length es < 2 ^ 31 → after s m (take (k + 1) es) ≡ Some st
    → new_entries ≡ one_more entries (get_or es k d).actor.0
    → new_calls ≡ one_more calls ((get_or es k d).actor.0 * CALL_COUNT + place_of (get_or es k d).call)
    → new_connections ≡ max connections (connection_count st.spm) → new_messages ≡ max messages (message_count st.spm)
    → AreCounts s m es k entries calls connections messages → AreCounts s m es (k + 1) new_entries new_calls new_connections new_messages
counts_more s m es k d entries new_entries calls new_calls connections new_connections messages new_messages st below few next entries_is calls_is c_is m_is it = record {
  entries_len = ap length entries_is ∙ length-set entries e.actor.0 _ ∙ it.entries_len;
  calls_len = ap length calls_is ∙ length-set calls _ _ ∙ it.calls_len;
  by_actor = λ a there. ap (λ xs. get_or xs a 0) entries_is
      ∙ count_more (is_of a) entries es k e.actor.0 a d below few (omega (arith, there, it.entries_len))
      (λ held. sym (eqb-true e.actor.0 a held)) (λ failed same. eqb-false e.actor.0 a failed (sym same)) (it.by_actor a there);
  by_call = λ a call there among. ap (λ xs. get_or xs (a * CALL_COUNT + call) 0) calls_is
      ∙ count_more (is_call_of a call) calls es k (e.actor.0 * CALL_COUNT + place_of e.call) (a * CALL_COUNT + call) d below few
      (subst (λ n. a * CALL_COUNT + call < n) (sym it.calls_len) (in_row a (actor_count s) call there among))
      (λ held. row_of a call held) (λ failed same. absurd (no_row a call among failed same)) (it.by_call a call there among);
  of_connections = most_more connection_count s m es k connections new_connections st next c_is it.of_connections;
  of_messages = most_more message_count s m es k messages new_messages st next m_is it.of_messages;
} where
  e : Entry
  e = get_or es k d

  row_of : (a call : ℕ) → is_call_of a call e ≡ true → a * CALL_COUNT + call ≡ e.actor.0 * CALL_COUNT + place_of e.call
  row_of a call held =
      let parts = and_parts (e.actor.0 == a) (place_of e.call == call) held in
      ap₂ (λ x y. x * CALL_COUNT + y) (sym (eqb-true e.actor.0 a parts.0)) (sym (eqb-true (place_of e.call) call parts.1))

  no_row : (a call : ℕ) → call < CALL_COUNT → is_call_of a call e ≡ false → a * CALL_COUNT + call ≡ e.actor.0 * CALL_COUNT + place_of e.call → ⊥
  no_row a call among failed same =
      let both = one_place a e.actor.0 call (place_of e.call) among (place_within e.call) same in
      true_is_not_false (sym (and_from (e.actor.0 == a) (place_of e.call == call) (eq-eqb e.actor.0 a (sym both.0)) (eq-eqb (place_of e.call) call (sym both.1))) ∙ failed)
