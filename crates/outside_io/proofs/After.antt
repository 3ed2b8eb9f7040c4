-- What a sink that gathers shows, by what its own sink shows.
use Rattle.std.proofs.Common.{◌≡◌, ℕ, ◌+◌, ◌-◌, ◌<◌, List, [], ◌++◌, Result, Ok, Err, take, drop, length, ap, ◌∙◌, sym, append_assoc, append-nil, arith, subst}
use Rattle.std.proofs.lemmas.List.{take-append-drop, length-drop, take_all, drop-drop}
use Rattle.outside_io.specs.Count.{Rose}
use Rattle.outside_io.specs.Sink.{SinkSeen, Takes, Took, Puts, Flushes}
use Rattle.outside_io.specs.Gathering.{behind, seen_through, waiting_in}
use Rattle.outside_io.specs.declared.gathering.Gathering.{Gathering}
use Rattle.outside_io.proofs.SinkSteps.{takes_then, took_then}

-- its sink took a front of what waits
front_after : (a b : SinkSeen) (w : List ℕ) (n : ℕ) → Takes a b (take n w) → Takes (behind a w) (behind b (drop n w)) []
front_after a b w n p = record {
  front = p.front;
  whole = append-nil (a.waiting ++ w) ∙ (ap (λ (s : List ℕ). a.waiting ++ s) (sym (take-append-drop n w)) ∙ (sym (append_assoc a.waiting (take n w) (drop n w)) ∙ (ap (λ (s : List ℕ). s ++ drop n w) p.whole ∙ append_assoc p.front b.waiting (drop n w))));
  adds = p.adds;
}

-- its sink took nothing
none_after : (a b : SinkSeen) (w : List ℕ) → Takes a b [] → Takes (behind a w) (behind b w) []
none_after a b w p = record {
  front = p.front;
  whole = append-nil (a.waiting ++ w) ∙ (ap (λ (s : List ℕ). s ++ w) (sym (append-nil a.waiting) ∙ p.whole) ∙ append_assoc p.front b.waiting w);
  adds = p.adds;
}

-- nothing waits behind its sink
through : (a b : SinkSeen) (x : List ℕ) → Takes a b x → Takes (behind a []) (behind b []) x
through a b x p = record {
  front = p.front;
  whole = ap (λ (s : List ℕ). s ++ x) (append-nil a.waiting) ∙ (p.whole ∙ ap (λ (s : List ℕ). p.front ++ s) (sym (append-nil b.waiting)));
  adds = p.adds;
}

drop_twice : (xs : List ℕ) (i n : ℕ) → drop n (drop i xs) ≡ drop (i + n) xs
drop_twice xs i n = drop-drop n i xs

-- one put more of what waits
pub hand_more : (o a b : SinkSeen) (held : List ℕ) (at n : ℕ) → Took o (behind a (drop at held)) [] → Took a b (take n (drop at held)) → Took o (behind b (drop (at + n) held)) []
hand_more o a b held at n p (q, s) =
    let front = front_after a b (drop at held) n q in
    took_then o (behind a (drop at held)) (behind b (drop (at + n) held)) [] [] p (subst (λ (w : List ℕ). Takes (behind a (drop at held)) (behind b w) []) (drop_twice held at n) front, s)

-- the put of what waits failed
pub hand_failed : (o a b : SinkSeen) (held : List ℕ) (at : ℕ) → at < length held → Took o (behind a (drop at held)) [] → Takes a b [] × Rose a.faults b.faults
    → Takes o (behind b (drop at held)) [] × ((0 < length (drop at held)) × Rose o.faults b.faults)
hand_failed o a b held at lt (p, s) (q, rose) =
    (takes_then o (behind a (drop at held)) (behind b (drop at held)) [] [] p (none_after a b (drop at held) q), (omega (arith, lt, length-drop {A = ℕ}), rw s at rose))

-- all was handed on, and a piece was gathered
pub gathered : (o a b : SinkSeen) (x : List ℕ) → Took o a [] → Takes a b x → b.faults ≡ a.faults → Took o b (take (length x) x)
gathered o a b x p q s = subst (λ (t : List ℕ). Took o b t) (sym (take_all (length x) x (omega arith))) (took_then o a b [] x p (q, s))

-- the same sink failed as often
pub same_faults : {S : Type 0} (seen : S → SinkSeen) (s t : S) → s ≡ t → (seen s).faults ≡ (seen t).faults
same_faults {S = S} seen s t e = ap (λ (x : S). (seen x).faults) e

-- nothing was gathered, and so all is handed on still
pub still : {S : Type 0} (seen : S → SinkSeen) (o : SinkSeen) (x y : Gathering S) → y ≡ x → Took o (seen_through seen x) [] × (waiting_in x ≡ []) → Took o (seen_through seen y) [] × (waiting_in y ≡ [])
still {S = S} seen o x y e p = subst (λ (z : Gathering S). Took o (seen_through seen z) [] × (waiting_in z ≡ [])) (sym e) p

put_at_once : {E : Type 0} (o a b : SinkSeen) (r : Result ℕ E) (x : List ℕ) → Took o (behind a []) [] → Puts a b r x → Puts o (behind b []) r x
put_at_once o a b (Ok n) x p (q, s) = took_then o (behind a []) (behind b []) [] (take n x) p (through a b (take n x) q, s)
put_at_once o a b (Err e) x (p, s) (q, rose) = (takes_then o (behind a []) (behind b []) [] [] p (through a b [] q), rw s at rose)

-- all was handed on, and a piece went to the sink itself
pub put_through : {E : Type 0} (o a b : SinkSeen) (w : List ℕ) (r : Result ℕ E) (x : List ℕ) → Took o (behind a w) [] × (w ≡ []) → Puts a b r x → Puts o (behind b w) r x
put_through o a b w r x (p, e) q =
    subst (λ (v : List ℕ). Puts o (behind b v) r x) (sym e) (put_at_once o a b r x (subst (λ (v : List ℕ). Took o (behind a v) []) e p) q)

flush_at_once : {T E : Type 0} (o a b : SinkSeen) (r : Result T E) → Took o (behind a []) [] → Flushes a b r → Flushes o (behind b []) r
flush_at_once o a b (Ok u) p ((q, s), none) = (took_then o (behind a []) (behind b []) [] [] p (through a b [] q, s), append-nil b.waiting ∙ none)
flush_at_once o a b (Err e) (p, s) (q, (some, rose)) =
    (takes_then o (behind a []) (behind b []) [] [] p (through a b [] q), (subst (λ (w : List ℕ). 0 < length w) (sym (append-nil b.waiting)) some, rw s at rose))

-- all was handed on, and its sink was flushed
pub flush_through : {T E : Type 0} (o a b : SinkSeen) (w : List ℕ) (r : Result T E) → Took o (behind a w) [] × (w ≡ []) → Flushes a b r → Flushes o (behind b w) r
flush_through o a b w r (p, e) q =
    subst (λ (v : List ℕ). Flushes o (behind b v) r) (sym e) (flush_at_once o a b r (subst (λ (v : List ℕ). Took o (behind a v) []) e p) q)
