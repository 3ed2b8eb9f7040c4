-- All queues after an index joins one, or leaves it.
use Rattle.std.proofs.Common.{ℕ, zero, suc, ◌≡◌, ◌≢◌, ◌<◌, ◌≤◌, ◌==◌, Bool, true, false, cond, List, [], ◌∷◌, ◌++◌, length, set, arith, ◌∙◌, ap, sym, refl, subst}
use Rattle.std.specs.Prelude.{Option, Some, None, is_none, ◌⊎◌}
use Rattle.std.proofs.Common.{inl, inr}
use Rattle.std.proofs.Math.ListN.{length-set}
use Rattle.std.proofs.lemmas.List.{get_or-set_same, get_or-set_other}
use Rattle.std.proofs.lemmas.Bool.{eqb-true}
use Rattle.std.proofs.lemmas.Option.{same_Some, none-some}
use Rattle.object_pools.proofs.Orders.{times}
use Rattle.spm_tables.specs.declared.links.Link.{Link}
use Rattle.spm_tables.specs.declared.links.Ends.{Ends}
use Rattle.spm_tables.specs.Queues.{first_of, last_of, Threaded, no_link, no_ends, link_at, ends_at, AreQueues, with_after, with_before, joined, unlinked, joined_ends, unlinked_ends}
use Rattle.spm_tables.proofs.QueueLemmas.{out, out-none, frame, last-in, push, remove, next-in, prior-in, last-end, last-else, first-start, first-else}
use Rattle.object_pools.proofs.Updates.{at_each}

-- an index stands once in one queue, and has a link
pub record Apart (q : ℕ → List ℕ) (size : ℕ) : Type 0 where
  pub once : (v i : ℕ) → times i (q v) ≤ 1
  pub one : (v w i : ℕ) → 1 ≤ times i (q v) → 1 ≤ times i (q w) → v ≡ w
  pub below : (v i : ℕ) → 1 ≤ times i (q v) → i < size

-- ---- one link is written

before-set : (ls : List Link) (m k : ℕ) (x : Link) → x.before ≡ (link_at ls m).before → (link_at (set ls m x) k).before ≡ (link_at ls k).before
before-set (y ∷ ys) zero zero x e = e
before-set (y ∷ ys) (suc m) (suc k) x e = before-set ys m k x e
before-set _ _ _ x e = refl

after-set : (ls : List Link) (m k : ℕ) (x : Link) → x.after ≡ (link_at ls m).after → (link_at (set ls m x) k).after ≡ (link_at ls k).after
after-set (y ∷ ys) zero zero x e = e
after-set (y ∷ ys) (suc m) (suc k) x e = after-set ys m k x e
after-set _ _ _ x e = refl

after-kept : (o b : Option ℕ) (ls : List Link) (k : ℕ) → (link_at (with_before o b ls) k).after ≡ (link_at ls k).after
after-kept None b ls k = refl
after-kept (Some m) b ls k = after-set ls m k (record (link_at ls m) { before = b }) refl

before-kept : (o a : Option ℕ) (ls : List Link) (k : ℕ) → (link_at (with_after o a ls) k).before ≡ (link_at ls k).before
before-kept None a ls k = refl
before-kept (Some m) a ls k = before-set ls m k (record (link_at ls m) { after = a }) refl

after-else : (o a : Option ℕ) (ls : List Link) (k : ℕ) → (o ≡ Some k → ⊥) → (link_at (with_after o a ls) k).after ≡ (link_at ls k).after
after-else None a ls k apart = refl
after-else (Some m) a ls k apart = ap (λ (l : Link). l.after) (get_or-set_other ls m k (record (link_at ls m) { after = a }) no_link (λ e. apart (ap (λ (n : ℕ). Some n) (sym e))))

before-else : (o b : Option ℕ) (ls : List Link) (k : ℕ) → (o ≡ Some k → ⊥) → (link_at (with_before o b ls) k).before ≡ (link_at ls k).before
before-else None b ls k apart = refl
before-else (Some m) b ls k apart = ap (λ (l : Link). l.before) (get_or-set_other ls m k (record (link_at ls m) { before = b }) no_link (λ e. apart (ap (λ (n : ℕ). Some n) (sym e))))

after-here : (o a : Option ℕ) (ls : List Link) (k : ℕ) → o ≡ Some k → k < length ls → (link_at (with_after o a ls) k).after ≡ a
after-here None a ls k e inside = absurd (none-some k e)
after-here (Some m) a ls k e inside =
    let same : m ≡ k = same_Some m k e in
    subst (λ n. (link_at (with_after (Some n) a ls) k).after ≡ a) (sym same) (ap (λ (l : Link). l.after) (get_or-set_same ls k (record (link_at ls k) { after = a }) no_link inside))

before-here : (o b : Option ℕ) (ls : List Link) (k : ℕ) → o ≡ Some k → k < length ls → (link_at (with_before o b ls) k).before ≡ b
before-here None b ls k e inside = absurd (none-some k e)
before-here (Some m) b ls k e inside =
    let same : m ≡ k = same_Some m k e in
    subst (λ n. (link_at (with_before (Some n) b ls) k).before ≡ b) (sym same) (ap (λ (l : Link). l.before) (get_or-set_same ls k (record (link_at ls k) { before = b }) no_link inside))

length-after : (o a : Option ℕ) (ls : List Link) → length (with_after o a ls) ≡ length ls
length-after None a ls = refl
length-after (Some m) a ls = length-set ls m (record (link_at ls m) { after = a })

length-before : (o b : Option ℕ) (ls : List Link) → length (with_before o b ls) ≡ length ls
length-before None b ls = refl
length-before (Some m) b ls = length-set ls m (record (link_at ls m) { before = b })

pub length-joined : (ls : List Link) (last : Option ℕ) (j : ℕ) → length (joined ls last j) ≡ length ls
length-joined ls last j = length-after last (Some j) (set ls j (record { before = last; after = None })) ∙ length-set ls j (record { before = last; after = None })

pub length-unlinked : (ls : List Link) (link : Link) → length (unlinked ls link) ≡ length ls
length-unlinked ls link = length-before link.after link.before (with_after link.before link.after ls) ∙ length-after link.before link.after ls

in_last : (q : List ℕ) (k : ℕ) → last_of None q ≡ Some k → 1 ≤ times k q
in_last [] k e = absurd (none-some k e)
in_last (x ∷ q) k e = last-in x k q e

last-push : (p : Option ℕ) (q : List ℕ) (j : ℕ) → last_of p (q ++ j ∷ []) ≡ Some j
last-push p [] j = refl
last-push p (x ∷ q) j = last-push (Some x) q j

first-push : (q : List ℕ) (j : ℕ) (f : Option ℕ) → f ≡ first_of q → cond (is_none f) (Some j) f ≡ first_of (q ++ j ∷ [])
first-push [] j f e = ap (λ (o : Option ℕ). cond (is_none o) (Some j) o) e
first-push (x ∷ q) j f e = ap (λ (o : Option ℕ). cond (is_none o) (Some j) o) e

-- ---- an index joins a queue

pub queues-join : (ls : List Link) (es : List Ends) (q r : ℕ → List ℕ) (s j : ℕ) → AreQueues ls es q → Apart q (length ls) → s < length es → j < length ls → ((v : ℕ) → times j (q v) ≡ 0)
    → r s ≡ q s ++ j ∷ [] → ((v : ℕ) → v ≢ s → r v ≡ q v) → AreQueues (joined ls (ends_at es s).last j) (set es s (joined_ends (ends_at es s) j)) r
queues-join ls es q r s j a apart inside below absent here others =
    let is_last : (ends_at es s).last ≡ last_of None (q s) = a.last s inside in
    let not_j : (k v : ℕ) → 1 ≤ times k (q v) → k ≢ j = λ k v h e. omega (arith, absent v, ap (λ n. times n (q v)) e) in
    let old_link : (k v : ℕ) → 1 ≤ times k (q v) → link_at (set ls j (record { before = (ends_at es s).last; after = None })) k ≡ link_at ls k =
    λ k v h. get_or-set_other ls j k (record { before = (ends_at es s).last; after = None }) no_link (not_j k v h) in
    let j_link : link_at (set ls j (record { before = (ends_at es s).last; after = None })) j ≡ record { before = (ends_at es s).last; after = None } =
    get_or-set_same ls j (record { before = (ends_at es s).last; after = None }) no_link below in
    let in_queue : (k : ℕ) → (ends_at es s).last ≡ Some k → 1 ≤ times k (q s) = λ k e. in_last (q s) k (sym is_last ∙ e) in
    let afters : (k v : ℕ) → 1 ≤ times k (q v) → ((ends_at es s).last ≡ Some k → ⊥) → (link_at (joined ls (ends_at es s).last j) k).after ≡ (link_at ls k).after =
    λ k v h e. after-else (ends_at es s).last (Some j) (set ls j (record { before = (ends_at es s).last; after = None })) k e ∙ ap (λ (l : Link). l.after) (old_link k v h) in
    let befores : (k v : ℕ) → 1 ≤ times k (q v) → (link_at (joined ls (ends_at es s).last j) k).before ≡ (link_at ls k).before =
    λ k v h. before-kept (ends_at es s).last (Some j) (set ls j (record { before = (ends_at es s).last; after = None })) k ∙ ap (λ (l : Link). l.before) (old_link k v h) in
    record {
      first = at_each (λ v. v < length (set es s (joined_ends (ends_at es s) j)) → (ends_at (set es s (joined_ends (ends_at es s) j)) v).first ≡ first_of (r v)) s
          (λ h. ap (λ (e : Ends). e.first) (get_or-set_same es s (joined_ends (ends_at es s) j) no_ends inside) ∙ first-push (q s) j (ends_at es s).first (a.first s inside) ∙ ap first_of (sym here))
          (λ v ne h. ap (λ (e : Ends). e.first) (get_or-set_other es s v (joined_ends (ends_at es s) j) no_ends ne) ∙ a.first v (omega (arith, length-set es s (joined_ends (ends_at es s) j))) ∙ ap first_of (sym (others v ne)));
      last = at_each (λ v. v < length (set es s (joined_ends (ends_at es s) j)) → (ends_at (set es s (joined_ends (ends_at es s) j)) v).last ≡ last_of None (r v)) s
          (λ h. ap (λ (e : Ends). e.last) (get_or-set_same es s (joined_ends (ends_at es s) j) no_ends inside) ∙ sym (last-push None (q s) j) ∙ ap (last_of None) (sym here))
          (λ v ne h. ap (λ (e : Ends). e.last) (get_or-set_other es s v (joined_ends (ends_at es s) j) no_ends ne) ∙ a.last v (omega (arith, length-set es s (joined_ends (ends_at es s) j))) ∙ ap (last_of None) (sym (others v ne)));
      threaded = at_each (λ v. v < length (set es s (joined_ends (ends_at es s) j)) → Threaded (λ k. (link_at (joined ls (ends_at es s).last j) k).after) (λ k. (link_at (joined ls (ends_at es s).last j) k).before) None (r v)) s
          (λ h. subst (Threaded (λ k. (link_at (joined ls (ends_at es s).last j) k).after) (λ k. (link_at (joined ls (ends_at es s).last j) k).before) None) (sym here)
          (push (λ k. (link_at ls k).after) (λ k. (link_at ls k).before) (λ k. (link_at (joined ls (ends_at es s).last j) k).after) (λ k. (link_at (joined ls (ends_at es s).last j) k).before) j None (q s)
          (record { once = apart.once s })
          (record {
            last = λ k i e. after-here (ends_at es s).last (Some j) (set ls j (record { before = (ends_at es s).last; after = None })) k (is_last ∙ e)
                (omega (arith, apart.below s k i, length-set ls j (record { before = (ends_at es s).last; after = None })));
            after = λ k i e. afters k s i (λ f. e (sym is_last ∙ f));
            before = λ k i. befores k s i;
            new_after = after-else (ends_at es s).last (Some j) (set ls j (record { before = (ends_at es s).last; after = None })) j (λ e. not_j j s (in_queue j e) refl) ∙ ap (λ (l : Link). l.after) j_link;
            new_before = before-kept (ends_at es s).last (Some j) (set ls j (record { before = (ends_at es s).last; after = None })) j ∙ ap (λ (l : Link). l.before) j_link ∙ is_last;
          })
          (a.threaded s inside)))
          (λ v ne h. subst (Threaded (λ k. (link_at (joined ls (ends_at es s).last j) k).after) (λ k. (link_at (joined ls (ends_at es s).last j) k).before) None) (sym (others v ne))
          (frame (λ k. (link_at ls k).after) (λ k. (link_at ls k).before) (λ k. (link_at (joined ls (ends_at es s).last j) k).after) (λ k. (link_at (joined ls (ends_at es s).last j) k).before) None (q v)
          (λ k i. afters k v i (λ e. ne (apart.one v s k i (in_queue k e))))
          (λ k i. befores k v i)
          (a.threaded v (omega (arith, length-set es s (joined_ends (ends_at es s) j))))));
    }

-- ---- an index leaves its queue

pub queues-unlink : (ls : List Link) (es : List Ends) (q r : ℕ → List ℕ) (s j : ℕ) → AreQueues ls es q → Apart q (length ls) → s < length es → 1 ≤ times j (q s)
    → ((v : ℕ) → r v ≡ out j (q v)) → AreQueues (unlinked ls (link_at ls j)) (set es s (unlinked_ends (ends_at es s) (link_at ls j))) r
queues-unlink ls es q r s j a apart inside member left =
    let t = a.threaded s inside in
    let others : (v : ℕ) → v ≢ s → r v ≡ q v = λ v ne. left v ∙ out-none j (q v) (absent v ne) in
    let next_of : (k : ℕ) → (link_at ls j).after ≡ Some k → 1 ≤ times k (q s) =
    λ k e. next-in (λ i. (link_at ls i).after) (λ i. (link_at ls i).before) j None (q s) k t member e in
    let prior_of : (k : ℕ) → (link_at ls j).before ≡ Some k → 1 ≤ times k (q s) =
    λ k e. not_first k (prior-in (λ i. (link_at ls i).after) (λ i. (link_at ls i).before) j None (q s) k t member e) in
    let afters : (k : ℕ) → ((link_at ls j).before ≡ Some k → ⊥) → (link_at (unlinked ls (link_at ls j)) k).after ≡ (link_at ls k).after =
    λ k e. after-kept (link_at ls j).after (link_at ls j).before (with_after (link_at ls j).before (link_at ls j).after ls) k ∙ after-else (link_at ls j).before (link_at ls j).after ls k e in
    let befores : (k : ℕ) → ((link_at ls j).after ≡ Some k → ⊥) → (link_at (unlinked ls (link_at ls j)) k).before ≡ (link_at ls k).before =
    λ k e. before-else (link_at ls j).after (link_at ls j).before (with_after (link_at ls j).before (link_at ls j).after ls) k e ∙ before-kept (link_at ls j).before (link_at ls j).after ls k in
    record {
      first = at_each (λ v. v < length (set es s (unlinked_ends (ends_at es s) (link_at ls j))) → (ends_at (set es s (unlinked_ends (ends_at es s) (link_at ls j))) v).first ≡ first_of (r v)) s
          (λ h. ap (λ (e : Ends). e.first) (get_or-set_same es s (unlinked_ends (ends_at es s) (link_at ls j)) no_ends inside) ∙ new_first (link_at ls j).before refl ∙ ap first_of (sym (left s)))
          (λ v ne h. ap (λ (e : Ends). e.first) (get_or-set_other es s v (unlinked_ends (ends_at es s) (link_at ls j)) no_ends ne) ∙ a.first v (omega (arith, length-set es s (unlinked_ends (ends_at es s) (link_at ls j)))) ∙ ap first_of (sym (others v ne)));
      last = at_each (λ v. v < length (set es s (unlinked_ends (ends_at es s) (link_at ls j))) → (ends_at (set es s (unlinked_ends (ends_at es s) (link_at ls j))) v).last ≡ last_of None (r v)) s
          (λ h. ap (λ (e : Ends). e.last) (get_or-set_same es s (unlinked_ends (ends_at es s) (link_at ls j)) no_ends inside) ∙ new_last (link_at ls j).after refl ∙ ap (last_of None) (sym (left s)))
          (λ v ne h. ap (λ (e : Ends). e.last) (get_or-set_other es s v (unlinked_ends (ends_at es s) (link_at ls j)) no_ends ne) ∙ a.last v (omega (arith, length-set es s (unlinked_ends (ends_at es s) (link_at ls j)))) ∙ ap (last_of None) (sym (others v ne)));
      threaded = at_each (λ v. v < length (set es s (unlinked_ends (ends_at es s) (link_at ls j))) → Threaded (λ k. (link_at (unlinked ls (link_at ls j)) k).after) (λ k. (link_at (unlinked ls (link_at ls j)) k).before) None (r v)) s
          (λ h. subst (Threaded (λ k. (link_at (unlinked ls (link_at ls j)) k).after) (λ k. (link_at (unlinked ls (link_at ls j)) k).before) None) (sym (left s))
          (remove (λ i. (link_at ls i).after) (λ i. (link_at ls i).before) j (λ k. (link_at (unlinked ls (link_at ls j)) k).after) (λ k. (link_at (unlinked ls (link_at ls j)) k).before) None (q s)
          (record {
            prior = λ k e. after-kept (link_at ls j).after (link_at ls j).before (with_after (link_at ls j).before (link_at ls j).after ls) k ∙ after-here (link_at ls j).before (link_at ls j).after ls k e (apart.below s k (prior_of k e));
            after = afters;
            next = λ k e. before-here (link_at ls j).after (link_at ls j).before (with_after (link_at ls j).before (link_at ls j).after ls) k e
                (omega (arith, apart.below s k (next_of k e), length-after (link_at ls j).before (link_at ls j).after ls));
            before = befores;
          })
          (record { once = apart.once s }) (λ k e. absurd (none-some k e)) member t))
          (λ v ne h. subst (Threaded (λ k. (link_at (unlinked ls (link_at ls j)) k).after) (λ k. (link_at (unlinked ls (link_at ls j)) k).before) None) (sym (others v ne))
          (frame (λ i. (link_at ls i).after) (λ i. (link_at ls i).before) (λ k. (link_at (unlinked ls (link_at ls j)) k).after) (λ k. (link_at (unlinked ls (link_at ls j)) k).before) None (q v)
          (λ k i. afters k (λ e. ne (apart.one v s k i (prior_of k e))))
          (λ k i. befores k (λ e. ne (apart.one v s k i (next_of k e))))
          (a.threaded v (omega (arith, length-set es s (unlinked_ends (ends_at es s) (link_at ls j)))))));
    } where
      absent : (v : ℕ) → v ≢ s → times j (q v) ≡ 0
      absent v ne =
          let go : (b : Bool) → (times j (q v) == 0) ≡ b → times j (q v) ≡ 0 =
          elim [ true ↦ λ e. eqb-true (times j (q v)) 0 e | false ↦ λ e. absurd (ne (apart.one v s j (some_times (times j (q v)) e) member)) ] in
          go (times j (q v) == 0) refl where
            some_times : (n : ℕ) → (n == 0) ≡ false → 1 ≤ n
            some_times n e = grind arith

      not_first : (k : ℕ) → (None ≡ Some k) ⊎ (1 ≤ times k (q s)) → 1 ≤ times k (q s)
      not_first k (inl e) = absurd (none-some k e)
      not_first k (inr h) = h

      new_first : (o : Option ℕ) → (link_at ls j).before ≡ o → cond (is_none (link_at ls j).before) (link_at ls j).after (ends_at es s).first ≡ first_of (out j (q s))
      new_first None e =
          ap (λ (o : Option ℕ). cond (is_none o) (link_at ls j).after (ends_at es s).first) e
          ∙ sym (first-start (λ i. (link_at ls i).after) (λ i. (link_at ls i).before) j (q s) (record { once = apart.once s }) (a.threaded s inside) member e)
      new_first (Some k) e =
          ap (λ (o : Option ℕ). cond (is_none o) (link_at ls j).after (ends_at es s).first) e ∙ a.first s inside
          ∙ sym (first-else (λ i. (link_at ls i).after) (λ i. (link_at ls i).before) j (q s) k (record { once = apart.once s }) (a.threaded s inside) member e)

      new_last : (o : Option ℕ) → (link_at ls j).after ≡ o → cond (is_none (link_at ls j).after) (link_at ls j).before (ends_at es s).last ≡ last_of None (out j (q s))
      new_last None e =
          ap (λ (o : Option ℕ). cond (is_none o) (link_at ls j).before (ends_at es s).last) e
          ∙ sym (last-end (λ i. (link_at ls i).after) (λ i. (link_at ls i).before) j None (q s) (record { once = apart.once s }) (a.threaded s inside) member e)
      new_last (Some k) e =
          ap (λ (o : Option ℕ). cond (is_none o) (link_at ls j).before (ends_at es s).last) e ∙ a.last s inside
          ∙ sym (last-else (λ i. (link_at ls i).after) (λ i. (link_at ls i).before) j None (q s) k (record { once = apart.once s }) (a.threaded s inside) member e)
