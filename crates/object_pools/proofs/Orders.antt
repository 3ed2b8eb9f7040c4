-- The items that are kept under the indices of a list, where each item names its own index.
use Rattle.std.proofs.Common.{ℕ, zero, suc, ◌≡◌, ◌≢◌, ◌≤◌, ◌+◌, ◌==◌, Bool, true, false, cond, not, List, [], ◌∷◌, length, map, filter, arith, ◌∙◌, ap, sym, refl}
use Rattle.std.specs.Prelude.{count_by, find, Option, Some, None, is_some, slice_get, option_and_then, if◌then◌else◌, All}
use Rattle.std.specs.List.{filter_map, cons_option}
use Rattle.std.proofs.lemmas.Option.{same_Some}
use Rattle.std.proofs.lemmas.List.Elements.{All-nil, All-cons}
use Rattle.std.proofs.lemmas.Bool.{eqb-true}
use Rattle.object_pools.specs.declared.slot.Held.{Held}
use Rattle.object_pools.specs.Pool.{is_at}
use Rattle.law_lists.proofs.Counts.{bit, count-cons}

-- how often an index stands in a list
abbrev pub times : ℕ → List ℕ → ℕ
times i ks = count_by (λ k. k == i) ks

pub same_bit : (k : ℕ) → bit (k == k) ≡ 1
same_bit k = grind arith

pub other_number : (k i : ℕ) → (k == i) ≡ false → k ≢ i
other_number k i e = λ same. grind arith

pub other_bit : (k i : ℕ) → k ≢ i → bit (k == i) ≡ 0
other_bit k i apart = grind arith

pub no_bit : (k i : ℕ) → bit (k == i) ≡ 0 → k ≢ i
no_bit k i e = λ same. grind arith

some_not : {X : Type 0} (o : Option X) (x : X) → o ≡ Some x → is_some o ≡ false → ⊥
some_not o x e f = cc

none_not : {X : Type 0} (o : Option X) → o ≡ None → is_some o ≡ true → ⊥
none_not o e f = cc

module _ {T : Type 0} where
  -- the item of an index has that index in its slot
  pub record Owns (f : ℕ → Option (Held T)) : Type 0 where
    pub own : (k : ℕ) (h : Held T) → f k ≡ Some h → h.slot.index ≡ k

  -- a test that only items of one index pass
  pub record Narrow (p : Held T → Bool) (i : ℕ) : Type 0 where
    pub index : (h : Held T) → p h ≡ true → h.slot.index ≡ i

  pub same-else : (f g : ℕ → Option (Held T)) (i : ℕ) (ks : List ℕ) → times i ks ≡ 0 → ((k : ℕ) → k ≢ i → g k ≡ f k) → filter_map g ks ≡ filter_map f ks
  same-else f g i [] none others = refl
  same-else f g i (k ∷ ks) none others =
      let split : bit (k == i) + times i ks ≡ 0 = sym (count-cons (λ j. j == i) k ks) ∙ none in
      let rest : filter_map g ks ≡ filter_map f ks = same-else f g i ks (omega arith) others in
      ap (λ o. cons_option o (filter_map g ks)) (others k (no_bit k i (omega arith))) ∙ ap (cons_option (f k)) rest

  pub count-live : (f : ℕ → Option (Held T)) (i : ℕ) (ks : List ℕ) → Owns f → is_some (f i) ≡ true → count_by (is_at i) (filter_map f ks) ≡ times i ks
  count-live f i [] o live = refl
  count-live f i (k ∷ ks) o live =
      let rest : count_by (is_at i) (filter_map f ks) ≡ times i ks = count-live f i ks o live in
      let go : (x : Option (Held T)) → f k ≡ x → count_by (is_at i) (cons_option x (filter_map f ks)) ≡ bit (k == i) + times i ks =
      elim [
        | None ↦ λ e. omega (arith, other_bit k i (λ same. none_not (f i) (ap f (sym same) ∙ e) live))
        | Some h ↦ λ e. omega (arith, count-cons (is_at i) h (filter_map f ks), ap (λ n. bit (n == i)) (o.own k h e))
      ] in
      go (f k) refl ∙ sym (count-cons (λ j. j == i) k ks)

  pub count-dead : (f : ℕ → Option (Held T)) (i : ℕ) (ks : List ℕ) → Owns f → is_some (f i) ≡ false → count_by (is_at i) (filter_map f ks) ≡ 0
  count-dead f i [] o dead = refl
  count-dead f i (k ∷ ks) o dead =
      let rest : count_by (is_at i) (filter_map f ks) ≡ 0 = count-dead f i ks o dead in
      let go : (x : Option (Held T)) → f k ≡ x → count_by (is_at i) (cons_option x (filter_map f ks)) ≡ 0 =
      elim [
        | None ↦ λ e. rest
        | Some h ↦ λ e. omega (
          arith,
          count-cons (is_at i) h (filter_map f ks),
          other_bit h.slot.index i (λ same. some_not (f i) h (ap f (sym same ∙ o.own k h e) ∙ e) dead),
        )
      ] in
      go (f k) refl

  pub count-held : (f : ℕ → Option (Held T)) (i : ℕ) (ks : List ℕ) → Owns f → times i ks ≡ bit (is_some (f i)) → count_by (is_at i) (filter_map f ks) ≡ bit (is_some (f i))
  count-held f i ks o once =
      let go : (b : Bool) → is_some (f i) ≡ b → times i ks ≡ bit b → count_by (is_at i) (filter_map f ks) ≡ bit b =
      elim [ true ↦ λ e n. count-live f i ks o e ∙ n | false ↦ λ e n. count-dead f i ks o e ] in
      go (is_some (f i)) refl once

  pub find-here : (f : ℕ → Option (Held T)) (p : Held T → Bool) (i : ℕ) (h : Held T) (ks : List ℕ) → Owns f → Narrow p i → f i ≡ Some h → p h ≡ true → 1 ≤ times i ks
      → find p (filter_map f ks) ≡ Some h
  find-here f p i h [] o n here passes inside = absurd (omega arith)
  find-here f p i h (k ∷ ks) o n here passes inside =
      let split : 1 ≤ bit (k == i) + times i ks = omega (arith, count-cons (λ j. j == i) k ks) in
      let go : (x : Option (Held T)) → f k ≡ x → find p (cons_option x (filter_map f ks)) ≡ Some h =
      elim [
        | None ↦ λ e.
            let apart : k ≢ i = λ same. cc (ap f same) in
            find-here f p i h ks o n here passes (omega (arith, other_bit k i apart))
        | Some x ↦ λ e.
            let test : (b : Bool) → p x ≡ b → cond b (Some x) (find p (filter_map f ks)) ≡ Some h =
            elim [
              | true ↦ λ t. let same : k ≡ i = sym (o.own k x e) ∙ n.index x t in sym e ∙ ap f same ∙ here
              | false ↦ λ t.
                  let apart : k ≢ i = λ same. let it : x ≡ h = same_Some x h (sym e ∙ ap f same ∙ here) in cc (ap p it) in
                  find-here f p i h ks o n here passes (omega (arith, other_bit k i apart))
            ] in
            test (p x) refl
      ] in
      go (f k) refl

  pub find-none : (f : ℕ → Option (Held T)) (p : Held T → Bool) (i : ℕ) (ks : List ℕ) → Owns f → Narrow p i → ((h : Held T) → f i ≡ Some h → p h ≡ false) → find p (filter_map f ks) ≡ None
  find-none f p i [] o n fails = refl
  find-none f p i (k ∷ ks) o n fails =
      let rest : find p (filter_map f ks) ≡ None = find-none f p i ks o n fails in
      let go : (x : Option (Held T)) → f k ≡ x → find p (cons_option x (filter_map f ks)) ≡ None =
      elim [
        | None ↦ λ e. rest
        | Some x ↦ λ e.
            let test : (b : Bool) → p x ≡ b → cond b (Some x) (find p (filter_map f ks)) ≡ None =
            elim [
              | true ↦ λ t. let same : k ≡ i = sym (o.own k x e) ∙ n.index x t in let off : p x ≡ false = fails x (ap f (sym same) ∙ e) in cc
              | false ↦ λ t. rest
            ] in
            test (p x) refl
      ] in
      go (f k) refl

  fails-else : (p : Held T → Bool) (i : ℕ) (x : Held T) → Narrow p i → x.slot.index ≢ i → p x ≡ false
  fails-else p i x n apart =
      let go : (b : Bool) → p x ≡ b → b ≡ false = elim [ true ↦ λ t. absurd (apart (n.index x t)) | false ↦ λ t. refl ] in
      go (p x) refl

  -- without one index, and without the item that it has
  pub filter-out : (f g : ℕ → Option (Held T)) (p : Held T → Bool) (i : ℕ) (h : Held T) (ks : List ℕ) → Owns f → Narrow p i → f i ≡ Some h → p h ≡ true → ((k : ℕ) → k ≢ i → g k ≡ f k)
      → filter_map g (filter (λ k. not (k == i)) ks) ≡ filter (λ x. not (p x)) (filter_map f ks)
  filter-out f g p i h [] o n here passes others = refl
  filter-out f g p i h (k ∷ ks) o n here passes others =
      let left : List (Held T) = filter_map g (filter (λ j. not (j == i)) ks) in
      let right : List (Held T) = filter (λ x. not (p x)) (filter_map f ks) in
      let rest : left ≡ right = filter-out f g p i h ks o n here passes others in
      let kept : (x : Option (Held T)) → f k ≡ x → k ≢ i → cons_option x left ≡ filter (λ y. not (p y)) (cons_option x (filter_map f ks)) =
      elim [
        | None ↦ λ e apart. rest
        | Some x ↦ λ e apart.
            let off : p x ≡ false = fails-else p i x n (λ same. apart (sym (o.own k x e) ∙ same)) in
            ap (λ (xs : List (Held T)). x ∷ xs) rest ∙ ap (λ b. cond (not b) (x ∷ right) right) (sym off)
      ] in
      let gone : k ≡ i → left ≡ filter (λ y. not (p y)) (cons_option (f k) (filter_map f ks)) =
      λ same. rest ∙ ap (λ b. cond (not b) (h ∷ right) right) (sym passes) ∙ ap (λ x. filter (λ y. not (p y)) (cons_option x (filter_map f ks))) (sym (ap f same ∙ here)) in
      let go : (b : Bool) → (k == i) ≡ b → filter_map g (cond (not b) (k ∷ filter (λ j. not (j == i)) ks) (filter (λ j. not (j == i)) ks)) ≡ filter (λ y. not (p y)) (cons_option (f k) (filter_map f ks)) =
      elim [
        | true ↦ λ e. gone (eqb-true k i e)
        | false ↦ λ e. let apart : k ≢ i = other_number k i e in ap (λ x. cons_option x left) (others k apart) ∙ kept (f k) refl apart
      ] in
      go (k == i) refl

  -- a change of the item of one index
  pub map-put : (f g : ℕ → Option (Held T)) (p : Held T → Bool) (u : Held T → Held T) (i : ℕ) (h : Held T) (ks : List ℕ) → Owns f → Narrow p i → f i ≡ Some h → p h ≡ true → g i ≡ Some (u h)
      → ((k : ℕ) → k ≢ i → g k ≡ f k) → filter_map g ks ≡ map (λ x. if p x then u x else x) (filter_map f ks)
  map-put f g p u i h [] o n here passes after others = refl
  map-put f g p u i h (k ∷ ks) o n here passes after others =
      let change : Held T → Held T = λ x. if p x then u x else x in
      let right : List (Held T) = map (λ x. if p x then u x else x) (filter_map f ks) in
      let rest : filter_map g ks ≡ right = map-put f g p u i h ks o n here passes after others in
      let kept : (x : Option (Held T)) → f k ≡ x → k ≢ i → cons_option x (filter_map g ks) ≡ map (λ y. if p y then u y else y) (cons_option x (filter_map f ks)) =
      elim [
        | None ↦ λ e apart. rest
        | Some x ↦ λ e apart.
            let off : p x ≡ false = fails-else p i x n (λ same. apart (sym (o.own k x e) ∙ same)) in
            ap (λ (xs : List (Held T)). x ∷ xs) rest ∙ ap (λ b. cond b (u x) x ∷ right) (sym off)
      ] in
      let put : k ≡ i → cons_option (g k) (filter_map g ks) ≡ map (λ y. if p y then u y else y) (cons_option (f k) (filter_map f ks)) =
      λ same.
      ap (λ x. cons_option x (filter_map g ks)) (ap g same ∙ after)
      ∙ ap (λ (xs : List (Held T)). u h ∷ xs) rest
      ∙ ap (λ b. cond b (u h) h ∷ right) (sym passes)
      ∙ ap (λ x. map (λ y. if p y then u y else y) (cons_option x (filter_map f ks))) (sym (ap f same ∙ here)) in
      let go : (b : Bool) → (k == i) ≡ b → cons_option (g k) (filter_map g ks) ≡ map (λ y. if p y then u y else y) (cons_option (f k) (filter_map f ks)) =
      elim [
        | true ↦ λ e. put (eqb-true k i e)
        | false ↦ λ e. let apart : k ≢ i = other_number k i e in ap (λ x. cons_option x (filter_map g ks)) (others k apart) ∙ kept (f k) refl apart
      ] in
      go (k == i) refl

  -- each index of the list has an item
  pub record Filled (f : ℕ → Option (Held T)) (ks : List ℕ) : Type 0 where
    pub filled : (k : ℕ) → 1 ≤ times k ks → is_some (f k) ≡ true

  Filled-rest : (f : ℕ → Option (Held T)) (k : ℕ) (ks : List ℕ) → Filled f (k ∷ ks) → Filled f ks
  Filled-rest f k ks a = record { filled = λ j inside. a.filled j (omega (arith, count-cons (λ x. x == j) k ks)) }

  Filled-first : (f : ℕ → Option (Held T)) (k : ℕ) (ks : List ℕ) → Filled f (k ∷ ks) → is_some (f k) ≡ true
  Filled-first f k ks a = a.filled k (omega (arith, count-cons (λ x. x == k) k ks, same_bit k))

  pub length-held : (f : ℕ → Option (Held T)) (ks : List ℕ) → Filled f ks → length (filter_map f ks) ≡ length ks
  length-held f [] a = refl
  length-held f (k ∷ ks) a =
      let rest : length (filter_map f ks) ≡ length ks = length-held f ks (Filled-rest f k ks a) in
      let go : (x : Option (Held T)) → f k ≡ x → length (cons_option x (filter_map f ks)) ≡ 1 + length ks =
      elim [ None ↦ λ e. absurd (none_not (f k) e (Filled-first f k ks a)) | Some x ↦ λ e. omega arith ] in
      omega (arith, go (f k) refl)

  pub nth-held : (f : ℕ → Option (Held T)) (ks : List ℕ) (n : ℕ) → Filled f ks → slice_get (filter_map f ks) n ≡ option_and_then f (slice_get ks n)
  nth-held f [] n a = refl
  nth-held f (k ∷ ks) zero a =
      let go : (x : Option (Held T)) → f k ≡ x → slice_get (cons_option x (filter_map f ks)) zero ≡ x =
      elim [ None ↦ λ e. absurd (none_not (f k) e (Filled-first f k ks a)) | Some x ↦ λ e. refl ] in
      go (f k) refl
  nth-held f (k ∷ ks) (suc n) a =
      let rest : slice_get (filter_map f ks) n ≡ option_and_then f (slice_get ks n) = nth-held f ks n (Filled-rest f k ks a) in
      let go : (x : Option (Held T)) → f k ≡ x → slice_get (cons_option x (filter_map f ks)) (suc n) ≡ option_and_then f (slice_get ks n) =
      elim [ None ↦ λ e. absurd (none_not (f k) e (Filled-first f k ks a)) | Some x ↦ λ e. rest ] in
      go (f k) refl

  pub all-held : (P : Held T → Type 0) (f : ℕ → Option (Held T)) (ks : List ℕ) → ((k : ℕ) (h : Held T) → f k ≡ Some h → P h) → All P (filter_map f ks)
  all-held P f [] each = All-nil P
  all-held P f (k ∷ ks) each =
      let rest : All P (filter_map f ks) = all-held P f ks each in
      let go : (x : Option (Held T)) → f k ≡ x → All P (cons_option x (filter_map f ks)) =
      elim [ None ↦ λ e. rest | Some x ↦ λ e. All-cons P x (filter_map f ks) (each k x e) rest ] in
      go (f k) refl
