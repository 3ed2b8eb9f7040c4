-- The table of held messages: what is found in it after each change, and the states of its vectors.
use Rattle.std.proofs.Common.{ℕ, zero, suc, ◌≡◌, ◌≤◌, ◌<◌, ◌+◌, Bool, true, false, List, [], ◌∷◌, length, refl, ap, sym, ◌∙◌, subst, arith}
use Rattle.std.specs.Prelude.{Option, Some, None, count_by, map, get_or, slice_set, if◌then◌else◌}
use Rattle.std.specs.Option.{option_map}
use Rattle.law_lists.proofs.Counts.{bit, count-cons}
use Rattle.ffm_model.specs.declared.machine.Handle.{Handle}
use Rattle.ffm_model.specs.declared.objects.Span.{Span}
use Rattle.ffm_model.specs.Memory.{no_span}
use Rattle.ffm_model.specs.ServiceCalls.{moved_by, sizes_of}
use Rattle.ffm_model.specs.State.{handle_eq}
use Rattle.ffm_model.specs.Held.{HeldMessage, HeldVector, VectorState, changed_at, fresh_vector, held, is_fresh, is_held_as, is_mapped, is_or_was_mapped, touched, vector_at, with_state, without}
use Rattle.ffm_model.specs.Held.VectorState.{fresh, used, mapped, unmapped}
use Rattle.law_counting.proofs.Resume.{int_flip}
use Rattle.law_counting.proofs.Walk.{handle-same}

-- ---- handles

pub handle-flip : (h k : Handle) → handle_eq h k ≡ handle_eq k h
handle-flip h k = int_flip h.0 k.0

pub same_handle : (h k : Handle) (P : Type 0) → (h ≡ k → P) → (handle_eq h k ≡ false → P) → P
same_handle h k P same apart =
    let go : (b : Bool) → handle_eq h k ≡ b → P = elim [ true ↦ λ e. same (handle-same h k e) | false ↦ λ e. apart e ] in
    go (handle_eq h k) refl

-- ---- what is found of a table

same-by : (h : Handle) (f : HeldMessage → HeldMessage) (m : HeldMessage) (ms rest : List HeldMessage) (b : Bool) → is_held_as h m ≡ b → (f m).handle ≡ m.handle → held rest h ≡ option_map f (held ms h)
    → held (if b then f m ∷ ms else m ∷ rest) h ≡ option_map f (if b then Some m else held ms h)
same-by h f m ms rest true e keep go = ap (λ (x : Bool). if x then Some (f m) else held ms h) (ap (λ (k : Handle). handle_eq k h) keep ∙ e)
same-by h f m ms rest false e keep go = ap (λ (x : Bool). if x then Some m else held rest h) e ∙ go

pub changed-same : (h : Handle) (f : HeldMessage → HeldMessage) → ((m : HeldMessage) → (f m).handle ≡ m.handle) → (t : List HeldMessage) → held (changed_at h f t) h ≡ option_map f (held t h)
unfolding changed_at
changed-same h f keep [] = refl
changed-same h f keep (m ∷ ms) = same-by h f m ms (changed_at h f ms) (is_held_as h m) refl (keep m) (changed-same h f keep ms)

-- one handle doesn't stand for two
apart-by : (h k j : Handle) → handle_eq h k ≡ false → handle_eq j h ≡ true → handle_eq j k ≡ false
apart-by h k j apart e = ap (λ (x : Handle). handle_eq x k) (handle-same j h e) ∙ apart

other-by : (h k : Handle) (f : HeldMessage → HeldMessage) (m : HeldMessage) (ms rest : List HeldMessage) (b : Bool) → is_held_as h m ≡ b → handle_eq h k ≡ false → (f m).handle ≡ m.handle → held rest k ≡ held ms k
    → held (if b then f m ∷ ms else m ∷ rest) k ≡ held (m ∷ ms) k
other-by h k f m ms rest true e apart keep go =
    let off : is_held_as k m ≡ false = apart-by h k m.handle apart e in
    ap (λ (x : Bool). if x then Some (f m) else held ms k) (ap (λ (j : Handle). handle_eq j k) keep ∙ off) ∙ sym (ap (λ (x : Bool). if x then Some m else held ms k) off)
other-by h k f m ms rest false e apart keep go = ap (λ (o : Option HeldMessage). if is_held_as k m then Some m else o) go

pub changed-other : (h k : Handle) (f : HeldMessage → HeldMessage) → handle_eq h k ≡ false → ((m : HeldMessage) → (f m).handle ≡ m.handle) → (t : List HeldMessage) → held (changed_at h f t) k ≡ held t k
unfolding changed_at
changed-other h k f apart keep [] = refl
changed-other h k f apart keep (m ∷ ms) = other-by h k f m ms (changed_at h f ms) (is_held_as h m) refl apart (keep m) (changed-other h k f apart keep ms)

without-by : (h k : Handle) (m : HeldMessage) (ms rest : List HeldMessage) (b : Bool) → is_held_as h m ≡ b → handle_eq h k ≡ false → held rest k ≡ held ms k → held (if b then ms else m ∷ rest) k ≡ held (m ∷ ms) k
without-by h k m ms rest true e apart go = sym (ap (λ (x : Bool). if x then Some m else held ms k) (apart-by h k m.handle apart e))
without-by h k m ms rest false e apart go = ap (λ (o : Option HeldMessage). if is_held_as k m then Some m else o) go

pub without-other : (h k : Handle) → handle_eq h k ≡ false → (t : List HeldMessage) → held (without h t) k ≡ held t k
unfolding without
without-other h k apart [] = refl
without-other h k apart (m ∷ ms) = without-by h k m ms (without h ms) (is_held_as h m) refl apart (without-other h k apart ms)

-- ---- how often a handle stands in it

none-by : (h : Handle) (m : HeldMessage) (ms : List HeldMessage) (b : Bool) → bit b + count_by (is_held_as h) ms ≡ 0 → (count_by (is_held_as h) ms ≡ 0 → held ms h ≡ None) → (if b then Some m else held ms h) ≡ None
none-by h m ms true e go = absurd (omega (arith, e))
none-by h m ms false e go = go (omega (arith, e))

pub none-held : (h : Handle) (t : List HeldMessage) → count_by (is_held_as h) t ≡ 0 → held t h ≡ None
none-held h [] e = refl
none-held h (m ∷ ms) e = none-by h m ms (is_held_as h m) (sym (count-cons (is_held_as h) m ms) ∙ e) (none-held h ms)

gone-by : (h : Handle) (m : HeldMessage) (ms rest : List HeldMessage) (b : Bool) → is_held_as h m ≡ b → bit b + count_by (is_held_as h) ms ≤ 1 → (count_by (is_held_as h) ms ≤ 1 → held rest h ≡ None) → held (if b then ms else m ∷ rest) h ≡ None
gone-by h m ms rest true e few go = none-held h ms (omega (arith, few))
gone-by h m ms rest false e few go = ap (λ (x : Bool). if x then Some m else held rest h) e ∙ go (omega (arith, few))

pub without-same : (h : Handle) (t : List HeldMessage) → count_by (is_held_as h) t ≤ 1 → held (without h t) h ≡ None
unfolding without
without-same h [] few = refl
without-same h (m ∷ ms) few = gone-by h m ms (without h ms) (is_held_as h m) refl (subst (λ (n : ℕ). n ≤ 1) (count-cons (is_held_as h) m ms) few) (without-same h ms)

count-by : (h k : Handle) (f : HeldMessage → HeldMessage) (m : HeldMessage) (ms rest : List HeldMessage) (b : Bool) → (f m).handle ≡ m.handle → count_by (is_held_as k) rest ≡ count_by (is_held_as k) ms
    → count_by (is_held_as k) (if b then f m ∷ ms else m ∷ rest) ≡ count_by (is_held_as k) (m ∷ ms)
count-by h k f m ms rest true keep go =
    count-cons (is_held_as k) (f m) ms ∙ ap (λ (j : Handle). bit (handle_eq j k) + count_by (is_held_as k) ms) keep ∙ sym (count-cons (is_held_as k) m ms)
count-by h k f m ms rest false keep go =
    count-cons (is_held_as k) m rest ∙ ap (λ (n : ℕ). bit (is_held_as k m) + n) go ∙ sym (count-cons (is_held_as k) m ms)

pub changed-count : (h k : Handle) (f : HeldMessage → HeldMessage) → ((m : HeldMessage) → (f m).handle ≡ m.handle) → (t : List HeldMessage) → count_by (is_held_as k) (changed_at h f t) ≡ count_by (is_held_as k) t
unfolding changed_at
changed-count h k f keep [] = refl
changed-count h k f keep (m ∷ ms) = count-by h k f m ms (changed_at h f ms) (is_held_as h m) (keep m) (changed-count h k f keep ms)

less-by : (k : Handle) (m : HeldMessage) (ms rest : List HeldMessage) (b : Bool) → count_by (is_held_as k) rest ≤ count_by (is_held_as k) ms → count_by (is_held_as k) (if b then ms else m ∷ rest) ≤ count_by (is_held_as k) (m ∷ ms)
less-by k m ms rest true go = omega (arith, count-cons (is_held_as k) m ms)
less-by k m ms rest false go = omega (arith, count-cons (is_held_as k) m ms, count-cons (is_held_as k) m rest, go)

pub without-count : (h k : Handle) (t : List HeldMessage) → count_by (is_held_as k) (without h t) ≤ count_by (is_held_as k) t
unfolding without
without-count h k [] = omega arith
without-count h k (m ∷ ms) = less-by k m ms (without h ms) (is_held_as h m) (without-count h k ms)

-- ---- the states of vectors

-- not used yet, or mapped and not unmapped: nothing was written to it
abbrev pub is_unwritten : VectorState → Bool
is_unwritten fresh = true
is_unwritten mapped = true
is_unwritten _ = false

abbrev pub is_unmapped : VectorState → Bool
is_unmapped unmapped = true
is_unmapped _ = false

pub state-size : (vs : List HeldVector) (u : VectorState) (k i : ℕ) → (vector_at (with_state u k vs) i).size ≡ (vector_at vs i).size
state-size (v ∷ vs) u zero zero = refl
state-size (v ∷ vs) u (suc k) (suc i) = state-size vs u k i
state-size _ u _ _ = refl

-- what the new state isn't, another vector is, and was
pub state-other : (f : VectorState → Bool) (vs : List HeldVector) (u : VectorState) (k i : ℕ) → f used ≡ false → f u ≡ false → f (vector_at (with_state u k vs) i).state ≡ true → (i ≡ k → ⊥) × (f (vector_at vs i).state ≡ true)
state-other f [] u k i out off e = cc
state-other f (v ∷ vs) u zero zero out off e = cc
state-other f (v ∷ vs) u (suc k) (suc i) out off e = let r = state-other f vs u k i out off e in ((λ z. r.0 (omega arith)), r.1)
state-other f (v ∷ vs) u _ _ out off e = ((λ z. cc), e)

-- and what the new state is too
pub state-either : (f : VectorState → Bool) (vs : List HeldVector) (u : VectorState) (k i : ℕ) (P : Type 0) → f used ≡ false → f (vector_at (with_state u k vs) i).state ≡ true → (i ≡ k → P) → (f (vector_at vs i).state ≡ true → P) → P
state-either f (v ∷ vs) u zero zero P out e here there = here refl
state-either f (v ∷ vs) u (suc k) (suc i) P out e here there = state-either f vs u k i P out e (λ z. here (ap suc z)) there
state-either f _ u _ _ P out e here there = there e

touched-size-by : (b : Bool) (vs : List HeldVector) (k i : ℕ) → (vector_at (if b then with_state used k vs else vs) i).size ≡ (vector_at vs i).size
touched-size-by true vs k i = state-size vs used k i
touched-size-by false vs k i = refl

pub touched-size : (vs : List HeldVector) (k i : ℕ) → (vector_at (touched k vs) i).size ≡ (vector_at vs i).size
touched-size vs k i = touched-size-by (is_fresh (vector_at vs k).state) vs k i

touched-by : (f : VectorState → Bool) (vs : List HeldVector) (k i : ℕ) (b : Bool) → f used ≡ false → (b ≡ false → f (vector_at vs k).state ≡ false) → f (vector_at (if b then with_state used k vs else vs) i).state ≡ true
    → (i ≡ k → ⊥) × (f (vector_at vs i).state ≡ true)
touched-by f vs k i true out off e = state-other f vs used k i out out e
touched-by f vs k i false out off e = ((λ z. let now : f (vector_at vs k).state ≡ true = ap (λ (j : ℕ). f (vector_at vs j).state) (sym z) ∙ e in let was : f (vector_at vs k).state ≡ false = off refl in cc), e)

pub touched-other : (f : VectorState → Bool) (vs : List HeldVector) (k i : ℕ) → f used ≡ false → (is_fresh (vector_at vs k).state ≡ false → f (vector_at vs k).state ≡ false) → f (vector_at (touched k vs) i).state ≡ true
    → (i ≡ k → ⊥) × (f (vector_at vs i).state ≡ true)
touched-other f vs k i out off e = touched-by f vs k i (is_fresh (vector_at vs k).state) out off e

-- ---- those of a new message

pub new-size : (vs : List Span) (i : ℕ) → (vector_at (map fresh_vector (sizes_of vs)) i).size ≡ (get_or vs i no_span).len
new-size [] i = refl
new-size (v ∷ vs) zero = refl
new-size (v ∷ vs) (suc i) = new-size vs i

pub new-unmapped : (ns : List ℕ) (i : ℕ) → is_mapped (vector_at (map fresh_vector ns) i).state ≡ false
new-unmapped [] i = refl
new-unmapped (n ∷ ns) zero = refl
new-unmapped (n ∷ ns) (suc i) = new-unmapped ns i

pub new-unused : (ns : List ℕ) (i : ℕ) → is_or_was_mapped (vector_at (map fresh_vector ns) i).state ≡ false
new-unused [] i = refl
new-unused (n ∷ ns) zero = refl
new-unused (n ∷ ns) (suc i) = new-unused ns i

pub new-kept : (ns : List ℕ) (i : ℕ) → is_unmapped (vector_at (map fresh_vector ns) i).state ≡ false
new-kept [] i = refl
new-kept (n ∷ ns) zero = refl
new-kept (n ∷ ns) (suc i) = new-kept ns i

-- ---- the vectors of the machine

pub moved-len : (vs : List Span) (k n i : ℕ) → (get_or (slice_set vs k (moved_by (get_or vs k no_span) n)) i no_span).len ≡ (get_or vs i no_span).len
moved-len (v ∷ vs) zero n zero = refl
moved-len (v ∷ vs) (suc k) n (suc i) = moved-len vs k n i
moved-len _ _ n _ = refl

pub moved-other : (vs : List Span) (y : Span) (k i : ℕ) → (i ≡ k → ⊥) → get_or (slice_set vs k y) i no_span ≡ get_or vs i no_span
moved-other (v ∷ vs) y zero zero apart = absurd (apart refl)
moved-other (v ∷ vs) y (suc k) (suc i) apart = moved-other vs y k i (λ e. apart (ap suc e))
moved-other _ y _ _ apart = refl

pub moved-here : (vs : List Span) (y : Span) (k : ℕ) → k < length vs → get_or (slice_set vs k y) k no_span ≡ y
moved-here [] y k lt = absurd (omega (arith, lt))
moved-here (v ∷ vs) y zero lt = refl
moved-here (v ∷ vs) y (suc k) lt = moved-here vs y k (omega (arith, lt))

-- a vector with bytes is there
pub large-there : (vs : List Span) (k : ℕ) → ((get_or vs k no_span).len ≡ 0 → ⊥) → k < length vs
large-there [] k large = absurd (large refl)
large-there (v ∷ vs) zero large = omega arith
large-there (v ∷ vs) (suc k) large = omega (arith, large-there vs k large)
