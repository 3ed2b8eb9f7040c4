-- Where the heap is too small for windows, no output is mapped, and none becomes so.
use Rattle.std.proofs.Common.{ℕ, zero, suc, ◌≡◌, ◌<◌, Bool, true, false, cond, not, ◌&&◌, List, [], ◌∷◌, ◌++◌, length, map, ◌∙◌, refl, subst, arith}
use Rattle.std.specs.Prelude.{Option, Some, None, nat_lt, nat_le, int_le, pos, find, slice_set, ◌==◌, if◌then◌else◌}
use Rattle.std.specs.List.{list_all}
use Rattle.std.specs.Option.{option_map_or}
use Rattle.std.proofs.lemmas.Bool.{and_parts, and_from, not-true}
use Rattle.std.proofs.lemmas.Bool.Decides.{nat_tests}
use Rattle.std.proofs.lemmas.List.Folds.{list_all-append}
use Rattle.ffm_model.specs.declared.machine.Handle.{Handle}
use Rattle.ffm_model.specs.declared.machine.Message.{Message}
use Rattle.ffm_model.specs.declared.machine.Call.{Call}
use Rattle.ffm_model.specs.declared.machine.Call.TheVariants as call
use Rattle.ffm_model.specs.declared.machine.Outcome.{Outcome}
use Rattle.ffm_model.specs.declared.machine.Outcome.TheVariants as outcome
use Rattle.ffm_model.specs.declared.script.Instruction.{Instruction}
use Rattle.ffm_model.specs.Held.{Holder, HolderService, HeldMessage, HeldVector, VectorState, is_fresh, is_held_as, is_mapped, is_mappable, held, fresh_vector, vector_at, with_state, touched, changed_at, without, with_input, with_output, with_message_of, can_map_out, can_unmap_out, table_after, window_size, most_held}
use Rattle.ffm_model.specs.Held.VectorState.{used, mapped, unmapped}
use Rattle.mm_iovec.specs.HeldView.{HasWindows, is_output_unmapped}
use Rattle.mm_iovec.specs.declared.line.MmLine.{MmLine}
use Rattle.mm_iovec.specs.declared.line.MmLine.TheVariants.{UnmapIn, MapOut}
use Rattle.mm_iovec.specs.Lines.{can_do, maps_in, table_done, table_read, table_written, unmaps_out}

-- ---- vectors

abbrev is_off : HeldVector → Bool
is_off v = not (is_mapped v.state)

off-set : (vs : List HeldVector) (i : ℕ) (v : HeldVector) → is_off v ≡ true → list_all is_off vs ≡ true → list_all is_off (slice_set vs i v) ≡ true
off-set [] i v o h = refl
off-set (w ∷ vs) zero v o h = and_from (is_off v) _ o (and_parts (is_off w) _ h).1
off-set (w ∷ vs) (suc i) v o h = let hs = and_parts (is_off w) _ h in and_from (is_off w) _ hs.0 (off-set vs i v o hs.1)

off-fresh : (sizes : List ℕ) → list_all is_off (map fresh_vector sizes) ≡ true
off-fresh [] = refl
off-fresh (n ∷ sizes) = off-fresh sizes

off-touched-by : (b : Bool) (i : ℕ) (vs : List HeldVector) → list_all is_off vs ≡ true → list_all is_off (if b then with_state used i vs else vs) ≡ true
off-touched-by true i vs h = off-set vs i _ refl h
off-touched-by false i vs h = h

off-touched : (i : ℕ) (m : HeldMessage) → is_output_unmapped m ≡ true → is_output_unmapped (record m { output = touched i m.output }) ≡ true
off-touched i m h = off-touched-by (is_fresh (vector_at m.output i).state) i m.output h

off-unmapped : (i : ℕ) (m : HeldMessage) → is_output_unmapped m ≡ true → is_output_unmapped (with_output unmapped i m) ≡ true
off-unmapped i m h = off-set m.output i _ refl h

-- ---- tables

changed-by : (b : Bool) (f : HeldMessage → HeldMessage) (m : HeldMessage) (ms rest : List HeldMessage) → (is_output_unmapped m ≡ true → is_output_unmapped (f m) ≡ true)
    → list_all is_output_unmapped (m ∷ ms) ≡ true → list_all is_output_unmapped rest ≡ true → list_all is_output_unmapped (if b then f m ∷ ms else m ∷ rest) ≡ true
changed-by true f m ms rest keeps h k = let hs = and_parts (is_output_unmapped m) _ h in and_from (is_output_unmapped (f m)) _ (keeps hs.0) hs.1
changed-by false f m ms rest keeps h k = and_from (is_output_unmapped m) _ (and_parts (is_output_unmapped m) _ h).0 k

off-changed : (h : Handle) (f : HeldMessage → HeldMessage) → ((m : HeldMessage) → is_output_unmapped m ≡ true → is_output_unmapped (f m) ≡ true)
    → (t : List HeldMessage) → list_all is_output_unmapped t ≡ true → list_all is_output_unmapped (changed_at h f t) ≡ true
unfolding changed_at
off-changed h f keeps [] o = refl
off-changed h f keeps (m ∷ ms) o =
    changed-by (is_held_as h m) f m ms (changed_at h f ms) (keeps m) o (off-changed h f keeps ms (and_parts (is_output_unmapped m) _ o).1)

without-by : (b : Bool) (m : HeldMessage) (ms rest : List HeldMessage) → list_all is_output_unmapped (m ∷ ms) ≡ true → list_all is_output_unmapped rest ≡ true
    → list_all is_output_unmapped (if b then ms else m ∷ rest) ≡ true
without-by true m ms rest h k = (and_parts (is_output_unmapped m) _ h).1
without-by false m ms rest h k = and_from (is_output_unmapped m) _ (and_parts (is_output_unmapped m) _ h).0 k

off-without : (h : Handle) (t : List HeldMessage) → list_all is_output_unmapped t ≡ true → list_all is_output_unmapped (without h t) ≡ true
unfolding without
off-without h [] o = refl
off-without h (m ∷ ms) o = without-by (is_held_as h m) m ms (without h ms) o (off-without h ms (and_parts (is_output_unmapped m) _ o).1)

got-by : (b : Bool) (v : HolderService) (m : Message) (t : List HeldMessage) → list_all is_output_unmapped t ≡ true
    → list_all is_output_unmapped (if b then t ++ record { handle = m.handle; kind = m.kind; mm = v.mm; input = map fresh_vector m.in_size; output = map fresh_vector m.out_size } ∷ [] else t) ≡ true
got-by true v m t o = list_all-append is_output_unmapped t _ ∙ and_from (list_all is_output_unmapped t) _ o (and_from (list_all is_off (map fresh_vector m.out_size)) true (off-fresh m.out_size) refl)
got-by false v m t o = o

got-in : (o : Option HolderService) (m : Message) (t : List HeldMessage) → list_all is_output_unmapped t ≡ true
    → list_all is_output_unmapped (option_map_or (λ v. with_message_of v m t) o t) ≡ true
got-in None m t h = h
got-in (Some v) m t h = got-by (nat_lt (length t) most_held) v m t h

-- ---- the windows of a table

pub windows-without : (p : Holder) (h : Handle) (t : List HeldMessage) → HasWindows p t → HasWindows p (without h t)
windows-without p h t w none = off-without h t (w none)

windows-input : (p : Holder) (h : Handle) (u : VectorState) (i : ℕ) (t : List HeldMessage) → HasWindows p t → HasWindows p (changed_at h (with_input u i) t)
windows-input p h u i t w none = off-changed h (with_input u i) (λ m o. o) t (w none)

pub windows-input_touched : (p : Holder) (h : Handle) (i : ℕ) (t : List HeldMessage) → HasWindows p t → HasWindows p (changed_at h (λ m. record m { input = touched i m.input }) t)
windows-input_touched p h i t w none = off-changed h (λ m. record m { input = touched i m.input }) (λ m o. o) t (w none)

-- ---- there are windows where an output may be mapped

mappable-by : (p : Holder) (m : HeldMessage) (v : HeldVector) → is_mappable p m v ≡ true → 0 < window_size p
mappable-by p m v h =
    let rest = (and_parts m.mm _ (and_parts (int_le (pos 0) m.kind) _ h).1).1 in
    let size = and_parts (nat_lt 0 v.size) _ rest in
    let room = and_parts (nat_le v.size (window_size p)) _ size.1 in
    grind (arith, nat_tests)

mappable-at : (p : Holder) (i : ℕ) (v : HeldMessage → HeldVector) (free : Bool) (o : Option HeldMessage) → (nat_lt i 4 && option_map_or (λ m. is_mappable p m (v m) && free) o false) ≡ true → 0 < window_size p
mappable-at p i v free None h = cc ((and_parts (nat_lt i 4) false h).1)
mappable-at p i v free (Some m) h = mappable-by p m (v m) (and_parts (is_mappable p m (v m)) free (and_parts (nat_lt i 4) _ h).1).0

mappable-out : (p : Holder) (t : List HeldMessage) (h : Handle) (i : ℕ) → can_map_out p t h i ≡ true → 0 < window_size p
mappable-out p t h i e = mappable-at p i (λ m. vector_at m.output i) _ (held t h) e

-- ---- a mapped output shows that there are windows

off-at : (vs : List HeldVector) (i : ℕ) → list_all is_off vs ≡ true → is_mapped (vector_at vs i).state ≡ false
off-at [] i h = refl
off-at (v ∷ vs) zero h = not-true (is_mapped v.state) (and_parts (is_off v) _ h).0
off-at (v ∷ vs) (suc i) h = off-at vs i (and_parts (is_off v) _ h).1

found-by : (b : Bool) (m k : HeldMessage) (ms : List HeldMessage) (o : Option HeldMessage) → list_all is_output_unmapped (m ∷ ms) ≡ true
    → (o ≡ Some k → is_output_unmapped k ≡ true) → cond b (Some m) o ≡ Some k → is_output_unmapped k ≡ true
found-by true m k ms o h go e = let at : m ≡ k = cc in subst (λ n. is_output_unmapped n ≡ true) at (and_parts (is_output_unmapped m) _ h).0
found-by false m k ms o h go e = go e

found-off : (h : Handle) (t : List HeldMessage) (k : HeldMessage) → list_all is_output_unmapped t ≡ true → held t h ≡ Some k → is_output_unmapped k ≡ true
found-off h [] k o e = cc e
found-off h (m ∷ ms) k o e = found-by (is_held_as h m) m k ms (held ms h) o (found-off h ms k (and_parts (is_output_unmapped m) _ o).1) e

unmappable-by : (p : Holder) (h : Handle) (t : List HeldMessage) (i len : ℕ) (o : Option HeldMessage) → held t h ≡ o → HasWindows p t
    → (nat_lt i 4 && option_map_or (λ m. is_mapped (vector_at m.output i).state && nat_le len (vector_at m.output i).size) o false) ≡ true → 0 < window_size p
unmappable-by p h t i len None at w e = cc ((and_parts (nat_lt i 4) false e).1)
unmappable-by p h t i len (Some m) at w e =
    let es = and_parts (nat_lt i 4) _ e in
    let on : is_mapped (vector_at m.output i).state ≡ true = (and_parts (is_mapped (vector_at m.output i).state) _ es.1).0 in
    let some : (n : ℕ) → window_size p ≡ n → 0 < n =
    elim [ zero ↦ λ z. cc (on, off-at m.output i (found-off h t m (w z) at)) | suc n ↦ λ z. omega arith ] in
    some (window_size p) refl

pub unmappable-out : (p : Holder) (t : List HeldMessage) (h : Handle) (i len : ℕ) → HasWindows p t → can_unmap_out t h i len ≡ true → 0 < window_size p
unmappable-out p t h i len w e = unmappable-by p h t i len (held t h) refl w e

-- ---- after lines

pub windows-done : (p : Holder) (l : MmLine) (t : List HeldMessage) → HasWindows p t → can_do p t l ≡ true → HasWindows p (table_done l t)
windows-done p (UnmapIn h i) t w e = windows-input p h unmapped i t w
windows-done p (MapOut h i) t w e = λ none. absurd (omega (arith, mappable-out p t h i e))
windows-done p _ t w e = w

-- ---- after calls

read-by : (p : Holder) (b : Bool) (h : Handle) (i : ℕ) (t : List HeldMessage) → HasWindows p t
    → HasWindows p (if b then changed_at h (with_input mapped i) t else changed_at h (λ m. record m { input = touched i m.input }) t)
read-by p true h i t w = windows-input p h mapped i t w
read-by p false h i t w = windows-input_touched p h i t w

pub windows-read : (p : Holder) (i : Option Instruction) (h : Handle) (index : ℕ) (t : List HeldMessage) → HasWindows p t → HasWindows p (table_read i h index t)
windows-read p i h index t w = read-by p (maps_in i) h index t w

written-by : (p : Holder) (b : Bool) (h : Handle) (i : ℕ) (t : List HeldMessage) → HasWindows p t
    → HasWindows p (if b then changed_at h (with_output unmapped i) t else changed_at h (λ m. record m { output = touched i m.output }) t)
written-by p true h i t w none = off-changed h (with_output unmapped i) (off-unmapped i) t (w none)
written-by p false h i t w none = off-changed h (λ m. record m { output = touched i m.output }) (off-touched i) t (w none)

pub windows-written : (p : Holder) (i : Option Instruction) (h : Handle) (index : ℕ) (t : List HeldMessage) → HasWindows p t → HasWindows p (table_written i h index t)
windows-written p i h index t w = written-by p (unmaps_out i) h index t w

pub windows-after : (p : Holder) (c : Call) (o : Outcome) (t : List HeldMessage) → HasWindows p t → HasWindows p (table_after p c o t)
windows-after p (call.Get signal msg) (outcome.Got m) t w none = got-in (find (λ v. v.signal == signal) p.services) m t (w none)
windows-after p (call.Reply h status) outcome.Done t w none = off-without h t (w none)
windows-after p _ _ t w none = w none
