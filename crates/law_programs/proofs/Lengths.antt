-- In each run psa_reply tells the lengths of the vectors that were mapped.
use Rattle.std.proofs.Common.{ℕ, zero, suc, ◌+◌, ◌-◌, ◌*◌, ◌<◌, ◌≤◌, ◌≡◌, Bool, true, false, List, [], ◌∷◌, length, get_or, take, refl, ap, ap₂, sym, ◌∙◌, subst, arith}
use Rattle.std.specs.Prelude.{ℤ, pos, negsuc, Some, if◌then◌else◌, ◌&&◌, int_le, int_lt, nat_le, nat_lt, slice_index}
use Rattle.std.proofs.lemmas.Bool.Decides.{nat_tests}
use Rattle.std.proofs.lemmas.List.{get_or-take}
use Rattle.ffm_model.specs.declared.constants.TheConstants.{PSA_IPC_CALL}
use Rattle.ffm_model.specs.declared.system.System.{System}
use Rattle.ffm_model.specs.declared.system.ActorKind.TheVariants.{Partition}
use Rattle.ffm_model.specs.declared.machine.Handle.{Handle}
use Rattle.ffm_model.specs.declared.machine.Status.{Status}
use Rattle.ffm_model.specs.declared.machine.Call.TheVariants as call
use Rattle.ffm_model.specs.declared.machine.Outcome.{Outcome}
use Rattle.ffm_model.specs.declared.machine.Outcome.TheVariants as outcome
use Rattle.ffm_model.specs.declared.objects.Span.{Span}
use Rattle.ffm_model.specs.declared.objects.PendingMessage.{PendingMessage}
use Rattle.ffm_model.specs.Actors.{kind_of}
use Rattle.ffm_model.specs.Memory.{ByteMap, bytes_at, lengths_written, low_bytes, no_span, store_number, write_bytes}
use Rattle.ffm_model.specs.State.{State, message_held}
use Rattle.ffm_model.specs.ClientCalls.{Effect}
use Rattle.ffm_model.specs.ServiceCalls.{output_at, outputs_given}
use Rattle.ffm_model.specs.Step.{handle_shown, outcome_eq}
use Rattle.ffm_model.specs.Held.{VectorState, is_mapped, is_or_was_mapped, vector_at}
use Rattle.ffm_model.specs.Held.VectorState.{unmapped}
use Rattle.ffm_model.proofs.BytesLemmas.{bytes-same}
use Rattle.law_counting.proofs.Reply.{not_negative}
use Rattle.law_programs.specs.Windows.{LengthsAreTold, WasUnmapped, length_word}
use Rattle.law_programs.proofs.Changes.{reply-made}
use Rattle.law_programs.proofs.Copies.{At, at-event}
use Rattle.law_programs.proofs.Fits.{Match, mapped-unwritten}
use Rattle.law_programs.proofs.Kept.{unmapped_in}
use Rattle.law_programs.proofs.Once.{unmapped-once}
use Rattle.law_programs.proofs.Own.{own-has}
use Rattle.law_programs.proofs.Ranges.{written-at}
use Rattle.law_programs.proofs.Tables.{is_unmapped, large-there}
use Rattle.law_counting.proofs.OwnSteps.{Own}

-- ---- words that are stored

bytes-are : (f : ByteMap) (bs : List ℕ) (x : ℕ) → ((i : ℕ) → i < length bs → f (x + i) ≡ get_or bs i 0) → bytes_at f x (length bs) ≡ bs
bytes-are f [] x h = refl
bytes-are f (b ∷ bs) x h =
    let first : f x ≡ b = ap f (omega arith) ∙ h 0 (omega arith) in
    ap₂ (λ (c : ℕ) (cs : List ℕ). c ∷ cs) first (bytes-are f bs (x + 1) (λ i lt. ap f (omega arith) ∙ h (suc i) (omega arith)))

written : (m : ByteMap) (bs : List ℕ) (x : ℕ) → bytes_at (write_bytes m x bs) x (length bs) ≡ bs
written m bs x = bytes-are (write_bytes m x bs) bs x (λ i lt. written-at m bs x i lt)

before-written : (m : ByteMap) (bs : List ℕ) (x y : ℕ) → y < x → write_bytes m x bs y ≡ m y
before-written m bs x y lt =
    let off : nat_le x y ≡ false = grind (arith, nat_tests) in
    ap (λ (b : Bool). if b && nat_lt y (x + length bs) then slice_index bs (y - x) else m y) off

-- ---- length words

lengths-before : (m : ByteMap) (at : ℕ) (vs : List Span) (y : ℕ) → y < at → lengths_written m at vs y ≡ m y
lengths-before m at [] y lt = refl
lengths-before m at (v ∷ vs) y lt =
    lengths-before (store_number m (at + 4) 4 v.moved) (at + 8) vs y (omega arith) ∙ before-written m (low_bytes 4 v.moved) (at + 4) y (omega arith)

length-at : (m : ByteMap) (at : ℕ) (vs : List Span) (i : ℕ) → i < length vs → bytes_at (lengths_written m at vs) (at + 8 * i + 4) 4 ≡ low_bytes 4 (get_or vs i no_span).moved
length-at m at [] i lt = absurd (omega (arith, lt))
length-at m at (v ∷ vs) zero lt =
    let stored : ByteMap = store_number m (at + 4) 4 v.moved in
    bytes-same (lengths_written stored (at + 8) vs) stored (at + 8 * 0 + 4) (at + 4) 4
    (λ j few. lengths-before stored (at + 8) vs (at + 8 * 0 + 4 + j) (omega arith) ∙ ap stored (omega arith)) ∙ written m (low_bytes 4 v.moved) (at + 4)
length-at m at (v ∷ vs) (suc i) lt =
    let stored : ByteMap = store_number m (at + 4) 4 v.moved in
    let place : at + 8 * suc i + 4 ≡ at + 8 + 8 * i + 4 = omega arith in
    ap (λ (x : ℕ). bytes_at (lengths_written stored (at + 8) vs) x 4) place ∙ length-at stored (at + 8) vs i (omega (arith, lt))

take-there : (n : ℕ) (vs : List Span) (i : ℕ) → i < n → i < length vs → i < length (take n vs)
take-there zero vs i lt there = absurd (omega (arith, lt))
take-there (suc n) [] i lt there = absurd (omega (arith, there))
take-there (suc n) (v ∷ vs) zero lt there = omega arith
take-there (suc n) (v ∷ vs) (suc i) lt there = omega (arith, take-there n vs i (omega arith) (omega (arith, there)))

within : (i n : ℕ) → (n ≤ i → ⊥) → i < n
within i n h =
    let go : (b : Bool) → nat_lt i n ≡ b → i < n =
    elim [ true ↦ λ e. grind (arith, nat_tests) | false ↦ λ e. let past : n ≤ i = grind (arith, nat_tests) in absurd (h past) ] in
    go (nat_lt i n) refl

-- ---- the reply

request-low : (k : ℤ) → int_le (pos 0) k ≡ true → int_lt k PSA_IPC_CALL ≡ false
request-low (pos n) e = not_negative n
request-low (negsuc n) e = cc

abbrev told_memory : State → PendingMessage → ByteMap
told_memory st m = if int_lt m.kind PSA_IPC_CALL then st.memory else lengths_written st.memory m.vectors.out_vec (outputs_given m)

-- the memory after a reply that is done
reply-memory : (s : System) (old new : State) (a : ℕ) (h : Handle) (status : Status) (m : PendingMessage) → kind_of s a ≡ Partition → message_held s old.spm a h ≡ Some m → Own s old new a (call.Reply h status) outcome.Done → new.memory ≡ told_memory old m
reply-memory s old new a h status m kind there own =
    let Q : Effect → Type 0 = λ f. outcome_eq f.outcome outcome.Done ≡ true → f.state.memory ≡ told_memory old m in
    let due = own-has Q s old a (call.Reply h status) (handle_shown outcome.Done) kind (λ e. cc)
    (reply-made s old a h status.0 Q
    (λ n held e. let same : n ≡ m = (let both : Some n ≡ Some m = sym held ∙ there in cc) in ap (told_memory old) same)) own.outcome in
    ap (λ (x : State). x.memory) (sym own.state) ∙ due

unmapped-is : (u : VectorState) → is_or_was_mapped u ≡ true → is_mapped u ≡ false → is_unmapped u ≡ true
unmapped-is unmapped e f = refl
unmapped-is _ e f = cc

pub lengths-are-told : LengthsAreTold
lengths-are-told s m a script es e old new h status x index event is done there maps =
    let at : At s a script es e old new (call.Reply h status) = at-event s m a script es e old new (call.Reply h status) event is (λ z. cc) in
    let it : Match s old.spm a (unmapped_in s a script es) h x = at.table h x there in
    let message : PendingMessage = it.message in
    let large = it.fits.large index maps in
    let more : 0 < (vector_at x.output index).size = (let lt : nat_lt 0 (vector_at x.output index).size ≡ true = large.1 in grind (arith, nat_tests)) in
    let there_is : index < length message.vectors.output = large-there message.vectors.output index (λ none. omega (arith, more, it.fits.output index, none)) in
    let given : index < message.vectors.out_len = within index message.vectors.out_len (λ past. omega (arith, more, it.fits.output index, it.fits.given index past)) in
    let kind : int_lt message.kind PSA_IPC_CALL ≡ false = request-low message.kind (ap (λ (z : ℤ). int_le (pos 0) z) (sym it.fits.kind) ∙ large.0) in
    let own : Own s old new a (call.Reply h status) outcome.Done = subst (λ (o : Outcome). Own s old new a (call.Reply h status) o) done at.own in
    let memory : new.memory ≡ lengths_written old.memory message.vectors.out_vec (outputs_given message) =
    reply-memory s old new a h status message at.kind it.found own ∙ ap (λ (b : Bool). if b then old.memory else lengths_written old.memory message.vectors.out_vec (outputs_given message)) kind in
    let once = unmapped-once s m a script es e old new h index event in
    let unmaps : is_mapped (vector_at x.output index).state ≡ false → WasUnmapped s a script es h index (output_at message index).moved =
    λ off.
    let told = it.fits.told index (unmapped-is (vector_at x.output index).state maps off) in
    subst (λ (n : ℕ). WasUnmapped s a script es h index n) (sym told.2) told.1 in
    record {
      message = message;
      held = it.found;
      len = (output_at message index).moved;
      word = ap (λ (f : ByteMap). bytes_at f (length_word message index) 4) memory
          ∙ (length-at old.memory message.vectors.out_vec (outputs_given message) index (take-there message.vectors.out_len message.vectors.output index given there_is)
          ∙ ap (λ (v : Span). low_bytes 4 v.moved) (get_or-take message.vectors.out_len message.vectors.output index no_span given));
      still = λ on. it.fits.unwritten index (mapped-unwritten (vector_at x.output index).state on);
      unmapped = unmaps;
      only = λ n was. once.one n (output_at message index).moved was (unmaps (once.gone n x was there));
    }
