-- A partition's own calls on its messages, with the table after them.
use Rattle.std.proofs.Common.{ℕ, zero, suc, ◌≡◌, ◌≤◌, Bool, true, false, ◌&&◌, List, [], ◌∷◌, ◌++◌, length, refl, ap, sym, ◌∙◌, subst, arith}
use Rattle.std.specs.Prelude.{◌==◌, Option, Some, None, IfSome, find, count_by, map, get_or, nat_lt, if◌then◌else◌}
use Rattle.std.specs.List.{list_any}
use Rattle.std.specs.Option.{option_map_or, option_or}
use Rattle.std.specs.Ordering.{int_eq}
use Rattle.std.specs.Str.{bytes_eq}
use Rattle.std.proofs.lemmas.Bool.{and_parts}
use Rattle.std.proofs.lemmas.Slice.Eq.{bytes_eq-Decides}
use Rattle.std.proofs.lemmas.List.Folds.{find-append}
use Rattle.law_lists.proofs.Counts.{bit, count-push, none-count}
use Rattle.ffm_model.specs.declared.constants.TheConstants.{PSA_MAX_IOVEC}
use Rattle.ffm_model.specs.declared.system.System.{System}
use Rattle.ffm_model.specs.declared.system.ActorKind.{ActorKind}
use Rattle.ffm_model.specs.declared.system.ActorKind.TheVariants.{Partition}
use Rattle.ffm_model.specs.declared.machine.Handle.{Handle}
use Rattle.ffm_model.specs.declared.machine.Status.{Status}
use Rattle.ffm_model.specs.declared.machine.Message.{Message}
use Rattle.ffm_model.specs.declared.machine.Call.{Call}
use Rattle.ffm_model.specs.declared.machine.Call.TheVariants as call
use Rattle.ffm_model.specs.declared.machine.Outcome.{Outcome}
use Rattle.ffm_model.specs.declared.machine.Outcome.TheVariants as outcome
use Rattle.ffm_model.specs.declared.objects.Span.{Span}
use Rattle.ffm_model.specs.declared.objects.PendingMessage.{PendingMessage}
use Rattle.ffm_model.specs.declared.objects.ActorPhase.TheVariants.{Running}
use Rattle.ffm_model.specs.Actors.{kind_of, is_service_of}
use Rattle.ffm_model.specs.Memory.{no_span, valid_buffer}
use Rattle.ffm_model.specs.State.{SpmState, State, phase_of, handle_eq, has_handle, is_undelivered, delivered, message_held}
use Rattle.ffm_model.specs.Signals.{is_panicked}
use Rattle.ffm_model.specs.Panic.{panic_effect}
use Rattle.ffm_model.specs.ClientCalls.{Effect, effect}
use Rattle.ffm_model.specs.ServiceCalls.{get_of, message_size, output_moved, read_of, reply_of, service_of_signal, shown_message, skip_of}
use Rattle.ffm_model.specs.Calls.{call_case, error_effect, effect_of}
use Rattle.ffm_model.specs.Step.{handle_allowed, handle_shown, outcome_eq, message_eq}
use Rattle.ffm_model.specs.Records.{is_blocked_outcome}
use Rattle.ffm_model.specs.Held.{Holder, HolderService, HeldMessage, HeldVector, changed_at, fresh_vector, held, holder_of, is_held_as, most_held, table_after, vector_at, with_message_of, without}
use Rattle.ffm_model.proofs.StepLemmas.{effect-has}
use Rattle.law_counting.proofs.Balance.{Balanced}
use Rattle.law_counting.proofs.Events.{caller-running}
use Rattle.law_counting.proofs.Resume.{fresh-new, int_same, times}
use Rattle.law_counting.proofs.Walk.{handle-same, handle-self}
use Rattle.law_programs.proofs.Changes.{AreNew, Unmoved, get-made, read-made, reply-leaves, reply-made, request-is, skip-made, write-made}
use Rattle.law_programs.proofs.Fits.{AreHeld, Fits, InputUse, Match, OutputUse, input-fits, moved-held, output-fits}
use Rattle.law_programs.proofs.Messages.{AreWaiting, first-new, get-found, get-still, owed-still, self-dead, settled-still}
use Rattle.law_programs.proofs.Tables.{changed-count, handle-flip, is_unmapped, new-kept, new-size, new-unmapped, new-unused, none-held, same_handle, without-count, without-other, without-same}
use Rattle.law_counting.proofs.Outcomes.{done-is, panicked-is}
use Rattle.law_counting.proofs.OwnSteps.{Own, get-fresh}
use Rattle.law_counting.proofs.Returns.{blocked-alike}

-- what holds of a partition's PROGRAMMER ERROR and of its call's effect, holds of what it does
pub own-has : (Q : Effect → Type 0) (s : System) (st : State) (a : ℕ) (c : Call) (h : Handle) → kind_of s a ≡ Partition → Q (effect outcome.Panicked (record st { spm = panic_effect s st.spm a })) → IfSome (call_case s st a c h) Q → Q (effect_of s st a c h)
own-has Q s st a c h kind error made = effect-has Q s st a c h (subst (λ (k : ActorKind). Q (error_effect k s st a c)) (sym kind) error) made

-- ---- after a call

-- each handle of the table was given, once at most
abbrev pub AreGiven : List HeldMessage → List Handle → Type 0
AreGiven t given = (k : Handle) → count_by (is_held_as k) t ≤ times given k

pub record After (s : System) (a : ℕ) (T : Handle → ℕ → ℕ → Type 0) (t : List HeldMessage) (o : Outcome) (new : State) : Type 0 where
  pub held : is_panicked (phase_of new.spm a) ≡ false → AreHeld s new.spm a T t
  pub given : AreGiven t new.handles_given
  pub ends : is_blocked_outcome o ≡ false

not-blocked : (d o : Outcome) → is_blocked_outcome d ≡ false → outcome_eq d o ≡ true → is_blocked_outcome o ≡ false
not-blocked d o off e = sym (blocked-alike d o e) ∙ off

own-after : (T : Handle → ℕ → ℕ → Type 0) (s : System) (st new : State) (a : ℕ) (c : Call) (o : Outcome) (t : List HeldMessage) → kind_of s a ≡ Partition → Own s st new a c o
    → (outcome_eq outcome.Panicked o ≡ true → After s a T t o (record st { spm = panic_effect s st.spm a }))
    → IfSome (call_case s st a c (handle_shown o)) (λ e. outcome_eq e.outcome o ≡ true → After s a T t o e.state) → After s a T t o new
own-after T s st new a c o t kind own error made =
    subst (λ (x : State). After s a T t o x) own.state (own-has (λ (e : Effect). outcome_eq e.outcome o ≡ true → After s a T t o e.state) s st a c (handle_shown o) kind error made own.outcome)

-- after a PROGRAMMER ERROR it is panicked
dead-after : (T : Handle → ℕ → ℕ → Type 0) (s : System) (st : State) (a : ℕ) (o : Outcome) (t : List HeldMessage) → Balanced s (times st.handles_given) st.spm → phase_of st.spm a ≡ Running → AreGiven t st.handles_given → outcome_eq outcome.Panicked o ≡ true
    → After s a T t o (record st { spm = panic_effect s st.spm a })
dead-after T s st a o t balanced running given e = record {
  held = λ alive. self-dead s (times st.handles_given) st.spm a (AreHeld s (panic_effect s st.spm a) a T t) balanced running alive;
  given = given;
  ends = not-blocked outcome.Panicked o refl e;
}

changed-given : (h : Handle) (f : HeldMessage → HeldMessage) (t : List HeldMessage) (given : List Handle) → ((m : HeldMessage) → (f m).handle ≡ m.handle) → AreGiven t given → AreGiven (changed_at h f t) given
changed-given h f t given keep all k = omega (arith, changed-count h k f keep t, all k)

-- ---- psa_read, psa_skip and psa_write

pub read-after : (T : Handle → ℕ → ℕ → Type 0) (s : System) (st new : State) (a : ℕ) (h : Handle) (index buffer len : ℕ) (o : Outcome) (t : List HeldMessage) (g : List HeldVector → List HeldVector) → InputUse g index → kind_of s a ≡ Partition
    → Balanced s (times st.handles_given) st.spm → AreHeld s st.spm a T t → AreGiven t st.handles_given → Own s st new a (call.Read h index buffer len) o → After s a T (changed_at h (λ m. record m { input = g m.input }) t) o new
read-after T s st new a h index buffer len o t g turn kind balanced all given own =
    let f : HeldMessage → HeldMessage = λ m. record m { input = g m.input } in
    let kept : AreGiven (changed_at h f t) st.handles_given = changed-given h f t st.handles_given (λ m. refl) given in
    own-after T s st new a (call.Read h index buffer len) o (changed_at h f t) kind own
    (dead-after T s st a o (changed_at h f t) balanced (caller-running s st.spm a (call.Read h index buffer len) (λ p. refl) own.may) kept)
    (read-made s st a h index buffer len (λ e. outcome_eq e.outcome o ≡ true → After s a T (changed_at h f t) o e.state)
    (λ m request e. record {
      held = λ alive. moved-held T s st.spm a h _ m f t (λ y. refl) (request-is s st.spm a h index m request).held (λ x at fits. input-fits (T h) (holder_of s a) g index _ x m turn fits) all;
      given = kept;
      ends = not-blocked ((read_of st h index buffer len m).outcome) o refl e;
    }))

pub skip-after : (T : Handle → ℕ → ℕ → Type 0) (s : System) (st new : State) (a : ℕ) (h : Handle) (index len : ℕ) (o : Outcome) (t : List HeldMessage) (g : List HeldVector → List HeldVector) → InputUse g index → kind_of s a ≡ Partition
    → Balanced s (times st.handles_given) st.spm → AreHeld s st.spm a T t → AreGiven t st.handles_given → Own s st new a (call.Skip h index len) o → After s a T (changed_at h (λ m. record m { input = g m.input }) t) o new
skip-after T s st new a h index len o t g turn kind balanced all given own =
    let f : HeldMessage → HeldMessage = λ m. record m { input = g m.input } in
    let kept : AreGiven (changed_at h f t) st.handles_given = changed-given h f t st.handles_given (λ m. refl) given in
    own-after T s st new a (call.Skip h index len) o (changed_at h f t) kind own
    (dead-after T s st a o (changed_at h f t) balanced (caller-running s st.spm a (call.Skip h index len) (λ p. refl) own.may) kept)
    (skip-made s st a h index len (λ e. outcome_eq e.outcome o ≡ true → After s a T (changed_at h f t) o e.state)
    (λ m request e. record {
      held = λ alive. moved-held T s st.spm a h _ m f t (λ y. refl) (request-is s st.spm a h index m request).held (λ x at fits. input-fits (T h) (holder_of s a) g index _ x m turn fits) all;
      given = kept;
      ends = not-blocked ((skip_of st.spm h index len m).outcome) o refl e;
    }))

pub write-after : (T : Handle → ℕ → ℕ → Type 0) (s : System) (st new : State) (a : ℕ) (h : Handle) (index buffer len : ℕ) (o : Outcome) (t : List HeldMessage) (g : List HeldVector → List HeldVector)
    → ((x : HeldMessage) → nat_lt index PSA_MAX_IOVEC ≡ true → held t h ≡ Some x → OutputUse g index x.output)
    → ((x : HeldMessage) (m : PendingMessage) → nat_lt index PSA_MAX_IOVEC ≡ true → held t h ≡ Some x → Fits (holder_of s a) (T h) x m → (i : ℕ) → i ≡ index → is_unmapped (vector_at (g x.output) i).state ≡ true
    → (n : ℕ) × T h i n × ((get_or (output_moved m index len).output i no_span).moved ≡ n)) → kind_of s a ≡ Partition
    → Balanced s (times st.handles_given) st.spm → AreHeld s st.spm a T t → AreGiven t st.handles_given → Own s st new a (call.Write h index buffer len) o → After s a T (changed_at h (λ m. record m { output = g m.output }) t) o new
write-after T s st new a h index buffer len o t g turn here kind balanced all given own =
    let f : HeldMessage → HeldMessage = λ m. record m { output = g m.output } in
    let kept : AreGiven (changed_at h f t) st.handles_given = changed-given h f t st.handles_given (λ m. refl) given in
    own-after T s st new a (call.Write h index buffer len) o (changed_at h f t) kind own
    (dead-after T s st a o (changed_at h f t) balanced (caller-running s st.spm a (call.Write h index buffer len) (λ p. refl) own.may) kept)
    (write-made s st a h index buffer len (λ e. outcome_eq e.outcome o ≡ true → After s a T (changed_at h f t) o e.state)
    (λ m request e.
    let is = request-is s st.spm a h index m request in
    record {
      held = λ alive. moved-held T s st.spm a h _ m f t (λ y. refl) is.held (λ x at fits. output-fits (T h) (holder_of s a) g index len x m (turn x is.index_fits at) (here x m is.index_fits at fits) fits) all;
      given = kept;
      ends = not-blocked outcome.Done o refl e;
    }))

-- ---- psa_reply

reply-held : (T : Handle → ℕ → ℕ → Type 0) (s : System) (st : State) (a : ℕ) (h : Handle) (t : List HeldMessage) (new : SpmState) → Balanced s (times st.handles_given) st.spm → AreGiven t st.handles_given → AreHeld s st.spm a T t
    → ((k : Handle) (m : PendingMessage) → handle_eq h k ≡ false → message_held s st.spm a k ≡ Some m → message_held s new a k ≡ Some m) → AreHeld s new a T (without h t)
reply-held T s st a h t new balanced given all still k x e =
    same_handle h k (Match s new a T k x)
    (λ same.
    let none : held (without h t) h ≡ None = without-same h t (omega (arith, given h, balanced.single h)) in
    let some : held (without h t) h ≡ Some x = ap (held (without h t)) same ∙ e in
    cc)
    (λ apart. let old = all k x (sym (without-other h k apart t) ∙ e) in record { message = old.message; found = still k old.message apart old.found; fits = old.fits })

pub reply-after : (T : Handle → ℕ → ℕ → Type 0) (s : System) (st new : State) (a : ℕ) (h : Handle) (status : Status) (o : Outcome) (t : List HeldMessage) → kind_of s a ≡ Partition
    → Balanced s (times st.handles_given) st.spm → AreHeld s st.spm a T t → AreGiven t st.handles_given → Own s st new a (call.Reply h status) o → After s a T (table_after (holder_of s a) (call.Reply h status) o t) o new
reply-after T s st new a h status o t kind balanced all given own =
    let limit : Handle → ℕ = times st.handles_given in
    let p : Holder = holder_of s a in
    own-after T s st new a (call.Reply h status) o (table_after p (call.Reply h status) o t) kind own
    (λ e.
    let same : t ≡ table_after p (call.Reply h status) o t = ap (λ (x : Outcome). table_after p (call.Reply h status) x t) (sym (panicked-is o e)) in
    subst (λ (u : List HeldMessage). After s a T u o (record st { spm = panic_effect s st.spm a })) same
    (dead-after T s st a o t balanced (caller-running s st.spm a (call.Reply h status) (λ p. refl) own.may) given e))
    (reply-made s st a h status.0 (λ e. outcome_eq e.outcome o ≡ true → After s a T (table_after p (call.Reply h status) o t) o e.state)
    (λ m there e.
    let same : without h t ≡ table_after p (call.Reply h status) o t = ap (λ (x : Outcome). table_after p (call.Reply h status) x t) (sym (done-is o e)) in
    subst (λ (u : List HeldMessage). After s a T u o (reply_of s st h status.0 m).state) same
    (record {
      held = reply-leaves s st.spm h status.0 m (λ (b : SpmState). is_panicked (phase_of b a) ≡ false → AreHeld s b a T (without h t))
          (λ alive. reply-held T s st a h t _ balanced given all (λ k n apart found. settled-still s limit st.spm a a h k status.0 m n balanced there apart found))
          (λ n request alive. reply-held T s st a h t _ balanced given all (λ k y apart found. owed-still s limit st.spm a a h k status.0 m y n balanced there request apart alive found));
      given = λ k. omega (arith, without-count h k t, given k);
      ends = not-blocked outcome.Done o refl e;
    })))

-- ---- psa_get

-- no message that was shown comes again
pub get-new : (s : System) (st new : State) (a signal msg : ℕ) (m : Message) → kind_of s a ≡ Partition → Own s st new a (call.Get signal msg) (outcome.Got m) → list_any (handle_eq m.handle) st.handles_given ≡ false
get-new s st new a signal msg m kind own =
    own-has (λ (e : Effect). outcome_eq e.outcome (outcome.Got m) ≡ true → list_any (handle_eq m.handle) st.handles_given ≡ false) s st a (call.Get signal msg) m.handle kind (λ e. cc)
    (get-made s st a signal msg m.handle (λ e. outcome_eq e.outcome (outcome.Got m) ≡ true → list_any (handle_eq m.handle) st.handles_given ≡ false)
    (λ v first found place room e. fresh-new st m.handle (get-fresh s st a signal msg v first m.handle kind found place room own.allowed))) own.outcome

unmoved-at : (vs : List Span) (i : ℕ) → Unmoved vs → (get_or vs i no_span).moved ≡ 0
unmoved-at [] i h = refl
unmoved-at (v ∷ vs) zero h = h.0
unmoved-at (v ∷ vs) (suc i) h = unmoved-at vs i h.1

-- what is shown of a message
record Shown (m k : Message) : Type 0 where
  kind : m.kind ≡ k.kind
  input : m.in_size ≡ k.in_size
  output : m.out_size ≡ k.out_size

shown-is : (m k : Message) → message_eq m k ≡ true → Shown m k
shown-is m k e =
    let one = and_parts (int_eq m.kind k.kind) _ e in
    let two = and_parts (handle_eq m.handle k.handle) _ one.1 in
    let three = and_parts (int_eq m.client_id k.client_id) _ two.1 in
    let four = and_parts _ (bytes_eq m.in_size k.in_size && bytes_eq m.out_size k.out_size) three.1 in
    let five = and_parts (bytes_eq m.in_size k.in_size) (bytes_eq m.out_size k.out_size) four.1 in
    record { kind = int_same m.kind k.kind one.0; input = (bytes_eq-Decides m.in_size k.in_size).0 five.0; output = (bytes_eq-Decides m.out_size k.out_size).0 five.1 }

abbrev message_kept : HolderService → Message → HeldMessage
message_kept v k = record { handle = k.handle; kind = k.kind; mm = v.mm; input = map fresh_vector k.in_size; output = map fresh_vector k.out_size }

new-fits : (T : ℕ → ℕ → Type 0) (p : Holder) (s : System) (b : SpmState) (v : HolderService) (first : PendingMessage) (k : Message) (h : Handle) → Shown (shown_message s b first h) k → AreNew first.vectors
    → Fits p T (message_kept v k) (record first { handle = Some h })
new-fits T p s b v first k h shown new = record {
  kind = sym shown.kind;
  input = λ i. ap (λ (ns : List ℕ). (vector_at (map fresh_vector ns) i).size) (sym shown.input) ∙ new-size first.vectors.input i;
  output = λ i. ap (λ (ns : List ℕ). (vector_at (map fresh_vector ns) i).size) (sym shown.output) ∙ new-size first.vectors.output i;
  unread = λ i e. unmoved-at first.vectors.input i new.input;
  unwritten = λ i e. unmoved-at first.vectors.output i new.output;
  windowed = λ i e. let off = new-unmapped k.out_size i in cc;
  large = λ i e. let off = new-unused k.out_size i in cc;
  told = λ i e. let off = new-kept k.out_size i in cc;
  given = λ i past. new.given i past;
}

-- what is known of the message that psa_get gives under a new handle
record IsGot (s : System) (st : State) (a v : ℕ) (first : PendingMessage) (k : Message) : Type 0 where
  balanced : Balanced s (times st.handles_given) st.spm
  owned : is_service_of s a v ≡ true
  place : find (is_undelivered v) st.spm.messages ≡ Some first
  unshown : list_any (handle_eq k.handle) st.handles_given ≡ false
  shown : Shown (shown_message s st.spm first k.handle) k
  unmoved : AreNew first.vectors

abbrev got_spm : State → ℕ → Message → SpmState
got_spm st v k = record st.spm { messages = delivered v k.handle st.spm.messages }

-- the table that doesn't have it
old-held : (T : Handle → ℕ → ℕ → Type 0) (s : System) (st : State) (a v : ℕ) (first : PendingMessage) (k : Message) (t : List HeldMessage) → IsGot s st a v first k → AreHeld s st.spm a T t → AreGiven t st.handles_given → AreHeld s (got_spm st v k) a T t
old-held T s st a v first k t got all given j x e =
    let never : times st.handles_given k.handle ≡ 0 = none-count (handle_eq k.handle) st.handles_given got.unshown in
    let none : held t k.handle ≡ None = none-held k.handle t (omega (arith, given k.handle, never)) in
    same_handle k.handle j (Match s (got_spm st v k) a T j x)
    (λ same. let some : held t k.handle ≡ Some x = ap (held t) same ∙ e in cc)
    (λ apart. let old = all j x e in record { message = old.message; found = get-still s st.spm a v k.handle j apart ∙ old.found; fits = old.fits })

-- and the table that has it
new-by : (T : Handle → ℕ → ℕ → Type 0) (s : System) (st : State) (a v : ℕ) (first : PendingMessage) (k : Message) (w : HolderService) (t : List HeldMessage) → IsGot s st a v first k → AreHeld s st.spm a T t → AreGiven t st.handles_given
    → (j : Handle) (x : HeldMessage) (o : Option HeldMessage) (b : Bool) → held t j ≡ o → handle_eq k.handle j ≡ b → option_or o (if b then Some (message_kept w k) else None) ≡ Some x → Match s (got_spm st v k) a T j x
new-by T s st a v first k w t got all given j x (Some y) b at same e = old-held T s st a v first k t got all given j x (at ∙ e)
new-by T s st a v first k w t got all given j x None false at same e = cc
new-by T s st a v first k w t got all given j x None true at same e =
    let is : message_kept w k ≡ x = cc in
    let none : count_by (λ m. has_handle m.handle k.handle) st.spm.messages ≡ 0 =
    omega (arith, got.balanced.handles k.handle, none-count (handle_eq k.handle) st.handles_given got.unshown) in
    let new : Match s (got_spm st v k) a T k.handle (message_kept w k) = record {
      message = record first { handle = Some k.handle };
      found = get-found s st.spm a v k.handle first got.owned (handle-self k.handle) got.place none;
      fits = new-fits (T k.handle) (holder_of s a) s st.spm w first k k.handle got.shown got.unmoved;
    } in
    subst (λ (y : HeldMessage). Match s (got_spm st v k) a T j y) is (subst (λ (i : Handle). Match s (got_spm st v k) a T i (message_kept w k)) (handle-same k.handle j same) new)

new-held : (T : Handle → ℕ → ℕ → Type 0) (s : System) (st : State) (a v : ℕ) (first : PendingMessage) (k : Message) (w : HolderService) (t : List HeldMessage) → IsGot s st a v first k → AreHeld s st.spm a T t → AreGiven t st.handles_given
    → AreHeld s (got_spm st v k) a T (t ++ message_kept w k ∷ [])
new-held T s st a v first k w t got all given j x e =
    new-by T s st a v first k w t got all given j x (held t j) (handle_eq k.handle j) refl refl (sym (find-append (is_held_as j) t (message_kept w k ∷ [])) ∙ e)

record Gotten (T : Handle → ℕ → ℕ → Type 0) (s : System) (st : State) (a v : ℕ) (k : Message) (t : List HeldMessage) : Type 0 where
  held : AreHeld s (got_spm st v k) a T t
  given : AreGiven t (st.handles_given ++ k.handle ∷ [])

got-old : (T : Handle → ℕ → ℕ → Type 0) (s : System) (st : State) (a v : ℕ) (first : PendingMessage) (k : Message) (t : List HeldMessage) → IsGot s st a v first k → AreHeld s st.spm a T t → AreGiven t st.handles_given → Gotten T s st a v k t
got-old T s st a v first k t got all given = record { held = old-held T s st a v first k t got all given; given = λ j. omega (arith, given j, count-push (handle_eq j) st.handles_given k.handle) }

got-if : (T : Handle → ℕ → ℕ → Type 0) (s : System) (st : State) (a v : ℕ) (first : PendingMessage) (k : Message) (w : HolderService) (t : List HeldMessage) → IsGot s st a v first k → AreHeld s st.spm a T t → AreGiven t st.handles_given → (b : Bool)
    → Gotten T s st a v k (if b then t ++ message_kept w k ∷ [] else t)
got-if T s st a v first k w t got all given true = record {
  held = new-held T s st a v first k w t got all given;
  given = λ j. omega (arith, given j, count-push (handle_eq j) st.handles_given k.handle, count-push (is_held_as j) t (message_kept w k), ap bit (handle-flip k.handle j));
}
got-if T s st a v first k w t got all given false = got-old T s st a v first k t got all given

got-in : (T : Handle → ℕ → ℕ → Type 0) (s : System) (st : State) (a v : ℕ) (first : PendingMessage) (k : Message) (t : List HeldMessage) → IsGot s st a v first k → AreHeld s st.spm a T t → AreGiven t st.handles_given → (o : Option HolderService)
    → Gotten T s st a v k (option_map_or (λ w. with_message_of w k t) o t)
got-in T s st a v first k t got all given None = got-old T s st a v first k t got all given
got-in T s st a v first k t got all given (Some w) = got-if T s st a v first k w t got all given (nat_lt (length t) most_held)

got-after : (T : Handle → ℕ → ℕ → Type 0) (s : System) (st : State) (a signal msg v : ℕ) (first : PendingMessage) (t : List HeldMessage) (o : Outcome) → kind_of s a ≡ Partition → Balanced s (times st.handles_given) st.spm → AreWaiting st.spm.messages
    → ((v : ℕ) → service_of_signal s a signal ≡ Some v → is_service_of s a v ≡ true) → AreHeld s st.spm a T t → AreGiven t st.handles_given
    → service_of_signal s a signal ≡ Some v → find (is_undelivered v) st.spm.messages ≡ Some first → valid_buffer s a msg message_size ≡ true → handle_allowed s st a (call.Get signal msg) (handle_shown o) ≡ true
    → outcome_eq (get_of s st v msg (handle_shown o) first).outcome o ≡ true → After s a T (table_after (holder_of s a) (call.Get signal msg) o t) o (get_of s st v msg (handle_shown o) first).state
got-after T s st a signal msg v first t (outcome.Got k) kind balanced waiting owned all given found place room allowed e =
    let got : IsGot s st a v first k = record {
      balanced = balanced;
      owned = owned v found;
      place = place;
      unshown = fresh-new st k.handle (get-fresh s st a signal msg v first k.handle kind found place room allowed);
      shown = shown-is (shown_message s st.spm first k.handle) k e;
      unmoved = first-new v first st.spm.messages waiting place;
    } in
    let all_of = got-in T s st a v first k t got all given (find (λ w. w.signal == signal) (holder_of s a).services) in
    record { held = λ alive. all_of.held; given = all_of.given; ends = refl }
got-after T s st a signal msg v first t _ kind balanced waiting owned all given found place room allowed e = cc

pub get-after : (T : Handle → ℕ → ℕ → Type 0) (s : System) (st new : State) (a signal msg : ℕ) (o : Outcome) (t : List HeldMessage) → kind_of s a ≡ Partition → Balanced s (times st.handles_given) st.spm → AreWaiting st.spm.messages
    → ((v : ℕ) → service_of_signal s a signal ≡ Some v → is_service_of s a v ≡ true) → AreHeld s st.spm a T t → AreGiven t st.handles_given → Own s st new a (call.Get signal msg) o
    → After s a T (table_after (holder_of s a) (call.Get signal msg) o t) o new
get-after T s st new a signal msg o t kind balanced waiting owned all given own =
    let p : Holder = holder_of s a in
    own-after T s st new a (call.Get signal msg) o (table_after p (call.Get signal msg) o t) kind own
    (λ e.
    let same : t ≡ table_after p (call.Get signal msg) o t = ap (λ (x : Outcome). table_after p (call.Get signal msg) x t) (sym (panicked-is o e)) in
    subst (λ (u : List HeldMessage). After s a T u o (record st { spm = panic_effect s st.spm a })) same
    (dead-after T s st a o t balanced (caller-running s st.spm a (call.Get signal msg) (λ p. refl) own.may) given e))
    (get-made s st a signal msg (handle_shown o) (λ e. outcome_eq e.outcome o ≡ true → After s a T (table_after p (call.Get signal msg) o t) o e.state)
    (λ v first found place room e. got-after T s st a signal msg v first t o kind balanced waiting owned all given found place room own.allowed e))
