-- Messages that are found, delivered, changed and removed.
use Rattle.std.proofs.Common.{ℕ, ℤ, ◌≡◌, ◌<◌, ◌+◌, ◌++◌, true, false, List, [], ◌∷◌, length, set, take, drop, get_or, add-one, refl, ap, sym, subst, ◌∙◌, append_assoc, append-nil, ◌≤◌, not}
use Rattle.std.specs.Prelude.{Some, None, option_and_then, find, if◌then◌else◌}
use Rattle.std.proofs.lemmas.List.{set_split, drop_all, drop_more, take_all, take_more}
use Rattle.std.proofs.lemmas.List.Elements.{All-filter, All-same}
use Rattle.ffm_model.specs.declared.system.System.{System}
use Rattle.ffm_model.specs.declared.machine.Handle.{Handle}
use Rattle.ffm_model.specs.declared.objects.PendingMessage.{PendingMessage}
use Rattle.ffm_model.specs.declared.objects.Vectors.{Vectors}
use Rattle.ffm_model.specs.declared.machine.Message.{Message}
use Rattle.ffm_model.specs.declared.machine.Outcome.TheVariants.{Got}
use Rattle.ffm_model.specs.Memory.{valid_buffer, words_stored}
use Rattle.ffm_model.specs.ClientCalls.{effect}
use Rattle.ffm_model.specs.ServiceCalls.{get_of, message_size, message_words, psa_get, reply_to, request_held, service_of_signal, shown_message}
use Rattle.ffm_model.specs.State.{State, delivered, has_handle, is_undelivered, with_vectors, without_message}
use Rattle.memory_image.specs.declared.image.Image.{Image}
use Rattle.ffm_model.specs.Ranges.{ranges_of}
use Rattle.memory_image.specs.Pieces.{byte_at, regions_of}
use Rattle.memory_image.proofs.Messages.{delivered_has, held_has, put_has, reply_is, request_has}
use Rattle.machine_rules.specs.Vectors.{AreWithin}
use Rattle.machine_calls.specs.declared.machine.Machine.{Machine}
use Rattle.machine_calls.specs.declared.machine.Objects.{Objects}
use Rattle.machine_calls.specs.Machine.{spm_of_objects, state_of, IsMachineOf, MessagesFit}

-- ---- psa_get

at_first : (s : ℕ) (h : Handle) (m : PendingMessage) (ms : List PendingMessage) → is_undelivered s m ≡ true → delivered s h (m ∷ ms) ≡ record m { handle = Some h } ∷ ms
at_first s h m ms is = rw is refl

past_first : (s : ℕ) (h : Handle) (m : PendingMessage) (ms : List PendingMessage) → is_undelivered s m ≡ false → delivered s h (m ∷ ms) ≡ m ∷ delivered s h ms
past_first s h m ms is = rw is refl

-- the message at a place is the first that waits
pub deliver_here : (s : ℕ) (h : Handle) (cs ms : List PendingMessage) (i : ℕ) (x : PendingMessage) → cs ≡ ms → i < length ms → delivered s h ms ≡ take i ms ++ delivered s h (drop i ms) → is_undelivered s (get_or cs i x) ≡ true
    → set cs i (record (get_or cs i x) { handle = Some h }) ≡ delivered s h ms
deliver_here s h cs ms i x same below so_far is =
    let new = record (get_or ms i x) { handle = Some h } in
    let waits : is_undelivered s (get_or ms i x) ≡ true = subst (λ l. is_undelivered s (get_or l i x) ≡ true) same is in
    let split : set ms i new ≡ take i ms ++ new ∷ drop (i + 1) ms = rw add-one (set_split ms i new below) in
    ap (λ l. set l i (record (get_or l i x) { handle = Some h })) same
    ∙ split ∙ ap (λ l. take i ms ++ l) (sym (ap (delivered s h) (drop_more ms i x below) ∙ at_first s h (get_or ms i x) (drop (i + 1) ms) waits)) ∙ sym so_far

-- it isn't
pub deliver_past : (s : ℕ) (h : Handle) (cs ms : List PendingMessage) (i : ℕ) (x : PendingMessage) → cs ≡ ms → i < length ms → delivered s h ms ≡ take i ms ++ delivered s h (drop i ms) → is_undelivered s (get_or cs i x) ≡ false
    → delivered s h ms ≡ take (i + 1) ms ++ delivered s h (drop (i + 1) ms)
deliver_past s h cs ms i x same below so_far is =
    let past : is_undelivered s (get_or ms i x) ≡ false = subst (λ l. is_undelivered s (get_or l i x) ≡ false) same is in
    so_far ∙ ap (λ l. take i ms ++ l) (ap (delivered s h) (drop_more ms i x below) ∙ past_first s h (get_or ms i x) (drop (i + 1) ms) past)
    ∙ sym (append_assoc (take i ms) (get_or ms i x ∷ []) (delivered s h (drop (i + 1) ms))) ∙ ap (λ l. l ++ delivered s h (drop (i + 1) ms)) (sym (take_more ms i x below))

-- all are past
pub deliver_none : (s : ℕ) (h : Handle) (cs ms : List PendingMessage) (i : ℕ) → cs ≡ ms → length ms ≤ i → delivered s h ms ≡ take i ms ++ delivered s h (drop i ms) → cs ≡ delivered s h ms
deliver_none s h cs ms i same over so_far =
    same ∙ sym (so_far ∙ ap (λ l. take i ms ++ delivered s h l) (drop_all i ms over) ∙ append-nil (take i ms) ∙ take_all i ms over)

-- ---- the vectors of messages

-- those of a request
pub request_fits : (regions : List (ℕ × ℕ)) (s : System) (o : Objects) (a : ℕ) (h : Handle) (index : ℕ) (m : PendingMessage) → Some m ≡ request_held s (spm_of_objects o) a h index → MessagesFit regions o → AreWithin regions m.vectors
request_fits regions s o a h index m is k = request_has (λ x. AreWithin regions x.vectors) s (spm_of_objects o) a h index m (sym is) k

-- ---- the machine is still the system's

-- where the messages fit and the regions stay
pub kept_messages : (s : System) (m : Machine) (o : Objects) (image : Image) → IsMachineOf s m → regions_of image ≡ regions_of m.memory → MessagesFit (ranges_of s.regions) o → IsMachineOf s (record { objects = o; memory = image })
kept_messages s m o image k same fits = record { regions = same ∙ k.regions; messages = fits }

-- where the vectors of a message changed
pub kept_vectors : (s : System) (m : Machine) (o : Objects) (image : Image) (h : Handle) (v : Vectors) → IsMachineOf s m → regions_of image ≡ regions_of m.memory
    → spm_of_objects o ≡ with_vectors (spm_of_objects m.objects) h v → AreWithin (ranges_of s.regions) v → IsMachineOf s (record { objects = o; memory = image })
kept_vectors s m o image h v k same is fits =
    kept_messages s m o image k same
    (All-same (λ x. AreWithin (ranges_of s.regions) x.vectors) _ _ (ap (λ b. b.messages) is) (put_has (AreWithin (ranges_of s.regions)) h v m.objects.messages.items fits k.messages))

-- where a message was delivered
pub kept_delivered : (s : System) (m : Machine) (o : Objects) (image : Image) (service : ℕ) (h : Handle) → IsMachineOf s m → regions_of image ≡ regions_of m.memory
    → spm_of_objects o ≡ record (spm_of_objects m.objects) { messages = delivered service h m.objects.messages.items } → IsMachineOf s (record { objects = o; memory = image })
kept_delivered s m o image service h k same is =
    kept_messages s m o image k same
    (All-same (λ x. AreWithin (ranges_of s.regions) x.vectors) _ _ (ap (λ b. b.messages) is) (delivered_has (AreWithin (ranges_of s.regions)) service h m.objects.messages.items k.messages))

-- ---- what psa_get answers and leaves

got : (s : System) (st : State) (a signal msg i : ℕ) (h : Handle) (x : PendingMessage) → Some i ≡ service_of_signal s a signal → Some x ≡ find (is_undelivered i) st.spm.messages → valid_buffer s a msg message_size ≡ true
    → psa_get s st a signal msg h ≡ Some (get_of s st i msg h x)
got s st a signal msg i h x at first room =
    ap (option_and_then (λ i. option_and_then (λ m. if valid_buffer s a msg message_size then Some (get_of s st i msg h m) else None) (find (is_undelivered i) st.spm.messages))) (sym at)
    ∙ ap (option_and_then (λ m. if valid_buffer s a msg message_size then Some (get_of s st i msg h m) else None)) (sym first)
    ∙ ap (λ b. if b then Some (get_of s st i msg h x) else None) room

pub got_due : (s : System) (old new : Machine) (given : List Handle) (a signal msg i : ℕ) (h : Handle) (x : PendingMessage) (shown : Message) (words : List ℕ)
    → Some i ≡ service_of_signal s a signal → Some x ≡ find (is_undelivered i) old.objects.messages.items → valid_buffer s a msg message_size ≡ true
    → shown ≡ shown_message s (spm_of_objects old.objects) x h → words ≡ message_words shown
    → spm_of_objects new.objects ≡ record (spm_of_objects old.objects) { messages = delivered i h old.objects.messages.items } → byte_at new.memory ≡ words_stored (byte_at old.memory) msg words
    → psa_get s (state_of old given) a signal msg h ≡ Some (effect (Got shown) (state_of new (given ++ h ∷ [])))
got_due s old new given a signal msg i h x shown words at first room is words_are spm memory =
    got s (state_of old given) a signal msg i h x at first room
    ∙ ap (λ m. Some (effect (Got m) (record { spm = record (spm_of_objects old.objects) { messages = delivered i h old.objects.messages.items }; handles_given = given ++ h ∷ []; memory = words_stored (byte_at old.memory) msg (message_words m) }))) (sym is)
    ∙ ap (λ b. Some (effect (Got shown) (record { spm = b; handles_given = given ++ h ∷ []; memory = words_stored (byte_at old.memory) msg (message_words shown) }))) (sym spm)
    ∙ ap (λ m. Some (effect (Got shown) (record { spm = spm_of_objects new.objects; handles_given = given ++ h ∷ []; memory = m }))) (sym (memory ∙ ap (words_stored (byte_at old.memory) msg) words_are))

-- ---- psa_reply

-- the messages that are left, where no call after it changes one
pub removed_fit : (regions : List (ℕ × ℕ)) (o n p : Objects) (h : Handle) → spm_of_objects n ≡ without_message (spm_of_objects o) h → p.messages ≡ n.messages → MessagesFit regions o → MessagesFit regions p
removed_fit regions o n p h is same fits =
    All-same (λ x. AreWithin regions x.vectors) _ _ (ap (λ v. v.items) same ∙ ap (λ b. b.messages) is) (All-filter (λ m. not (has_handle m.handle h)) (λ x. AreWithin regions x.vectors) o.messages.items fits)

-- the vectors of a message that may be answered
pub reply_fits : (regions : List (ℕ × ℕ)) (s : System) (o : Objects) (a : ℕ) (h : Handle) (status : ℤ) (m : PendingMessage) → Some m ≡ reply_to s (spm_of_objects o) a h status → MessagesFit regions o → AreWithin regions m.vectors
reply_fits regions s o a h status m is k = held_has (λ x. AreWithin regions x.vectors) s (spm_of_objects o) a h m (reply_is s (spm_of_objects o) a h status m (sym is)) k
