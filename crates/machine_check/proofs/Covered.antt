-- An entry that is a step changes no byte outside of the ranges that it may write, and these lie in the regions.
use Rattle.std.proofs.Common.{ℕ, zero, suc, ◌≡◌, ◌≤◌, ◌<◌, ◌+◌, ◌*◌, Bool, true, false, ◌&&◌, ◌||◌, List, [], ◌∷◌, ◌++◌, length, arith, ◌∙◌, ap, sym, refl, subst, inl, inr}
use Rattle.std.specs.Prelude.{ℤ, int_lt, nat_le, nat_lt, ◌==◌, min, find, All, Option, Some, IfSome, if◌then◌else◌}
use Rattle.std.specs.Option.{option_map, option_map_or}
use Rattle.std.specs.Ordering.{int_eq}
use Rattle.std.proofs.lemmas.Bool.{and_parts, or_parts}
use Rattle.std.proofs.lemmas.Bool.Decides.{nat_tests}
use Rattle.std.proofs.lemmas.List.{length-append, length-take}
use Rattle.std.proofs.lemmas.Slice.Eq.{bytes_eq-Decides}
use Rattle.std.proofs.lemmas.Option.{cond_some}
use Rattle.law_lists.proofs.Bools.{if_passes}
use Rattle.law_lists.proofs.Options.{each_made, each_mapped}
use Rattle.memory_image.specs.Differences.{any_covers, range_covers}
use Rattle.ffm_model.specs.declared.constants.TheConstants.{PSA_ERROR_PROGRAMMER_ERROR, PSA_FRAMEWORK_VERSION, PSA_IPC_CALL}
use Rattle.ffm_model.specs.declared.system.System.{System}
use Rattle.ffm_model.specs.declared.system.ActorKind.{ActorKind}
use Rattle.ffm_model.specs.declared.system.ActorKind.TheVariants.{Partition, Client, Device}
use Rattle.ffm_model.specs.declared.machine.Call.{Call}
use Rattle.ffm_model.specs.declared.machine.Call.TheVariants as call
use Rattle.ffm_model.specs.declared.machine.Entry.{Entry}
use Rattle.ffm_model.specs.declared.machine.Handle.{Handle}
use Rattle.ffm_model.specs.declared.machine.Message.{Message}
use Rattle.ffm_model.specs.declared.machine.Outcome.{Outcome}
use Rattle.ffm_model.specs.declared.machine.Outcome.TheVariants.{Value, Number, Got, Done, Panicked}
use Rattle.ffm_model.specs.declared.objects.ActorPhase.{ActorPhase}
use Rattle.ffm_model.specs.declared.objects.ActorPhase.TheVariants.{Ended, Ready}
use Rattle.ffm_model.specs.declared.objects.PendingMessage.{PendingMessage}
use Rattle.ffm_model.specs.declared.objects.Span.{Span}
use Rattle.ffm_model.specs.declared.objects.Vectors.{Vectors}
use Rattle.ffm_model.specs.Accesses.{store, is_access_size}
use Rattle.ffm_model.specs.Calls.{call_case, effect_of, error_effect, refusal_of}
use Rattle.ffm_model.specs.ClientCalls.{Move, Effect, effect, in_state, returned, version_number}
use Rattle.ffm_model.specs.Memory.{ByteMap, copy_bytes, lengths_written, load_number, may_read, may_write, store_number, valid_buffer}
use Rattle.ffm_model.specs.ServiceCalls.{psa_get, psa_read, psa_write, psa_reply, request_held, service_of_signal, message_size, message_words, shown_message, get_of, read_of, write_of, reply_of, reply_to, rest_of, input_at, output_at, outputs_given}
use Rattle.ffm_model.specs.State.{State, SpmState, phase_of, message_held, is_undelivered, with_phase}
use Rattle.ffm_model.specs.Step.{step, may_call, handle_allowed, handle_shown, message_eq, outcome_eq}
use Rattle.machine_rules.specs.Vectors.{IsWithin, AreWithin}
use Rattle.ffm_model.specs.Ranges.{ranges_of}
use Rattle.ffm_model.proofs.StepLemmas.{effect-has}
use Rattle.ffm_model.specs.Actors.{kind_of}
use Rattle.memory_image.specs.Pieces.{is_inside}
use Rattle.memory_image.proofs.Messages.{held_has, reply_is, request_has}
use Rattle.memory_image.proofs.Outside.{copy_bytes-outside, store_number-outside, words_stored-outside}
use Rattle.memory_image.proofs.Stored.{part_inside}
use Rattle.memory_image.proofs.Systems.{buffer_inside, writable_inside}
use Rattle.machine_rules.proofs.Fitting.{output_at_within}
use Rattle.machine_check.specs.declared.written.Ranges.{Ranges}
use Rattle.machine_check.specs.Written.{AreInside, HasFourSizes, length_words, next_bytes, nothing, one_range, ranges_from, ranges_in, written, written_by}

-- ---- bytes that are put

lengths-outside : (m : ByteMap) (at x : ℕ) (vs : List Span) → ((k : ℕ) → k < length vs → range_covers ((at + 4) + 8 * k, 4) x ≡ false) → lengths_written m at vs x ≡ m x
lengths-outside m at x [] out = refl
lengths-outside m at x (v ∷ vs) out =
    lengths-outside (store_number m (at + 4) 4 v.moved) (at + 8) x vs (λ k below. let here = out (k + 1) (omega arith) in grind (arith, nat_tests))
    ∙ store_number-outside m (at + 4) 4 v.moved x (let here = out 0 (omega arith) in grind (arith, nat_tests))

-- ---- ranges

at_last : (first len k n x : ℕ) → k ≡ n → range_covers (first + 8 * n, len) x ≡ false → range_covers (first + 8 * k, len) x ≡ false
at_last first len k n x same out = grind (arith, nat_tests)

the_last : (k n : ℕ) → k < suc n → nat_lt k n ≡ false → k ≡ n
the_last k n below more = grind (arith, nat_tests)

-- an address outside of all of them is outside of each
pub each-outside : (first len n x : ℕ) → any_covers (ranges_from first len n) x ≡ false → (k : ℕ) → k < n → range_covers (first + 8 * k, len) x ≡ false
each-outside first len zero x out k below = absurd (omega arith)
each-outside first len (suc n) x out k below =
    let go : (b : Bool) → nat_lt k n ≡ b → range_covers (first + 8 * k, len) x ≡ false = elim [
      | true ↦ λ less. each-outside first len n x (or_parts (range_covers (first + 8 * n, len) x) _ out).1 k (grind (arith, nat_tests))
      | false ↦ λ more. at_last first len k n x (the_last k n below more) (or_parts (range_covers (first + 8 * n, len) x) _ out).0
    ] in
    go (nat_lt k n) refl

-- what is known where some ranges are all that was written
pub record IsCovered (s : System) (old new : ByteMap) (w : Ranges) : Type 0 where
  pub stays : (x : ℕ) → any_covers (ranges_in w) x ≡ false → new x ≡ old x
  pub inside : AreInside (ranges_of s.regions) w

nothing-inside : (regions : List (ℕ × ℕ)) → AreInside regions nothing
nothing-inside regions = record { few = inl (omega arith); some = inl refl; inside = λ k below. absurd (omega arith) }

unchanged : (s : System) (m : ByteMap) → IsCovered s m m nothing
unchanged s m = record { stays = λ x out. refl; inside = nothing-inside (ranges_of s.regions) }

-- one range
one-covered : (s : System) (old new : ByteMap) (first len : ℕ) → ((x : ℕ) → range_covers (first, len) x ≡ false → new x ≡ old x) → is_inside first len (ranges_of s.regions) ≡ true
    → IsCovered s old new (one_range first len)
one-covered s old new first len stays inside = by_test (len == 0) refl where
  by_test : (b : Bool) → (len == 0) ≡ b → IsCovered s old new (if b then nothing else record { first = first; len = len; times = 1 })
  by_test true empty = record { stays = λ x out. stays x (grind (arith, nat_tests)); inside = nothing-inside (ranges_of s.regions) }
  by_test false some = record {
    stays = λ x out. stays x (let here = each-outside first len 1 x out 0 (omega arith) in grind (arith, nat_tests));
    inside = record {
      few = inl (omega arith);
      some = inr (grind (arith, nat_tests));
      inside = λ k below. let first_one : first + 8 * k ≡ first = omega arith in subst (λ a. is_inside a len (ranges_of s.regions) ≡ true) (sym first_one) inside;
    };
  }

-- ---- messages

-- the vectors of all messages fit the system's regions
abbrev pub AllFit : System → SpmState → Type 0
AllFit s b = All (λ m. AreWithin (ranges_of s.regions) m.vectors) b.messages

-- ---- calls, by what their outcome is told as

-- where an effect's outcome is told, the ranges are all that it wrote
abbrev pub TellsCovered : System → State → ℕ → Call → Effect → Type 0
TellsCovered s st a c e = (told : Outcome) → outcome_eq e.outcome told ≡ true → HasFourSizes told → IsCovered s st.memory e.state.memory (written_by s st.spm a told c)

only_got : (shown : Message) (P : Outcome → Type 0) → ((m : Message) → message_eq shown m ≡ true → P (Got m)) → (told : Outcome) → outcome_eq (Got shown) told ≡ true → P told
only_got shown P h (Got m) same = h m same
only_got shown P h _ same = absurd (cc)

only_number : (n : ℕ) (P : Outcome → Type 0) → P (Number n) → (told : Outcome) → outcome_eq (Number n) told ≡ true → P told
only_number n P h (Number m) same = let is : n ≡ m = grind (arith, nat_tests) in subst (λ k. P (Number k)) is h
only_number n P h _ same = absurd (cc)

only_done : (P : Outcome → Type 0) → P Done → (told : Outcome) → outcome_eq Done told ≡ true → P told
only_done P h Done same = h
only_done P h _ same = absurd (cc)

-- psa_get
sizes-told : (shown m : Message) → message_eq shown m ≡ true → (length m.in_size ≡ 4) × (length m.out_size ≡ 4) → 4 * length (message_words shown) ≡ message_size
sizes-told shown m same four =
    let parts = and_parts _ _ (and_parts (shown.rhandle == m.rhandle) _ (and_parts (int_eq shown.client_id m.client_id) _ (and_parts (int_eq shown.handle.0 m.handle.0) _ (and_parts (int_eq shown.kind m.kind) _ same).1).1).1).1 in
    let input : length shown.in_size ≡ 4 = ap length ((bytes_eq-Decides shown.in_size m.in_size).0 parts.0) ∙ four.0 in
    let output : length shown.out_size ≡ 4 = ap length ((bytes_eq-Decides shown.out_size m.out_size).0 parts.1) ∙ four.1 in
    let sizes : length (shown.in_size ++ shown.out_size) ≡ 8 = length-append shown.in_size shown.out_size ∙ omega (arith, input, output) in
    omega (arith, sizes)

got : (s : System) (st : State) (a signal msg i : ℕ) (h : Handle) (m : PendingMessage) → valid_buffer s a msg message_size ≡ true → TellsCovered s st a (call.Get signal msg) (get_of s st i msg h m)
got s st a signal msg i h m valid told same four =
    let shown = shown_message s st.spm m h in
    only_got shown (λ o. HasFourSizes o → IsCovered s st.memory (get_of s st i msg h m).state.memory (written_by s st.spm a o (call.Get signal msg)))
    (λ n eq sizes. one-covered s st.memory _ msg message_size
    (λ x out. words_stored-outside st.memory msg x (message_words shown) (ap (λ k. range_covers (msg, k) x) (sizes-told shown n eq sizes) ∙ out))
    (buffer_inside s a msg message_size valid))
    told same four

gets : (s : System) (st : State) (a signal msg : ℕ) (h : Handle) → IfSome (psa_get s st a signal msg h) (TellsCovered s st a (call.Get signal msg))
gets s st a signal msg h =
    each_made (TellsCovered s st a (call.Get signal msg)) _ (service_of_signal s a signal) (λ i owned. each_made (TellsCovered s st a (call.Get signal msg)) _ (find (is_undelivered i) st.spm.messages) (λ m found.
    if_passes (TellsCovered s st a (call.Get signal msg)) (valid_buffer s a msg message_size) (get_of s st i msg h m) (got s st a signal msg i h m)))

-- psa_read
reads : (s : System) (st : State) (a : ℕ) (h : Handle) (index buffer len : ℕ) → IfSome (psa_read s st a h index buffer len) (TellsCovered s st a (call.Read h index buffer len))
reads s st a h index buffer len =
    each_made (TellsCovered s st a (call.Read h index buffer len)) _ (request_held s st.spm a h index) (λ m held.
    if_passes (TellsCovered s st a (call.Read h index buffer len)) (valid_buffer s a buffer len) (read_of st h index buffer len m) (λ valid told same four.
    let v = input_at m index in
    let n = min len (rest_of v) in
    only_number n (λ o. IsCovered s st.memory (copy_bytes st.memory (v.base + v.moved) buffer n) (written_by s st.spm a o (call.Read h index buffer len)))
    (one-covered s st.memory _ buffer n (λ x out. copy_bytes-outside st.memory (v.base + v.moved) buffer n x out)
    (part_inside buffer len buffer n (ranges_of s.regions) (omega arith) (omega arith) (buffer_inside s a buffer len valid)))
    told same))

-- psa_write
wrote : (s : System) (st : State) (a : ℕ) (h : Handle) (index buffer len : ℕ) (m : PendingMessage) → request_held s st.spm a h index ≡ Some m → AllFit s st.spm
    → (valid_buffer s a buffer len && nat_le len (rest_of (output_at m index))) ≡ true → TellsCovered s st a (call.Write h index buffer len) (write_of st h index buffer len m)
wrote s st a h index buffer len m held fit may told same four =
    let v : Span = output_at m index in
    let test : nat_le len (rest_of v) ≡ true = (and_parts (valid_buffer s a buffer len) _ may).1 in
    let all : len ≡ min len (rest_of v) = grind (arith, nat_tests) in
    let span : IsWithin (ranges_of s.regions) v = output_at_within (ranges_of s.regions) m.vectors index (request_has (λ x. AreWithin (ranges_of s.regions) x.vectors) s st.spm a h index m held fit) in
    let new : ByteMap = copy_bytes st.memory buffer (v.base + v.moved) len in
    let moved : v.moved ≤ v.len = span.moved in
    let here : IsCovered s st.memory new (next_bytes v len) = one-covered s st.memory new (v.base + v.moved) (min len (rest_of v))
    (λ x out. copy_bytes-outside st.memory buffer (v.base + v.moved) len x (ap (λ n. range_covers (v.base + v.moved, n) x) all ∙ out))
    (part_inside v.base v.len (v.base + v.moved) (min len (rest_of v)) (ranges_of s.regions) (omega arith) (omega arith) span.inside) in
    only_done (λ o. IsCovered s st.memory new (written_by s st.spm a o (call.Write h index buffer len)))
    (subst (λ (o : Option PendingMessage). IsCovered s st.memory new (option_map_or (λ y. next_bytes (output_at y index) len) o nothing)) (sym held) here)
    told same

writes : (s : System) (st : State) (a : ℕ) (h : Handle) (index buffer len : ℕ) → AllFit s st.spm → IfSome (psa_write s st a h index buffer len) (TellsCovered s st a (call.Write h index buffer len))
writes s st a h index buffer len fit =
    each_made (TellsCovered s st a (call.Write h index buffer len)) _ (request_held s st.spm a h index) (λ m held.
    if_passes (TellsCovered s st a (call.Write h index buffer len)) (valid_buffer s a buffer len && nat_le len (rest_of (output_at m index))) (write_of st h index buffer len m) (wrote s st a h index buffer len m held fit))

-- psa_reply
word-inside : (regions : List (ℕ × ℕ)) (vectors : Vectors) (k : ℕ) → AreWithin regions vectors → k < vectors.out_len → is_inside ((vectors.out_vec + 4) + 8 * k) 4 regions ≡ true
word-inside regions vectors k fit below = part_inside (vectors.out_vec + 8 * k) 8 ((vectors.out_vec + 4) + 8 * k) 4 regions (omega arith) (omega arith) (fit.descriptors k below)

words-stay : (m : ByteMap) (p : PendingMessage) (x : ℕ) → ((k : ℕ) → k < p.vectors.out_len → range_covers ((p.vectors.out_vec + 4) + 8 * k, 4) x ≡ false)
    → lengths_written m p.vectors.out_vec (outputs_given p) x ≡ m x
words-stay m p x out =
    let few : length (outputs_given p) ≤ p.vectors.out_len = omega (arith, length-take p.vectors.out_len p.vectors.output) in
    lengths-outside m p.vectors.out_vec x (outputs_given p) (λ k below. out k (omega (arith, few)))

words-covered : (s : System) (m : ByteMap) (p : PendingMessage) → AreWithin (ranges_of s.regions) p.vectors
    → IsCovered s m (if int_lt p.kind PSA_IPC_CALL then m else lengths_written m p.vectors.out_vec (outputs_given p)) (length_words p)
words-covered s m p fit = by_tests (int_lt p.kind PSA_IPC_CALL) (p.vectors.out_len == 0) refl where
  by_tests : (b c : Bool) → (p.vectors.out_len == 0) ≡ c
      → IsCovered s m (if b then m else lengths_written m p.vectors.out_vec (outputs_given p)) (if b || c then nothing else record { first = p.vectors.out_vec + 4; len = 4; times = p.vectors.out_len })
  by_tests true c is = unchanged s m
  by_tests false true is = record { stays = λ x out. words-stay m p x (λ k below. absurd (grind (arith, nat_tests))); inside = nothing-inside (ranges_of s.regions) }
  by_tests false false is = record {
    stays = λ x out. words-stay m p x (each-outside (p.vectors.out_vec + 4) 4 p.vectors.out_len x out);
    inside = record { few = inr (fit.few, refl); some = inr (omega arith); inside = λ k below. word-inside (ranges_of s.regions) p.vectors k fit below };
  }

replies : (s : System) (st : State) (a : ℕ) (h : Handle) (status : ℤ) (c : Call) → AllFit s st.spm → written_by s st.spm a Done c ≡ option_map_or length_words (message_held s st.spm a h) nothing
    → IfSome (psa_reply s st a h status) (TellsCovered s st a c)
replies s st a h status c fit is =
    each_mapped (TellsCovered s st a c) (reply_of s st h status) (reply_to s st.spm a h status) (λ m answers told same four.
    let held = reply_is s st.spm a h status m answers in
    only_done (λ o. IsCovered s st.memory (reply_of s st h status m).state.memory (written_by s st.spm a o c))
    (subst (IsCovered s st.memory (reply_of s st h status m).state.memory) (sym (is ∙ ap (λ o. option_map_or length_words o nothing) held)) (words-covered s st.memory m (held_has (λ x. AreWithin (ranges_of s.regions) x.vectors) s st.spm a h m held fit)))
    told same)

-- a store
stores : (s : System) (st : State) (a at size value : ℕ) → IfSome (store s st a at size value) (TellsCovered s st a (call.Store at size value))
stores s st a at size value =
    if_passes (TellsCovered s st a (call.Store at size value)) (is_access_size size && may_write s a at size) (effect Done (record st { memory = store_number st.memory at size value })) (λ may told same four.
    only_done (λ o. IsCovered s st.memory (store_number st.memory at size value) (written_by s st.spm a o (call.Store at size value)))
    (one-covered s st.memory (store_number st.memory at size value) at size (λ x out. store_number-outside st.memory at size value x out) (writable_inside s a at size (and_parts (is_access_size size) _ may).1))
    told same)

-- ---- all calls

-- a call that may put bytes
abbrev may_put : Call → Bool
may_put (call.Get signal msg) = true
may_put (call.Read m index buffer len) = true
may_put (call.Write m index buffer len) = true
may_put (call.Reply m status) = true
may_put (call.Store at size value) = true
may_put c = false

-- the others write nothing, whatever they are told
puts-none : (s : System) (b : SpmState) (a : ℕ) (c : Call) → may_put c ≡ false → (o : Outcome) → written_by s b a o c ≡ nothing
puts-none s b a (call.Get signal msg) is o = absurd (cc)
puts-none s b a (call.Read m index buffer len) is o = absurd (cc)
puts-none s b a (call.Write m index buffer len) is o = absurd (cc)
puts-none s b a (call.Reply m status) is o = absurd (cc)
puts-none s b a (call.Store at size value) is o = absurd (cc)
puts-none s b a c is (Got m) = refl
puts-none s b a c is (Number n) = refl
puts-none s b a c is Done = refl
puts-none s b a c is o = refl

quiet : (s : System) (st : State) (a : ℕ) (c : Call) (e : Effect) → may_put c ≡ false → e.state.memory ≡ st.memory → TellsCovered s st a c e
quiet s st a c e none same told eq four =
    let here : IsCovered s st.memory e.state.memory nothing = subst (λ m. IsCovered s st.memory m nothing) (sym same) (unchanged s st.memory) in
    subst (IsCovered s st.memory e.state.memory) (sym (puts-none s st.spm a c none told)) here

moves : (s : System) (st : State) (a : ℕ) (c : Call) → may_put c ≡ false → (o : Option Move) → IfSome (option_map (in_state st) o) (TellsCovered s st a c)
moves s st a c none o = each_mapped (TellsCovered s st a c) (in_state st) o (λ m made. quiet s st a c (in_state st m) none refl)

returns : (s : System) (st : State) (a : ℕ) (p : ActorPhase) (h : Handle) → TellsCovered s st a call.Resume (returned s st a p h)
returns s st a (Ready o) h = quiet s st a call.Resume (returned s st a (Ready o) h) refl refl
returns s st a p h = quiet s st a call.Resume (returned s st a p h) refl refl

call-covered : (s : System) (st : State) (a : ℕ) (c : Call) (h : Handle) → AllFit s st.spm → IfSome (call_case s st a c h) (TellsCovered s st a c)
call-covered s st a call.FrameworkVersion h fit = quiet s st a call.FrameworkVersion (effect (Number PSA_FRAMEWORK_VERSION) st) refl refl
call-covered s st a (call.Version sid) h fit = quiet s st a (call.Version sid) (effect (Number (version_number s a sid)) st) refl refl
call-covered s st a (call.Get signal msg) h fit = gets s st a signal msg h
call-covered s st a (call.Read m index buffer len) h fit = reads s st a m index buffer len
call-covered s st a (call.Write m index buffer len) h fit = writes s st a m index buffer len fit
call-covered s st a (call.Reply m status) h fit = replies s st a m status.0 (call.Reply m status) fit refl
call-covered s st a call.Panic h fit = tt
call-covered s st a (call.Load at size) h fit = if_passes (TellsCovered s st a (call.Load at size)) (is_access_size size && may_read s a at size) (effect (Number (load_number st.memory at size)) st) (λ may. quiet s st a (call.Load at size) (effect (Number (load_number st.memory at size)) st) refl refl)
call-covered s st a (call.Store at size value) h fit = stores s st a at size value
call-covered s st a (call.Stop spent) h fit = quiet s st a (call.Stop spent) (effect Done (record st { spm = with_phase st.spm a Ended })) refl refl
call-covered s st a call.Resume h fit = returns s st a (phase_of st.spm a) h
call-covered s st a c h fit = moves s st a c refl _

-- a PROGRAMMER ERROR

told-panicked : (s : System) (st : State) (a : ℕ) (c : Call) (told : Outcome) → outcome_eq Panicked told ≡ true → IsCovered s st.memory st.memory (written_by s st.spm a told c)
told-panicked s st a c Panicked eq = unchanged s st.memory
told-panicked s st a c told eq = absurd (cc)

told-value : (s : System) (st : State) (a : ℕ) (c : Call) (z : ℤ) (told : Outcome) → outcome_eq (Value z) told ≡ true → IsCovered s st.memory st.memory (written_by s st.spm a told c)
told-value s st a c z (Value w) eq = unchanged s st.memory
told-value s st a c z told eq = absurd (cc)

refusals : (s : System) (st : State) (a : ℕ) (c : Call) → TellsCovered s st a c (effect (refusal_of c) st)
refusals s st a (call.Close c) = quiet s st a (call.Close c) (effect Done st) refl refl
refusals s st a (call.Connect sid version) = quiet s st a (call.Connect sid version) (effect (refusal_of (call.Connect sid version)) st) refl refl
refusals s st a c = λ told eq four. told-value s st a c PSA_ERROR_PROGRAMMER_ERROR told eq

errors : (s : System) (st : State) (a : ℕ) (c : Call) (k : ActorKind) → TellsCovered s st a c (error_effect k s st a c)
errors s st a c Partition told eq four = told-panicked s st a c told eq
errors s st a c Client told eq four = refusals s st a c told eq four
errors s st a c Device told eq four = told-value s st a c PSA_ERROR_PROGRAMMER_ERROR told eq

effect-covered : (s : System) (st : State) (a : ℕ) (c : Call) (h : Handle) → AllFit s st.spm → TellsCovered s st a c (effect_of s st a c h)
effect-covered s st a c h fit = effect-has (TellsCovered s st a c) s st a c h (errors s st a c (kind_of s a)) (call-covered s st a c h fit)

-- ---- the law

pub step-covered : (s : System) (st new : State) (e : Entry) → AllFit s st.spm → HasFourSizes e.outcome → step s st e ≡ Some new → IsCovered s st.memory new.memory (written s st.spm e)
unfolding step
step-covered s st new e fit four h =
    let due = effect_of s st e.actor.0 e.call (handle_shown e.outcome) in
    let taken = cond_some _ due.state new h in
    subst (λ (x : State). IsCovered s st.memory x.memory (written s st.spm e)) taken.1
    (effect-covered s st e.actor.0 e.call (handle_shown e.outcome) fit e.outcome (and_parts (may_call s st.spm e.actor.0 e.call && handle_allowed s st e.actor.0 e.call (handle_shown e.outcome)) (outcome_eq due.outcome e.outcome) taken.0).1 four)
