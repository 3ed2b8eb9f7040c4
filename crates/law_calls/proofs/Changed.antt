-- No call changes a byte outside of its actor's reach.
use Rattle.std.proofs.Common.{ℕ, zero, suc, ◌≡◌, ◌≤◌, ◌+◌, ◌*◌, Bool, true, false, cond, ◌&&◌, ◌||◌, ◌++◌, length, arith, ◌∙◌, ap, sym, refl}
use Rattle.std.specs.Prelude.{ℤ, int_lt, nat_le, nat_lt, min, find, Option, Some, IfSome}
use Rattle.std.specs.Option.{option_map}
use Rattle.std.proofs.lemmas.List.{length-append, length-map, length-take}
use Rattle.std.proofs.lemmas.Bool.{and_parts}
use Rattle.std.proofs.lemmas.Bool.Decides.{nat_tests}
use Rattle.law_lists.proofs.Tests.{fails, find-all}
use Rattle.law_lists.proofs.Bools.{if_passes}
use Rattle.law_lists.proofs.Options.{each_made, each_mapped}
use Rattle.ffm_model.specs.declared.constants.TheConstants.{PSA_IPC_CALL}
use Rattle.ffm_model.specs.declared.system.System.{System}
use Rattle.ffm_model.specs.declared.system.ActorKind.{ActorKind}
use Rattle.ffm_model.specs.declared.system.ActorKind.TheVariants.{Partition}
use Rattle.ffm_model.specs.declared.machine.Call.{Call}
use Rattle.ffm_model.specs.declared.machine.Call.TheVariants as call
use Rattle.ffm_model.specs.declared.machine.Entry.{Entry}
use Rattle.ffm_model.specs.declared.machine.Handle.{Handle}
use Rattle.ffm_model.specs.declared.objects.ActorPhase.{ActorPhase}
use Rattle.ffm_model.specs.declared.objects.ActorPhase.TheVariants.{Ready}
use Rattle.ffm_model.specs.declared.objects.PendingMessage.{PendingMessage}
use Rattle.ffm_model.specs.declared.objects.Span.{Span}
use Rattle.ffm_model.specs.Memory.{ByteMap, valid_buffer, may_write, store_number, lengths_written}
use Rattle.ffm_model.specs.State.{State, SpmState, phase_of, message_held, is_undelivered}
use Rattle.ffm_model.specs.ClientCalls.{Move, Effect, effect, in_state, returned}
use Rattle.ffm_model.specs.ServiceCalls.{psa_get, psa_read, psa_write, psa_reply, request_held, service_of_signal, message_size, message_words, shown_message, sizes_of, get_of, read_of, write_of, reply_of, reply_to, rest_of, input_at, output_at, outputs_given}
use Rattle.ffm_model.specs.Accesses.{store, is_access_size}
use Rattle.ffm_model.specs.Calls.{call_case, error_effect, effect_of}
use Rattle.ffm_model.specs.Step.{step}
use Rattle.ffm_model.specs.Reach.{length_word_has, write_reach}
use Rattle.memory_image.specs.Differences.{range_covers}
use Rattle.memory_image.proofs.Messages.{reply_is}
use Rattle.memory_image.proofs.Outside.{copy_bytes-outside, store_number-outside, words_stored-outside}
use Rattle.machine_rules.proofs.Reached.{lengths_written-outside, range-part}
use Rattle.law_calls.specs.Vectors.{AreFour, HaveFour}
use Rattle.law_calls.proofs.Reached.{buffer-written, range-written, rest-inside, output-written, length_word-written, request-held, request-kind}
use Rattle.ffm_model.proofs.StepLemmas.{step-leaves, effect-has}
use Rattle.ffm_model.specs.Actors.{kind_of}

-- the byte is what it was
abbrev Stays : State → ℕ → Effect → Type 0
Stays st x e = e.state.memory x ≡ st.memory x

moves : (st : State) (x : ℕ) (o : Option Move) → IfSome (option_map (in_state st) o) (Stays st x)
moves st x o = each_mapped (Stays st x) (in_state st) o (λ m made. refl)

-- a valid buffer lies outside where the address does
buffer-outside : (s : System) (b : SpmState) (a base len x : ℕ) → valid_buffer s a base len ≡ true → write_reach s b a x ≡ false → range_covers (base, len) x ≡ false
buffer-outside s b a base len x valid out = fails _ _ (buffer-written s b a base len x valid) out

-- psa_get: a message's words take no more than psa_msg_t
words-fit : (s : System) (b : SpmState) (m : PendingMessage) (h : Handle) → AreFour m.vectors → 4 * length (message_words (shown_message s b m h)) ≡ message_size
words-fit s b m h four =
    let sizes : length (sizes_of m.vectors.input ++ sizes_of m.vectors.output) ≡ 8 =
    length-append (sizes_of m.vectors.input) (sizes_of m.vectors.output) ∙ (let i : length (sizes_of m.vectors.input) ≡ 4 = length-map m.vectors.input (λ (v : Span). v.len) ∙ four.inputs in
    let o : length (sizes_of m.vectors.output) ≡ 4 = length-map m.vectors.output (λ (v : Span). v.len) ∙ four.outputs in omega arith) in
    omega (arith, sizes)

got-outside : (s : System) (st : State) (a msg x i : ℕ) (h : Handle) (m : PendingMessage) → AreFour m.vectors → write_reach s st.spm a x ≡ false → valid_buffer s a msg message_size ≡ true → Stays st x (get_of s st i msg h m)
got-outside s st a msg x i h m four out valid =
    words_stored-outside st.memory msg x (message_words (shown_message s st.spm m h))
    (ap (λ (n : ℕ). range_covers (msg, n) x) (words-fit s st.spm m h four) ∙ buffer-outside s st.spm a msg message_size x valid out)

gets : (s : System) (st : State) (a signal msg x : ℕ) (h : Handle) → HaveFour st.spm → write_reach s st.spm a x ≡ false → IfSome (psa_get s st a signal msg h) (Stays st x)
gets s st a signal msg x h four out =
    each_made (Stays st x) _ (service_of_signal s a signal) (λ i owned. each_made (Stays st x) _ (find (is_undelivered i) st.spm.messages) (λ m found.
    if_passes (Stays st x) (valid_buffer s a msg message_size) (get_of s st i msg h m)
    (got-outside s st a msg x i h m (find-all (λ (p : PendingMessage). AreFour p.vectors) (is_undelivered i) st.spm.messages m found four) out)))

-- psa_read
reads : (s : System) (st : State) (a index buffer len x : ℕ) (h : Handle) → write_reach s st.spm a x ≡ false → IfSome (psa_read s st a h index buffer len) (Stays st x)
reads s st a index buffer len x h out =
    each_made (Stays st x) _ (request_held s st.spm a h index) (λ m held. if_passes (Stays st x) (valid_buffer s a buffer len) (read_of st h index buffer len m) (λ valid.
    copy_bytes-outside st.memory _ buffer (min len (rest_of (input_at m index))) x
    (range-part x buffer len (min len (rest_of (input_at m index))) (omega arith) (buffer-outside s st.spm a buffer len x valid out))))

-- psa_write
written-outside : (s : System) (st : State) (a index buffer len x : ℕ) (h : Handle) (m : PendingMessage) → request_held s st.spm a h index ≡ Some m → write_reach s st.spm a x ≡ false
    → (valid_buffer s a buffer len && nat_le len (rest_of (output_at m index))) ≡ true → Stays st x (write_of st h index buffer len m)
written-outside s st a index buffer len x h m held out may =
    let test : nat_le len (rest_of (output_at m index)) ≡ true = (and_parts (valid_buffer s a buffer len) _ may).1 in
    let fits : len ≤ rest_of (output_at m index) = grind (arith, nat_tests) in
    copy_bytes-outside st.memory buffer ((output_at m index).base + (output_at m index).moved) len x
    (fails _ _ (λ inside. output-written s st.spm a h index x m (request-held s st.spm a h index m held) (rest-inside (output_at m index) len x fits inside)) out)

writes : (s : System) (st : State) (a index buffer len x : ℕ) (h : Handle) → write_reach s st.spm a x ≡ false → IfSome (psa_write s st a h index buffer len) (Stays st x)
writes s st a index buffer len x h out =
    each_made (Stays st x) _ (request_held s st.spm a h index) (λ m held.
    if_passes (Stays st x) (valid_buffer s a buffer len && nat_le len (rest_of (output_at m index))) (write_of st h index buffer len m) (written-outside s st a index buffer len x h m held out))

-- fewer descriptors have fewer length words
length_word-fewer : (x at k n : ℕ) → k ≤ n → length_word_has x at k ≡ true → length_word_has x at n ≡ true
length_word-fewer x at zero n few h = cc
length_word-fewer x at (suc k) zero few h = absurd (omega arith)
length_word-fewer x at (suc k) (suc n) few h =
    or_then (nat_le (at + 4) x && nat_lt x (at + 8)) _ _ (length_word-fewer x (at + 8) k n (omega arith)) h where
      or_then : (b c d : Bool) → (c ≡ true → d ≡ true) → (b || c) ≡ true → (b || d) ≡ true
      or_then true c d more h = refl
      or_then false c d more h = more h

-- psa_reply
replied-outside : (s : System) (st : State) (a x : ℕ) (h : Handle) (status : ℤ) (m : PendingMessage) → message_held s st.spm a h ≡ Some m → write_reach s st.spm a x ≡ false → Stays st x (reply_of s st h status m)
replied-outside s st a x h status m held out =
    let go : (b : Bool) → int_lt m.kind PSA_IPC_CALL ≡ b → cond {A = ByteMap} b st.memory (lengths_written st.memory m.vectors.out_vec (outputs_given m)) x ≡ st.memory x =
    elim [
      | true ↦ λ e. refl
      | false ↦ λ e. lengths_written-outside st.memory m.vectors.out_vec x (outputs_given m)
          (fails _ _ (λ inside. length_word-written s st.spm a h x m (record { held = held; request = request-kind m.kind e })
          (length_word-fewer x m.vectors.out_vec (length (outputs_given m)) m.vectors.out_len (omega (arith, length-take m.vectors.out_len m.vectors.output)) inside)) out)
    ] in
    go (int_lt m.kind PSA_IPC_CALL) refl

replies : (s : System) (st : State) (a x : ℕ) (h : Handle) (status : ℤ) → write_reach s st.spm a x ≡ false → IfSome (psa_reply s st a h status) (Stays st x)
replies s st a x h status out = each_mapped (Stays st x) (reply_of s st h status) (reply_to s st.spm a h status) (λ m told. replied-outside s st a x h status m (reply_is s st.spm a h status m told) out)

-- a load changes none, and a store no other
stores : (s : System) (st : State) (a at size value x : ℕ) → write_reach s st.spm a x ≡ false → IfSome (store s st a at size value) (Stays st x)
stores s st a at size value x out =
    if_passes (Stays st x) (is_access_size size && may_write s a at size) (effect _ (record st { memory = store_number st.memory at size value })) (λ may.
    store_number-outside st.memory at size value x (fails _ _ (range-written s st.spm a at size x (and_parts (is_access_size size) _ may).1) out))

returns : (s : System) (st : State) (a x : ℕ) (p : ActorPhase) (h : Handle) → Stays st x (returned s st a p h)
returns s st a x (Ready o) h = refl
returns s st a x _ h = refl

call-outside : (s : System) (st : State) (a : ℕ) (c : Call) (h : Handle) (x : ℕ) → HaveFour st.spm → write_reach s st.spm a x ≡ false → IfSome (call_case s st a c h) (Stays st x)
call-outside s st a call.FrameworkVersion h x four out = refl
call-outside s st a (call.Version sid) h x four out = refl
call-outside s st a (call.Get signal msg) h x four out = gets s st a signal msg x h four out
call-outside s st a (call.Read m index buffer len) h x four out = reads s st a index buffer len x m out
call-outside s st a (call.Write m index buffer len) h x four out = writes s st a index buffer len x m out
call-outside s st a (call.Reply m status) h x four out = replies s st a x m status.0 out
call-outside s st a call.Panic h x four out = tt
call-outside s st a (call.Load at size) h x four out = if_passes (Stays st x) _ _ (λ may. refl)
call-outside s st a (call.Store at size value) h x four out = stores s st a at size value x out
call-outside s st a (call.Stop spent) h x four out = refl
call-outside s st a call.Resume h x four out = returns s st a x (phase_of st.spm a) h
call-outside s st a c h x four out = moves st x _

errors : (s : System) (st : State) (a x : ℕ) (c : Call) (k : ActorKind) → Stays st x (error_effect k s st a c)
errors s st a x c Partition = refl
errors s st a x c k = refl

-- what an actor's call changes lies in the actor's reach
pub effect-outside : (s : System) (st : State) → HaveFour st.spm → (a : ℕ) (c : Call) (h : Handle) (x : ℕ) → write_reach s st.spm a x ≡ false → (effect_of s st a c h).state.memory x ≡ st.memory x
effect-outside s st four a c h x out = effect-has (Stays st x) s st a c h (errors s st a x c (kind_of s a)) (call-outside s st a c h x four out)

-- so does what a step changes
pub step-outside : (s : System) (st : State) → HaveFour st.spm → (e : Entry) (new : State) → step s st e ≡ Some new → (x : ℕ) → write_reach s st.spm e.actor.0 x ≡ false → new.memory x ≡ st.memory x
step-outside s st four e new h x out = ap (λ (y : State). y.memory x) (sym (step-leaves s st new e h)) ∙ effect-outside s st four e.actor.0 e.call _ x out
