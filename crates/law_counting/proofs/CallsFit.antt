-- Each call of an actor keeps the fit of a state's objects.
use Rattle.std.proofs.Common.{ℕ, ℤ, ◌≡◌, ◌+◌, Bool, true, false, ◌&&◌, List, [], ◌∷◌, ◌++◌, arith, ap, refl, subst}
use Rattle.std.specs.Prelude.{count_by, nat_le, Option, Some, None, option_and_then, if◌then◌else◌}
use Rattle.std.specs.List.{filter_map, cons_option, list_any}
use Rattle.std.specs.Option.{option_map}
use Rattle.law_lists.proofs.Counts.{any-count, bit, count-cons}
use Rattle.ffm_model.specs.declared.objects.ActorPhase.TheVariants.{Running, Waiting}
use Rattle.ffm_model.specs.declared.objects.OpenConnection.{OpenConnection}
use Rattle.ffm_model.specs.declared.objects.PendingMessage.{PendingMessage}
use Rattle.ffm_model.specs.declared.objects.SourceFlags.{SourceFlags}
use Rattle.ffm_model.specs.declared.objects.Vectors.{Vectors}
use Rattle.ffm_model.specs.declared.machine.Call.{Call}
use Rattle.ffm_model.specs.declared.machine.Call.TheVariants as call
use Rattle.ffm_model.specs.declared.machine.Handle.{Handle}
use Rattle.ffm_model.specs.declared.machine.Outcome.{Outcome}
use Rattle.ffm_model.specs.declared.machine.Sid.{Sid}
use Rattle.ffm_model.specs.declared.system.System.{System}
use Rattle.ffm_model.specs.ClientCalls.{Effect, Move, psa_connect, psa_call, psa_close}
use Rattle.ffm_model.specs.Memory.{ByteMap, valid_buffer}
use Rattle.ffm_model.specs.ServiceCalls.{output_at, psa_read, psa_skip, psa_write, read_of, request_held, rest_of, skip_of, write_of}
use Rattle.ffm_model.specs.State.{SpmState, State, delivered, handle_eq, has_handle, phase_of, with_phase, with_rhandle, with_vectors}
use Rattle.law_counting.specs.Objects.{ObjectsFit, objects_with}
use Rattle.law_counting.proofs.Balance.{Balanced, balanced-fit, fit-balanced, one}
use Rattle.law_counting.proofs.Events.{EachKind, IfMoved, calls, closes, connects}
use Rattle.law_counting.proofs.Keeps.{beside, kinds-balance, phase-keeps, rhandle-keeps}
use Rattle.law_counting.proofs.Panic.{count-append}
use Rattle.law_counting.proofs.Resume.{delivered-keeps, int_flip, times, vectors-keep}

-- ---- the handles that a state's objects have, as if no others had been given

abbrev pub handles_held : SpmState → List Handle
handles_held b = filter_map (λ (m : PendingMessage). m.handle) b.messages ++ filter_map (λ (c : OpenConnection). c.handle) b.connections

times-held : {X : Type 0} (f : X → Option Handle) (h : Handle) (xs : List X) → times (filter_map f xs) h ≡ count_by (λ x. has_handle (f x) h) xs
times-held f h [] = refl
times-held f h (x ∷ xs) =
    let go : (o : Option Handle) → times (cons_option o (filter_map f xs)) h ≡ bit (has_handle o h) + times (filter_map f xs) h = elim [
      | None ↦ omega arith
      | Some k ↦ omega (arith, count-cons (handle_eq h) k (filter_map f xs), ap bit (int_flip h.0 k.0))
    ] in
    omega (arith, go (f x), count-cons (λ y. has_handle (f y) h) x xs, times-held f h xs)

pub held-times : (b : SpmState) (k : Handle) → times (handles_held b) k ≡ objects_with b k
held-times b k =
    omega (
      arith,
      count-append (handle_eq k) (filter_map (λ (m : PendingMessage). m.handle) b.messages) (filter_map (λ (c : OpenConnection). c.handle) b.connections),
      times-held (λ (m : PendingMessage). m.handle) k b.messages,
      times-held (λ (c : OpenConnection). c.handle) k b.connections,
    )

pub held-balanced : (s : System) (b : SpmState) → ObjectsFit s b → Balanced s (times (handles_held b)) b
held-balanced s b h =
    record {
      within = h.budgets;
      paired = h.paired;
      called = h.called;
      rising = h.rising;
      fitting = h.phases;
      shown = h.shown;
      handles = λ k. omega (arith, held-times b k);
      single = λ k. omega (arith, held-times b k, h.handles k);
    }

-- ---- calls of clients

abbrev Keeps : System → Outcome → SpmState → List Handle → Type 0
Keeps s o new all = Balanced s (times all) new

kinds : (s : System) (b : SpmState) (a : ℕ) (d : Call) → ObjectsFit s b → EachKind s b (handles_held b) a d (Keeps s)
kinds s b a d fit = kinds-balance s b (handles_held b) a d (held-balanced s b fit)

moved-fits : (s : System) (given : List Handle) (o : Option Move) (m : Move) → IfMoved (Keeps s) given o → o ≡ Some m → ObjectsFit s m.spm
moved-fits s given o m h e = balanced-fit s (times given) m.spm (subst (IfMoved (Keeps s) given) e h)

pub connect-keeps : (s : System) (b : SpmState) (a : ℕ) (sid : Sid) (version : ℕ) (m : Move) → ObjectsFit s b → phase_of b a ≡ Running → psa_connect s b a sid version ≡ Some m → ObjectsFit s m.spm
connect-keeps s b a sid version m fit running e =
    moved-fits s (handles_held b) (psa_connect s b a sid version) m (connects s b (handles_held b) a sid version (call.Connect sid version) (Keeps s) (kinds s b a (call.Connect sid version) fit) running) e

pub call-keeps : (s : System) (b : SpmState) (bytes : ByteMap) (a : ℕ) (h : Handle) (kind : ℤ) (in_vec in_len out_vec out_len : ℕ) (m : Move) → ObjectsFit s b → phase_of b a ≡ Running
    → ((given : List Handle) → psa_call s (record { spm = b; handles_given = given; memory = bytes }) a h kind in_vec in_len out_vec out_len ≡ Some m) → ObjectsFit s m.spm
call-keeps s b bytes a h kind in_vec in_len out_vec out_len m fit running e =
    let st : State = record { spm = b; handles_given = handles_held b; memory = bytes } in
    let d : Call = call.Close h in
    moved-fits s (handles_held b) (psa_call s st a h kind in_vec in_len out_vec out_len) m (calls s st a h kind in_vec in_len out_vec out_len d (Keeps s) (kinds s b a d fit) running) (e (handles_held b))

pub close-fits-after : (s : System) (b : SpmState) (a : ℕ) (h : Handle) (m : Move) → ObjectsFit s b → phase_of b a ≡ Running → psa_close b a h ≡ Some m → ObjectsFit s m.spm
close-fits-after s b a h m fit running e =
    moved-fits s (handles_held b) (psa_close b a h) m (closes s b (handles_held b) a h (call.Close h) (Keeps s) (kinds s b a (call.Close h) fit) running) e

-- ---- calls of services

pub wait-fits : (s : System) (b : SpmState) (a mask : ℕ) → ObjectsFit s b → phase_of b a ≡ Running → ObjectsFit s (with_phase b a (Waiting mask))
wait-fits s b a mask fit running = balanced-fit s one _ (phase-keeps s one b a (Waiting mask) (fit-balanced s b fit) running (λ k. refl) (λ n k j e. e))

pub rhandle-fits : (s : System) (b : SpmState) (n r : ℕ) → ObjectsFit s b → ObjectsFit s (with_rhandle b n r)
rhandle-fits s b n r fit = balanced-fit s one _ (rhandle-keeps s one b n r (fit-balanced s b fit))

vectors-fit : (s : System) (b : SpmState) (h : Handle) (v : Vectors) → ObjectsFit s b → ObjectsFit s (with_vectors b h v)
vectors-fit s b h v fit = balanced-fit s one _ (vectors-keep s one b h v (fit-balanced s b fit))

pub skip-fits : (s : System) (b : SpmState) (a : ℕ) (h : Handle) (index len : ℕ) (m : Move) → ObjectsFit s b → psa_skip s b a h index len ≡ Some m → ObjectsFit s m.spm
skip-fits s b a h index len m fit =
    let go : (o : Option PendingMessage) → option_map (skip_of b h index len) o ≡ Some m → ObjectsFit s m.spm = elim [
      | None ↦ λ e. cc
      | Some r ↦ λ e. let it : skip_of b h index len r ≡ m = cc in subst (λ (x : Move). ObjectsFit s x.spm) it (vectors-fit s b h _ fit)
    ] in
    go (request_held s b a h index)

pub read-fits : (s : System) (st : State) (a : ℕ) (h : Handle) (index buffer len : ℕ) (x : Effect) → ObjectsFit s st.spm → psa_read s st a h index buffer len ≡ Some x → ObjectsFit s x.state.spm
read-fits s st a h index buffer len x fit =
    let on : (r : PendingMessage) (valid : Bool) → (if valid then Some (read_of st h index buffer len r) else None) ≡ Some x → ObjectsFit s x.state.spm = λ r. elim [
      | true ↦ λ e. let it : read_of st h index buffer len r ≡ x = cc in subst (λ (y : Effect). ObjectsFit s y.state.spm) it (vectors-fit s st.spm h _ fit)
      | false ↦ λ e. cc
    ] in
    let go : (o : Option PendingMessage) → option_and_then (λ r. if valid_buffer s a buffer len then Some (read_of st h index buffer len r) else None) o ≡ Some x → ObjectsFit s x.state.spm = elim [
      | None ↦ λ e. cc
      | Some r ↦ on r (valid_buffer s a buffer len)
    ] in
    go (request_held s st.spm a h index)

pub write-fits : (s : System) (st : State) (a : ℕ) (h : Handle) (index buffer len : ℕ) (x : Effect) → ObjectsFit s st.spm → psa_write s st a h index buffer len ≡ Some x → ObjectsFit s x.state.spm
write-fits s st a h index buffer len x fit =
    let on : (r : PendingMessage) (valid : Bool) → (if valid then Some (write_of st h index buffer len r) else None) ≡ Some x → ObjectsFit s x.state.spm = λ r. elim [
      | true ↦ λ e. let it : write_of st h index buffer len r ≡ x = cc in subst (λ (y : Effect). ObjectsFit s y.state.spm) it (vectors-fit s st.spm h _ fit)
      | false ↦ λ e. cc
    ] in
    let go : (o : Option PendingMessage) → option_and_then (λ r. if valid_buffer s a buffer len && nat_le len (rest_of (output_at r index)) then Some (write_of st h index buffer len r) else None) o ≡ Some x
    → ObjectsFit s x.state.spm = elim [
      | None ↦ λ e. cc
      | Some r ↦ on r (valid_buffer s a buffer len && nat_le len (rest_of (output_at r index)))
    ] in
    go (request_held s st.spm a h index)

-- psa_get gives a message a handle that no object has
pub get-fits : (s : System) (b : SpmState) (service : ℕ) (h : Handle) → ObjectsFit s b → objects_with b h ≡ 0 → ObjectsFit s (record b { messages = delivered service h b.messages })
get-fits s b service h fit none =
    let zero : times (handles_held b) h ≡ 0 = omega (arith, held-times b h, none) in
    let go : (x : Bool) → list_any (handle_eq h) (handles_held b) ≡ x → x ≡ false = elim [
      | true ↦ λ e. absurd (omega (arith, any-count (handle_eq h) (handles_held b) e, zero))
      | false ↦ λ e. refl
    ] in
    balanced-fit s (times (handles_held b ++ h ∷ [])) _ (delivered-keeps s (handles_held b) b service h (held-balanced s b fit) (go (list_any (handle_eq h) (handles_held b)) refl))

-- ---- doorbells and interrupt sources

pub beside-fits : (s : System) (b : SpmState) (doorbells : List Bool) (sources : List SourceFlags) → ObjectsFit s b → ObjectsFit s (record b { doorbells = doorbells; sources = sources })
beside-fits s b doorbells sources fit = balanced-fit s one _ (beside s one b doorbells sources (fit-balanced s b fit))
