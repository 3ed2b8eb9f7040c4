-- In each run the psa_read of a map_in and the psa_write of an unmap_out copy what they are to copy.
use Rattle.std.proofs.Common.{ℕ, ◌+◌, ◌-◌, ◌<◌, ◌≤◌, ◌≡◌, ◌==◌, Bool, true, false, List, [], refl, ap, ap₂, sym, ◌∙◌, subst, arith}
use Rattle.std.specs.Prelude.{ℤ, pos, Option, Some, None, if◌then◌else◌, ◌&&◌, int_le, nat_le, nat_lt, min, option_and_then}
use Rattle.std.specs.Option.{option_map_or}
use Rattle.std.proofs.lemmas.Bool.{and_parts}
use Rattle.std.proofs.lemmas.Bool.Decides.{nat_tests}
use Rattle.ffm_model.proofs.RecordLemmas.{entries_of-own}
use Rattle.ffm_model.specs.declared.constants.TheConstants.{PSA_IPC_CALL, PSA_MAX_IOVEC}
use Rattle.ffm_model.specs.declared.system.System.{System}
use Rattle.ffm_model.specs.declared.system.ActorKind.{ActorKind}
use Rattle.ffm_model.specs.declared.system.ActorKind.TheVariants.{Partition}
use Rattle.ffm_model.specs.declared.machine.Handle.{Handle}
use Rattle.ffm_model.specs.declared.machine.Entry.{Entry}
use Rattle.ffm_model.specs.declared.machine.Call.{Call}
use Rattle.ffm_model.specs.declared.machine.Call.TheVariants as call
use Rattle.ffm_model.specs.declared.machine.Outcome.{Outcome}
use Rattle.ffm_model.specs.declared.machine.Outcome.TheVariants as outcome
use Rattle.ffm_model.specs.declared.objects.PendingMessage.{PendingMessage}
use Rattle.ffm_model.specs.declared.script.Instruction.{Instruction}
use Rattle.ffm_model.specs.Actors.{kind_of}
use Rattle.ffm_model.specs.Memory.{ByteMap, bytes_at, copy_bytes, valid_buffer}
use Rattle.ffm_model.specs.State.{SpmState, State, message_held}
use Rattle.ffm_model.specs.ClientCalls.{Effect}
use Rattle.ffm_model.specs.ServiceCalls.{input_at, output_at, read_of, request_held, rest_of, write_of}
use Rattle.ffm_model.specs.Calls.{effect_of, effect_or_error, has_call}
use Rattle.ffm_model.specs.Step.{handle_shown, outcome_eq}
use Rattle.ffm_model.specs.Plans.{PlanRun}
use Rattle.ffm_model.specs.Records.{ends_blocked, entries_of, outcomes_of}
use Rattle.ffm_model.specs.Held.{Holder, HeldMessage, held, holder_of, holds, is_input_free, is_mapped, is_mappable, vector_at, window_size}
use Rattle.ffm_model.specs.HeldPlans.{Holding, holding_none, held_arrived, held_call, held_engine, held_plan}
use Rattle.law_counting.proofs.Parts.{is_itself}
use Rattle.law_programs.specs.Windows.{InputsAreCopied, IsEvent, OutputsAreCopied, standing_at}
use Rattle.law_programs.proofs.Fits.{AreHeld, IsMappable, Match, mappable, mapped-unwritten}
use Rattle.law_programs.proofs.Kept.{Kept, arrived-held, may-alive, run-kept, standing, unmapped_in}
use Rattle.law_programs.proofs.Lines.{map_in-call, plan-call, runs-back, unmap_out-call}
use Rattle.law_programs.proofs.Ranges.{copied, window-valid}
use Rattle.law_counting.proofs.OwnSteps.{Own, own-step}
use Rattle.law_counting.proofs.Outcomes.{done-is}
use Rattle.law_counting.proofs.Owners.{is-partition}

-- ---- the call at the event

call-by : (s : System) (a : ℕ) (script : List Instruction) (x : Holding) (c : Call) (b : Bool) → c ≡ (if b then call.Resume else held_call (holder_of s a) script (held_arrived (holder_of s a) script x)) → (c ≡ call.Resume → ⊥)
    → held_call (holder_of s a) script (held_arrived (holder_of s a) script x) ≡ c
call-by s a script x c true e off = absurd (off e)
call-by s a script x c false e off = sym e

-- what is known at an event of the partition that is no return
pub record At (s : System) (a : ℕ) (script : List Instruction) (es : List Entry) (e : Entry) (old new : State) (c : Call) : Type 0 where
  pub call_made : held_call (holder_of s a) script (standing_at s a script es) ≡ c
  pub table : AreHeld s old.spm a (unmapped_in s a script es) (standing_at s a script es).table
  pub own : Own s old new a c e.outcome
  pub kind : kind_of s a ≡ Partition

pub at-event : (s : System) (m : ByteMap) (a : ℕ) (script : List Instruction) (es : List Entry) (e : Entry) (old new : State) (c : Call) → IsEvent s m a script es e old new → e.call ≡ c → (c ≡ call.Resume → ⊥)
    → At s a script es e old new c
at-event s m a script es e old new c event is off =
    let os : List Outcome = outcomes_of (entries_of a es) in
    let x : Holding = standing s a script os in
    let plan = held_plan (holder_of s a) script in
    let mine : (e.actor.0 == a) ≡ true = ap (λ (y : ℕ). y == a) event.own ∙ is_itself a in
    let back = runs-back plan [] (entries_of a es) e (subst (PlanRun plan) (entries_of-own a es e mine) event.run) in
    let kept : Kept s a script es old = run-kept s a script m es old event.partition event.before in
    let follows = kept.follows back.0 in
    let own = own-step s old new e a c event.behind event.own is in
    record {
      call_made = call-by s a script x c (ends_blocked os) (sym is ∙ (back.1 ∙ plan-call (held_engine (holder_of s a) script) holding_none os (ends_blocked os) refl)) off;
      table = arrived-held (unmapped_in s a script es) s old.spm a script x (follows.held (may-alive s old.spm a c own.may));
      own = own;
      kind = is-partition s a event.partition;
    }

-- the message that a test of the table speaks of
pub record Tested (t : List HeldMessage) (h : Handle) (index : ℕ) (fact : HeldMessage → Bool) : Type 0 where
  pub message : HeldMessage
  pub at : held t h ≡ Some message
  pub few : nat_lt index 4 ≡ true
  pub passes : fact message ≡ true

pub tested : (t : List HeldMessage) (h : Handle) (index : ℕ) (fact : HeldMessage → Bool) → holds t h index fact ≡ true → Tested t h index fact
tested t h index fact e =
    let parts = and_parts (nat_lt index 4) (option_map_or fact (held t h) false) e in
    let go : (o : Option HeldMessage) → held t h ≡ o → option_map_or fact o false ≡ true → Tested t h index fact =
    elim [ None ↦ λ z f. cc | Some x ↦ λ z f. record { message = x; at = z; few = parts.0; passes = f } ] in
    go (held t h) refl parts.1

-- ---- psa_read and psa_write, where they are no PROGRAMMER ERROR

request-by : (s : System) (b : SpmState) (a : ℕ) (h : Handle) (index : ℕ) (m : PendingMessage) → message_held s b a h ≡ Some m → int_le (pos 0) m.kind ≡ true → nat_lt index 4 ≡ true → request_held s b a h index ≡ Some m
request-by s b a h index m there kind few =
    ap (λ (o : Option PendingMessage). option_and_then (λ n. if int_le PSA_IPC_CALL n.kind && nat_lt index PSA_MAX_IOVEC then Some n else None) o) there
    ∙ ap₂ (λ (x y : Bool). if x && y then Some m else None) kind few

read-choice : System → State → ℕ → Handle → ℕ → ℕ → ℕ → ActorKind → Option PendingMessage → Bool → Effect
read-choice s st a h index buffer len k o valid =
    effect_or_error (if has_call k (call.Read h index buffer len) then option_and_then (λ m. if valid then Some (read_of st h index buffer len m) else None) o else None) k s st a (call.Read h index buffer len)

read-is : (s : System) (st : State) (a : ℕ) (h k : Handle) (index buffer len : ℕ)
    → effect_of s st a (call.Read h index buffer len) k ≡ read-choice s st a h index buffer len (kind_of s a) (request_held s st.spm a h index) (valid_buffer s a buffer len)
unfolding read-choice
read-is s st a h k index buffer len = refl

read-made : (s : System) (st : State) (a : ℕ) (h k : Handle) (index buffer len : ℕ) (m : PendingMessage) → kind_of s a ≡ Partition → request_held s st.spm a h index ≡ Some m → valid_buffer s a buffer len ≡ true
    → effect_of s st a (call.Read h index buffer len) k ≡ read_of st h index buffer len m
unfolding read-choice
read-made s st a h k index buffer len m kind there valid =
    read-is s st a h k index buffer len
    ∙ (ap (λ (x : ActorKind). read-choice s st a h index buffer len x (request_held s st.spm a h index) (valid_buffer s a buffer len)) kind
    ∙ ap₂ (λ (o : Option PendingMessage) (b : Bool). read-choice s st a h index buffer len Partition o b) there valid)

write-choice : System → State → ℕ → Handle → ℕ → ℕ → ℕ → ActorKind → Option PendingMessage → Bool → Effect
write-choice s st a h index buffer len k o valid =
    effect_or_error (if has_call k (call.Write h index buffer len) then option_and_then (λ m. if valid && nat_le len (rest_of (output_at m index)) then Some (write_of st h index buffer len m) else None) o else None) k s st a (call.Write h index buffer len)

write-is : (s : System) (st : State) (a : ℕ) (h k : Handle) (index buffer len : ℕ)
    → effect_of s st a (call.Write h index buffer len) k ≡ write-choice s st a h index buffer len (kind_of s a) (request_held s st.spm a h index) (valid_buffer s a buffer len)
unfolding write-choice
write-is s st a h k index buffer len = refl

pub write-made : (s : System) (st : State) (a : ℕ) (h k : Handle) (index buffer len : ℕ) (m : PendingMessage) → kind_of s a ≡ Partition → request_held s st.spm a h index ≡ Some m → valid_buffer s a buffer len ≡ true
    → nat_le len (rest_of (output_at m index)) ≡ true → effect_of s st a (call.Write h index buffer len) k ≡ write_of st h index buffer len m
unfolding write-choice
write-made s st a h k index buffer len m kind there valid fits =
    write-is s st a h k index buffer len
    ∙ (ap (λ (x : ActorKind). write-choice s st a h index buffer len x (request_held s st.spm a h index) (valid_buffer s a buffer len)) kind
    ∙ (ap₂ (λ (o : Option PendingMessage) (b : Bool). write-choice s st a h index buffer len Partition o b) there valid
    ∙ ap (λ (b : Bool). effect_or_error (if b then Some (write_of st h index buffer len m) else None) Partition s st a (call.Write h index buffer len)) fits))

number-is : (n : ℕ) (o : Outcome) → outcome_eq (outcome.Number n) o ≡ true → o ≡ outcome.Number n
number-is n (outcome.Number k) e = let same : n ≡ k = grind (arith, nat_tests) in ap outcome.Number (sym same)
number-is n _ e = cc

-- ---- the laws

whole-moved : (base len n moved size : ℕ) → moved ≡ 0 → n ≡ size → size ≡ len → (min n (len - moved) ≡ len) × (base + moved ≡ base)
whole-moved base len n moved size a b c = (omega arith, omega arith)

pub inputs-are-copied : InputsAreCopied
inputs-are-copied s m a script es e old new operands h index buffer len event line is =
    let p : Holder = holder_of s a in
    let x : Holding = standing_at s a script es in
    let at : At s a script es e old new (call.Read h index buffer len) = at-event s m a script es e old new (call.Read h index buffer len) event is (λ z. cc) in
    let maps = map_in-call p script x operands h index buffer len line at.call_made in
    let test = tested x.table h index (λ y. is_mappable p y (vector_at y.input index) && is_input_free x.table index) maps.may in
    let y : HeldMessage = test.message in
    let can : IsMappable p y (vector_at y.input index) = mappable p y (vector_at y.input index) (and_parts (is_mappable p y (vector_at y.input index)) (is_input_free x.table index) test.passes).0 in
    let it : Match s old.spm a (unmapped_in s a script es) h y = at.table h y test.at in
    let message : PendingMessage = it.message in
    let size : len ≡ (vector_at y.input index).size = maps.size ∙ ap (λ (o : Option HeldMessage). option_map_or (λ z. (vector_at z.input index).size) o 0) test.at in
    let moved : (input_at message index).moved ≡ 0 = it.fits.unread index can.unused in
    let whole = whole-moved (input_at message index).base (input_at message index).len len (input_at message index).moved (vector_at y.input index).size moved size (it.fits.input index) in
    let few : index < 8 = (let four : nat_lt index 4 ≡ true = test.few in grind (arith, nat_tests)) in
    let short : len ≤ window_size p = (let fits : nat_le (vector_at y.input index).size (window_size p) ≡ true = can.fits in let le : (vector_at y.input index).size ≤ window_size p = grind (arith, nat_tests) in omega arith) in
    let valid : valid_buffer s a buffer len ≡ true = ap (λ (z : ℕ). valid_buffer s a z len) maps.window ∙ window-valid s a index len at.kind event.partition few short in
    let request = request-by s old.spm a h index message it.found (ap (λ (z : ℤ). int_le (pos 0) z) (sym it.fits.kind) ∙ can.request) test.few in
    let made = read-made s old a h (handle_shown e.outcome) index buffer len message at.kind request valid in
    record {
      message = message;
      held = it.found;
      window = maps.window;
      answered = number-is (min len (rest_of (input_at message index))) e.outcome (subst (λ (z : Effect). outcome_eq z.outcome e.outcome ≡ true) made at.own.outcome) ∙ ap outcome.Number whole.0;
      copied = sym (ap (λ (z : State). bytes_at z.memory buffer (input_at message index).len) (sym (ap (λ (z : Effect). z.state) made) ∙ at.own.state))
          ∙ (ap₂ (λ (from n : ℕ). bytes_at (copy_bytes old.memory from buffer n) buffer (input_at message index).len) whole.1 whole.0 ∙ copied old.memory (input_at message index).base buffer (input_at message index).len);
    }

pub outputs-are-copied : OutputsAreCopied
outputs-are-copied s m a script es e old new operands h index buffer len event line is =
    let p : Holder = holder_of s a in
    let x : Holding = standing_at s a script es in
    let at : At s a script es e old new (call.Write h index buffer len) = at-event s m a script es e old new (call.Write h index buffer len) event is (λ z. cc) in
    let unmaps = unmap_out-call p script x operands h index buffer len line at.call_made in
    let test = tested x.table h index (λ y. is_mapped (vector_at y.output index).state && nat_le len (vector_at y.output index).size) unmaps.0 in
    let y : HeldMessage = test.message in
    let both = and_parts (is_mapped (vector_at y.output index).state) (nat_le len (vector_at y.output index).size) test.passes in
    let it : Match s old.spm a (unmapped_in s a script es) h y = at.table h y test.at in
    let message : PendingMessage = it.message in
    let size : (vector_at y.output index).size ≡ (output_at message index).len = it.fits.output index in
    let moved : (output_at message index).moved ≡ 0 = it.fits.unwritten index (mapped-unwritten (vector_at y.output index).state both.0) in
    let windowed = it.fits.windowed index both.0 in
    let few : 4 + index < 8 = (let four : nat_lt index 4 ≡ true = test.few in grind (arith, nat_tests)) in
    let within : len ≤ (vector_at y.output index).size = (let fits : nat_le len (vector_at y.output index).size ≡ true = both.1 in grind (arith, nat_tests)) in
    let short : len ≤ window_size p = (let fits : nat_le (vector_at y.output index).size (window_size p) ≡ true = windowed.1 in let le : (vector_at y.output index).size ≤ window_size p = grind (arith, nat_tests) in omega arith) in
    let valid : valid_buffer s a buffer len ≡ true = ap (λ (z : ℕ). valid_buffer s a z len) unmaps.1 ∙ window-valid s a (4 + index) len at.kind event.partition few short in
    let request = request-by s old.spm a h index message it.found (ap (λ (z : ℤ). int_le (pos 0) z) (sym it.fits.kind) ∙ windowed.0) test.few in
    let rest : len ≤ rest_of (output_at message index) = omega arith in
    let room : nat_le len (rest_of (output_at message index)) ≡ true = grind (arith, nat_tests) in
    let made = write-made s old a h (handle_shown e.outcome) index buffer len message at.kind request valid room in
    let start : (output_at message index).base + (output_at message index).moved ≡ (output_at message index).base = omega arith in
    record {
      message = message;
      held = it.found;
      window = unmaps.1;
      fits = omega arith;
      answered = done-is e.outcome (subst (λ (z : Effect). outcome_eq z.outcome e.outcome ≡ true) made at.own.outcome);
      copied = sym (ap (λ (z : State). bytes_at z.memory (output_at message index).base len) (sym (ap (λ (z : Effect). z.state) made) ∙ at.own.state))
          ∙ (ap (λ (to : ℕ). bytes_at (copy_bytes old.memory buffer to len) (output_at message index).base len) start ∙ copied old.memory buffer (output_at message index).base len);
    }
