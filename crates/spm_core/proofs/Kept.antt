-- What a manager's history tells of the tables that it keeps.
use Rattle.std.proofs.Common.{ℕ, ◌≡◌, ◌<◌, ◌≤◌, ◌+◌, Bool, true, false, List, [], ◌∷◌, ◌++◌, length, refl, ap, sym, subst, ◌∙◌, arith, length-append, All, inl, inr}
use Rattle.std.specs.Prelude.{Option, Some, None, option_and_then, IsSomeAnd, IsSome, IfSome, ◌&&◌, ◌||◌, not, nat_lt, nat_le, is_some, get_or, if◌then◌else◌, ◌⊎◌}
use Rattle.std.specs.Option.{option_map, option_map_or}
use Rattle.std.proofs.lemmas.Bool.{and_from}
use Rattle.std.proofs.lemmas.Bool.Decides.{nat_tests}
use Rattle.std.proofs.lemmas.List.Folds.{list_any_at}
use Rattle.std.proofs.lemmas.List.FromFn.{length-range_with_len, get_or-range_with_len}
use Rattle.ffm_model.specs.declared.constants.TheConstants.{MAX_ENTRIES}
use Rattle.ffm_model.specs.declared.system.System.{System}
use Rattle.ffm_model.specs.declared.scenario.Bytes.{Bytes}
use Rattle.ffm_model.specs.declared.machine.Entry.{Entry}
use Rattle.ffm_model.specs.declared.machine.Handle.{Handle}
use Rattle.ffm_model.specs.declared.machine.Call.{Call}
use Rattle.ffm_model.specs.declared.machine.Call.TheVariants as call
use Rattle.ffm_model.specs.declared.machine.Answer.{Answer}
use Rattle.ffm_model.specs.declared.machine.Answer.TheVariants as answer
use Rattle.ffm_model.specs.declared.objects.ActorPhase.{ActorPhase}
use Rattle.ffm_model.specs.declared.objects.ActorPhase.TheVariants as phase
use Rattle.ffm_model.specs.Actors.{actor_count}
use Rattle.ffm_model.specs.Memory.{ByteMap}
use Rattle.ffm_model.specs.Reach.{write_reach}
use Rattle.ffm_model.specs.Calls.{effect_of}
use Rattle.ffm_model.specs.declared.machine.Outcome.{Outcome}
use Rattle.ffm_model.specs.declared.machine.Phase.{Phase}
use Rattle.ffm_model.specs.State.{SpmState, State, opening_spm, phase_of}
use Rattle.ffm_model.specs.Signals.{enabled, may_resume, is_panicked}
use Rattle.ffm_model.specs.Step.{step, after, may_call, returns_when_due, handle_shown}
use Rattle.ffm_model.specs.Verdicts.{some_enabled, all_actors, verdict_at, verdict_of}
use Rattle.ffm_model.specs.Names.{NamedState, named_step, named_after, first_named, NamesSoFar, names}
use Rattle.ffm_model.proofs.StepLemmas.{after-push}
use Rattle.law_counting.specs.Objects.{ObjectsFit}
use Rattle.law_counting.specs.Takes.{TakesFew}
use Rattle.law_counting.specs.Pending.{ReturnsDue, answers_to, ends_panicked, is_pending}
use Rattle.law_counting.proofs.Fresh.{run-takes}
use Rattle.law_counting.proofs.Returns.{run-returns}
use Rattle.law_counting.proofs.Runs.{folds-keep, run-objects}
use Rattle.law_counting.proofs.Slots.{named-step-is}
use Rattle.law_calls.specs.Vectors.{HaveFour}
use Rattle.law_calls.proofs.Changed.{effect-outside}
use Rattle.law_calls.proofs.Within.{run-four, run-vectors}
use Rattle.ffm_model.specs.Ranges.{ranges_of}
use Rattle.memory_image.specs.Pieces.{byte_at, regions_of}
use Rattle.machine_rules.specs.Vectors.{AreWithin}
use Rattle.law_calls.specs.Named.{NamesAre}
use Rattle.law_calls.specs.Premises.{LeavesTakes, PremisesWithMemory}
use Rattle.law_calls.proofs.Due.{names-begin}
use Rattle.object_pools.specs.Pool.{IsKept}
use Rattle.spm_tables.specs.Answers.{state_with}
use Rattle.spm_tables.specs.TablesView.{TablesView, spm_of, shape_of, MadeFor}
use Rattle.spm_core.specs.Manager.{StepAnswers, Managed, Opening, refusal, refusal_at, is_gone, is_resume, is_actor_gone, awaits_return, CallDue, IsMade, state_after}
use Rattle.spm_core.specs.Performed.{Holds, IsEffect, Keeps, entry_of}
use Rattle.spm_core.proofs.Made.{IsCalled, holds-left, named-on}
use Rattle.spm_core.specs.Views.{enabled_in, memory_in, pending_in, phase_in, shown_phase}

-- ---- a run with names is a run

pub named-run : (s : System) (m : ByteMap) (es : List Entry) (w : NamedState) → named_after s m es ≡ Some w → after s m es ≡ Some w.state
named-run s m es w h =
    folds-keep (λ x e. named_step s x e) (λ xs x. after s m xs ≡ Some x.state)
    (λ xs x new e was is. named-step-is s x new e (after s m (xs ++ e ∷ []) ≡ Some new.state) is
    (λ st stepped same shows.
    after-push s m xs e ∙ ap (λ (o : Option State). option_and_then (λ y. step s y e) o) was ∙ stepped ∙ ap (λ (n : NamedState). Some n.state) same))
    [] es (Some (first_named s m)) w
    (λ x e. let it : first_named s m ≡ x = cc in ap (λ (n : NamedState). Some n.state) it) h

-- ---- the state after the history

-- the state is that of the tables and the bytes, with some handles given
pub record IsStateOf (s : System) (m : ByteMap) (es : List Entry) (d : TablesView) (bytes : List Bytes) : Type 0 where
  pub given : List Handle
  pub is : after s m es ≡ Some (state_with d given (byte_at bytes))

pub state-held : (s : System) (m : ByteMap) (es : List Entry) (d : TablesView) (bytes : List Bytes) → IsSomeAnd (named_after s m es) (Holds d bytes) → IsStateOf s m es d bytes
state-held s m es d bytes holds =
    let go : (x : Option NamedState) → named_after s m es ≡ x → IsSomeAnd x (Holds d bytes) → IsStateOf s m es d bytes = elim [
      | None ↦ λ is h. absurd h
      | Some w ↦ λ is h. record {
        given = w.state.handles_given;
        is = named-run s m es w is ∙ (λ j. Some (record { spm = h.stands.spm j; handles_given = w.state.handles_given; memory = h.stands.memory j }));
      }
    ] in
    go (named_after s m es) refl holds

pub state-kept : (o : Opening) (history : List Entry) (bytes : List Bytes) (d : TablesView) (capacity : ℕ) → Keeps o history bytes d capacity → IsStateOf o.system (byte_at o.memory) history d bytes
state-kept o history bytes d capacity keeps = state-held o.system (byte_at o.memory) history d bytes keeps.run

-- the objects fit
pub objects-kept : (o : Opening) (history : List Entry) (bytes : List Bytes) (d : TablesView) (capacity : ℕ) → Keeps o history bytes d capacity → ObjectsFit o.system (spm_of d)
objects-kept o history bytes d capacity keeps =
    let at : IsStateOf o.system (byte_at o.memory) history d bytes = state-kept o history bytes d capacity keeps in
    run-objects o.system (byte_at o.memory) history (state_with d at.given (byte_at bytes)) at.is

-- the vectors of the messages lie in the regions
pub vectors-kept : (o : Opening) (history : List Entry) (bytes : List Bytes) (d : TablesView) (capacity : ℕ) → Keeps o history bytes d capacity
    → All (λ m. AreWithin (regions_of bytes) m.vectors) (spm_of d).messages
vectors-kept o history bytes d capacity keeps =
    let at : IsStateOf o.system (byte_at o.memory) history d bytes = state-kept o history bytes d capacity keeps in
    rw keeps.regions (run-vectors o.system (byte_at o.memory) history (state_with d at.given (byte_at bytes)) at.is)

-- what a call rests on
pub premises-kept : (o : Opening) (history : List Entry) (bytes : List Bytes) (d : TablesView) (capacity : ℕ) → Keeps o history bytes d capacity → PremisesWithMemory o.system d bytes
premises-kept o history bytes d capacity keeps = record {
  tables = record { made = keeps.made; fits = objects-kept o history bytes d capacity keeps };
  regions = keeps.regions;
  vectors = vectors-kept o history bytes d capacity keeps;
}

-- takes are left
pub takes-kept : (o : Opening) (history : List Entry) (bytes : List Bytes) (d : TablesView) (capacity : ℕ) → Keeps o history bytes d capacity → LeavesTakes d
takes-kept o history bytes d capacity keeps =
    let go : (x : Option NamedState) → named_after o.system (byte_at o.memory) history ≡ x → IsSomeAnd x (Holds d bytes) → LeavesTakes d = elim [
      | None ↦ λ is h. absurd h
      | Some w ↦ λ is h.
          let few : TakesFew history w = run-takes o.system (byte_at o.memory) history w is in
          let made : w.state.spm.connections_made ≡ d.connections.takes = ap (λ (b : SpmState). b.connections_made) h.stands.spm in
          record {
            connections = omega (arith, few.connections, made, keeps.within, keeps.limited);
            messages = omega (arith, few.messages, few.connections, h.names.sent, keeps.within, keeps.limited);
          }
    ] in
    go (named_after o.system (byte_at o.memory) history) refl keeps.run

-- ---- refusals

-- where an actor can go on, some can
pub some-enabled : (s : System) (b : SpmState) (a : ℕ) → a < actor_count s → enabled s b a ≡ true → some_enabled s b ≡ true
some-enabled s b a below on =
    let here : get_or (all_actors s) a 0 ≡ a = omega (arith, get_or-range_with_len 0 (actor_count s) a 0 below) in
    list_any_at (enabled s b) (all_actors s) a 0 (rw (length-range_with_len 0 (actor_count s)) below) (rw here on)

-- the refusal is that of the tables
pub refusal-kept : (o : Opening) (history : List Entry) (bytes : List Bytes) (d : TablesView) (capacity a : ℕ) → Keeps o history bytes d capacity
    → refusal o history a ≡ refusal_at o.system o.limit (length history) (spm_of d) a
refusal-kept o history bytes d capacity a keeps =
    ap (λ st. option_and_then (λ x. refusal_at o.system o.limit (length history) x.spm a) st) (state-kept o history bytes d capacity keeps).is

-- what it says that no refusal is due
pub record IsFree (s : System) (limit count : ℕ) (b : SpmState) (a : ℕ) : Type 0 where
  pub stays : is_gone (phase_of b a) ≡ false
  pub on : enabled s b a ≡ true
  pub room : nat_le limit count ≡ false

by_tests : (gone some full on : Bool) → (if gone then Some answer.Gone else (if not some then Some answer.Over else (if full then Some answer.Full else (if on then None else Some answer.NotYet)))) ≡ None
    → (gone ≡ false) × (on ≡ true) × (full ≡ false)
by_tests true some full on h = cc
by_tests false false full on h = cc
by_tests false true true on h = cc
by_tests false true false true h = (refl, refl, refl)
by_tests false true false false h = cc

pub free : (s : System) (limit count : ℕ) (b : SpmState) (a : ℕ) → refusal_at s limit count b a ≡ None → IsFree s limit count b a
free s limit count b a h =
    let all = by_tests (is_gone (phase_of b a)) (some_enabled s b) (nat_le limit count) (enabled s b a) h in
    record { stays = all.0; on = all.1; room = all.2 }

-- ---- the call that is due

-- a return where one is due, and else a new call
due-call : (c : Call) (p : ActorPhase) → is_resume c ≡ may_resume p → returns_when_due c p ≡ true
due-call call.Resume p h = sym h
due-call _ p h = rw (← h) refl

pub may-kept : (o : Opening) (history : List Entry) (bytes : List Bytes) (d : TablesView) (capacity a : ℕ) (c : Call) → Keeps o history bytes d capacity → a < actor_count o.system
    → CallDue o history a c → refusal_at o.system o.limit (length history) (spm_of d) a ≡ None → may_call o.system (spm_of d) a c ≡ true
may-kept o history bytes d capacity a c keeps below due none =
    let at : IsStateOf o.system (byte_at o.memory) history d bytes = state-kept o history bytes d capacity keeps in
    let st : State = state_with d at.given (byte_at bytes) in
    let left : IsFree o.system o.limit (length history) (spm_of d) a = free o.system o.limit (length history) (spm_of d) a none in
    let returns : ReturnsDue o.system history st = run-returns o.system (byte_at o.memory) history st at.is in
    let resumes : may_resume (phase_of (spm_of d) a) ≡ awaits_return history a = returns.enabled_actors a left.on in
    let stays : is_actor_gone o history a ≡ false = ap (λ (x : Option State). option_map_or (λ y. is_gone (phase_of y.spm a)) x false) at.is ∙ left.stays in
    let asked : (is_resume c ≡ awaits_return history a) ⊎ (is_actor_gone o history a ≡ true) → is_resume c ≡ awaits_return history a = elim [ inl h ↦ h | inr h ↦ cc ] in
    let there : nat_lt a (actor_count o.system) ≡ true = grind (arith, nat_tests) in
    and_from _ _ there (and_from _ _ left.on (due-call c (phase_of (spm_of d) a) (asked due ∙ sym resumes)))

-- ---- an actor's last entry

gone-or-awaits : (p : ActorPhase) (panicked : Bool) → is_gone p ≡ false → is_pending p ≡ (is_pending p || (is_panicked p && not panicked))
gone-or-awaits phase.Running panicked h = refl
gone-or-awaits phase.Blocked panicked h = refl
gone-or-awaits (phase.Waiting mask) panicked h = refl
gone-or-awaits (phase.Ready o) panicked h = refl
gone-or-awaits (phase.Connected n) panicked h = refl
gone-or-awaits _ panicked h = cc

pub last-kept : (o : Opening) (history : List Entry) (bytes : List Bytes) (d : TablesView) (capacity a : ℕ) → Keeps o history bytes d capacity → is_actor_gone o history a ≡ false
    → is_pending (phase_of (spm_of d) a) ≡ awaits_return history a
last-kept o history bytes d capacity a keeps stays =
    let at : IsStateOf o.system (byte_at o.memory) history d bytes = state-kept o history bytes d capacity keeps in
    let st : State = state_with d at.given (byte_at bytes) in
    let returns : ReturnsDue o.system history st = run-returns o.system (byte_at o.memory) history st at.is in
    let on : is_gone (phase_of (spm_of d) a) ≡ false = sym (ap (λ (x : Option State). option_map_or (λ y. is_gone (phase_of y.spm a)) x false) at.is) ∙ stays in
    gone-or-awaits (phase_of (spm_of d) a) (ends_panicked (answers_to a history)) on ∙ sym (returns.last a)

-- ---- the manager's own calls

-- a manager at its start
pub keeps-first : (o : Opening) (d : TablesView) (capacity : ℕ) → o.limit ≤ MAX_ENTRIES → o.limit ≤ capacity → regions_of o.memory ≡ ranges_of o.system.regions → MadeFor d o.system
    → IsKept 256 d.connections → IsKept 304 d.messages → spm_of d ≡ opening_spm o.system → d.messages.takes ≡ 0 → Keeps o [] o.memory d capacity
keeps-first o d capacity limited room regions made linked waiting opens untaken = record {
  limited = limited;
  within = omega arith;
  room = room;
  regions = regions;
  made = made;
  run = holds-left o.system (byte_at o.memory) [] d o.memory (first_named o.system (byte_at o.memory)) refl
      (record { spm = sym opens; memory = refl; names = names-begin o.system d linked waiting opens untaken });
}

-- an entry more
pub keeps-next : (o : Opening) (history : List Entry) (bytes after : List Bytes) (d new : TablesView) (capacity more a : ℕ) (c : Call) (x : Outcome)
    → Keeps o history bytes d capacity → IsCalled o.system d bytes a c x new after → regions_of after ≡ regions_of bytes → shape_of new ≡ shape_of d
    → nat_le o.limit (length history) ≡ false → more ≡ capacity → Keeps o (history ++ entry_of a c x ∷ []) after new more
keeps-next o history bytes after d new capacity more a c x keeps called regions shape full same = record {
  limited = keeps.limited;
  within = let below : length history < o.limit = grind (arith, nat_tests) in omega (arith, length-append history (entry_of a c x ∷ []));
  room = rw same keeps.room;
  regions = regions ∙ keeps.regions;
  made = shape ∙ keeps.made;
  run = named-on o.system (byte_at o.memory) history d new bytes after a c x keeps.run (omega (arith, keeps.within, keeps.limited)) called;
}

-- and that it is made
pub made-next : (o : Opening) (history : List Entry) (bytes after : List Bytes) (d new : TablesView) (capacity a : ℕ) (c : Call) (x : Outcome) (place : ℕ)
    → Keeps o history bytes d capacity → IsCalled o.system d bytes a c x new after
    → refusal_at o.system o.limit (length history) (spm_of d) a ≡ None → place ≡ length history + 1
    → IsMade o history a c place (entry_of a c x) (history ++ entry_of a c x ∷ [])
made-next o history bytes after d new capacity a c x place keeps called none last =
    let at : IsStateOf o.system (byte_at o.memory) (history ++ entry_of a c x ∷ []) new after =
    state-held o.system (byte_at o.memory) (history ++ entry_of a c x ∷ []) new after
    (named-on o.system (byte_at o.memory) history d new bytes after a c x keeps.run (omega (arith, keeps.within, keeps.limited)) called) in
    record {
      due = refusal-kept o history bytes d capacity a keeps ∙ none;
      actor = refl;
      called = refl;
      added = refl;
      place_is = omega (arith, length-append history (entry_of a c x ∷ []));
      stepped = after-push o.system (byte_at o.memory) history (entry_of a c x);
      is_state = ap is_some at.is;
    }

-- bytes that it changed lie in reach
pub reach-next : (o : Opening) (history : List Entry) (bytes after : List Bytes) (d new : TablesView) (capacity a : ℕ) (c : Call) (x : Outcome)
    → Keeps o history bytes d capacity → IsCalled o.system d bytes a c x new after
    → IfSome (state_after o history) (λ st. (y : ℕ) → write_reach o.system st.spm a y ≡ false → byte_at after y ≡ byte_at bytes y)
reach-next o history bytes after d new capacity a c x keeps called =
    let at : IsStateOf o.system (byte_at o.memory) history d bytes = state-kept o history bytes d capacity keeps in
    let st : State = state_with d at.given (byte_at bytes) in
    let four : HaveFour (spm_of d) = run-four o.system (byte_at o.memory) history st at.is in
    let effect : IsEffect (effect_of o.system st a c (handle_shown x)) x new (byte_at after) = called.does at.given in
    subst (λ (s : Option State). IfSome s (λ z. (y : ℕ) → write_reach o.system z.spm a y ≡ false → byte_at after y ≡ byte_at bytes y)) (sym at.is)
    (λ y out. sym (ap (λ (m : ByteMap). m y) effect.memory) ∙ effect-outside o.system st four a c (handle_shown x) y out)

-- the verdict is that of the tables
pub verdict-kept : (o : Opening) (history : List Entry) (bytes : List Bytes) (d : TablesView) (capacity : ℕ) → Keeps o history bytes d capacity
    → verdict_of o.system (byte_at o.memory) o.limit history ≡ verdict_at o.system o.limit (length history) (spm_of d)
verdict-kept o history bytes d capacity keeps =
    ap (λ st. option_and_then (λ x. verdict_at o.system o.limit (length history) x.spm) st) (state-kept o history bytes d capacity keeps).is

-- and so is what is shown of an actor
pub phase-kept : (o : Opening) (history : List Entry) (bytes : List Bytes) (d : TablesView) (capacity a : ℕ) (shown : Phase) → Keeps o history bytes d capacity
    → ((k : NamesSoFar) → NamesAre d k → shown ≡ shown_phase k (phase_of (spm_of d) a)) → phase_in (record { opening = o; history = history; bytes = bytes }) a ≡ Some shown
phase-kept o history bytes d capacity a shown keeps is =
    let go : (x : Option NamedState) → IsSomeAnd x (Holds d bytes) → option_map (λ w. shown_phase w.names (phase_of w.state.spm a)) x ≡ Some shown = elim [
      | None ↦ λ h. absurd h
      | Some w ↦ λ h. ap (λ (b : SpmState). Some (shown_phase w.names (phase_of b a))) h.stands.spm ∙ ap (λ (p : Phase). Some p) (sym (is w.names h.names))
    ] in
    go (named_after o.system (byte_at o.memory) history) keeps.run

pub run-kept : (o : Opening) (history : List Entry) (bytes : List Bytes) (d : TablesView) (capacity : ℕ) → Keeps o history bytes d capacity → IsSome (after o.system (byte_at o.memory) history)
run-kept o history bytes d capacity keeps = ap is_some (state-kept o history bytes d capacity keeps).is

abbrev pub managed : Opening → List Entry → List Bytes → Managed
managed o history bytes = record { opening = o; history = history; bytes = bytes }

pub memory-kept : (o : Opening) (history : List Entry) (bytes : List Bytes) (d : TablesView) (capacity : ℕ) → Keeps o history bytes d capacity → memory_in (managed o history bytes) ≡ Some (byte_at bytes)
memory-kept o history bytes d capacity keeps = ap (option_map (λ (st : State). st.memory)) (state-kept o history bytes d capacity keeps).is

pub enabled-kept : (o : Opening) (history : List Entry) (bytes : List Bytes) (d : TablesView) (capacity a : ℕ) → Keeps o history bytes d capacity
    → enabled_in (managed o history bytes) a ≡ Some (enabled o.system (spm_of d) a)
enabled-kept o history bytes d capacity a keeps = ap (option_map (λ (st : State). enabled o.system st.spm a)) (state-kept o history bytes d capacity keeps).is

pub pending-kept : (o : Opening) (history : List Entry) (bytes : List Bytes) (d : TablesView) (capacity a : ℕ) → Keeps o history bytes d capacity
    → pending_in (managed o history bytes) a ≡ Some (is_pending (phase_of (spm_of d) a))
pending-kept o history bytes d capacity a keeps = ap (option_map (λ (st : State). is_pending (phase_of st.spm a))) (state-kept o history bytes d capacity keeps).is

-- a refusal is never an event
never-made : (gone some full on : Bool) (place : ℕ) (e : Entry)
    → (if gone then Some answer.Gone else (if not some then Some answer.Over else (if full then Some answer.Full else (if on then None else Some answer.NotYet)))) ≡ Some (answer.Made place e) → ⊥
never-made true some full on place e h = cc
never-made false false full on place e h = cc
never-made false true true on place e h = cc
never-made false true false true place e h = cc
never-made false true false false place e h = cc

pub refused-answers : (o : Opening) (history : List Entry) (bytes : List Bytes) (d : TablesView) (capacity a : ℕ) (c : Call) (x : Answer) → Keeps o history bytes d capacity
    → refusal_at o.system o.limit (length history) (spm_of d) a ≡ Some x → StepAnswers o history a c x history
refused-answers o history bytes d capacity a c (answer.Made place e) keeps h =
    absurd (never-made (is_gone (phase_of (spm_of d) a)) (some_enabled o.system (spm_of d)) (nat_le o.limit (length history)) (enabled o.system (spm_of d) a) place e h)
refused-answers o history bytes d capacity a c answer.Gone keeps h = record { due = refusal-kept o history bytes d capacity a keeps ∙ h; unchanged = refl }
refused-answers o history bytes d capacity a c answer.Over keeps h = record { due = refusal-kept o history bytes d capacity a keeps ∙ h; unchanged = refl }
refused-answers o history bytes d capacity a c answer.Full keeps h = record { due = refusal-kept o history bytes d capacity a keeps ∙ h; unchanged = refl }
refused-answers o history bytes d capacity a c answer.NotYet keeps h = record { due = refusal-kept o history bytes d capacity a keeps ∙ h; unchanged = refl }
