-- The runner of a partition, before and after the outcomes of its calls.
-- Source: this simulator's.
use Rattle.std.proofs.Common.{◌≡◌, Bool, true, false, List, [], ◌∷◌, ◌++◌, ap, ap₂, sym, ◌∙◌, true≢false}
use Rattle.std.specs.Prelude.{slice_get, if◌then◌else◌}
use Rattle.ffm_model.proofs.RecordLemmas.{ends_blocked-push, engine_after-push}
use Rattle.ffm_model.specs.declared.machine.Call.{Call}
use Rattle.ffm_model.specs.declared.machine.Call.TheVariants as call
use Rattle.ffm_model.specs.declared.machine.Outcome.{Outcome}
use Rattle.ffm_model.specs.declared.script.Instruction.{Instruction}
use Rattle.ffm_model.specs.Held.{Holder}
use Rattle.ffm_model.specs.HeldPlans.{Holding, held_arrived, held_after, held_call, held_engine, held_plan, holding_none, registers_noted, table_noted}
use Rattle.ffm_model.specs.Plans.{engine_after, plan_of}
use Rattle.ffm_model.specs.Records.{ends_blocked, is_blocked_outcome}
use Rattle.ffm_model.specs.ScriptRuns.{place_after}
use Rattle.script_engines.specs.Holdings.{holding}
use Rattle.script_engines.proofs.HeldLemmas.{after-is}
use Rattle.partition_sim.specs.Partitions.{AskedHeld, FollowsHeld, PartitionStanding, holding_after}

pub opened : (p : Holder) (script : List Instruction) (r : PartitionStanding) → r.holder ≡ p → r.waiting ≡ false → r.ready ≡ false → r.at ≡ holding_none → FollowsHeld p script [] r
unfolding engine_after ends_blocked
opened p script r h w off at = record { holder_is = h; waits = w; begins = λ e. at; stands = λ e. absurd (true≢false (sym e ∙ off)) }

pub asked-follows : (p : Holder) (script : List Instruction) (os : List Outcome) (r : PartitionStanding) → AskedHeld p script os r → FollowsHeld p script os r
asked-follows p script os r a = record { holder_is = a.holder_is; waits = a.waits; begins = λ e. absurd (true≢false (sym a.is_ready ∙ e)); stands = λ e. a }

pub asked : (p : Holder) (script : List Instruction) (os : List Outcome) (old new : PartitionStanding) → old.ready ≡ false → new.holder ≡ old.holder → new.waiting ≡ old.waiting → new.ready ≡ true
    → new.at ≡ held_arrived old.holder script old.at → new.line ≡ slice_get script new.at.at.place → new.call ≡ held_call old.holder script new.at → new.after ≡ place_after script new.at.at.place
    → FollowsHeld p script os old → AskedHeld p script os new
asked p script os old new off h w on e l c a f = record {
  holder_is = h ∙ f.holder_is;
  waits = w ∙ f.waits;
  is_ready = on;
  here = e ∙ ap₂ (λ (q : Holder) (x : Holding). held_arrived q script x) f.holder_is (f.begins off);
  line_is = l;
  call_is = c ∙ ap (λ (q : Holder). held_call q script new.at) f.holder_is;
  after_is = a;
}

pub planned : (p : Holder) (script : List Instruction) (os : List Outcome) (r : PartitionStanding) (b : Bool) (c : Call) → AskedHeld p script os r → b ≡ r.waiting → c ≡ (if b then call.Resume else r.call)
    → c ≡ held_plan p script os
unfolding plan_of
planned p script os r b c a w e =
    e ∙ (ap₂ (λ (t : Bool) (x : Call). if t then call.Resume else x) (w ∙ a.waits) (a.call_is ∙ ap (held_call p script) a.here))

pub after-blocked : (p : Holder) (script : List Instruction) (os : List Outcome) (o : Outcome) (old : PartitionStanding) → is_blocked_outcome o ≡ true
    → AskedHeld p script os old → FollowsHeld p script (os ++ o ∷ []) (record old { waiting = true })
after-blocked p script os o old b a =
    let x : Holding = holding_after p script os in
    let same : holding_after p script (os ++ o ∷ []) ≡ x =
    engine_after-push (held_engine p script) holding_none os o ∙ ap (λ (t : Bool). if t then x else held_after p script o (held_arrived p script x)) b in
    asked-follows p script (os ++ o ∷ []) (record old { waiting = true }) (record {
      holder_is = a.holder_is;
      waits = sym (ends_blocked-push os o ∙ b);
      is_ready = a.is_ready;
      here = a.here ∙ ap (held_arrived p script) (sym same);
      line_is = a.line_is;
      call_is = a.call_is;
      after_is = a.after_is;
    })

pub after-answer : (p : Holder) (script : List Instruction) (os : List Outcome) (o : Outcome) (old new : PartitionStanding) → is_blocked_outcome o ≡ false → new.waiting ≡ false → new.ready ≡ false
    → new.holder ≡ old.holder → new.at ≡ holding (registers_noted old.line old.call o old.at.at.registers) old.after (table_noted old.holder old.line old.call o old.at.table)
    → AskedHeld p script os old → FollowsHeld p script (os ++ o ∷ []) new
after-answer p script os o old new b w off h at a =
    let x : Holding = holding_after p script os in
    let same : holding_after p script (os ++ o ∷ []) ≡ held_after p script o (held_arrived p script x) =
    engine_after-push (held_engine p script) holding_none os o ∙ ap (λ (t : Bool). if t then x else held_after p script o (held_arrived p script x)) b in
    let moved : new.at ≡ held_after p script o old.at =
    at ∙ (ap (λ (q : Holder). holding (registers_noted old.line old.call o old.at.at.registers) old.after (table_noted q old.line old.call o old.at.table)) a.holder_is
    ∙ sym (after-is p script o old.at old.line old.call old.after a.line_is a.call_is a.after_is)) in
    record {
      holder_is = h ∙ a.holder_is;
      waits = w ∙ sym (ends_blocked-push os o ∙ b);
      begins = λ e. moved ∙ (ap (held_after p script o) a.here ∙ sym same);
      stands = λ e. absurd (true≢false (sym e ∙ off));
    }
