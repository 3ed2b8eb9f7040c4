-- In each run the machine answers an SFN partition's rounds as its loop expects.
use Rattle.std.proofs.Common.{ℕ, ◌<◌, ◌≡◌, ◌==◌, ◌^◌, List, [], ◌∷◌, ◌++◌, length, ap, ap₂, sym, ◌∙◌, subst, true, append_assoc}
use Rattle.std.specs.Prelude.{Some, bit_and}
use Rattle.std.specs.Int.{bit_at}
use Rattle.ffm_model.proofs.RecordLemmas.{entries_of-other, entries_of-own}
use Rattle.ffm_model.specs.declared.constants.TheConstants.{PSA_BLOCK}
use Rattle.ffm_model.specs.declared.machine.Call.TheVariants as call
use Rattle.ffm_model.specs.declared.machine.Entry.{Entry}
use Rattle.ffm_model.specs.declared.script.SfnFunction.{SfnFunction}
use Rattle.ffm_model.specs.declared.system.System.{System}
use Rattle.ffm_model.specs.Functions.{SfnPartition, signals_in}
use Rattle.ffm_model.specs.Memory.{ByteMap}
use Rattle.ffm_model.specs.PartitionRam.{ram_base}
use Rattle.ffm_model.specs.Records.{entries_of}
use Rattle.ffm_model.specs.SfnRuns.{sfn_partition}
use Rattle.ffm_model.specs.Signals.{signals_of}
use Rattle.ffm_model.specs.State.{State}
use Rattle.ffm_model.specs.Step.{after, step}
use Rattle.law_lists.proofs.Options.{some-value}
use Rattle.law_counting.proofs.Parts.{flipped, is_itself, same_or_not}
use Rattle.law_counting.proofs.Runs.{run-has}
use Rattle.sfn_calls.specs.Answers.{AreAnswered}
use Rattle.sfn_calls.proofs.CodeLemmas.{partition-fine}
use Rattle.sfn_calls.proofs.SameRuns.{same-runs}
use Rattle.law_programs.specs.Owners.{LoopsAreRounds}
use Rattle.law_programs.proofs.Bits.{has-bit, lowest-some}
use Rattle.law_programs.proofs.OwnSteps.{gets-message, reply-quiet, wait-blocks, wakes}
use Rattle.law_programs.proofs.Owned.{IsSfnOwner, sfn-owner}
use Rattle.law_programs.proofs.Recent.{Recent, front-push, front_of, last-push, last_of, opening-recent, step-recent}
use Rattle.law_programs.proofs.Services.{base-is, lowest-is, partition-fits, wait-meets}
use Rattle.law_counting.proofs.Entries.{never-nil, push-split}
use Rattle.law_counting.proofs.OwnSteps.{own-step}

-- ---- an entry of the partition, in the whole run

-- what is known at an entry of the partition
record Here (s : System) (a : ℕ) (before : List Entry) (e : Entry) : Type 0 where
  old : State
  new : State
  past : List Entry
  own : entries_of a past ≡ before
  recent : Recent s a past old
  is_step : step s old e ≡ Some new
  mine : e.actor.0 ≡ a

record Seen (s : System) (a : ℕ) (es : List Entry) (st : State) : Type 0 where
  recent : Recent s a es st
  each : (before behind : List Entry) (e : Entry) → entries_of a es ≡ before ++ e ∷ behind → Here s a before e

step-seen : (s : System) (a : ℕ) → a < length s.partitions → (es : List Entry) (st new : State) (d : Entry) → Seen s a es st → step s st d ≡ Some new → Seen s a (es ++ d ∷ []) new
step-seen s a inside es st new d r h = record {
  recent = step-recent s a inside es st new d r.recent h;
  each = λ before behind e split. same_or_not a d.actor.0 (Here s a before e)
      (λ k.
      let mine : (d.actor.0 == a) ≡ true = ap (λ (x : ℕ). d.actor.0 == x) k ∙ is_itself d.actor.0 in
      push-split (entries_of a es) before behind d e (Here s a before e) (sym (entries_of-own a es d mine) ∙ split)
      (λ past same. record {
        old = st;
        new = new;
        past = es;
        own = past;
        recent = r.recent;
        is_step = subst (λ (x : Entry). step s st x ≡ Some new) same h;
        mine = ap (λ (x : Entry). x.actor.0) (sym same) ∙ sym k;
      })
      (λ rest past. r.each before rest e past))
      (λ k. r.each before behind e (sym (entries_of-other a es d (flipped a d.actor.0 k)) ∙ split));
}

run-seen : (s : System) (m : ByteMap) (es : List Entry) (st : State) (a : ℕ) → after s m es ≡ Some st → a < length s.partitions → Seen s a es st
run-seen s m es st a run inside =
    run-has s m (Seen s a) (record { recent = opening-recent s a m; each = λ before behind e split. absurd (never-nil before behind e split) }) (λ xs x new e. step-seen s a inside xs x new e) es st run

-- ---- all answers

run-answered : (s : System) (m : ByteMap) (es : List Entry) (st : State) (a : ℕ) (fs : List SfnFunction) → after s m es ≡ Some st → IsSfnOwner s a → AreAnswered (sfn_partition s a fs) (entries_of a es)
run-answered s m es st a fs run owner =
    let p : SfnPartition = sfn_partition s a fs in
    let all : Seen s a es st = run-seen s m es st a run owner.exists in
    record {
      waits = λ before behind e split is.
          let k = all.each before behind e split in
          wait-blocks s k.old k.new a (signals_in p.services) e.outcome owner.exists (wait-meets s a fs owner) (own-step s k.old k.new e a (call.Wait (signals_in p.services) PSA_BLOCK) k.is_step k.mine is);
      returns = λ before behind w e split blocked is.
          let k = all.each (before ++ w ∷ []) behind e (split ∙ sym (append_assoc before (w ∷ []) (e ∷ behind))) in
          let last : last_of (entries_of a k.past) ≡ Some w = ap last_of k.own ∙ last-push before w in
          let waiting = k.recent.waits w (signals_in p.services) PSA_BLOCK last blocked.call blocked.blocked in
          let woken = wakes s k.old k.new a (signals_in p.services) e.outcome owner.exists waiting (own-step s k.old k.new e a call.Resume k.is_step k.mine is) in
          (bit_and (signals_of s k.old.spm a) (signals_in p.services), (woken.shown, lowest-some (signals_of s k.old.spm a) p.services woken.asserted));
      gets = λ before behind w r e signals v split blocked back found is.
          let k = all.each ((before ++ w ∷ []) ++ r ∷ []) behind e
          (split ∙ (sym (append_assoc before (w ∷ []) (r ∷ (e ∷ behind))) ∙ sym (append_assoc (before ++ w ∷ []) (r ∷ []) (e ∷ behind)))) in
          let last : last_of (entries_of a k.past) ≡ Some r = ap last_of k.own ∙ last-push (before ++ w ∷ []) r in
          let second : last_of (front_of (entries_of a k.past)) ≡ Some w =
          ap (λ (l : List Entry). last_of (front_of l)) k.own ∙ (ap last_of (front-push (before ++ w ∷ []) r) ∙ last-push before w) in
          let seen = k.recent.seen w r (signals_in p.services) PSA_BLOCK signals last second blocked.call blocked.blocked back.call back.shown in
          let low = lowest-is s a fs signals v found in
          let on : bit_at signals low.bit ≡ 1 = has-bit signals low.bit (ap (λ (x : ℕ). bit_and signals x == 0) (sym low.signal) ∙ low.on) in
          let same : e.call ≡ call.Get (2 ^ low.bit) (ram_base s a) = is ∙ ap₂ call.Get low.signal (base-is s a fs) in
          let given = gets-message s k.old k.new a (2 ^ low.bit) (ram_base s a) low.service e.outcome owner.exists (own-step s k.old k.new e a (call.Get (2 ^ low.bit) (ram_base s a)) k.is_step k.mine same) low.found
          (seen.1 low.bit low.service low.from low.found on) owner.room in
          (given.message, (given.shown, given.handle));
      replies = λ before behind e h status split is.
          let k = all.each before behind e split in
          reply-quiet s k.old k.new a h status e.outcome owner.exists (own-step s k.old k.new e a (call.Reply h status) k.is_step k.mine is);
    }

pub loops-are-rounds : LoopsAreRounds
loops-are-rounds s m es a fs run sfn kept =
    let st = some-value (after s m es) run in
    same-runs (sfn_partition s a fs) (partition-fits s a fs (partition-fine s a fs kept.fit)) (entries_of a es) (run-answered s m es st.0 a fs st.1 (sfn-owner s a sfn))
