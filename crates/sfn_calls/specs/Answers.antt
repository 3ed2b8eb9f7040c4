-- What a run of the machine answers to the calls of an SFN partition's rounds.
-- Source: FF-M 1.0, psa_wait with PSA_BLOCK returns when a signal of its mask is asserted, and psa_get alone takes a message away; the machine is this simulator's.
use Rattle.std.specs.Prelude.{ℕ, ◌≡◌, ◌≤◌, List, ◌∷◌, ◌++◌, length, Some, IsSome, ◌↔◌, ◌⊎◌}
use Rattle.std.specs.List.{AllByRecursion}
use Rattle.std.specs.Int.{w32, cast_unsigned, cast_signed}
use Rattle.ffm_model.specs.declared.constants.TheConstants.{PSA_BLOCK}
use Rattle.ffm_model.specs.declared.machine.Entry.{Entry}
use Rattle.ffm_model.specs.declared.machine.Handle.{Handle}
use Rattle.ffm_model.specs.declared.machine.Status.{Status}
use Rattle.ffm_model.specs.declared.machine.Message.{Message}
use Rattle.ffm_model.specs.declared.machine.Call.TheVariants as call
use Rattle.ffm_model.specs.declared.machine.Outcome.TheVariants as outcome
use Rattle.ffm_model.specs.Functions.{SfnService, SfnPartition, signals_in, lowest}
use Rattle.ffm_model.specs.ScriptRuns.{ScriptRun}
use Rattle.ffm_model.specs.SfnRuns.{SfnRun}
use Rattle.ffm_model.specs.SfnScripts.{IsFunction}
use Rattle.sfn_calls.specs.Loop.{expanded}

-- an entry is the blocked wait of a round
pub record IsBlockedWait (p : SfnPartition) (e : Entry) : Type 0 where
  pub call : e.call ≡ call.Wait (signals_in p.services) PSA_BLOCK
  pub blocked : e.outcome ≡ outcome.Blocked

-- an entry is the return of a round's wait, with these signals
pub record IsReturn (e : Entry) (signals : ℕ) : Type 0 where
  pub call : e.call ≡ call.Resume
  pub shown : e.outcome ≡ outcome.Signals signals

-- a handle is a value of its field's type
abbrev pub IsHandle : Handle → Type 0
IsHandle h = cast_signed w32 (cast_unsigned w32 h.0) ≡ h.0

-- what the machine answers, wherever the entries stand
pub record AreAnswered (p : SfnPartition) (es : List Entry) : Type 0 where
  -- psa_wait for the services' signals blocks
  pub waits : (before behind : List Entry) (e : Entry) → es ≡ before ++ e ∷ behind → e.call ≡ call.Wait (signals_in p.services) PSA_BLOCK → e.outcome ≡ outcome.Blocked
  -- it returns with the signal of a service
  pub returns : (before behind : List Entry) (w e : Entry) → es ≡ before ++ w ∷ (e ∷ behind) → IsBlockedWait p w → e.call ≡ call.Resume
      → (signals : ℕ) × ((e.outcome ≡ outcome.Signals signals) × IsSome (lowest p.services signals))
  -- right after it psa_get of the lowest such signal gives a message
  pub gets : (before behind : List Entry) (w r e : Entry) (signals : ℕ) (v : SfnService) → es ≡ before ++ w ∷ (r ∷ (e ∷ behind)) → IsBlockedWait p w → IsReturn r signals
      → lowest p.services signals ≡ Some v → e.call ≡ call.Get v.signal p.base → (m : Message) × ((e.outcome ≡ outcome.Got m) × IsHandle m.handle)
  -- psa_reply is answered at once, and tells nothing
  pub replies : (before behind : List Entry) (e : Entry) (h : Handle) (status : Status) → es ≡ before ++ e ∷ behind → e.call ≡ call.Reply h status
      → (e.outcome ≡ outcome.Done) ⊎ (e.outcome ≡ outcome.Panicked)

-- the functions of a partition are well formed, and it has few services
pub record IsSfnPartition (p : SfnPartition) : Type 0 where
  pub few : length p.services ≤ 28
  pub functions : AllByRecursion (λ v. IsFunction v.lines) p.services

-- an SFN partition and its loop have the same runs
abbrev pub SameRuns : SfnPartition → Type 0
SameRuns p = (es : List Entry) → AreAnswered p es → ScriptRun (expanded p) es ↔ SfnRun p es
