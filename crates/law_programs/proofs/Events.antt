-- Each event of a run is the last one of a run.
use Rattle.std.proofs.Common.{ℕ, ◌≡◌, ◌==◌, ◌<◌, List, length, [], ◌∷◌, ◌++◌, refl, ap, sym, ◌∙◌, subst, append_assoc}
use Rattle.std.specs.Prelude.{Option, Some, None, IsSome, fold}
use Rattle.std.proofs.lemmas.List.Elements.{filter-append}
use Rattle.std.proofs.lemmas.List.Sums.{fold-append}
use Rattle.ffm_model.specs.declared.system.System.{System}
use Rattle.ffm_model.specs.declared.machine.Entry.{Entry}
use Rattle.ffm_model.specs.declared.machine.Outcome.{Outcome}
use Rattle.ffm_model.specs.declared.script.Instruction.{Instruction}
use Rattle.ffm_model.specs.Held.{holder_of}
use Rattle.ffm_model.specs.HeldPlans.{held_plan}
use Rattle.ffm_model.specs.Plans.{Plan, PlanRun, RunFrom}
use Rattle.ffm_model.specs.Records.{entries_of}
use Rattle.ffm_model.specs.Memory.{ByteMap}
use Rattle.ffm_model.specs.State.{State, opening}
use Rattle.ffm_model.specs.Step.{after, step, step_on}
use Rattle.law_programs.specs.Windows.{EachIsEvent, IsEvent, IsOwnEvent, RunsKeepWindows}
use Rattle.law_programs.proofs.Copies.{inputs-are-copied, outputs-are-copied}
use Rattle.law_programs.proofs.Lengths.{lengths-are-told}

-- after what is no step there is no state
none-after : (s : System) (xs : List Entry) (P : Type 0) → IsSome (fold (step_on s) None xs) → P
none-after s [] P h = cc
none-after s (x ∷ xs) P h = none-after s xs P h

runs-front : (plan : Plan) (os : List Outcome) (xs ys : List Entry) → RunFrom plan os (xs ++ ys) → RunFrom plan os xs
runs-front plan os [] ys r = tt
runs-front plan os (x ∷ xs) ys r = (r.0, runs-front plan (os ++ x.outcome ∷ []) xs ys r.1)

-- the entries up to one of them are a run of a plan where all are
front-planned : (a : ℕ) (plan : Plan) (es : List Entry) (e : Entry) (later : List Entry) → PlanRun plan (entries_of a (es ++ e ∷ later)) → PlanRun plan (entries_of a (es ++ e ∷ []))
front-planned a plan es e later planned =
    let parts : entries_of a (es ++ e ∷ later) ≡ entries_of a (es ++ e ∷ []) ++ entries_of a later =
    ap (entries_of a) (sym (append_assoc es (e ∷ []) later)) ∙ filter-append (λ d. d.actor.0 == a) (es ++ e ∷ []) later in
    runs-front plan [] (entries_of a (es ++ e ∷ [])) (entries_of a later) (subst (PlanRun plan) parts planned)

pub each-is-event : EachIsEvent
each-is-event s m a script es e later inside own run planned =
    let front : PlanRun (held_plan (holder_of s a) script) (entries_of a (es ++ e ∷ [])) = front-planned a (held_plan (holder_of s a) script) es e later planned in
    let R : Type 0 = (old : State) × (new : State) × IsEvent s m a script es e old new in
    let last : (old : State) → after s m es ≡ Some old → (o : Option State) → step s old e ≡ o → IsSome (fold (step_on s) o later) → R =
    λ old before. elim [
      | None ↦ λ behind h. none-after s later R h
      | Some new ↦ λ behind h. (old, new, record { partition = inside; own = own; before = before; behind = behind; run = front })
    ] in
    let go : (o : Option State) → after s m es ≡ o → IsSome (fold (step_on s) o (e ∷ later)) → R =
    elim [ None ↦ λ before h. none-after s (e ∷ later) R h | Some old ↦ λ before h. last old before (step s old e) refl h ] in
    go (after s m es) refl (subst (λ (o : Option State). IsSome o) (fold-append (step_on s) (Some (opening s m)) es (e ∷ later)) run)

-- an event among the entries is the last one of those up to it
last-event : (s : System) (m : ByteMap) (a : ℕ) (script : List Instruction) (es : List Entry) → a < length s.partitions → PlanRun (held_plan (holder_of s a) script) (entries_of a es)
    → (earlier : List Entry) (e : Entry) (old new : State) → IsOwnEvent s m a es earlier e old new → IsEvent s m a script earlier e old new
last-event s m a script es inside planned earlier e old new at =
    let plan : Plan = held_plan (holder_of s a) script in
    record {
      partition = inside;
      own = at.own;
      before = at.before;
      behind = at.behind;
      run = front-planned a plan earlier e at.later (subst (λ (xs : List Entry). PlanRun plan (entries_of a xs)) at.split planned);
    }

pub runs-keep-windows : RunsKeepWindows
runs-keep-windows s m a script es inside planned = record {
  inputs = λ earlier e old new operands h index buffer len at. inputs-are-copied s m a script earlier e old new operands h index buffer len (last-event s m a script es inside planned earlier e old new at);
  outputs = λ earlier e old new operands h index buffer len at. outputs-are-copied s m a script earlier e old new operands h index buffer len (last-event s m a script es inside planned earlier e old new at);
  lengths = λ earlier e old new h status x index at. lengths-are-told s m a script earlier e old new h status x index (last-event s m a script es inside planned earlier e old new at);
}
