-- What the calls of the crates below are as calls of the machine.
use Rattle.std.proofs.Common.{ℕ, ◌≡◌, Bool, true, false, List, [], refl, ap, sym, subst, ◌∙◌}
use Rattle.std.specs.Prelude.{Option, Some, None, Result, Ok, Err, IsSomeAnd, IfOk, IsErr, if◌then◌else◌}
use Rattle.std.specs.Option.{option_map}
use Rattle.std.proofs.lemmas.Bool.{or_right}
use Rattle.law_lists.proofs.Options.{some-and}
use Rattle.ffm_model.specs.declared.system.System.{System}
use Rattle.ffm_model.specs.declared.system.ActorKind.{ActorKind}
use Rattle.ffm_model.specs.declared.scenario.Bytes.{Bytes}
use Rattle.ffm_model.specs.declared.machine.Call.{Call}
use Rattle.ffm_model.specs.declared.machine.Call.TheVariants as call
use Rattle.ffm_model.specs.declared.system.ActorKind.TheVariants as kind
use Rattle.ffm_model.proofs.StepLemmas.{int_eq-self}
use Rattle.ffm_model.specs.declared.machine.Fault.{Fault}
use Rattle.ffm_model.specs.declared.machine.Handle.{Handle}
use Rattle.ffm_model.specs.declared.machine.Outcome.{Outcome}
use Rattle.ffm_model.specs.Actors.{kind_of}
use Rattle.ffm_model.specs.Memory.{ByteMap}
use Rattle.ffm_model.specs.State.{State, handle_eq}
use Rattle.ffm_model.specs.ClientCalls.{Move, Effect, move, effect, in_state}
use Rattle.ffm_model.specs.Calls.{call_case, case_of, effect_or_error, has_call, programmer_error}
use Rattle.ffm_model.specs.Names.{NamesSoFar, name_due}
use Rattle.ffm_model.specs.Step.{handle_shown}
use Rattle.memory_image.specs.Pieces.{byte_at}
use Rattle.law_calls.specs.Named.{NamesAre}
use Rattle.spm_tables.specs.Answers.{Answers, state_with}
use Rattle.spm_tables.specs.TablesView.{TablesView, spm_of}
use Rattle.spm_core.specs.Performed.{Attempts, Does, IsEffect, IsRefusedCall, IsReturned, ShowsName}

-- a call that leaves the memory, by what it answers of the tables
pub attempts-move : {R : Type 0} (s : System) (a : ℕ) (c : Call) (old new : TablesView) (bytes : List Bytes) (shown : R → Outcome) (due : List Handle → Option Move) (r : R)
    → ((given : List Handle) (h : Handle) → call_case s (state_with old given (byte_at bytes)) a c h ≡ option_map (in_state (state_with old given (byte_at bytes))) (due given))
    → ((given : List Handle) → due given ≡ Some (move (shown r) (spm_of new))) → Attempts s a c old bytes (Ok (shown r)) new bytes
attempts-move s a c old new bytes shown due r case is given =
    let st : State = state_with old given (byte_at bytes) in
    some-and _ (effect (shown r) (record st { spm = spm_of new })) (λ e. IsEffect e (shown r) new (byte_at bytes))
    (case given (handle_shown (shown r)) ∙ ap (option_map (in_state st)) (is given)) (record { outcome = refl; spm = refl; memory = refl })

pub attempts-fault : (s : System) (a : ℕ) (c : Call) (old new : TablesView) (bytes after : List Bytes) (fault : Fault) (due : List Handle → Option Effect)
    → ((given : List Handle) (h : Handle) → call_case s (state_with old given (byte_at bytes)) a c h ≡ due given)
    → ((given : List Handle) → due given ≡ None) → new ≡ old → after ≡ bytes → Attempts s a c old bytes (Err fault) new after
attempts-fault s a c old new bytes after fault due case none same kept = (λ given h. case given h ∙ none given, (same, kept))

-- the same for the whole answer
pub attempts-answer : (s : System) (a : ℕ) (c : Call) (old new : TablesView) (bytes : List Bytes) (due : List Handle → Option Move) (r : Result Outcome Fault)
    → ((given : List Handle) (h : Handle) → call_case s (state_with old given (byte_at bytes)) a c h ≡ option_map (in_state (state_with old given (byte_at bytes))) (due given))
    → ((given : List Handle) → Answers (λ o. o) (due given) old r new) → Attempts s a c old bytes r new bytes
attempts-answer s a c old new bytes due (Ok o) case is = attempts-move s a c old new bytes (λ x. x) due o case is
attempts-answer s a c old new bytes due (Err fault) case is =
    attempts-fault s a c old new bytes bytes fault (λ given. option_map (in_state (state_with old given (byte_at bytes))) (due given)) case
    (λ given. ap (option_map (in_state (state_with old given (byte_at bytes)))) (is given).0) (is []).1 refl

-- a call that may change memory, by the effect that is due
pub attempts-effect : (s : System) (a : ℕ) (c : Call) (old new : TablesView) (bytes after : List Bytes) (o : Outcome) (st : List Handle → State)
    → ((given : List Handle) → call_case s (state_with old given (byte_at bytes)) a c (handle_shown o) ≡ Some (effect o (st given)))
    → ((given : List Handle) → (st given).spm ≡ spm_of new) → ((given : List Handle) → (st given).memory ≡ byte_at after) → Attempts s a c old bytes (Ok o) new after
attempts-effect s a c old new bytes after o st is spm memory given =
    some-and _ (effect o (st given)) (λ e. IsEffect e o new (byte_at after)) (is given) (record { outcome = refl; spm = spm given; memory = memory given })

-- an error, whatever error it is
pub attempts-err : (s : System) (a : ℕ) (c : Call) (old new : TablesView) (bytes after : List Bytes) (r : Result Outcome Fault) → IsErr r
    → ((given : List Handle) (h : Handle) → call_case s (state_with old given (byte_at bytes)) a c h ≡ None) → new ≡ old → after ≡ bytes → Attempts s a c old bytes r new after
attempts-err s a c old new bytes after (Ok o) is none same kept = absurd (cc)
attempts-err s a c old new bytes after (Err fault) is none same kept = (none, (same, kept))

-- ---- names

-- no name is due
pub shows-nothing : (s : System) (a : ℕ) (c : Call) (old : TablesView) (m : ByteMap) (o : Outcome) → ((st : State) (k : NamesSoFar) → name_due s st a c k ≡ None) → ShowsName s a c old m o
shows-nothing s a c old m o none given k are = or_right (programmer_error s (state_with old given m) a c) _ (rw (none (state_with old given m) k) refl)

-- the name is due that is shown
pub shows-due : (s : System) (a : ℕ) (c : Call) (old : TablesView) (m : ByteMap) (o : Outcome)
    → ((given : List Handle) (k : NamesSoFar) → NamesAre old k → name_due s (state_with old given m) a c k ≡ Some (handle_shown o)) → ShowsName s a c old m o
shows-due s a c old m o due given k are =
    let same : handle_eq (handle_shown o) (handle_shown o) ≡ true = int_eq-self (handle_shown o).0 in
    or_right (programmer_error s (state_with old given m) a c) _ (rw (due given k are) same)

pub shows-all : (s : System) (a : ℕ) (c : Call) (old : TablesView) (m : ByteMap) (r : Result Outcome Fault) → ((st : State) (k : NamesSoFar) → name_due s st a c k ≡ None) → IfOk r (ShowsName s a c old m)
shows-all s a c old m (Ok o) none = shows-nothing s a c old m o none
shows-all s a c old m (Err fault) none = tt

-- ---- calls that the actor has, and PROGRAMMER ERRORs

or-error : (P : Effect → Type 0) (x : Option Effect) (k : ActorKind) (s : System) (st : State) (a : ℕ) (c : Call) → IsSomeAnd x P → P (effect_or_error x k s st a c)
or-error P (Some e) k s st a c h = h
or-error P None k s st a c h = absurd h

pub does-attempted : (s : System) (a : ℕ) (c : Call) (old new : TablesView) (bytes after : List Bytes) (o : Outcome) → has_call (kind_of s a) c ≡ true
    → Attempts s a c old bytes (Ok o) new after → Does s a c old bytes o new after
does-attempted s a c old new bytes after o has attempts given =
    let st : State = state_with old given (byte_at bytes) in
    let h : Handle = handle_shown o in
    subst (λ (b : Bool). IsEffect (effect_or_error (if b then call_case s st a c h else None) (kind_of s a) s st a c) o new (byte_at after)) (sym has)
    (or-error (λ e. IsEffect e o new (byte_at after)) (call_case s st a c h) (kind_of s a) s st a c (attempts given))

pub does-refused : (s : System) (a : ℕ) (c : Call) (old new : TablesView) (bytes : List Bytes) (o : Outcome) → ((given : List Handle) (h : Handle) → case_of s (state_with old given (byte_at bytes)) a c h ≡ None)
    → IsRefusedCall s a c old o new → Does s a c old bytes o new bytes
does-refused s a c old new bytes o none refused given =
    let st : State = state_with old given (byte_at bytes) in
    subst (λ (x : Option Effect). IsEffect (effect_or_error x (kind_of s a) s st a c) o new (byte_at bytes)) (sym (none given (handle_shown o))) (refused given (byte_at bytes))

-- the actor's kind doesn't have the call
pub case-not_had : (s : System) (st : State) (a : ℕ) (c : Call) (h : Handle) → has_call (kind_of s a) c ≡ false → case_of s st a c h ≡ None
case-not_had s st a c h not = ap (λ (b : Bool). if b then call_case s st a c h else None) not

-- the call itself is a PROGRAMMER ERROR
pub case-fault : (s : System) (st : State) (a : ℕ) (c : Call) (h : Handle) → call_case s st a c h ≡ None → case_of s st a c h ≡ None
case-fault s st a c h none =
    let go : (b : Bool) → (if b then call_case s st a c h else None) ≡ None = elim [ true ↦ none | false ↦ refl ] in
    go (has_call (kind_of s a) c)

-- a PROGRAMMER ERROR that was found, and then refused
pub does-after : (s : System) (a : ℕ) (c : Call) (old mid new : TablesView) (bytes after : List Bytes) (o : Outcome)
    → ((given : List Handle) (h : Handle) → call_case s (state_with old given (byte_at bytes)) a c h ≡ None) → mid ≡ old → after ≡ bytes → IsRefusedCall s a c mid o new → Does s a c old bytes o new after
does-after s a c old mid new bytes after o none same kept refused =
    subst (λ (x : List Bytes). Does s a c old bytes o new x) (sym kept)
    (does-refused s a c old new bytes o (λ given h. case-fault s (state_with old given (byte_at bytes)) a c h (none given h)) (subst (λ (d : TablesView). IsRefusedCall s a c d o new) same refused))

-- a return; every kind of actor has it
pub does-return : (s : System) (a : ℕ) (old new : TablesView) (bytes : List Bytes) (o : Outcome) → IsReturned s a old o new → Does s a call.Resume old bytes o new bytes
does-return s a old new bytes o is given =
    let st : State = state_with old given (byte_at bytes) in
    let h : Handle = handle_shown o in
    let go : (k : ActorKind) → IsEffect (effect_or_error (if has_call k call.Resume then call_case s st a call.Resume h else None) (kind_of s a) s st a call.Resume) o new (byte_at bytes) = elim [
      | kind.Partition ↦ is given (byte_at bytes)
      | kind.Client ↦ is given (byte_at bytes)
      | kind.Device ↦ is given (byte_at bytes)
    ] in
    go (kind_of s a)
