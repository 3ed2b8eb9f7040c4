-- One turn.
use Rattle.std.proofs.Common.{ℕ, ◌≡◌, ◌≢◌, ◌<◌, ◌≤◌, Bool, true, false, List, [], ◌∷◌, ◌++◌, length, refl, ap, sym, ◌∙◌, arith, subst, get_or, get_or-set_same, get_or-set_other, length-set, inl, inr, true≢false}
use Rattle.std.specs.Prelude.{Option, Some, None, option_and_then, slice_set, nat_le, IsSome, ◌⊎◌}
use Rattle.std.specs.Option.{option_map}
use Rattle.std.proofs.lemmas.Bool.Decides.{eqb_tells}
use Rattle.std.proofs.lemmas.List.{get_or_read, get_or_default}
use Rattle.spm_core.proofs.Refusals.{by_tests, full_has_verdict, gone_is, gone_off, none_is, not_yet_is, over_has_verdict}
use Rattle.ffm_model.proofs.RecordLemmas.{entries_of-apart, entries_of-same, outcomes_of-push}
use Rattle.ffm_model.specs.declared.system.System.{System}
use Rattle.ffm_model.specs.declared.machine.Entry.{Entry}
use Rattle.ffm_model.specs.declared.machine.Call.{Call}
use Rattle.ffm_model.specs.declared.machine.Outcome.{Outcome}
use Rattle.ffm_model.specs.declared.machine.Answer.TheVariants as answer
use Rattle.ffm_model.specs.Actors.{actor_count}
use Rattle.ffm_model.specs.State.{State, phase_of}
use Rattle.ffm_model.specs.Signals.{enabled, signals_of}
use Rattle.ffm_model.specs.Verdicts.{some_enabled}
use Rattle.ffm_model.specs.Records.{entries_of, outcomes_of}
use Rattle.ffm_model.specs.Schedule.{enabled_in}
use Rattle.ffm_model.specs.declared.script.Instruction.{Instruction}
use Rattle.ffm_model.specs.Plans.{Plan, PlanRun}
use Rattle.ffm_model.specs.ScriptRuns.{only_part}
use Rattle.ffm_model.specs.Contexts.{DeskView}
use Rattle.spm_core.specs.Manager.{Opening, IsMade, IsRefused, refusal_at, is_gone, is_resume, state_after, CallDue}
use Rattle.partition_sim.specs.declared.runner.Runner.{Runner}
use Rattle.partition_sim.specs.declared.runner.Runner.TheVariants as runner
use Rattle.partition_sim.specs.ActorPlans.{Role, parts_at, plan_at, plan_of_role, role_at}
use Rattle.partition_sim.specs.ActorPlans.Role.{holds, takes_turns}
use Rattle.partition_sim.specs.Standing.{Follows, Asked, contexts_of, role_of}
use Rattle.partition_sim.specs.Driving.{Driving, MadeOne, PassedOne, IsOver, Serves, runner_at, outcomes_at, no_runner}
use Rattle.partition_sim.proofs.ClientLemmas as client
use Rattle.partition_sim.proofs.HeldLemmas as held
use Rattle.partition_sim.proofs.PlanLemmas.{RunFrom-push, HeldResumes, ContextsResume, plan-resume}

same_or_not : (x y : ℕ) → (x ≡ y) ⊎ (x ≢ y)
same_or_not x y = elim (eqb_tells x y) [ inl p ↦ inl p.1 | inr p ↦ inr p.1 ]

-- a runner has as many contexts as the parts of the script that it follows
pub parts-long : (role : Role) (parts : List (List Instruction)) (os : List Outcome) (r : Runner) → Follows role parts os r → length parts ≡ contexts_of r
parts-long takes_turns parts os (runner.Client r) f = sym (ap (λ (d : DeskView). d.count) f.desk_is)
parts-long (holds p) parts os (runner.Partition r) f = f.0
parts-long takes_turns parts os (runner.Partition r) f = absurd f
parts-long (holds p) parts os (runner.Client r) f = absurd f

-- and its role
pub role-is : (role : Role) (parts : List (List Instruction)) (os : List Outcome) (r : Runner) → Follows role parts os r → role_of r ≡ role
role-is takes_turns parts os (runner.Client r) f = refl
role-is (holds p) parts os (runner.Partition r) f = ap holds f.1.holder_is
role-is takes_turns parts os (runner.Partition r) f = absurd f
role-is (holds p) parts os (runner.Client r) f = absurd f

pub asked-follows : (role : Role) (parts : List (List Instruction)) (os : List Outcome) (r : Runner) → Asked role parts os r → Follows role parts os r
asked-follows takes_turns parts os (runner.Client r) a = client.asked-follows parts os r a
asked-follows (holds p) parts os (runner.Partition r) a = (a.0, held.asked-follows p (only_part parts) os r a.1)
asked-follows takes_turns parts os (runner.Partition r) a = absurd a
asked-follows (holds p) parts os (runner.Client r) a = absurd a

-- what holds of each runner and of a new one at its place
put-at : (P : ℕ → Runner → Type 0) (runners : List Runner) (a b : ℕ) (r : Runner) → a < length runners → P a r → P b (runner_at runners b)
    → (a ≡ b) ⊎ (a ≢ b) → P b (runner_at (slice_set runners a r) b)
put-at P runners a b r below here there (inl e) =
    let found : r ≡ runner_at (slice_set runners a r) b = sym (get_or-set_same runners a r no_runner below) ∙ ap (runner_at (slice_set runners a r)) e in
    let Q : Runner → Type 0 = λ x. P b x in
    let R : ℕ → Type 0 = λ n. P n r in
    subst Q found (subst R e here)
put-at P runners a b r below here there (inr n) =
    let other : b ≢ a = λ e. n (sym e) in
    let Q : Runner → Type 0 = λ x. P b x in
    subst Q (sym (get_or-set_other runners a b r no_runner other)) there

-- the same runs, with another value of one runner
driving-asked : (scripts : List (List (List Instruction))) (o : Opening) (history : List Entry) (runners : List Runner) (a : ℕ) (r : Runner) → a < actor_count o.system
    → Driving scripts o history runners → Serves o.system scripts a (outcomes_at history a) r → Driving scripts o history (slice_set runners a r)
driving-asked scripts o history runners a r below d asked =
    let P : ℕ → Runner → Type 0 = λ b x. Serves o.system scripts b (outcomes_at history b) x in
    let inside : a < length runners = omega (arith, d.runners_long) in
    record {
      scripts_long = d.scripts_long;
      runners_long = length-set runners a r ∙ d.runners_long;
      serves = λ b h. put-at P runners a b r inside asked (d.serves b h) (same_or_not a b);
      runs = d.runs;
    }

serves-made : (s : System) (scripts : List (List (List Instruction))) (es : List Entry) (e : Entry) (b : ℕ) (x : Runner) → (e.actor.0 ≡ b) ⊎ (e.actor.0 ≢ b)
    → (e.actor.0 ≢ b → Serves s scripts b (outcomes_of (entries_of b es)) x) → (e.actor.0 ≡ b → Serves s scripts b (outcomes_of (entries_of b es) ++ e.outcome ∷ []) x)
    → Serves s scripts b (outcomes_of (entries_of b (es ++ e ∷ []))) x
serves-made s scripts es e b x (inl h) other own = rw (entries_of-same b es e h, outcomes_of-push (entries_of b es) e) (own h)
serves-made s scripts es e b x (inr n) other own = rw (entries_of-apart b es e n) (other n)

runs-made : (plan : Plan) (es : List Entry) (e : Entry) (b : ℕ) → (e.actor.0 ≡ b) ⊎ (e.actor.0 ≢ b) → PlanRun plan (entries_of b es)
    → (e.actor.0 ≡ b → e.call ≡ plan (outcomes_of (entries_of b es))) → PlanRun plan (entries_of b (es ++ e ∷ []))
runs-made plan es e b (inl h) run own = rw (entries_of-same b es e h) (RunFrom-push plan [] (entries_of b es) e run (own h))
runs-made plan es e b (inr n) run own = rw (entries_of-apart b es e n) run

-- an entry more
driving-made : (scripts : List (List (List Instruction))) (o : Opening) (history : List Entry) (runners : List Runner) (a : ℕ) (r : Runner) (e : Entry) → a < actor_count o.system
    → Driving scripts o history runners → e.actor.0 ≡ a → e.call ≡ plan_at o.system scripts a (outcomes_at history a)
    → Serves o.system scripts a (outcomes_at history a ++ e.outcome ∷ []) r
    → Driving scripts o (history ++ e ∷ []) (slice_set runners a r)
driving-made scripts o history runners a r e below d actor call serves =
    let inside : a < length runners = omega (arith, d.runners_long) in
    record {
      scripts_long = d.scripts_long;
      runners_long = length-set runners a r ∙ d.runners_long;
      serves = λ b h. serves-made o.system scripts history e b (runner_at (slice_set runners a r) b) (same_or_not e.actor.0 b)
          (λ n.
          let other : b ≢ a = λ q. n (actor ∙ sym q) in
          rw (get_or-set_other runners a b r no_runner other) (d.serves b h))
          (λ q.
          let same : a ≡ b = sym actor ∙ q in
          let R : ℕ → Type 0 = λ n. Serves o.system scripts n (outcomes_at history n ++ e.outcome ∷ []) (runner_at (slice_set runners a r) n) in
          subst R same (rw (get_or-set_same runners a r no_runner inside) serves));
      runs = λ b h. runs-made (plan_at o.system scripts b) history e b (same_or_not e.actor.0 b) (d.runs b h)
          (λ q.
          let same : a ≡ b = sym actor ∙ q in
          let R : ℕ → Type 0 = λ n. e.call ≡ plan_at o.system scripts n (outcomes_at history n) in
          subst R same call);
    }

-- ---- what an answer says of the turn

off-gone : (s : System) (limit count a : ℕ) (st : Option State) → option_and_then (λ x. refusal_at s limit count x.spm a) st ≡ Some answer.Gone → enabled_in s st a ≡ false
unfolding by_tests
off-gone s limit count a None h = refl
off-gone s limit count a (Some x) h =
    gone_off (phase_of x.spm a) (signals_of s x.spm a) (gone_is (is_gone (phase_of x.spm a)) (some_enabled s x.spm) (nat_le limit count) (enabled s x.spm a) h)

off-not_yet : (s : System) (limit count a : ℕ) (st : Option State) → option_and_then (λ x. refusal_at s limit count x.spm a) st ≡ Some answer.NotYet → enabled_in s st a ≡ false
unfolding by_tests
off-not_yet s limit count a None h = refl
off-not_yet s limit count a (Some x) h = not_yet_is (is_gone (phase_of x.spm a)) (some_enabled s x.spm) (nat_le limit count) (enabled s x.spm a) h

on-made : (s : System) (limit count a : ℕ) (st : Option State) (f : State → Option State) → option_and_then (λ x. refusal_at s limit count x.spm a) st ≡ None
    → IsSome (option_and_then f st) → (enabled_in s st a ≡ true) × (nat_le limit count ≡ false)
unfolding by_tests
on-made s limit count a None f h k = absurd (true≢false (sym k))
on-made s limit count a (Some x) f h k = none_is (is_gone (phase_of x.spm a)) (some_enabled s x.spm) (nat_le limit count) (enabled s x.spm a) h

-- an actor that isn't enabled is passed
off-by : (s : System) (a : ℕ) (b : Bool) (st : Option State) → option_map (λ x. enabled s x.spm a) st ≡ Some b → enabled_in s st a ≡ b
off-by s a b None e = cc
off-by s a b (Some x) e = cc

pub passed-off : (o : Opening) (old : List Entry) (a : ℕ) (b : Bool) → option_map (λ x. enabled o.system x.spm a) (state_after o old) ≡ Some b → b ≡ false → PassedOne o old a old
passed-off o old a b e off = record { off = off-by o.system a b (state_after o old) e ∙ off; unchanged = refl }

pub passed-gone : (o : Opening) (old new : List Entry) (a : ℕ) → IsRefused o old a answer.Gone new → PassedOne o old a new
passed-gone o old new a r = record { off = off-gone o.system o.limit (length old) a (state_after o old) r.due; unchanged = r.unchanged }

pub passed-not_yet : (o : Opening) (old new : List Entry) (a : ℕ) → IsRefused o old a answer.NotYet new → PassedOne o old a new
passed-not_yet o old new a r = record { off = off-not_yet o.system o.limit (length old) a (state_after o old) r.due; unchanged = r.unchanged }

pub over-over : (o : Opening) (old new : List Entry) (a : ℕ) → IsRefused o old a answer.Over new → IsOver o old new
over-over o old new a r = record { verdict = over_has_verdict o.system o.limit (length old) a (state_after o old) r.due; unchanged = r.unchanged }

pub over-full : (o : Opening) (old new : List Entry) (a : ℕ) → length old ≤ o.limit → IsRefused o old a answer.Full new → IsOver o old new
over-full o old new a short r = record { verdict = full_has_verdict o.system o.limit (length old) a (state_after o old) short r.due; unchanged = r.unchanged }

pub made-one : (o : Opening) (old new : List Entry) (a : ℕ) (c : Call) (place : ℕ) (e : Entry) → IsMade o old a c place e new → MadeOne o old a new e
made-one o old new a c place e m =
    let P : Option State → Type 0 = λ x. IsSome x in
    let some = on-made o.system o.limit (length old) a (state_after o old) _ m.due (subst P m.stepped m.is_state) in
    let left : nat_le o.limit (length old) ≡ false = some.1 in
    record { on = some.0; actor = m.actor; added = m.added; room = grind arith; is_state = m.is_state }

-- ---- the call that was asked for

-- it is the one of the actor's plan after its outcomes
pub record IsNextOf (s : System) (scripts : List (List (List Instruction))) (history : List Entry) (a : ℕ) (c : Call) (r : Runner) : Type 0 where
  pub role : Role
  pub plan : (os : List Outcome) → plan_of_role role (parts_at scripts a) os ≡ plan_at s scripts a os
  pub call : c ≡ plan_at s scripts a (outcomes_at history a)
  pub asked : Asked role (parts_at scripts a) (outcomes_at history a) r

-- the actor's runner follows the script that was found at its place
pub follows-in : (scripts : List (List (List Instruction))) (o : Opening) (history : List Entry) (runners : List Runner) (a : ℕ) (parts : List (List Instruction)) (old : Runner)
    → (below : a < actor_count o.system) → (d : Driving scripts o history runners) → parts ≡ get_or scripts a parts → Follows (d.serves a below).role parts (outcomes_at history a) (get_or runners a old)
follows-in scripts o history runners a parts old below d is =
    let role : Role = (d.serves a below).role in
    let script : parts ≡ parts_at scripts a = get_or_read scripts a parts (omega (arith, d.scripts_long)) is [] in
    let runner : runner_at runners a ≡ get_or runners a old = get_or_default runners a no_runner old (omega (arith, d.runners_long)) in
    let Q : List (List Instruction) → Type 0 = λ x. Follows role x (outcomes_at history a) (get_or runners a old) in
    let R : Runner → Type 0 = λ x. Follows role (parts_at scripts a) (outcomes_at history a) x in
    subst Q (sym script) (subst R runner (d.serves a below).follows)

pub asked-in : (scripts : List (List (List Instruction))) (o : Opening) (history : List Entry) (runners : List Runner) (a : ℕ) (parts : List (List Instruction)) (old new : Runner) (c : Call)
    → a < actor_count o.system → Driving scripts o history runners → parts ≡ get_or scripts a parts
    → ((role : Role) (os : List Outcome) → Follows role parts os (get_or runners a old) → c ≡ plan_of_role role parts os)
    → ((role : Role) (os : List Outcome) → Follows role parts os (get_or runners a old) → Asked role parts os new)
    → IsNextOf o.system scripts history a c new
asked-in scripts o history runners a parts old new c below d is calls asks =
    let serves : Serves o.system scripts a (outcomes_at history a) (runner_at runners a) = d.serves a below in
    let role : Role = serves.role in
    let script : parts ≡ parts_at scripts a = get_or_read scripts a parts (omega (arith, d.scripts_long)) is [] in
    let P : List (List Instruction) → Type 0 = λ x. c ≡ plan_of_role role x (outcomes_at history a) in
    let A : List (List Instruction) → Type 0 = λ x. Asked role x (outcomes_at history a) new in
    let follows : Follows role parts (outcomes_at history a) (get_or runners a old) = follows-in scripts o history runners a parts old below d is in
    record {
      role = role;
      plan = serves.plan;
      call = subst P script (calls role (outcomes_at history a) follows) ∙ serves.plan (outcomes_at history a);
      asked = subst A script (asks role (outcomes_at history a) follows);
    }

pub call-is-due : (scripts : List (List (List Instruction))) (o : Opening) (history : List Entry) (a : ℕ) (c : Call) (r : Runner) → HeldResumes → ContextsResume → IsNextOf o.system scripts history a c r → CallDue o history a c
call-is-due scripts o history a c r held contexts n = inl (ap is_resume n.call ∙ plan-resume held contexts (role_at o.system a) (parts_at scripts a) (outcomes_at history a))

-- a turn that changes nothing
pub driving-still : (scripts : List (List (List Instruction))) (o : Opening) (old new : List Entry) (runners : List Runner) (a : ℕ) (c : Call) (r : Runner) → a < actor_count o.system
    → Driving scripts o old runners → IsNextOf o.system scripts old a c r → new ≡ old → Driving scripts o new (slice_set runners a r)
driving-still scripts o old new runners a c r below d n e =
    rw e (driving-asked scripts o old runners a r below d (record { role = n.role; plan = n.plan; follows = asked-follows _ _ _ _ n.asked }))

pub driving-step : (scripts : List (List (List Instruction))) (o : Opening) (old new : List Entry) (runners : List Runner) (a : ℕ) (c : Call) (asked r : Runner) (place : ℕ) (e : Entry)
    → a < actor_count o.system → Driving scripts o old runners → (n : IsNextOf o.system scripts old a c asked) → IsMade o old a c place e new
    → Follows n.role (parts_at scripts a) (outcomes_at old a ++ e.outcome ∷ []) r → Driving scripts o new (slice_set runners a r)
driving-step scripts o old new runners a c asked r place e below d n m follows =
    rw m.added (driving-made scripts o old runners a r e below d m.actor (m.called ∙ n.call) (record { role = n.role; plan = n.plan; follows = follows }))
