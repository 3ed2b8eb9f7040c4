-- Turn after turn.
use Rattle.std.proofs.Common.{ℕ, zero, suc, ◌≡◌, ◌<◌, ◌≤◌, ◌+◌, ◌-◌, ◌*◌, Bool, true, false, List, [], ◌∷◌, ◌++◌, length, refl, ap, sym, ◌∙◌, arith, subst, get_or, inl, inr, add_assoc, true≢false, length-append, below_more}
use Rattle.std.specs.Prelude.{Option, Some, None, option_and_then, IsSome, nat_lt, Ok, ◌||◌, fold, ◌==◌}
use Rattle.std.specs.List.{list_any, range_with_len}
use Rattle.std.proofs.lemmas.Bool.{cases_lt}
use Rattle.std.proofs.lemmas.List.{get_or_default, get_or_append_left}
use Rattle.std.proofs.lemmas.Nat.{mod-mul-add}
use Rattle.std.proofs.Math.Seq.{get_or-append_seam}
use Rattle.spm_core.proofs.Refusals.{verdict_off}
use Rattle.ffm_model.specs.declared.system.ActorKind.{ActorKind}
use Rattle.ffm_model.specs.declared.system.ActorKind.TheVariants as kind
use Rattle.ffm_model.specs.declared.system.System.{System}
use Rattle.ffm_model.specs.declared.machine.ActorId.{ActorId}
use Rattle.ffm_model.specs.declared.machine.Entry.{Entry}
use Rattle.ffm_model.specs.declared.script.Instruction.{Instruction}
use Rattle.ffm_model.specs.Actors.{actor_count, kind_of}
use Rattle.ffm_model.specs.declared.machine.Outcome.{Outcome}
use Rattle.ffm_model.specs.Contexts.{context_plan}
use Rattle.ffm_model.specs.Held.{Holder, holder_of}
use Rattle.ffm_model.specs.HeldPlans.{held_plan}
use Rattle.ffm_model.specs.Schedule.{turn_at, enabled_in, IsNext, Turns}
use Rattle.ffm_model.specs.ScriptRuns.{only_part, script_plan}
use Rattle.ffm_model.specs.Scripts.{MapsNothing, maps}
use Rattle.ffm_model.specs.Signals.{enabled}
use Rattle.ffm_model.specs.State.{State, opening}
use Rattle.ffm_model.specs.Step.{step_on}
use Rattle.ffm_model.specs.Verdicts.{verdict_of, verdict_at, some_enabled, some_blocked}
use Rattle.memory_image.specs.Pieces.{byte_at}
use Rattle.spm_core.specs.Manager.{Opening, Managed, state_after, state_of}
use Rattle.partition_sim.specs.declared.runner.Runner.{Runner}
use Rattle.partition_sim.specs.declared.runner.Runner.TheVariants as runner
use Rattle.partition_sim.specs.ActorPlans.{needs_messages, parts_at, plan_of_role, role_of_kind}
use Rattle.partition_sim.specs.ActorPlans.Role.{holds, takes_turns}
use Rattle.partition_sim.specs.Clients.{ClientStanding, FollowsAll}
use Rattle.partition_sim.specs.Partitions.{PartitionStanding, FollowsHeld}
use Rattle.partition_sim.specs.Driving.{Driving, MadeOne, PassedOne, Turned, InOrder, Underway, IsDriven, AreNew, Serves, no_runner}

Turns-push : (s : System) (schedule : List ActorId) (st : Option State) (t : ℕ) (es : List Entry) (end u : ℕ) (e : Entry) → Turns s schedule st t es end
    → IsNext s schedule (fold (step_on s) st es) end u → e.actor.0 ≡ turn_at s schedule u → Turns s schedule st t (es ++ e ∷ []) (u + 1)
Turns-push s schedule st t [] end u e h next actor =
    let P : ℕ → Type 0 = λ x. IsNext s schedule st x u in
    (u, subst P h next, actor, refl)
Turns-push s schedule st t (d ∷ es) end u e h next actor = (h.0, h.1, h.2, Turns-push s schedule (step_on s st d) (h.0 + 1) es end u e h.3 next actor)

in_order-start : (schedule : List ActorId) (o : Opening) (history : List Entry) → history ≡ [] → InOrder schedule o history 0
in_order-start schedule o history e = record {
  end = 0;
  turns = rw e refl;
  behind = omega arith;
  passed = λ w h k. absurd (omega arith);
}

passed-more : (P : ℕ → Type 0) (end t : ℕ) → ((w : ℕ) → end ≤ w → w < t → P w) → P t → (w : ℕ) → end ≤ w → w < t + 1 → P w
passed-more P end t h k w from below = elim (cases_lt w t) [ inl less ↦ h w from less | inr more ↦ let same : t ≡ w = omega arith in subst P same k ]

in_order-passed : (schedule : List ActorId) (o : Opening) (old new : List Entry) (t a : ℕ) → turn_at o.system schedule t ≡ a → PassedOne o old a new → InOrder schedule o old t → InOrder schedule o new (t + 1)
in_order-passed schedule o old new t a at p f =
    let off : enabled_in o.system (state_after o old) (turn_at o.system schedule t) ≡ false = ap (enabled_in o.system (state_after o old)) at ∙ p.off in
    rw p.unchanged (record {
      end = f.end;
      turns = f.turns;
      behind = omega (arith, f.behind);
      passed = passed-more (λ w. enabled_in o.system (state_after o old) (turn_at o.system schedule w) ≡ false) f.end t f.passed off;
    })

in_order-made : (schedule : List ActorId) (o : Opening) (old new : List Entry) (t a : ℕ) (e : Entry) → turn_at o.system schedule t ≡ a → MadeOne o old a new e → InOrder schedule o old t → InOrder schedule o new (t + 1)
in_order-made schedule o old new t a e at m f =
    let on : enabled_in o.system (state_after o old) (turn_at o.system schedule t) ≡ true = ap (enabled_in o.system (state_after o old)) at ∙ m.on in
    rw m.added (record {
      end = t + 1;
      turns = Turns-push o.system schedule (Some (opening o.system (byte_at o.memory))) 0 old f.end t e f.turns (record { from = f.behind; on = on; passed = f.passed }) (m.actor ∙ sym at);
      behind = omega arith;
      passed = λ w h k. absurd (omega arith);
    })

-- the facts after a turn, at the opening that the manager had before it
pub record After (schedule : List ActorId) (o : Opening) (new : List Entry) (t : ℕ) : Type 0 where
  pub in_order : InOrder schedule o new t
  pub is_state : IsSome (state_after o new)
  pub short : length new ≤ o.limit

after-turn : (schedule : List ActorId) (o : Opening) (old new : List Entry) (t a : ℕ) (made : Bool) → turn_at o.system schedule t ≡ a → Turned o old a (Ok made) new
    → InOrder schedule o old t → IsSome (state_after o old) → length old ≤ o.limit → After schedule o new (t + 1)
after-turn schedule o old new t a true at m f some short = record {
  in_order = in_order-made schedule o old new t a m.0 at m.1 f;
  is_state = m.1.is_state;
  short =
      let more : length new ≡ length old + 1 = ap length m.1.added ∙ length-append old (m.0 ∷ []) in
      omega (arith, m.1.room);
}
after-turn schedule o old new t a false at p f some short =
    let P : List Entry → Type 0 = λ x. IsSome (state_after o x) in
    record {
      in_order = in_order-passed schedule o old new t a at p f;
      is_state = subst P (sym p.unchanged) some;
      short = rw p.unchanged short;
    }

pub underway-turn : (scripts : List (List (List Instruction))) (schedule : List ActorId) (o : Opening) (rs rs' : List Runner) (old new : Managed) (t a : ℕ) (made : Bool)
    → new.opening ≡ old.opening → turn_at old.opening.system schedule t ≡ a → Turned old.opening old.history a (Ok made) new.history → Driving scripts old.opening new.history rs'
    → Underway scripts schedule o old rs t → Underway scripts schedule o new rs' (t + 1)
underway-turn scripts schedule o rs rs' old new t a made same at turned d u =
    let b = after-turn schedule old.opening old.history new.history t a made at turned u.in_order u.is_state u.short in
    let D : Opening → Type 0 = λ x. Driving scripts x new.history rs' in
    let I : Opening → Type 0 = λ x. InOrder schedule x new.history (t + 1) in
    let S : Opening → Type 0 = λ x. IsSome (state_after x new.history) in
    let L : Opening → Type 0 = λ x. length new.history ≤ x.limit in
    record {
      same = same ∙ u.same;
      driving = subst D (sym same) d;
      in_order = subst I (sym same) b.in_order;
      is_state = subst S (sym same) b.is_state;
      short = subst L (sym same) b.short;
    }

-- what a run that has its verdict gives
driven : (scripts : List (List (List Instruction))) (schedule : List ActorId) (o : Opening) (rs : List Runner) (m : Managed) (t : ℕ)
    → Underway scripts schedule o m rs t → IsSome (verdict_of m.opening.system (byte_at m.opening.memory) m.opening.limit m.history) → IsDriven scripts schedule o m.history
driven scripts schedule o rs m t u v =
    let P : Opening → Type 0 = λ x. IsDriven scripts schedule x m.history in
    subst P u.same (record { scheduled = (u.in_order.end, u.in_order.turns); runs = u.driving.runs; ended = v })

-- ---- rounds

round-turn : (s : System) (schedule : List ActorId) (r a : ℕ) → a < actor_count s → turn_at s schedule (length schedule + r * actor_count s + a) ≡ a
round-turn s schedule r a below =
    let late : nat_lt (length schedule + r * actor_count s + a) (length schedule) ≡ false = grind arith in
    let rest : length schedule + r * actor_count s + a - length schedule ≡ r * actor_count s + a = omega arith in
    rw (late, rest) (mod-mul-add r (actor_count s) a below)

-- a turn of the schedule
pub schedule-turn : (s : System) (schedule : List ActorId) (i : ℕ) (d : ActorId) → i < length schedule → turn_at s schedule i ≡ (get_or schedule i d).0
schedule-turn s schedule i d below =
    let early : nat_lt i (length schedule) ≡ true = grind arith in
    rw early (ap (λ (x : ActorId). x.0) (get_or_default schedule i _ d below))

-- between two rounds
pub record InRounds (scripts : List (List (List Instruction))) (schedule : List ActorId) (o : Opening) (m : Managed) (rs : List Runner) : Type 0 where
  pub r : ℕ
  pub underway : Underway scripts schedule o m rs (length schedule + r * actor_count o.system)

-- since the round began: an entry was made, or none and no actor before a is enabled
abbrev pub Progress : Opening → List Entry → List Entry → Bool → ℕ → Type 0
Progress o began history true a = length began < length history
Progress o began history false a = (history ≡ began) × ((b : ℕ) → b < a → enabled_in o.system (state_after o history) b ≡ false)

-- in a round that began with the entries `began`, actor a comes next
pub record InRound (scripts : List (List (List Instruction))) (schedule : List ActorId) (o : Opening) (began : List Entry) (m : Managed) (rs : List Runner) (made : Bool) (a : ℕ) : Type 0 where
  pub r : ℕ
  pub underway : Underway scripts schedule o m rs (length schedule + r * actor_count o.system + a)
  pub progress : Progress o began m.history made a

progress-made : (o : Opening) (began old new : List Entry) (b : Bool) (a : ℕ) (e : Entry) → MadeOne o old a new e → Progress o began old b a → Progress o began new (b || true) (a + 1)
progress-made o began old new true a e m h =
    let more : length new ≡ length old + 1 = ap length m.added ∙ length-append old (e ∷ []) in
    omega arith
progress-made o began old new false a e m h =
    let more : length new ≡ length old + 1 = ap length m.added ∙ length-append old (e ∷ []) in
    let same : length old ≡ length began = ap length h.0 in
    omega arith

progress-passed : (o : Opening) (began old new : List Entry) (b : Bool) (a : ℕ) → PassedOne o old a new → Progress o began old b a → Progress o began new (b || false) (a + 1)
progress-passed o began old new true a p h = let same : length new ≡ length old = ap length p.unchanged in omega arith
progress-passed o began old new false a p h =
    let P : ℕ → Type 0 = λ b. enabled_in o.system (state_after o old) b ≡ false in
    rw p.unchanged (h.0, below_more P a h.1 p.off)

progress-next : (o : Opening) (began old new : List Entry) (made one : Bool) (a : ℕ) → Turned o old a (Ok one) new → Progress o began old made a → Progress o began new (made || one) (a + 1)
progress-next o began old new made true a m h = progress-made o began old new made a m.0 m.1 h
progress-next o began old new made false a p h = progress-passed o began old new made a p h

pub rounds-start : (scripts : List (List (List Instruction))) (schedule : List ActorId) (o : Opening) (m : Managed) (rs : List Runner) (i : ℕ) → i ≡ length schedule
    → Underway scripts schedule o m rs i → InRounds scripts schedule o m rs
rounds-start scripts schedule o m rs i e u =
    let P : ℕ → Type 0 = λ x. Underway scripts schedule o m rs x in
    let at : i ≡ length schedule + 0 * actor_count o.system = omega arith in
    record { r = 0; underway = subst P at u }

pub round-next : (scripts : List (List (List Instruction))) (schedule : List ActorId) (o : Opening) (began : List Entry) (rs rs' : List Runner) (old new : Managed) (made one : Bool) (a : ℕ) → a < actor_count o.system
    → new.opening ≡ old.opening → Turned old.opening old.history a (Ok one) new.history → Driving scripts old.opening new.history rs'
    → InRound scripts schedule o began old rs made a → InRound scripts schedule o began new rs' (made || one) (a + 1)
round-next scripts schedule o began rs rs' old new made one a below same turned d i =
    let t = length schedule + i.r * actor_count o.system + a in
    let at : turn_at old.opening.system schedule t ≡ a = ap (λ (x : Opening). turn_at x.system schedule t) i.underway.same ∙ round-turn o.system schedule i.r a below in
    let P : ℕ → Type 0 = λ x. Underway scripts schedule o new rs' x in
    let T : Opening → Type 0 = λ x. Turned x old.history a (Ok one) new.history in
    record {
      r = i.r;
      underway = subst P (add_assoc (length schedule + i.r * actor_count o.system) a 1) (underway-turn scripts schedule o rs rs' old new t a one same at turned d i.underway);
      progress = progress-next o began old.history new.history made one a (subst T i.underway.same turned) i.progress;
    }

rounds-next : (scripts : List (List (List Instruction))) (schedule : List ActorId) (o : Opening) (began : List Entry) (m : Managed) (rs : List Runner) (a : ℕ) → a ≡ actor_count o.system
    → InRound scripts schedule o began m rs true a → InRounds scripts schedule o m rs
rounds-next scripts schedule o began m rs a e i =
    let P : ℕ → Type 0 = λ x. Underway scripts schedule o m rs x in
    let at : length schedule + i.r * actor_count o.system + a ≡ length schedule + (i.r + 1) * actor_count o.system = omega arith in
    record { r = i.r + 1; underway = subst P at i.underway }

none-from : (p : ℕ → Bool) (a n : ℕ) → ((b : ℕ) → a ≤ b → b < a + n → p b ≡ false) → list_any p (range_with_len a n) ≡ false
none-from p a zero h = refl
none-from p a (suc n) h =
    let here : p a ≡ false = h a (omega arith) (omega arith) in
    rw (here, none-from p (a + 1) n (λ b from below. h b (omega arith) (omega arith))) refl

verdict-in : (o : Opening) (history : List Entry) (st : Option State) → IsSome st → ((b : ℕ) → b < actor_count o.system → enabled_in o.system st b ≡ false)
    → IsSome (option_and_then (λ x. verdict_at o.system o.limit (length history) x.spm) st)
verdict-in o history None h off = h
verdict-in o history (Some x) h off =
    verdict_off (some_enabled o.system x.spm) (length history == o.limit) (some_blocked o.system x.spm) (none-from (enabled o.system x.spm) 0 (actor_count o.system) (λ b from below. off b (omega arith)))

-- a round without an entry ends the run
round-over : (scripts : List (List (List Instruction))) (schedule : List ActorId) (o : Opening) (began : List Entry) (m : Managed) (rs : List Runner) (a : ℕ) → a ≡ actor_count o.system
    → InRound scripts schedule o began m rs false a → IsDriven scripts schedule o m.history
round-over scripts schedule o began m rs a e i =
    let F : Opening → Type 0 = λ x. (b : ℕ) → b < a → enabled_in x.system (state_after x m.history) b ≡ false in
    let off = subst F (sym i.underway.same) i.progress.1 in
    let count : actor_count m.opening.system ≡ a = ap (λ (x : Opening). actor_count x.system) i.underway.same ∙ sym e in
    driven scripts schedule o rs m _ i.underway (verdict-in m.opening m.history (state_of m) i.underway.is_state (λ b below. off b (omega arith)))

pub over-at : (scripts : List (List (List Instruction))) (schedule : List ActorId) (o : Opening) (began : List Entry) (m : Managed) (rs : List Runner) (made : Bool) (a : ℕ) → made ≡ false → a ≡ actor_count o.system
    → InRound scripts schedule o began m rs made a → IsDriven scripts schedule o m.history
over-at scripts schedule o began m rs true a e k i = absurd (true≢false e)
over-at scripts schedule o began m rs false a e k i = round-over scripts schedule o began m rs a k i

pub next-at : (scripts : List (List (List Instruction))) (schedule : List ActorId) (o : Opening) (began : List Entry) (m : Managed) (rs : List Runner) (made : Bool) (a : ℕ) → made ≡ true → a ≡ actor_count o.system
    → InRound scripts schedule o began m rs made a → InRounds scripts schedule o m rs
next-at scripts schedule o began m rs true a e k i = rounds-next scripts schedule o began m rs a k i
next-at scripts schedule o began m rs false a e k i = absurd (true≢false (sym e))

-- ---- the start

none-by : (a b : Bool) → (a || b) ≡ false → (a ≡ false) × (b ≡ false)
none-by true b e = absurd (true≢false e)
none-by false b e = (refl, e)

-- a script that maps nothing, as the flag says
maps-nothing : (is : List Instruction) → list_any maps is ≡ false → MapsNothing is
maps-nothing [] e = tt
maps-nothing (i ∷ is) e = let h = none-by (maps i) (list_any maps is) e in (h.0, maps-nothing is h.1)

-- what the laws of plans say of a partition whose script maps nothing: one context calls as it does
abbrev pub OneContext : Type 0
OneContext = (script : List Instruction) (os : List Outcome) → context_plan (script ∷ []) os ≡ script_plan script os

abbrev pub Unmapped : Type 0
Unmapped = (p : Holder) (script : List Instruction) (os : List Outcome) → MapsNothing script → held_plan p script os ≡ script_plan script os

plain-plan : OneContext → Unmapped → (p : Holder) (parts : List (List Instruction)) (os : List Outcome) → length parts ≡ 1 → list_any maps (only_part parts) ≡ false → context_plan parts os ≡ held_plan p (only_part parts) os
plain-plan one unmapped p [] os long e = absurd (omega arith)
plain-plan one unmapped p (script ∷ []) os long e = one script os ∙ sym (unmapped p script os (maps-nothing script e))
plain-plan one unmapped p (script ∷ next ∷ parts) os long e = absurd (omega arith)

turns-plan : OneContext → Unmapped → (k : ActorKind) (p : Holder) (parts : List (List Instruction)) (os : List Outcome) → (k ≡ kind.Partition → length parts ≡ 1) → needs_messages k parts ≡ false
    → context_plan parts os ≡ plan_of_role (role_of_kind k p) parts os
turns-plan one unmapped kind.Partition p parts os long e = plain-plan one unmapped p parts os (long refl) e
turns-plan one unmapped kind.Client p parts os long e = refl
turns-plan one unmapped kind.Device p parts os long e = refl

-- the first runner of an actor whose contexts take turns
pub new-turns : (s : System) (scripts : List (List (List Instruction))) (a : ℕ) (r : ClientStanding) → OneContext → Unmapped → (kind_of s a ≡ kind.Partition → length (parts_at scripts a) ≡ 1)
    → needs_messages (kind_of s a) (parts_at scripts a) ≡ false → FollowsAll (parts_at scripts a) [] r → Serves s scripts a [] (runner.Client r)
new-turns s scripts a r one unmapped long e new = record {
  role = takes_turns;
  plan = λ os. turns-plan one unmapped (kind_of s a) (holder_of s a) (parts_at scripts a) os long e;
  follows = new;
}

needs-partition : (k : ActorKind) (parts : List (List Instruction)) → needs_messages k parts ≡ true → k ≡ kind.Partition
needs-partition kind.Partition parts e = refl
needs-partition kind.Client parts e = absurd (true≢false (sym e))
needs-partition kind.Device parts e = absurd (true≢false (sym e))

-- and of a partition whose script maps
pub new-partition : (s : System) (scripts : List (List (List Instruction))) (a : ℕ) (r : PartitionStanding) → (kind_of s a ≡ kind.Partition → length (parts_at scripts a) ≡ 1)
    → needs_messages (kind_of s a) (parts_at scripts a) ≡ true → ((script : List Instruction) → FollowsHeld (holder_of s a) script [] r) → Serves s scripts a [] (runner.Partition r)
new-partition s scripts a r long e new =
    let is : kind_of s a ≡ kind.Partition = needs-partition (kind_of s a) (parts_at scripts a) e in
    record {
      role = holds (holder_of s a);
      plan = λ os. ap (λ (k : ActorKind). plan_of_role (role_of_kind k (holder_of s a)) (parts_at scripts a) os) (sym is);
      follows = (long is, new (only_part (parts_at scripts a)));
    }

pub new-push : (s : System) (scripts : List (List (List Instruction))) (count : ℕ) (rs : List Runner) (r : Runner) → Serves s scripts count [] r
    → AreNew s scripts count rs → AreNew s scripts (count + 1) (rs ++ r ∷ [])
new-push s scripts count rs r new all = record {
  long = length-append rs (r ∷ []) ∙ ap (λ n. n + 1) all.long;
  each = λ a below. elim (cases_lt a count) [
    | inl less ↦ (
        let P : Runner → Type 0 = λ x. Serves s scripts a [] x in
        subst P (sym (get_or_append_left rs (r ∷ []) no_runner a (omega (arith, all.long)))) (all.each a less))
    | inr more ↦ (
        let P : Runner → Type 0 = λ x. Serves s scripts a [] x in
        let Q : ℕ → Type 0 = λ i. Serves s scripts i [] r in
        let here : count ≡ a = omega arith in
        let same : a ≡ length rs = omega (arith, all.long) in
        subst P (sym (ap (λ i. get_or (rs ++ r ∷ []) i no_runner) same ∙ get_or-append_seam rs r [] no_runner)) (subst Q here new))
  ];
}

pub underway-start : (scripts : List (List (List Instruction))) (schedule : List ActorId) (m : Managed) (rs : List Runner) → length scripts ≡ actor_count m.opening.system → m.history ≡ []
    → AreNew m.opening.system scripts (actor_count m.opening.system) rs → Underway scripts schedule m.opening m rs 0
underway-start scripts schedule m rs long empty new = record {
  same = refl;
  driving = record {
    scripts_long = long;
    runners_long = new.long;
    serves = λ a below. rw empty (new.each a below);
    runs = λ a below. rw empty tt;
  };
  in_order = in_order-start schedule m.opening m.history empty;
  is_state = rw empty refl;
  short = rw empty (omega arith);
}
