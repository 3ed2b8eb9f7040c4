-- Crews of workers, before and after they are driven.
use Rattle.std.proofs.Common.{ℕ, zero, suc, ◌+◌, ◌≡◌, ◌<◌, ◌≤◌, add-zero, false, List, [], ◌∷◌, ◌++◌, append_assoc, append-nil, length, length-append, get_or, Some, refl, sym, ap, ◌∙◌, subst, arith}
use Rattle.std.specs.Prelude.{slice_get}
use Rattle.std.proofs.lemmas.List.Elements.{All-append, All-nil, All-cons, All-head, All-tail}
use Rattle.std.proofs.Math.Seq.{get_or-append_seam}
use Rattle.std.specs.List.{AllByRecursion}
use Rattle.ffm_model.specs.Plans.{PlanRun}
use Rattle.ffm_model.specs.declared.system.System.{System}
use Rattle.partition_sim.specs.declared.runner.Runner.{Runner}
use Rattle.partition_sim.specs.declared.workers.Worker.{Worker}
use Rattle.partition_sim.specs.ActorPlans.{Role, plan_at, plan_of_role, role_at}
use Rattle.partition_sim.specs.Standing.{role_of}
use Rattle.partition_sim.specs.Workers.{IsFresh, IsFinished, roles_of, scripts_of}
use Rattle.ffm_model.specs.declared.machine.Entry.{Entry}
use Rattle.ffm_model.specs.Records.{entries_of}
use Rattle.spm_lock.specs.Passes.{SharedView, PassView, IsOwn, IsDone, ArePasses, AreNew, record_of}
use Rattle.scenario_runs.specs.declared.threads.Progress.{Progress}
use Rattle.scenario_runs.specs.declared.threads.Progress.TheVariants as progress
use Rattle.scenario_runs.specs.declared.threads.Seat.{Seat}
use Rattle.scenario_runs.specs.declared.threads.Start.{Start}
use Rattle.scenario_runs.specs.Threads.{Crew, IsStart, StartsFrom, actors_in, AllFresh, AllFinished, AreNewCrews, AreUnused, CrewedBy, SameWorkers, IsDoneBy, AreDoneBy, IsSeat, crews_in, left_of, waiting}
use Rattle.actor_programs.specs.Programs.{Parts}
use Rattle.law_lists.proofs.Lists.{append_none}

-- ---- new crews

-- what each actor begins with, for one actor more
pub starts_more : (s : System) (a : ℕ) (scripts : List Parts) (xs : List Start) (script : Parts) (x : Start) → StartsFrom s a scripts xs → x.script ≡ script → role_of x.runner ≡ role_at s (a + length scripts) → IsStart x
    → StartsFrom s a (scripts ++ script ∷ []) (xs ++ x ∷ [])
starts_more s a [] [] script x h is role start = (is, role ∙ ap (role_at s) (add-zero a), start, tt)
starts_more s a (y ∷ ys) (z ∷ zs) script x h is role start =
    let place : a + suc (length ys) ≡ a + 1 + length ys = omega arith in
    (h.0, h.1, h.2, starts_more s (a + 1) ys zs script x h.3 is (role ∙ ap (role_at s) place) start)
starts_more s a _ _ script x h is role start = absurd h

pub starts_long : (s : System) (a : ℕ) (scripts : List Parts) (xs : List Start) → StartsFrom s a scripts xs → length xs ≡ length scripts
starts_long s a [] [] h = refl
starts_long s a (y ∷ ys) (z ∷ zs) h = let e = starts_long s (a + 1) ys zs h.3 in omega (arith, e)
starts_long s a _ _ h = absurd h

pub starts_each : (s : System) (a : ℕ) (scripts : List Parts) (xs : List Start) → StartsFrom s a scripts xs → AllByRecursion IsStart xs
starts_each s a [] [] h = tt
starts_each s a (y ∷ ys) (z ∷ zs) h = (h.2, starts_each s (a + 1) ys zs h.3)
starts_each s a _ _ h = absurd h

starts_at : (s : System) (a : ℕ) (scripts : List Parts) (xs : List Start) (k : ℕ) (x : Start) → StartsFrom s a scripts xs → slice_get xs k ≡ Some x → (x.script ≡ get_or scripts k []) × (role_of x.runner ≡ role_at s (a + k))
starts_at s a (y ∷ ys) (z ∷ zs) zero x h at =
    let same : z ≡ x = cc in
    subst (λ (w : Start). (w.script ≡ y) × (role_of w.runner ≡ role_at s (a + 0))) same (h.0, h.1 ∙ ap (role_at s) (sym (add-zero a)))
starts_at s a (y ∷ ys) (z ∷ zs) (suc k) x h at =
    let place : a + 1 + k ≡ a + suc k = omega arith in
    let it = starts_at s (a + 1) ys zs k x h.3 at in
    (it.0, it.1 ∙ ap (role_at s) place)
starts_at s a [] [] k x h at = absurd (cc)
starts_at s a _ _ k x h at = absurd h

-- the script at a place
pub script_here : (xs later scripts : List Parts) (script : Parts) (a : ℕ) → xs ++ script ∷ later ≡ scripts → length xs ≡ a → get_or scripts a [] ≡ script
script_here xs later scripts script a is long = ap (λ (ys : List Parts). get_or ys a []) (sym is) ∙ (ap (λ (n : ℕ). get_or (xs ++ script ∷ later) n []) (sym long) ∙ get_or-append_seam xs script later [])

-- all of them
pub all_begun : (s : System) (xs left scripts : List Parts) (starts : List Start) (n : ℕ) → StartsFrom s 0 xs starts → xs ++ left ≡ scripts → length xs ≡ n → length scripts ≡ n → StartsFrom s 0 scripts starts
all_begun s xs left scripts starts n h is long count =
    let a = length-append xs left in
    let b = ap length is in
    subst (λ (ys : List Parts). StartsFrom s 0 ys starts) (append_none xs left scripts is (omega (arith, a, b, long, count))) h

-- a new worker for a pass
pub new_crew : (s : SharedView) (crew : Crew) (w : Worker PassView) (p : PassView) (x : Start) → crew ≡ w ∷ [] → w.pass ≡ p → w.script ≡ x.script → w.runner ≡ x.runner → w.done ≡ false → w.number ≡ 1 → IsOwn s p → record_of p ≡ []
    → IsStart x → CrewedBy s (p ∷ []) (x ∷ []) (crew ∷ [])
new_crew s crew w p x e pass_is script_is runner_is unfinished first own empty start =
    let fresh : IsFresh IsOwn record_of s w = record {
      own_is = subst (IsOwn s) (sym pass_is) own;
      empty = subst (λ (q : PassView). record_of q ≡ []) (sym pass_is) empty;
      follows = rw (script_is, runner_is) start;
      unfinished = unfinished;
      first = first;
    } in (
      ap actors_in e ∙ ap (λ (q : PassView). q.actor ∷ []) pass_is,
      ap scripts_of e ∙ ap (λ (y : Parts). y ∷ []) script_is,
      ap roles_of e ∙ ap (λ (r : Runner). role_of r ∷ []) runner_is,
      (ap length e, subst (AllFresh s) (sym e) (All-cons (IsFresh IsOwn record_of s) w [] fresh (All-nil (IsFresh IsOwn record_of s)))),
      tt,
    )

-- one crew more
pub crewed_more : (s : SharedView) (ps : List PassView) (xs : List Start) (crews : List Crew) (p : PassView) (x : Start) (crew : Crew)
    → CrewedBy s ps xs crews → CrewedBy s (p ∷ []) (x ∷ []) (crew ∷ []) → CrewedBy s (ps ++ p ∷ []) (xs ++ x ∷ []) (crews ++ crew ∷ [])
crewed_more s [] [] [] p x crew h more = more
crewed_more s (q ∷ ps) (y ∷ xs) (c ∷ crews) p x crew h more = (h.0, h.1, h.2, h.3, crewed_more s ps xs crews p x crew h.4 more)
crewed_more s _ _ _ p x crew h more = absurd h

-- they are new
pub crewed_new : (s : SharedView) (ps : List PassView) (xs : List Start) (crews : List Crew) → CrewedBy s ps xs crews → AreNewCrews s crews
crewed_new s [] [] [] h = tt
crewed_new s (q ∷ ps) (x ∷ xs) (c ∷ crews) h = (h.3, crewed_new s ps xs crews h.4)
crewed_new s _ _ _ h = absurd h

crewed_long : (s : SharedView) (ps : List PassView) (xs : List Start) (crews : List Crew) → CrewedBy s ps xs crews → length xs ≡ length ps
crewed_long s [] [] [] h = refl
crewed_long s (q ∷ ps) (x ∷ xs) (c ∷ crews) h = let e = crewed_long s ps xs crews h.4 in omega (arith, e)
crewed_long s _ _ _ h = absurd h

-- a start is left for each pass that is left
pub start_left : (s : SharedView) (ys rest later passes : List PassView) (xs left starts : List Start) (crews : List Crew) (p : PassView) → CrewedBy s ys xs crews → xs ++ left ≡ starts → ys ++ rest ≡ passes → rest ≡ p ∷ later
    → length passes ≡ length starts → 0 < length left
start_left s ys rest later passes xs left starts crews p h one two next count =
    let long = crewed_long s ys xs crews h in
    let a = length-append xs left in
    let b = ap length one in
    let c = length-append ys rest in
    let d = ap length two in
    let e = ap length next in
    omega (arith, long, a, b, c, d, e, count)

-- all crews
pub all_crewed : (s : SharedView) (ys rest passes : List PassView) (xs left starts : List Start) (crews : List Crew) → CrewedBy s ys xs crews → xs ++ left ≡ starts → ys ++ rest ≡ passes → length rest ≡ 0
    → length passes ≡ length starts → CrewedBy s passes starts crews
all_crewed s ys rest passes xs left starts crews h one two none count =
    let ys_are : ys ≡ passes = append_none ys rest passes two none in
    let long = crewed_long s ys xs crews h in
    let a = length-append xs left in
    let b = ap length one in
    let c = ap length ys_are in
    let none_left : length left ≡ 0 = omega (arith, long, a, b, c, count) in
    let xs_are : xs ≡ starts = append_none xs left starts one none_left in
    subst (λ (ps : List PassView). CrewedBy s ps starts crews) ys_are (subst (λ (zs : List Start). CrewedBy s ys zs crews) xs_are h)

-- ---- the passes of a shared manager

pub unused : (s : SharedView) (ps : List PassView) → ((k : ℕ) (p : PassView) → slice_get ps k ≡ Some p → IsOwn s p) → ((k : ℕ) (p : PassView) → slice_get ps k ≡ Some p → record_of p ≡ []) → AreUnused s ps
unused s [] own empty = tt
unused s (p ∷ ps) own empty = ((own 0 p refl, empty 0 p refl), unused s ps (λ k q at. own (suc k) q at) (λ k q at. empty (suc k) q at))

pub new_unused : (s : SharedView) (ps : List PassView) → ArePasses s ps → AreNew ps → AreUnused s ps
new_unused s ps are new = unused s ps (λ k p at. (are.each k p at).0) (λ k p at. ap (λ (es : List Entry). entries_of p.actor es) (new k p at).0)

-- what is known of the pass at a place, by the crews that it went through
pub record IsDriven (s : SharedView) (scripts : List Parts) (a : ℕ) (p : PassView) : Type 0 where
  pub own : IsOwn s p
  pub actor : p.actor ≡ a
  pub runs : PlanRun (plan_at s.opening.system scripts a) (record_of p)
  pub done : IsDone p

same_head : {X : Type 0} (x y : X) → x ∷ [] ≡ y ∷ [] → x ≡ y
same_head x y e = cc

pub driven_long : (s : SharedView) (passes after : List PassView) (xs : List Start) (crews : List Crew) → CrewedBy s passes xs crews → AreDoneBy s crews after → length after ≡ length passes
driven_long s [] [] [] [] h d = refl
driven_long s (q ∷ ps) (p ∷ after) (x ∷ xs) (c ∷ crews) h d = let e = driven_long s ps after xs crews h.4 d.1 in omega (arith, e)
driven_long s [] (p ∷ after) [] [] h d = absurd d
driven_long s (q ∷ ps) [] (x ∷ xs) (c ∷ crews) h d = absurd d
driven_long s _ _ _ _ h d = absurd h

-- a pass, and what its actor began with
pub record IsLike (s : SharedView) (before : PassView) (x : Start) (p : PassView) : Type 0 where
  pub own : IsOwn s p
  pub actor : p.actor ≡ before.actor
  pub runs : PlanRun (plan_of_role (role_of x.runner) x.script) (record_of p)
  pub done : IsDone p

like : (s : SharedView) (before : PassView) (x : Start) (crew : Crew) (p : PassView) → actors_in crew ≡ before.actor ∷ [] → scripts_of crew ≡ x.script ∷ [] → roles_of crew ≡ role_of x.runner ∷ [] → IsDoneBy s crew p
    → IsLike s before x p
like s before x crew p actor script_is role_is d =
    let script : d.script ≡ x.script = same_head _ _ (sym d.script_is ∙ script_is) in
    let role : d.role ≡ role_of x.runner = same_head _ _ (sym d.role_is ∙ role_is) in
    record {
      own = d.own;
      actor = same_head _ _ (sym d.actor_is ∙ actor);
      runs = subst (λ (y : Parts). PlanRun (plan_of_role (role_of x.runner) y) (record_of p)) script (subst (λ (r : Role). PlanRun (plan_of_role r d.script) (record_of p)) role d.runs);
      done = d.done;
    }

-- the pass at a place is that of the pass before it was driven, and of what its actor began with
pub record IsLikeAt (s : SharedView) (passes : List PassView) (xs : List Start) (k : ℕ) (p : PassView) : Type 0 where
  pub before : PassView
  pub start : Start
  pub pass_is : slice_get passes k ≡ Some before
  pub start_is : slice_get xs k ≡ Some start
  pub like : IsLike s before start p

pub driven_at : (s : SharedView) (passes after : List PassView) (xs : List Start) (crews : List Crew) → CrewedBy s passes xs crews → AreDoneBy s crews after → (k : ℕ) (p : PassView) → slice_get after k ≡ Some p
    → IsLikeAt s passes xs k p
driven_at s (q ∷ ps) (p ∷ after) (x ∷ xs) (c ∷ crews) h d zero r at =
    let same : p ≡ r = cc in
    record { before = q; start = x; pass_is = refl; start_is = refl; like = subst (IsLike s q x) same (like s q x c p h.0 h.1 h.2 d.0) }
driven_at s (q ∷ ps) (p ∷ after) (x ∷ xs) (c ∷ crews) h d (suc k) r at =
    let it = driven_at s ps after xs crews h.4 d.1 k r at in
    record { before = it.before; start = it.start; pass_is = it.pass_is; start_is = it.start_is; like = it.like }
driven_at s [] [] [] [] h d k r at = absurd (cc)
driven_at s [] (p ∷ after) [] [] h d k r at = absurd d
driven_at s (q ∷ ps) [] (x ∷ xs) (c ∷ crews) h d k r at = absurd d
driven_at s _ _ _ _ h d k r at = absurd h

-- each is the actor's at its place
pub driven_is : (s : SharedView) (passes after : List PassView) (scripts : List Parts) (xs : List Start) (crews : List Crew) → ArePasses s passes → StartsFrom s.opening.system 0 scripts xs → CrewedBy s passes xs crews → AreDoneBy s crews after
    → (k : ℕ) (p : PassView) → slice_get after k ≡ Some p → IsDriven s scripts k p
driven_is s passes after scripts xs crews are starts h d k p at =
    let it = driven_at s passes after xs crews h d k p at in
    let begins = starts_at s.opening.system 0 scripts xs k it.start starts it.start_is in
    let place : 0 + k ≡ k = omega arith in
    let role : role_of it.start.runner ≡ role_at s.opening.system k = begins.1 ∙ ap (role_at s.opening.system) place in
    record {
      own = it.like.own;
      actor = it.like.actor ∙ (are.each k it.before it.pass_is).1;
      runs = subst (λ (y : Parts). PlanRun (plan_of_role (role_at s.opening.system k) y) (record_of p)) begins.0 (subst (λ (r : Role). PlanRun (plan_of_role r it.start.script) (record_of p)) role it.like.runs);
      done = it.like.done;
    }

pub driven_passes : (s : SharedView) (passes after : List PassView) (xs : List Start) (crews : List Crew) → ArePasses s passes → CrewedBy s passes xs crews → AreDoneBy s crews after → ArePasses s after
driven_passes s passes after xs crews are h d = record {
  all = driven_long s passes after xs crews h d ∙ are.all;
  each = λ k p at. let it = driven_at s passes after xs crews h d k p at in (it.like.own, it.like.actor ∙ (are.each k it.before it.pass_is).1);
}

pub at_each : (n : ℕ) (ps : List PassView) (a : ℕ) → length ps ≡ n → a < n → (p : PassView) × (slice_get ps a ≡ Some p)
at_each n [] a long lt = absurd (omega (arith, long, lt))
at_each n (p ∷ ps) zero long lt = (p, refl)
at_each n (p ∷ ps) (suc a) long lt = at_each (length ps) ps a refl (omega (arith, long, lt))

-- ---- driven crews

-- the pass of a crew's one worker that is finished
pub done_by : (s : SharedView) (before after : Crew) (w : Worker PassView) → SameWorkers before after → AllFinished s after → after ≡ w ∷ [] → IsDoneBy s before w.pass
done_by s before after w same finished e =
    let f : IsFinished IsOwn record_of IsDone s w = All-head (IsFinished IsOwn record_of IsDone s) w [] (subst (AllFinished s) e finished) in
    record {
      own = f.own_is;
      actor_is = sym same.actors ∙ ap actors_in e;
      script = w.script;
      script_is = sym same.scripts ∙ ap scripts_of e;
      role = role_of w.runner;
      role_is = sym same.roles ∙ ap roles_of e;
      runs = f.runs;
      done = f.pass_done;
    }

pub done_more : (s : SharedView) (crews : List Crew) (ps : List PassView) (crew : Crew) (p : PassView) → AreDoneBy s crews ps → IsDoneBy s crew p → AreDoneBy s (crews ++ crew ∷ []) (ps ++ p ∷ [])
done_more s [] [] crew p h more = (more, tt)
done_more s (c ∷ crews) (q ∷ ps) crew p h more = (h.0, done_more s crews ps crew p h.1 more)
done_more s _ _ crew p h more = absurd h

-- ---- those that wait

pub waiting_more : (seats : List Seat) (x : Seat) → waiting (seats ++ x ∷ []) ≡ waiting seats ++ left_of x.crew.value x.progress
waiting_more [] x = append-nil (left_of x.crew.value x.progress)
waiting_more (y ∷ seats) x = ap (λ (ws : Crew). left_of y.crew.value y.progress ++ ws) (waiting_more seats x) ∙ sym (append_assoc (left_of y.crew.value y.progress) (waiting seats) (left_of x.crew.value x.progress))

pub same_trans : (a b c : Crew) → SameWorkers a b → SameWorkers b c → SameWorkers a c
same_trans a b c p q = record { actors = q.actors ∙ p.actors; scripts = q.scripts ∙ p.scripts; roles = q.roles ∙ p.roles }

tail_is : {X : Type 0} (x y : X) (xs ys : List X) → x ∷ xs ≡ y ∷ ys → xs ≡ ys
tail_is x y xs ys e = cc

head_is : {X : Type 0} (x y : X) (xs ys : List X) → x ∷ xs ≡ y ∷ ys → x ≡ y
head_is x y xs ys e = cc

-- the first of the workers that waited is the crew's
pub next_done : (s : SharedView) (crew rest workers later : Crew) (w : Worker PassView) → length crew ≡ 1 → SameWorkers (crew ++ rest) workers → AllFinished s workers → workers ≡ w ∷ later → IsDoneBy s crew w.pass
next_done s [] rest workers later w one same finished e = absurd (omega (arith, one))
next_done s (x ∷ []) rest workers later w one same finished e =
    let f : IsFinished IsOwn record_of IsDone s w = All-head (IsFinished IsOwn record_of IsDone s) w later (subst (AllFinished s) e finished) in
    let actors : w.pass.actor ∷ actors_in later ≡ x.pass.actor ∷ actors_in rest = sym (ap actors_in e) ∙ same.actors in
    let scripts : w.script ∷ scripts_of later ≡ x.script ∷ scripts_of rest = sym (ap scripts_of e) ∙ same.scripts in
    let roles : role_of w.runner ∷ roles_of later ≡ role_of x.runner ∷ roles_of rest = sym (ap roles_of e) ∙ same.roles in
    record {
      own = f.own_is;
      actor_is = ap (λ (a : ℕ). a ∷ []) (sym (head_is _ _ _ _ actors));
      script = w.script;
      script_is = ap (λ (p : Parts). p ∷ []) (sym (head_is _ _ _ _ scripts));
      role = role_of w.runner;
      role_is = ap (λ (r : Role). r ∷ []) (sym (head_is _ _ _ _ roles));
      runs = f.runs;
      done = f.pass_done;
    }
next_done s (x ∷ y ∷ crew) rest workers later w one same finished e = absurd (omega (arith, one))

-- and the others are those of the rest
pub next_left : (crew rest workers later : Crew) (w : Worker PassView) → length crew ≡ 1 → SameWorkers (crew ++ rest) workers → workers ≡ w ∷ later → SameWorkers rest later
next_left [] rest workers later w one same e = absurd (omega (arith, one))
next_left (x ∷ []) rest workers later w one same e = record {
  actors = tail_is w.pass.actor x.pass.actor (actors_in later) (actors_in rest) (sym (ap actors_in e) ∙ same.actors);
  scripts = tail_is w.script x.script (scripts_of later) (scripts_of rest) (sym (ap scripts_of e) ∙ same.scripts);
  roles = tail_is (role_of w.runner) (role_of x.runner) (roles_of later) (roles_of rest) (sym (ap roles_of e) ∙ same.roles);
}
next_left (x ∷ y ∷ crew) rest workers later w one same e = absurd (omega (arith, one))

pub next_finished : (s : SharedView) (workers later : Crew) (w : Worker PassView) → AllFinished s workers → workers ≡ w ∷ later → AllFinished s later
next_finished s workers later w finished e = All-tail (IsFinished IsOwn record_of IsDone s) w later (subst (AllFinished s) e finished)

pub crews_more : (seats : List Seat) (x : Seat) → crews_in (seats ++ x ∷ []) ≡ crews_in seats ++ x.crew.value ∷ []
crews_more [] x = refl
crews_more (y ∷ seats) x = ap (λ (cs : List Crew). y.crew.value ∷ cs) (crews_more seats x)

left_fresh : (s : SharedView) (crew : Crew) (p : Progress) → AllFresh s crew → AllFresh s (left_of crew p)
left_fresh s crew (progress.Started handle) fresh = All-nil (IsFresh IsOwn record_of s)
left_fresh s crew (progress.Driven pass) fresh = All-nil (IsFresh IsOwn record_of s)
left_fresh s crew progress.Waiting fresh = fresh

pub fresh_more : (s : SharedView) (ws : Crew) (x : Seat) → AllFresh s ws → IsSeat s x → AllFresh s (ws ++ left_of x.crew.value x.progress)
fresh_more s ws x fresh seat = All-append (IsFresh IsOwn record_of s) ws (left_of x.crew.value x.progress) fresh (left_fresh s x.crew.value x.progress seat.0.1)

pub left_short : (crew : Crew) (p : Progress) → length crew ≡ 1 → length (left_of crew p) ≤ 1
left_short crew (progress.Started handle) one = omega arith
left_short crew (progress.Driven pass) one = omega arith
left_short crew progress.Waiting one = omega (arith, one)

-- what a crew's place is, and what it adds to the workers that wait
pub record Placed (s : SharedView) (crew : Crew) (x : Seat) (before after : Crew) (room left : ℕ) : Type 0 where
  pub seat : IsSeat s x
  pub crew_is : x.crew.value ≡ crew
  pub undriven : after ≡ before ++ left_of x.crew.value x.progress
  pub capacity : left ≡ room
