-- A runner, before and after the outcomes of its calls.
use Rattle.std.proofs.Common.{ℕ, zero, suc, ◌<◌, ◌≡◌, Bool, true, false, List, [], ◌∷◌, ◌++◌, length, get_or, refl, ap, ap₂, sym, ◌∙◌, subst, arith, true≢false}
use Rattle.std.specs.Prelude.{Option, if◌then◌else◌, slice_set, map, replicate}
use Rattle.std.specs.Option.{option_map_or, unwrap_or}
use Rattle.std.specs.List.{list_any}
use Rattle.std.proofs.lemmas.List.{length-set, length-map}
use Rattle.law_lists.proofs.Lists.{get_or-replicate_same}
use Rattle.ffm_model.proofs.RecordLemmas.{ends_blocked-push, engine_after-push}
use Rattle.ffm_model.specs.declared.machine.Call.{Call}
use Rattle.ffm_model.specs.declared.machine.Call.TheVariants as call
use Rattle.ffm_model.specs.declared.machine.Outcome.{Outcome}
use Rattle.ffm_model.specs.declared.script.Instruction.{Instruction}
use Rattle.ffm_model.specs.Plans.{engine_answered, engine_after, is_stop, plan_of}
use Rattle.ffm_model.specs.Records.{is_blocked_outcome, ends_blocked}
use Rattle.ffm_model.specs.ScriptRuns.{Point, start, arrived, behind}
use Rattle.ffm_model.specs.Contexts.{DeskView, Contexts, next_context, picked, picked_context, script_of, next_calls, is_spent, contexts_call, caller, contexts_then, context_engine, context_plan, opening_contexts}
use Rattle.partition_sim.specs.declared.context.Context.{Context}
use Rattle.partition_sim.specs.Clients.{ClientStanding, Reaches, AtCall, EachReaches, EachAtCall, FollowsAll, AskedAll, call_from, contexts_after, desk_of, first_context}
use Rattle.partition_sim.proofs.StepLemmas.{still}
use Rattle.partition_sim.proofs.ContextLemmas.{point-put, picked-same}

-- ---- the start

starts-get : (scripts : List (List Instruction)) (k : ℕ) → get_or (map (λ _. start) scripts) k start ≡ start
starts-get [] k = refl
starts-get (s ∷ ss) zero = refl
starts-get (s ∷ ss) (suc k) = starts-get ss k

-- ---- each context has a point

then-long : (scripts : List (List Instruction)) (o : Outcome) (x : Contexts) → length (contexts_then scripts o x).points ≡ length x.points
unfolding contexts_then
then-long scripts o x = length-set x.points _ _

answered-long : (scripts : List (List Instruction)) (o : Outcome) (x : Contexts) (b : Bool) → length (if b then x else contexts_then scripts o x).points ≡ length x.points
answered-long scripts o x true = refl
answered-long scripts o x false = then-long scripts o x

after-long : (scripts : List (List Instruction)) (os : List Outcome) (x : Contexts) → length (engine_after (context_engine scripts) x os).points ≡ length x.points
unfolding engine_after
after-long scripts [] x = refl
after-long scripts (o ∷ os) x = after-long scripts os (engine_answered (context_engine scripts) o x) ∙ answered-long scripts o x (is_blocked_outcome o)

pub points-long : (scripts : List (List Instruction)) (os : List Outcome) → length (contexts_after scripts os).points ≡ length scripts
points-long scripts os = after-long scripts os (opening_contexts scripts) ∙ length-map scripts (λ _. start)

-- ---- a new runner

first-reaches : (script : List Instruction) → Reaches script start first_context
first-reaches script = record { begins = λ e. refl; stands = λ e. absurd (true≢false (sym e)) }

pub opened : (scripts : List (List Instruction)) (n : ℕ) (r : ClientStanding) → r.waiting ≡ false → r.desk ≡ record { count = length scripts; turn = 0 } → r.contexts ≡ replicate n first_context
    → FollowsAll scripts [] r
unfolding engine_after ends_blocked
opened scripts n r w d c = record {
  waits = w;
  desk_is = d;
  each = λ k low.
      let at : get_or r.contexts k first_context ≡ first_context = ap (λ (cs : List Context). get_or cs k first_context) c ∙ get_or-replicate_same n k first_context in
      subst (λ (p : Point). Reaches (script_of scripts k) p (get_or r.contexts k first_context)) (sym (starts-get scripts k))
      (subst (λ (x : Context). Reaches (script_of scripts k) start x) (sym at) (first-reaches (script_of scripts k)));
}

-- ---- asked for the next call

pub found : (scripts : List (List Instruction)) (os : List Outcome) (r : ClientStanding) (ended : List Bool) (o : Option ℕ) → FollowsAll scripts os r → r.desk.turn < r.desk.count
    → ((k : ℕ) → k < length scripts → get_or ended k false ≡ is_stop (call_from (script_of scripts k) (get_or (contexts_after scripts os).points k start)))
    → o ≡ picked r.desk ended → o ≡ picked_context scripts (contexts_after scripts os)
found scripts os r ended o f inside flags e =
    let x : Contexts = contexts_after scripts os in
    let turn : x.turn < length scripts = subst (λ (d : DeskView). d.turn < d.count) f.desk_is inside in
    e ∙ (ap (λ (d : DeskView). picked d ended) f.desk_is ∙ picked-same scripts x ended (points-long scripts os) turn flags)

pub asked : (scripts : List (List Instruction)) (os : List Outcome) (old new : ClientStanding) (o : Option ℕ) → FollowsAll scripts os old → o ≡ picked_context scripts (contexts_after scripts os)
    → new.waiting ≡ old.waiting → new.desk ≡ old.desk → new.caller ≡ unwrap_or o old.desk.turn → EachAtCall scripts (contexts_after scripts os).points new.contexts → AskedAll scripts os new
asked scripts os old new o f e w d c at = record {
  waits = w ∙ f.waits;
  desk_is = d ∙ f.desk_is;
  each = at;
  caller_is = c ∙ ap₂ unwrap_or e (ap (λ (v : DeskView). v.turn) f.desk_is);
}

pub planned : (scripts : List (List Instruction)) (os : List Outcome) (r : ClientStanding) (o : Option ℕ) (c : Call) → FollowsAll scripts os r → o ≡ picked_context scripts (contexts_after scripts os)
    → (let calls = next_calls scripts (contexts_after scripts os).points in c ≡ (if r.waiting then call.Resume else option_map_or (λ k. get_or calls k (call.Stop false)) o (call.Stop (list_any is_spent calls))))
    → c ≡ context_plan scripts os
unfolding plan_of contexts_call
planned scripts os r o c f e is =
    let calls : List Call = next_calls scripts (contexts_after scripts os).points in
    is ∙ (ap (λ (p : Option ℕ). if r.waiting then call.Resume else option_map_or (λ k. get_or calls k (call.Stop false)) p (call.Stop (list_any is_spent calls))) e
    ∙ ap (λ (b : Bool). if b then call.Resume else contexts_call scripts (contexts_after scripts os)) f.waits)

pub asked-follows : (scripts : List (List Instruction)) (os : List Outcome) (r : ClientStanding) → AskedAll scripts os r → FollowsAll scripts os r
asked-follows scripts os r a = record { waits = a.waits; desk_is = a.desk_is; each = λ k low. still _ _ _ (a.each k low) }

-- ---- after an outcome

pub after-blocked : (scripts : List (List Instruction)) (os : List Outcome) (o : Outcome) (old new : ClientStanding) → is_blocked_outcome o ≡ true → new.waiting ≡ true → new.desk ≡ old.desk
    → new.contexts ≡ old.contexts → AskedAll scripts os old → FollowsAll scripts (os ++ o ∷ []) new
after-blocked scripts os o old new b w d c a =
    let x : Contexts = contexts_after scripts os in
    let same : contexts_after scripts (os ++ o ∷ []) ≡ x =
    engine_after-push (context_engine scripts) (opening_contexts scripts) os o ∙ ap (λ (t : Bool). if t then x else contexts_then scripts o x) b in
    record {
      waits = w ∙ sym (ends_blocked-push os o ∙ b);
      desk_is = d ∙ (a.desk_is ∙ ap (desk_of scripts) (sym same));
      each = subst (λ (y : Contexts). EachReaches scripts y.points new.contexts) (sym same)
          (subst (λ (cs : List Context). EachReaches scripts x.points cs) (sym c) (λ k low. still _ _ _ (a.each k low)));
    }

-- the outcome goes to one context, and the turn to the one after it
abbrev moved : List (List Instruction) → Outcome → Contexts → ℕ → Contexts
moved scripts o x k = record {
  points = slice_set x.points k (behind (script_of scripts k) o (arrived (script_of scripts k) (get_or x.points k start)));
  turn = next_context (length scripts) k;
}

after-is : (scripts : List (List Instruction)) (o : Outcome) (x : Contexts) (k : ℕ) → k ≡ caller scripts x → contexts_then scripts o x ≡ moved scripts o x k
unfolding contexts_then
after-is scripts o x k e = ap (moved scripts o x) (sym e)

pub after-answer : (scripts : List (List Instruction)) (os : List Outcome) (o : Outcome) (old new : ClientStanding) → is_blocked_outcome o ≡ false → new.waiting ≡ false
    → new.desk ≡ record old.desk { turn = next_context old.desk.count old.caller } → old.caller < old.desk.count
    → ((script : List Instruction) (p : Point) → AtCall script p (get_or old.contexts old.caller first_context) → Reaches script (behind script o (arrived script p)) (get_or new.contexts old.caller first_context))
    → ((j : ℕ) → (j ≡ old.caller → ⊥) → get_or new.contexts j first_context ≡ get_or old.contexts j first_context)
    → AskedAll scripts os old → FollowsAll scripts (os ++ o ∷ []) new
after-answer scripts os o old new b w d inside answered others a =
    let x : Contexts = contexts_after scripts os in
    let k : ℕ = old.caller in
    let same : contexts_after scripts (os ++ o ∷ []) ≡ moved scripts o x k =
    engine_after-push (context_engine scripts) (opening_contexts scripts) os o
    ∙ (ap (λ (t : Bool). if t then x else contexts_then scripts o x) b ∙ after-is scripts o x k a.caller_is) in
    let here : k < length scripts = subst (λ (v : DeskView). k < v.count) a.desk_is inside in
    let each : EachReaches scripts (moved scripts o x k).points new.contexts = λ j low.
    point-put (λ (i : ℕ) (p : Point). Reaches (script_of scripts i) p (get_or new.contexts i first_context)) x.points k
    (behind (script_of scripts k) o (arrived (script_of scripts k) (get_or x.points k start))) (omega (arith, points-long scripts os))
    (answered (script_of scripts k) (get_or x.points k start) (a.each k here)) j
    (λ other. subst (λ (c : Context). Reaches (script_of scripts j) (get_or x.points j start) c) (sym (others j other)) (still _ _ _ (a.each j low))) in
    record {
      waits = w ∙ sym (ends_blocked-push os o ∙ b);
      desk_is = d ∙ (ap (λ (v : DeskView). record v { turn = next_context v.count k }) a.desk_is ∙ ap (desk_of scripts) (sym same));
      each = subst (λ (y : Contexts). EachReaches scripts y.points new.contexts) (sym same) each;
    }
