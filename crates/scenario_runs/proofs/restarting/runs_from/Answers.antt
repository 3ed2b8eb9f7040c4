use Rattle.std.proofs.Common.{◌≡◌, ◌∙◌, ◌++◌, ◌∷◌, ◌-◌, ◌&&◌, [], ap, false, List, map, refl, subst, sym, true, Bool}
use Rattle.std.specs.Prelude.{is_some, nat_lt}
use Rattle.std.specs.List.{list_all}
use Rattle.ffm_model.specs.declared.system.System.{System}
use Rattle.ffm_model.specs.declared.trace.Trace.{Trace}
use Rattle.ffm_model.specs.Actors.{counts_of}
use Rattle.ffm_model.specs.Memory.{ByteMap, opening_memory}
use Rattle.ffm_model.specs.Restarts.{RunsFrom, ends_panicked, memory_after, memory_reset}
use Rattle.ffm_model.specs.Ranges.{ranges_of}
use Rattle.law_lists.proofs.Options.{if-some}
use Rattle.memory_image.specs.Pieces.{byte_at}
use Rattle.actor_programs.specs.declared.program.Program.TheVariants.{Plain}
use Rattle.spm_core.specs.Manager.{Opening}
use Rattle.scenario_runs.specs.Restarting.{finished, fits_counts}
use Rattle.scenario_runs.specs.Runs.{RanBy}
use Rattle.scenario_runs.proofs.Programs.{opening_of}
use Rattle.scenario_runs.proofs.RunsLemmas.{LeadsOn, RunOf, again_is, leads_first, leads_on, leads_to, traces_fit}
use Rattle.scenario_runs.proofs.restarting.runs_from.Goals as goal

pub loop-traces-init : goal.loop-traces-init
loop-traces-init c =
    record {
      system = refl;
      regions = c.requires.regions;
      leads = subst (λ (ts : List Trace). LeadsOn c.args.system c.args.scenario.now c.args.scripts.now (byte_at c.args.first.now) (byte_at c.args.memory) c.args.scenario.now.restarts ts) (sym c.new-traces.ensures.items)
          (leads_first c.args.system c.args.scenario.now c.args.scripts.now (byte_at c.args.first.now) (byte_at c.args.memory) (ap byte_at c.requires.same));
    }

pub loop-traces-preserved : goal.loop-traces-preserved
loop-traces-preserved c =
    let s = c.args.system in
    let scenario = c.args.scenario.now in
    let scripts = c.args.scripts.now in
    let first : ByteMap = byte_at c.args.first.now in
    let memory = c.loop-traces.memory in
    let y = c.in_ok-ran.ran.spm in
    let t : Trace = record { entries = y.history; verdict = c.in_ok-ran.ran.verdict } in
    let o : Opening = opening_of s memory scenario.limit in
    let opening : y.opening ≡ o = c.in_ok-ran.ensures.opening ∙ ap (λ (x : System). opening_of x memory scenario.limit) c.loop-traces.invariant.system in
    let ran : RunOf s scenario scripts (byte_at memory) (finished t) = subst (λ (x : System). RanBy x (byte_at memory) scenario (map Plain scripts) false t.entries t.verdict) c.loop-traces.invariant.system c.in_ok-ran.ensures.ran in
    let more : (nat_lt 0 c.loop-traces.left && ends_panicked s (byte_at memory) (finished t)) ≡ true =
    ap (λ (b : Bool). nat_lt 0 c.loop-traces.left && b) (sym (again_is y o t.verdict opening ran.verdict)) ∙ sym c.in_ok-next.ensures.again ∙ ap is_some c.in-Some.is in
    let next : byte_at c.in-Some.image ≡ memory_reset s first (memory_after s (byte_at memory) t.entries) =
    if-some c.in_ok-next.next c.in-Some.image _ c.in-Some.is c.in_ok-next.ensures.bytes ∙ ap (λ (p : Opening). memory_reset p.system first (memory_after p.system (byte_at p.memory) y.history)) opening in
    let items : c.push.new.self.items ≡ c.loop-traces.traces.items ++ t ∷ [] = c.in_ok-push.ensures.items ∙ ap (λ (x : Trace). c.loop-traces.traces.items ++ x ∷ []) c.kept-same_system.ensures.trace in
    record {
      system = c.kept-same_system.ensures.system ∙ ap (λ (p : Opening). p.system) opening;
      regions = if-some c.in_ok-next.next c.in-Some.image _ c.in-Some.is c.in_ok-next.ensures.regions ∙ ap (λ (p : Opening). ranges_of p.system.regions) opening;
      leads = subst (λ (ts : List Trace). LeadsOn s scenario scripts first (byte_at c.in-Some.image) (c.loop-traces.left - 1) ts) (sym items)
          (leads_on s scenario scripts first (byte_at memory) (byte_at c.in-Some.image) c.loop-traces.left c.loop-traces.traces.items t c.loop-traces.invariant.leads ran more next);
    }

pub returns-in_default-clause-ran : goal.returns-in_default-clause-ran
returns-in_default-clause-ran c =
    let s = c.args.system in
    let scenario = c.args.scenario.now in
    let scripts = c.args.scripts.now in
    let first : ByteMap = byte_at c.args.first.now in
    let memory = c.loop-traces.memory in
    let y = c.in_ok-ran.ran.spm in
    let t : Trace = record { entries = y.history; verdict = c.in_ok-ran.ran.verdict } in
    let o : Opening = opening_of s memory scenario.limit in
    let opening : y.opening ≡ o = c.in_ok-ran.ensures.opening ∙ ap (λ (x : System). opening_of x memory scenario.limit) c.loop-traces.invariant.system in
    let ran : RunOf s scenario scripts (byte_at memory) (finished t) = subst (λ (x : System). RanBy x (byte_at memory) scenario (map Plain scripts) false t.entries t.verdict) c.loop-traces.invariant.system c.in_ok-ran.ensures.ran in
    let last : (nat_lt 0 c.loop-traces.left && ends_panicked s (byte_at memory) (finished t)) ≡ false =
    ap (λ (b : Bool). nat_lt 0 c.loop-traces.left && b) (sym (again_is y o t.verdict opening ran.verdict)) ∙ sym c.in_ok-next.ensures.again ∙ ap is_some c.in_default.is in
    let items : c.push.new.self.items ≡ c.loop-traces.traces.items ++ t ∷ [] = c.in_ok-push.ensures.items ∙ ap (λ (x : Trace). c.loop-traces.traces.items ++ x ∷ []) c.kept-same_system.ensures.trace in
    let all : RunsFrom s (RunOf s scenario scripts) first first scenario.restarts (map finished c.push.new.self.items) =
    subst (λ (ts : List Trace). RunsFrom s (RunOf s scenario scripts) first first scenario.restarts (map finished ts)) (sym items)
    (leads_to s scenario scripts first (byte_at memory) c.loop-traces.left c.loop-traces.traces.items t c.loop-traces.invariant.leads ran last) in
    let begins : first ≡ opening_memory scenario.memory = ap byte_at (sym c.requires.same) ∙ c.requires.opening in
    subst (λ (m : ByteMap). RunsFrom s (RunOf s scenario scripts) m m scenario.restarts (map finished c.push.new.self.items)) begins all

pub invariant_of-result : goal.invariant_of-result
invariant_of-result c =
    let s = c.args.system in
    let scenario = c.args.scenario.now in
    let scripts = c.args.scripts.now in
    let first : ByteMap = byte_at c.args.first.now in
    let memory = c.loop-traces.memory in
    let y = c.in_ok-ran.ran.spm in
    let t : Trace = record { entries = y.history; verdict = c.in_ok-ran.ran.verdict } in
    let o : Opening = opening_of s memory scenario.limit in
    let opening : y.opening ≡ o = c.in_ok-ran.ensures.opening ∙ ap (λ (x : System). opening_of x memory scenario.limit) c.loop-traces.invariant.system in
    let ran : RunOf s scenario scripts (byte_at memory) (finished t) = subst (λ (x : System). RanBy x (byte_at memory) scenario (map Plain scripts) false t.entries t.verdict) c.loop-traces.invariant.system c.in_ok-ran.ensures.ran in
    let last : (nat_lt 0 c.loop-traces.left && ends_panicked s (byte_at memory) (finished t)) ≡ false =
    ap (λ (b : Bool). nat_lt 0 c.loop-traces.left && b) (sym (again_is y o t.verdict opening ran.verdict)) ∙ sym c.in_ok-next.ensures.again ∙ ap is_some c.in_default.is in
    let items : c.push.new.self.items ≡ c.loop-traces.traces.items ++ t ∷ [] = c.in_ok-push.ensures.items ∙ ap (λ (x : Trace). c.loop-traces.traces.items ++ x ∷ []) c.kept-same_system.ensures.trace in
    let all : RunsFrom s (RunOf s scenario scripts) first first scenario.restarts (map finished c.push.new.self.items) =
    subst (λ (ts : List Trace). RunsFrom s (RunOf s scenario scripts) first first scenario.restarts (map finished ts)) (sym items)
    (leads_to s scenario scripts first (byte_at memory) c.loop-traces.left c.loop-traces.traces.items t c.loop-traces.invariant.leads ran last) in
    let system : c.kept-same_system.result.0 ≡ s = c.kept-same_system.ensures.system ∙ ap (λ (p : Opening). p.system) opening in
    record {
      fit = subst (λ (x : System). list_all (fits_counts (counts_of x)) c.push.new.self.items ≡ true) (sym system) (traces_fit s first scenario (map Plain scripts) false c.push.new.self.items first scenario.restarts c.requires.scenario.limit_end all);
    }
