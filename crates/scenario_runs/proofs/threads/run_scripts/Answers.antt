use Rattle.std.proofs.Common.{ℕ, ◌≡◌, ◌≤◌, ◌∙◌, ap, sym, subst}
use Rattle.ffm_model.specs.declared.system.System.{System}
use Rattle.ffm_model.specs.Actors.{actor_count}
use Rattle.scenario_runs.specs.Threads.{StartsFrom}
use Rattle.scenario_runs.proofs.Crews.{new_unused, crewed_new, driven_passes, starts_each, starts_long}
use Rattle.scenario_runs.proofs.Threaded.{gave_back, has_ended, no_none, ran_with_threads}
use Rattle.scenario_runs.proofs.threads.run_scripts.Goals as goal

pub crews_of-requires-clause-passes : goal.crews_of-requires-clause-passes
crews_of-requires-clause-passes g c = new_unused c.in_ok-shared.shared c.in_ok-shared.passes c.in_ok-shared.ensures.passes c.in_ok-shared.ensures.fresh

pub crews_of-requires-clause-count : goal.crews_of-requires-clause-count
crews_of-requires-clause-count g c =
    let made : c.in_ok-shared.shared.opening.system ≡ c.args.system = ap (λ o. o.system) c.in_ok-shared.ensures.opening ∙ ap (λ m. m.opening.system) c.in_ok-spm.ensures in
    c.in_ok-shared.ensures.passes.all ∙ (ap actor_count made ∙ (sym c.requires.scripts ∙ sym (starts_long c.args.system 0 c.args.scripts c.in_ok-begins.begins c.in_ok-begins.ensures)))

pub crews_of-requires-clause-starts : goal.crews_of-requires-clause-starts
crews_of-requires-clause-starts g c = starts_each c.args.system 0 c.args.scripts c.in_ok-begins.begins c.in_ok-begins.ensures

pub drive_crews-requires-after_bounds : goal.drive_crews-requires-after_bounds
drive_crews-requires-after_bounds g c κs within = crewed_new c.in_ok-shared.shared c.in_ok-shared.passes c.in_ok-begins.begins c.in_ok-crews.crews.items c.in_ok-crews.ensures

pub finish-spm-requires : goal.finish-spm-requires
finish-spm-requires g c =
    driven_passes c.in_ok-shared.shared c.in_ok-shared.passes c.in_ok-passes.passes c.in_ok-begins.begins c.in_ok-crews.crews.items c.in_ok-shared.ensures.passes c.in_ok-crews.ensures c.in_ok-passes.ensures

pub unreachable-requires : goal.unreachable-requires
unreachable-requires g c =
    let y = c.finish-spm.result in
    let f = c.finish-spm.ensures in
    let made : c.in_ok-shared.shared.opening.system ≡ c.args.system = ap (λ o. o.system) c.in_ok-shared.ensures.opening ∙ ap (λ m. m.opening.system) c.in_ok-spm.ensures in
    let starts = subst (λ (s : System). StartsFrom s 0 c.args.scripts c.in_ok-begins.begins) (sym made) c.in_ok-begins.ensures in
    let back = gave_back c.in_ok-shared.shared c.in_ok-shared.passes c.in_ok-passes.passes c.args.scripts c.in_ok-begins.begins c.in_ok-crews.crews.items y c.in_ok-shared.ensures.passes starts c.in_ok-crews.ensures c.in_ok-passes.ensures f.opening f.run f.fronts (subst (λ (n : ℕ). n ≤ y.opening.limit) c.length-length.ensures.exact c.length-length.ensures.within) in
    no_none y.opening y.history c.verdict.result (has_ended c.in_ok-shared.shared c.args.scripts y back) c.verdict.ensures c.in-None.is

pub returns-clause-ran : goal.returns-clause-ran
returns-clause-ran g c =
    let y = c.finish-spm.result in
    let f = c.finish-spm.ensures in
    let made : c.in_ok-shared.shared.opening.system ≡ c.args.system = ap (λ o. o.system) c.in_ok-shared.ensures.opening ∙ ap (λ m. m.opening.system) c.in_ok-spm.ensures in
    let starts = subst (λ (s : System). StartsFrom s 0 c.args.scripts c.in_ok-begins.begins) (sym made) c.in_ok-begins.ensures in
    let back = gave_back c.in_ok-shared.shared c.in_ok-shared.passes c.in_ok-passes.passes c.args.scripts c.in_ok-begins.begins c.in_ok-crews.crews.items y c.in_ok-shared.ensures.passes starts c.in_ok-crews.ensures c.in_ok-passes.ensures f.opening f.run f.fronts (subst (λ (n : ℕ). n ≤ y.opening.limit) c.length-length.ensures.exact c.length-length.ensures.within) in
    ran_with_threads c.args.system c.in_ok-image.image c.args.scenario.now c.args.scripts c.in_ok-shared.shared y c.in-Some.verdict (c.in_ok-shared.ensures.opening ∙ ap (λ m. m.opening) c.in_ok-spm.ensures) c.in_ok-image.ensures.bytes back
    c.length-length.ensures.named (sym c.verdict.ensures ∙ c.in-Some.is)
