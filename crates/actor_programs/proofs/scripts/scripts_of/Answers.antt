use Rattle.std.proofs.Common.{◌∷◌, [], ◌++◌, ◌∙◌, append_assoc, length, length-append, ap, sym, subst, arith, rules}
use Rattle.actor_programs.specs.Programs.{AreScriptsOf}
use Rattle.ffm_model.proofs.ActorLemmas.{actor_count_le}
use Rattle.actor_programs.proofs.ProgramLemmas.{scripts-more}
use Rattle.actor_programs.proofs.scripts.scripts_of.Goals as goal
use Rattle.law_lists.proofs.Lists.{append_none}

pub overflow_cast-actor : goal.overflow_cast-actor
overflow_cast-actor c =
    let i = c.loop-program.invariant in
    let all = sym (length-append c.loop-program.yielded c.loop-program.program-iterator.rest.items) ∙ ap length i.left in
    omega (arith, c.len-actor.ensures, i.made.long, all, c.requires, actor_count_le c.args.system.now)

pub loop-program-preserved : goal.loop-program-preserved
loop-program-preserved c =
    let i = c.loop-program.invariant in
    let next = c.in-Some.ensures.steps.0 in
    let items = c.push_reserved.ensures.items in
    let long = ap length items ∙ length-append c.loop-program.scripts.items (c.in_ok-script_of.field-0 ∷ []) in
    let fewer = ap length next in
    record {
      made = subst (AreScriptsOf c.args.system.now (c.loop-program.yielded ++ c.in-Some.program ∷ [])) (sym items) (scripts-more c.args.system.now c.loop-program.yielded c.loop-program.scripts.items c.in-Some.program c.in_ok-script_of.field-0 c.len-actor.result (search rules) i.made c.in_ok-script_of.ensures);
      left = append_assoc c.loop-program.yielded (c.in-Some.program ∷ []) c.next.new.self.rest.items ∙ (ap (λ t. c.loop-program.yielded ++ t) (sym next) ∙ i.left);
      room = omega (arith, long, fewer, i.room, c.push_reserved.ensures.capacity);
    }

pub returns : goal.returns
returns c =
    let i = c.loop-program.invariant in
    let none_left = let r = c.loop-program.program-iterator.rest in sym r.ok.0 ∙ c.in-None.ensures.steps.0 in
    let all = append_none c.loop-program.yielded c.loop-program.program-iterator.rest.items c.args.programs i.left none_left in
    subst (λ ps. AreScriptsOf c.args.system.now ps c.of.result) all (subst (AreScriptsOf c.args.system.now c.loop-program.yielded) (sym c.of.ensures) i.made)
