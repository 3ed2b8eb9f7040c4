use Rattle.std.proofs.Common.{arith, ◌<◌, ◌≤◌, ◌∙◌, ap, length, sym, get_or, Vec, Global, List}
use Rattle.std.proofs.lemmas.Result.{err_from_is_err_and}
use Rattle.ffm_model.specs.declared.machine.ActorId.{ActorId}
use Rattle.actor_programs.specs.declared.program.Program.{Program}
use Rattle.actor_programs.specs.Programs.{made_with, next_lines}
use Rattle.ffm_model.proofs.ActorLemmas.{actor_count_le}
use Rattle.actor_programs.proofs.ActorLemmas.{few_in_order}
use Rattle.actor_programs.proofs.MadeLemmas.{made-next, made-wrong, made-end, same_refusal}
use Rattle.actor_programs.proofs.made.made_of.Goals as goal

abbrev no_actor : ActorId
no_actor = record { 0 = 0 }

pub overflow_cast-number : goal.overflow_cast-number
overflow_cast-number c =
    omega (arith, few_in_order c.args.system.now c.args.scenario.now c.requires, actor_count_le c.args.system.now, ap (λ (order : List ActorId). length order) c.as_slice-order.ensures)

pub returns-in_err-make_next-clause-reads : goal.returns-in_err-make_next-clause-reads
returns-in_err-make_next-clause-reads c =
    let p = err_from_is_err_and c.from_residual-in_err-make_next.result c.from_residual-in_err-make_next.ensures.1 in
    let order = c.as_slice-order.result.now in
    let actor = get_or order c.loop-number.number no_actor in
    let made = c.loop-number.made.items in
    let lt : c.loop-number.number < length order = omega arith in
    rw p.1 (same_refusal (λ (u : Unit {0}). c.make_next.new.made.items) (λ (v : Vec (List Program) Global). v.items) p.0 (made_with c.args.system.now c.loop-number.number actor made (next_lines c.args.scenario.now actor made)) _
    (λ stop e. sym c.loop-number.invariant.leads ∙ made-wrong c.args.system.now c.args.scenario.now c.loop-number.number order made stop no_actor lt e)
    (rw (← p.2) at c.in_err-make_next.ensures.reads))

pub loop-number-preserved : goal.loop-number-preserved
loop-number-preserved c =
    let lt : c.loop-number.number < length c.as_slice-order.result.now = omega arith in
    record {
      leads =
          sym (made-next c.args.system.now c.args.scenario.now c.loop-number.number c.as_slice-order.result.now c.loop-number.made.items c.make_next.new.made.items no_actor lt c.in_ok-make_next.ensures.reads)
          ∙ c.loop-number.invariant.leads;
      each = c.in_ok-make_next.ensures.each;
      long = c.in_ok-make_next.ensures.long;
    }

pub returns-clause-reads : goal.returns-clause-reads
returns-clause-reads c =
    let all : length c.as_slice-order.result.now ≤ c.loop-number.number = omega arith in
    sym c.loop-number.invariant.leads ∙ made-end c.args.system.now c.args.scenario.now c.loop-number.number c.as_slice-order.result.now c.loop-number.made.items all
