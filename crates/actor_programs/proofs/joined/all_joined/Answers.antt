use Rattle.std.proofs.Common.{arith, ◌≡◌, ◌++◌, ◌∷◌, [], ◌∙◌, List, append_assoc, length, length-append, rules, sym, ap}
use Rattle.ffm_model.proofs.ActorLemmas.{actor_count_le}
use Rattle.actor_programs.specs.declared.program.Program.{Program}
use Rattle.actor_programs.specs.Programs.{Made, all_joined}
use Rattle.actor_programs.proofs.ProgramLemmas.{joined_long, joined-more, own-kept}
use Rattle.actor_programs.proofs.joined.all_joined.Goals as goal

pub overflow_cast-actor : goal.overflow_cast-actor
overflow_cast-actor c =
    let i = c.loop-own.invariant in
    let all = sym (length-append c.loop-own.yielded c.loop-own.own-iterator.rest.items) ∙ ap length i.made in
    let counted = ap length i.all ∙ joined_long c.args.system.now c.loop-own.yielded in
    omega (arith, c.len.ensures, counted, all, c.requires.long, actor_count_le c.args.system.now)

pub joined-requires-clause-each : goal.joined-requires-clause-each
joined-requires-clause-each c =
    let i = c.loop-own.invariant in
    let whole = ap (λ (t : Made). c.loop-own.yielded ++ t) (sym c.in-Some.ensures.steps.0) ∙ i.made in
    let counted : c.len.result ≡ length c.loop-own.programs.items = search rules in
    let here = counted ∙ (ap length i.all ∙ joined_long c.args.system.now c.loop-own.yielded) in
    (own-kept c.args.system.now c.args.made.items c.loop-own.yielded c.next.new.self.rest.items c.in-Some.own c.len.result c.requires.each whole here).0

pub joined-requires-clause-few : goal.joined-requires-clause-few
joined-requires-clause-few c =
    let i = c.loop-own.invariant in
    let whole = ap (λ (t : Made). c.loop-own.yielded ++ t) (sym c.in-Some.ensures.steps.0) ∙ i.made in
    let counted : c.len.result ≡ length c.loop-own.programs.items = search rules in
    let here = counted ∙ (ap length i.all ∙ joined_long c.args.system.now c.loop-own.yielded) in
    (own-kept c.args.system.now c.args.made.items c.loop-own.yielded c.next.new.self.rest.items c.in-Some.own c.len.result c.requires.each whole here).1

pub loop-own-preserved : goal.loop-own-preserved
loop-own-preserved c =
    let i = c.loop-own.invariant in
    let whole = ap (λ (t : Made). c.loop-own.yielded ++ t) (sym c.in-Some.ensures.steps.0) ∙ i.made in
    let counted : c.len.result ≡ length c.loop-own.programs.items = search rules in
    let here = counted ∙ (ap length i.all ∙ joined_long c.args.system.now c.loop-own.yielded) in
    record {
      made = append_assoc c.loop-own.yielded (c.in-Some.own ∷ []) c.next.new.self.rest.items ∙ whole;
      all = c.in_ok-push.ensures.items
          ∙ (ap (λ (ps : List Program). ps ++ c.in_ok-joined.field-0 ∷ []) i.all
          ∙ (ap (λ (p : Program). all_joined c.args.system.now c.loop-own.yielded ++ p ∷ []) c.in_ok-joined.ensures
          ∙ sym (joined-more c.args.system.now c.loop-own.yielded c.in-Some.own c.len.result here)));
    }
