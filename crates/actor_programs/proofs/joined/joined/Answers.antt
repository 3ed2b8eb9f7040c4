use Rattle.std.proofs.Common.{arith, ◌≡◌, ◌<◌, ◌∙◌, length, map, sym, ap, subst}
use Rattle.std.specs.List.{AllByRecursion, flat_map}
use Rattle.actor_programs.specs.declared.program.Program.TheVariants.{Plain}
use Rattle.actor_programs.specs.Programs.{Parts, parts_of}
use Rattle.actor_programs.proofs.ActorLemmas.{several}
use Rattle.actor_programs.proofs.ProgramLemmas.{plain-each, parts-each, parts-joined, joined-many}
use Rattle.actor_programs.proofs.joined.joined.Goals as goal

pub join-requires-clause-plain : goal.join-requires-clause-plain
join-requires-clause-plain c =
    let is = c.into_vec-own.ensures in
    let same = ap length is in
    let many : 1 < length c.args.own = omega (arith, c.len.ensures, same) in
    let plain = several c.args.system.now c.args.actor.0 (omega (arith, many, c.requires.few)) in
    subst (AllByRecursion (λ (x : Parts). length x ≡ 1)) (sym (c.in_ok-scripts.ensures ∙ ap (map parts_of) is))
    (parts-each c.args.own (plain-each c.args.system.now c.args.actor.0 c.args.own plain c.requires.each))

pub returns-then-len-gt1 : goal.returns-then-len-gt1
returns-then-len-gt1 c =
    let is = c.into_vec-own.ensures in
    let same = ap length is in
    let many : 1 < length c.args.own = omega (arith, c.len.ensures, same) in
    ap Plain (c.in_ok-join.ensures ∙ (ap (flat_map (λ (x : Parts). x)) (c.in_ok-scripts.ensures ∙ ap (map parts_of) is) ∙ parts-joined c.args.own))
    ∙ joined-many c.args.system.now c.args.actor.0 c.args.own many
