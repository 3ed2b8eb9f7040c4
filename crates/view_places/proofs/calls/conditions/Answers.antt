use Rattle.std.proofs.Common.{◌≡◌, true, map}
use Rattle.ffm_model.specs.declared.groups.Group.TheVariants as group
use Rattle.ffm_model.specs.Actors.{kind_of}
use Rattle.ffm_model.specs.Calls.{has_call}
use Rattle.ffm_model.specs.Groups.{group_of}
use Rattle.machine_calls.specs.Machine.{state_of}
use Rattle.view_places.specs.Conditions.{told}
use Rattle.view_places.proofs.Saying.{group_says}
use Rattle.view_places.proofs.calls.conditions.Goals as goal

pub returns-in-Client-clause-say : goal.returns-in-Client-clause-say
returns-in-Client-clause-say c = λ there given.
    let kind = c.actor_kind.ensures in
    let asked = c.has_call.ensures in
    let yes = c.if-not-has_call.false in
    let has : has_call (kind_of c.args.system.now c.args.actor.0) c.args.call ≡ true = cc in
    let which = c.group_of.ensures in
    let is = c.in-Client.is in
    let in_group : group_of c.args.call ≡ group.Client = cc in
    group_says c.args.system.now (state_of c.args.machine.now given) c.args.actor.0 c.args.call group.Client (λ v. map told v.items) c.client_conditions.result has in_group c.client_conditions.ensures
