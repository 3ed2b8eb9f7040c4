use Rattle.std.proofs.Common.{◌≡◌, ap, sym, ◌∙◌, [], inl, inr, subst}
use Rattle.ffm_model.specs.declared.system.ActorKind.{ActorKind}
use Rattle.ffm_model.specs.Held.{Holder, holder_of}
use Rattle.partition_sim.specs.declared.runner.Runner.TheVariants as runner
use Rattle.partition_sim.specs.ActorPlans.{Role, role_at, role_of_kind}
use Rattle.partition_sim.specs.ActorPlans.Role.{holds, takes_turns}
use Rattle.partition_sim.specs.Standing.{Follows}
use Rattle.partition_sim.proofs.runner.Runner.new.Goals as goal

pub returns-in-Partition-clause-role : goal.returns-in-Partition-clause-role
returns-in-Partition-clause-role c =
    ap holds (c.new.ensures []).holder_is ∙ ap (λ (k : ActorKind). role_of_kind k (holder_of c.args.system.now c.args.actor.0)) (sym (sym c.actor_kind.ensures ∙ c.in-Partition.is))

pub returns-in-Client : goal.returns-in-Client
returns-in-Client c =
    let holder : Holder = holder_of c.args.system.now c.args.actor.0 in
    let at : takes_turns ≡ role_of_kind c.actor_kind.result holder = elim c.in-Client.is [
      | inl client ↦ ap (λ (k : ActorKind). role_of_kind k holder) (sym client)
      | inr device ↦ ap (λ (k : ActorKind). role_of_kind k holder) (sym device)
    ] in
    let role : takes_turns ≡ role_at c.args.system.now c.args.actor.0 = at ∙ ap (λ (k : ActorKind). role_of_kind k holder) c.actor_kind.ensures in
    record {
      role = role;
      contexts = c.new-in-Client.ensures.count;
      follows = λ parts long. subst (λ (r : Role). Follows r parts [] (runner.Client c.new-in-Client.result)) role (c.new-in-Client.ensures.follows parts long);
    }
