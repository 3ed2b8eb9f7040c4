use Rattle.std.proofs.Common.{◌≡◌, ◌<◌, [], length, ap, sym, ◌∙◌, subst, arith}
use Rattle.std.proofs.lemmas.List.{get_or_read}
use Rattle.ffm_model.specs.declared.system.ActorKind.TheVariants as kind
use Rattle.ffm_model.specs.Actors.{actor_count, kind_of}
use Rattle.partition_sim.specs.declared.runner.Runner.{Runner}
use Rattle.partition_sim.specs.ActorPlans.{needs_messages, parts_at}
use Rattle.partition_sim.specs.Driving.{Serves}
use Rattle.partition_sim.proofs.ScheduleLemmas.{new-turns, new-partition, new-push}
use Rattle.partition_sim.proofs.scheduled.new_runners.Goals as goal
use Rattle.partition_sim.proofs.scheduled.new_runners.Goals.{then-holds_messages+in_ok-runner, else-holds_messages}

pub loop-a-preserved : goal.loop-a-preserved
loop-a-preserved c =
    let s = c.args.system.now in
    let scripts = c.args.scripts.now in
    let a = c.loop-a.a in
    let i = c.loop-a.invariant in
    let below : a < actor_count s = omega (arith, c.loop-a-test.true, c.actor_count-count.ensures) in
    let inside : a < length scripts = omega (arith, below, c.requires.count) in
    let script : c.index-scripts-a.result ≡ parts_at scripts a = get_or_read scripts a c.index-scripts-a.result inside c.index-scripts-a.is [] in
    let one : kind_of s a ≡ kind.Partition → length (parts_at scripts a) ≡ 1 = λ is. c.requires.contexts a below (λ client. cc (is, client)) in
    let needs : c.holds_messages.result ≡ needs_messages (kind_of s a) (parts_at scripts a) = rw script at c.holds_messages.ensures in
    let P : Runner → Type 0 = λ r. Serves s scripts a [] r in
    elim c.if-holds_messages.branch [
      | then-holds_messages+in_ok-runner w ↦ rw w.runners-is
          (record {
            made = rw w.push_reserved.ensures.items
                (new-push s scripts a _ _
                (subst P (sym w.in_ok-runner.ensures) (new-partition s scripts a w.new-partition.result one (sym needs ∙ w.if-holds_messages.true) w.new-partition.ensures)) i.made);
            room = omega (arith, i.room, w.push_reserved.ensures.capacity);
          })
      | else-holds_messages w ↦ (
          let long : length (parts_at scripts a) ≡ w.len-contexts.result = sym (w.len-contexts.ensures ∙ ap length (c.script.view_is ∙ script)) in
          rw w.runners-is
          (record {
            made = rw w.push_reserved-else-holds_messages.ensures.items
                (new-push s scripts a _ _
                (subst P (sym w.of_contexts.ensures)
                (new-turns s scripts a w.new.result c.one_context_is_a_script.ensures.call c.scripts_that_map_nothing.ensures.call one (sym needs ∙ w.if-holds_messages.false) (w.new.ensures.follows (parts_at scripts a) long))) i.made);
            room = omega (arith, i.room, w.push_reserved-else-holds_messages.ensures.capacity);
          }))
    ]
