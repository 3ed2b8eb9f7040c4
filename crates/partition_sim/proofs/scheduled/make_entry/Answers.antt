use Rattle.partition_sim.proofs.TurnLemmas.{call-is-due, follows-in, parts-long, asked-in, driving-still, driving-step, passed-gone, passed-not_yet, over-over, over-full, made-one}
use Rattle.partition_sim.proofs.scheduled.make_entry.Goals as goal

pub next-call-requires : goal.next-call-requires
next-call-requires c =
    parts-long _ _ _ _ (follows-in _ _ _ _ _ _ _ c.requires.exists c.requires.driving c.index-scripts-at.is)

pub step-requires-clause-due : goal.step-requires-clause-due
step-requires-clause-due c =
    call-is-due c.args.scripts.now c.args.spm.now.opening _ _ _ _ c.plans_resume_after_blocked.ensures.held c.plans_resume_after_blocked.ensures.contexts (asked-in _ _ _ _ _ _ _ _ _ c.requires.exists c.requires.driving c.index-scripts-at.is c.next-call.ensures.call c.next-call.ensures.asked)

pub returns-in-Made-clause-driving : goal.returns-in-Made-clause-driving
returns-in-Made-clause-driving c =
    let n = asked-in _ _ _ _ _ _ _ _ _ c.requires.exists c.requires.driving c.index-scripts-at.is c.next-call.ensures.call c.next-call.ensures.asked in
    driving-step _ _ _ _ _ _ _ _ _ _ _ c.requires.exists c.requires.driving n c.in-Made.ensures.answer (c.after.ensures.follows _ _ _ n.asked)

pub returns-in-Made-clause-turned : goal.returns-in-Made-clause-turned
returns-in-Made-clause-turned c = (c.in-Made.entry, made-one _ _ _ _ _ _ _ c.in-Made.ensures.answer)

pub returns-in-Gone-clause-driving : goal.returns-in-Gone-clause-driving
returns-in-Gone-clause-driving c =
    let n = asked-in _ _ _ _ _ _ _ _ _ c.requires.exists c.requires.driving c.index-scripts-at.is c.next-call.ensures.call c.next-call.ensures.asked in
    driving-still _ _ _ _ _ _ _ _ c.requires.exists c.requires.driving n c.in-Gone.ensures.answer.unchanged

pub returns-in-Gone-clause-turned : goal.returns-in-Gone-clause-turned
returns-in-Gone-clause-turned c = passed-gone _ _ _ _ c.in-Gone.ensures.answer

pub returns-in-NotYet-clause-driving : goal.returns-in-NotYet-clause-driving
returns-in-NotYet-clause-driving c =
    let n = asked-in _ _ _ _ _ _ _ _ _ c.requires.exists c.requires.driving c.index-scripts-at.is c.next-call.ensures.call c.next-call.ensures.asked in
    driving-still _ _ _ _ _ _ _ _ c.requires.exists c.requires.driving n c.in-NotYet.ensures.answer.unchanged

pub returns-in-NotYet-clause-turned : goal.returns-in-NotYet-clause-turned
returns-in-NotYet-clause-turned c = passed-not_yet _ _ _ _ c.in-NotYet.ensures.answer

pub returns-in-Over-clause-driving : goal.returns-in-Over-clause-driving
returns-in-Over-clause-driving c =
    let n = asked-in _ _ _ _ _ _ _ _ _ c.requires.exists c.requires.driving c.index-scripts-at.is c.next-call.ensures.call c.next-call.ensures.asked in
    driving-still _ _ _ _ _ _ _ _ c.requires.exists c.requires.driving n c.in-Over.ensures.answer.unchanged

pub returns-in-Over-clause-turned : goal.returns-in-Over-clause-turned
returns-in-Over-clause-turned c = over-over _ _ _ _ c.in-Over.ensures.answer

pub returns-in-Full-clause-driving : goal.returns-in-Full-clause-driving
returns-in-Full-clause-driving c =
    let n = asked-in _ _ _ _ _ _ _ _ _ c.requires.exists c.requires.driving c.index-scripts-at.is c.next-call.ensures.call c.next-call.ensures.asked in
    driving-still _ _ _ _ _ _ _ _ c.requires.exists c.requires.driving n c.in-Full.ensures.answer.unchanged

pub returns-in-Full-clause-turned : goal.returns-in-Full-clause-turned
returns-in-Full-clause-turned c = over-full _ _ _ _ c.requires.short c.in-Full.ensures.answer
