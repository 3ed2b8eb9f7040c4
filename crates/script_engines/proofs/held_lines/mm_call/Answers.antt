use Rattle.std.proofs.Common.{◌∙◌, inl, inr}
use Rattle.script_engines.proofs.HeldLemmas.{unmap-in-call, map-out-call}
use Rattle.script_engines.proofs.held_lines.mm_call.Goals as goal

pub returns-in-UnmapIn-clause-call : goal.returns-in-UnmapIn-clause-call
returns-in-UnmapIn-clause-call c = λ x e. elim c.in-UnmapIn.is [
  | inl q ↦ rw q.2 (rw q.2 at c.end_unless_fault.ensures ∙ unmap-in-call c.args.held.now.holder x c.args.held.now.table q.0 q.1 e)
  | inr q ↦ rw q.2 (rw q.2 at c.end_unless_fault.ensures ∙ map-out-call c.args.held.now.holder x c.args.held.now.table q.0 q.1 e)
]
