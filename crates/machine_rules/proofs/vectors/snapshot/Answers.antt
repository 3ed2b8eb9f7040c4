use Rattle.std.proofs.Common.{arith, sym, ◌∙◌}
use Rattle.memory_image.proofs.Systems.{buffer_inside}
use Rattle.machine_rules.proofs.Moved.{read_within}
use Rattle.machine_rules.proofs.vectors.snapshot.Goals as goal

pub vectors_read-input-requires-clause-inside : goal.vectors_read-input-requires-clause-inside
vectors_read-input-requires-clause-inside c =
    rw c.requires (buffer_inside c.args.system.now c.args.actor.0 c.args.in_vec _ (sym c.valid_buffer.ensures ∙ c.if-not-valid_buffer.false))

pub vectors_read-output-requires-clause-inside : goal.vectors_read-output-requires-clause-inside
vectors_read-output-requires-clause-inside c =
    rw c.requires (buffer_inside c.args.system.now c.args.actor.0 c.args.out_vec _ (sym c.valid_buffer-2.ensures ∙ c.if-not-valid_buffer-2.false))

pub returns-then-are_valid-2-clause-within : goal.returns-then-are_valid-2-clause-within
returns-then-are_valid-2-clause-within c =
    rw c.requires
    (read_within c.args.system.now _ c.args.actor.0 _ _ _ _ _ _ (grind arith) (sym c.valid_buffer-2.ensures ∙ c.if-not-valid_buffer-2.false) c.vectors_read-input.ensures c.vectors_read-output.ensures
    (sym c.are_valid.ensures ∙ c.if-are_valid.true) (sym c.are_valid-then-are_valid.ensures ∙ c.if-are_valid-2.true))
