use Rattle.std.proofs.Common.{rules, ◌∙◌}
use Rattle.spm_lock.specs.Views.{right_of}
use Rattle.spm_lock.specs.Passes.{front, turns}
use Rattle.spm_lock.proofs.Moves.{draws, looks}
use Rattle.spm_lock.proofs.Turns.{waits_from, misses_from, turn_from}
use Rattle.spm_lock.proofs.turn.seize.Goals as goal

pub fetch_add-ticket-requires : goal.fetch_add-ticket-requires
fetch_add-ticket-requires g c =
    let m = c.args.seat.now.me in
    (c.requires.seat.0, search rules, draws (λ b. b.value) c.args.table.now.shared.key.value c.args.table.now.shared.table_id.slots c.args.seat.now.id m m.0.start (right_of c.args.actor.0 (turns m) (front m)) c.requires.seat.1)

pub loop-init : goal.loop-init
loop-init g c = (c.fetch_add-ticket.ensures.0, waits_from (λ b. b.value) c.args.actor.0 c.args.seat.now.me _ _ c.requires.seat.1 c.fetch_add-ticket.ensures.2)

pub load-served-requires : goal.load-served-requires
load-served-requires g c =
    let m = c.args.seat.now.me in let w = c.loop.invariant.1 in
    (c.loop.invariant.0 ∙ c.requires.seat.0, search rules, looks (λ b. b.value) c.args.table.now.shared.key.value c.args.table.now.shared.table_id.slots c.loop.seat.id c.loop.seat.me m.0.start (right_of c.args.actor.0 (turns m) (front m)) w.number w.seat_is)

pub returns-then-served-ticket-clause-table : goal.returns-then-served-ticket-clause-table
returns-then-served-ticket-clause-table g c = c.load-served.ensures.0 ∙ c.loop.invariant.0

pub returns-then-served-ticket-clause-turn : goal.returns-then-served-ticket-clause-turn
returns-then-served-ticket-clause-turn g c = turn_from (λ b. b.value) c.args.actor.0 c.args.seat.now.me c.loop.seat.me _ _ _ c.loop.invariant.1 c.load-served.ensures.2 c.if-served-ticket.true

pub loop-preserved : goal.loop-preserved
loop-preserved g c = (c.load-served.ensures.0 ∙ c.loop.invariant.0, misses_from (λ b. b.value) c.args.actor.0 c.args.seat.now.me c.loop.seat.me _ _ _ c.loop.invariant.1 c.load-served.ensures.2 c.if-served-ticket.false)
