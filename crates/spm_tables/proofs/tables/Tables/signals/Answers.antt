use Rattle.spm_tables.specs.contracts.tables.Tables.{the_view}
use Rattle.spm_tables.proofs.WordLemmas.{stored}
use Rattle.spm_tables.proofs.tables.Tables.signals.Goals as goal

pub returns : goal.returns
returns c =
    let t = c.self.inside in
    rw (← c.self.view_is) (λ s made. stored (the_view t) s t.board.waiting t.queues.services c.word.result c.args.partition.0 c.self.invariant.0 c.word.ensures.there c.word.ensures.none made)
