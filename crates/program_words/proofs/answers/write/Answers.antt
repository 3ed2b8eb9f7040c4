use Rattle.std.proofs.lemmas.Result.{err_from_is_err_and}
use Rattle.outside_io.proofs.SinkSteps.{hands_cut, hands_flushed}
use Rattle.program_words.proofs.answers.write.Goals as goal

pub returns-in_err-put_all : goal.returns-in_err-put_all
returns-in_err-put_all g c =
    let p = err_from_is_err_and c.from_residual.result c.from_residual.ensures.1 in
    rw p.1 (hands_cut _ _ _ c.in_err-put_all.ensures.writes)

pub returns : goal.returns
returns g c = hands_flushed _ _ _ c.flush.result _ c.in_ok-put_all.ensures.writes c.flush.ensures
