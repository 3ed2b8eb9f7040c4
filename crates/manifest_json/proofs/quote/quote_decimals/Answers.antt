use Rattle.std.proofs.Common.{arith, ◌∙◌, sym}
use Rattle.std.proofs.lemmas.Bool.Decides.{nat_tests}
use Rattle.manifest_json.proofs.Runs.{piece_step, all_written}
use Rattle.manifest_json.proofs.quote.quote_decimals.Goals as goal

pub loop-rest-preserved : goal.loop-rest-preserved
loop-rest-preserved c =
    rw (c.in_ok-put_run.ensures, c.in_ok-extend_from_slice.ensures.items, c.split_run.ensures.run, c.split_run.ensures.behind, c.split_at.ensures.front, c.split_at.ensures.back)
    (piece_step c.plain_len.result c.loop-rest.rest.now c.loop-rest.out.items _ c.plain_len.ensures.plain c.plain_len.ensures.run c.loop-rest.invariant)

pub returns : goal.returns
returns c = all_written c.loop-rest.rest.now c.loop-rest.out.items _ (let empty = sym c.is_empty.ensures ∙ c.loop-rest-test.false in grind (arith, nat_tests)) c.loop-rest.invariant
