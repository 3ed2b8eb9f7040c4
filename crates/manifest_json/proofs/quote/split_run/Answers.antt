use Rattle.std.proofs.lemmas.List.Sums.{prefix_len-le-length}
use Rattle.ffm_model.specs.Quote.{is_run_byte}
use Rattle.manifest_json.proofs.quote.split_run.Goals as goal

pub split_at-requires : goal.split_at-requires
split_at-requires c = rw c.run_len.ensures (prefix_len-le-length is_run_byte c.args.bytes.now)
