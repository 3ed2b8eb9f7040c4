use Rattle.ffm_model.specs.Listing.{partition_line}
use Rattle.system_texts.proofs.LineLemmas.{line_joined}
use Rattle.system_texts.proofs.lines.append_partition.Goals as goal

pub returns : goal.returns
unfolding partition_line
returns c =
    line_joined _ _ _ _ _ _ _ _ c.in_ok-append.ensures c.in_ok-append_partition_words.ensures c.in_ok-append_range.ensures c.in_ok-append-2.ensures
