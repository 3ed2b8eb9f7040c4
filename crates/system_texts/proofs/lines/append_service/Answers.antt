use Rattle.ffm_model.specs.Listing.{service_line}
use Rattle.system_texts.proofs.LineLemmas.{line_joined}
use Rattle.system_texts.proofs.lines.append_service.Goals as goal

pub returns : goal.returns
unfolding service_line
returns c =
    line_joined _ _ _ _ _ _ _ _ c.in_ok-append.ensures c.in_ok-append_service_words.ensures c.in_ok-append_handle.ensures c.in_ok-append-2.ensures
