use Rattle.std.proofs.Common.{[], ◌∷◌}
use Rattle.ffm_model.specs.Listing.{handling_words, source_line}
use Rattle.ffm_model.specs.TraceText.{hexadecimal_word}
use Rattle.system_texts.proofs.LineLemmas.{line_joined}
use Rattle.system_texts.proofs.lines.append_source.Goals as goal

pub returns : goal.returns
unfolding source_line
returns c =
    let v = c.args.source.now in
    line_joined _ _ _ _ _ _ (v.name ∷ v.signal_name ∷ hexadecimal_word v.signal ∷ []) (handling_words v) c.in_ok-append.ensures c.in_ok-append_source_words.ensures c.in_ok-append_handling.ensures c.in_ok-append-2.ensures
