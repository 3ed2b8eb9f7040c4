use Rattle.std.proofs.Common.{◌≡◌, drop, map}
use Rattle.view_places.specs.StateText.{source_words}
use Rattle.view_texts.specs.Columns.{widest}
use Rattle.view_places.proofs.state.source_width.Given as goal

-- the width so far, and then that of the others
abbrev pub invariant-loop-source : goal.invariant-loop-source
invariant-loop-source l = widest l.width (map (source_words l.system) (drop l.source-index l.sources)) ≡ widest 0 (map (source_words l.system) l.sources)
