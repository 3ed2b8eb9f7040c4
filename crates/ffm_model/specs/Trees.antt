-- The JSON tree that a file's bytes spell: none where they aren't UTF-8, are no JSON text, or nest deeper than 127.
-- Source: JSON as the crate serde_json defines it.
use Rattle.std.specs.Prelude.{ℕ, List, Option, None, if◌then◌else◌}
use Rattle.std.specs.Str.{is_utf8}
use Rattle.serde_json.specs.Data.{Data}
use Rattle.serde_json.specs.Read.{read}
use Rattle.ffm_model.specs.Quote.{quote}

-- with decimals read as texts
unfoldable pub tree_of : List ℕ → Option Data
tree_of bytes = if is_utf8 (quote bytes) then read (quote bytes) else None
