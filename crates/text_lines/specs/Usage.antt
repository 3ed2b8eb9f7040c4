-- The line that says how `ffm` is used.
-- Source: this simulator's.
use Rattle.std.specs.Prelude.{ℕ, List, codes}

unfoldable pub usage_line : List ℕ
usage_line = codes "usage: ffm compile SYSTEM | ffm run [--threads] SYSTEM SCENARIO | ffm replay SYSTEM SCENARIO TRACE | ffm audit SYSTEM SCENARIO TRACE | ffm make N\n"
