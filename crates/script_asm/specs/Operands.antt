-- A call line has room for six operands, and a line of a mapped vector for three.
-- Source: this simulator's script language.
use Rattle.std.specs.Prelude.{◌≤◌, nat_le, Bool, true}
use Rattle.script_asm.specs.declared.first_words.Head.{Head}
use Rattle.script_asm.specs.declared.first_words.Head.TheVariants.{Change, Jump, JumpIf, Make, Map}

abbrev pub has_room : Head → Bool
has_room (Make name count) = nat_le count 6
has_room (Map name count) = nat_le count 3
has_room (Change o) = true
has_room Jump = true
has_room (JumpIf c) = true

abbrev pub HasRoom : Head → Type 0
HasRoom (Make name count) = count ≤ 6
HasRoom (Map name count) = count ≤ 3
HasRoom (Change o) = Unit {0}
HasRoom Jump = Unit {0}
HasRoom (JumpIf c) = Unit {0}
