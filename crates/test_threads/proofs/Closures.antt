-- A closure and a tuple may go to another thread where what they have may.
use mathlib.Core.List.{[], ◌∷◌}
use mir.Syntax.{Sym}
use denote.RattleType.{RattleType}
use denote.Struct.Field.{row_field}
use denote.Struct.Tuple.{TupleAt, type_at}
use denote.Param.Send.{IsSend}
use denote.Param.SendFields.{declared_send, as_row_send}

pub three_cross : (name : Sym) (A B C : RattleType) → IsSend A → IsSend B → IsSend C → IsSend (TupleAt name (A ∷ B ∷ C ∷ []))
three_cross name A B C a b c = declared_send (type_at name (A ∷ B ∷ C ∷ [])) (as_row_send (row_field A) a, (as_row_send (row_field B) b, (as_row_send (row_field C) c, tt)))
