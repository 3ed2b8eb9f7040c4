-- The items of the files' lists, as the code holds them.
-- Source: this simulator's.
use Rattle.std.specs.Prelude.{ℕ, List}
use Rattle.system_texts.specs.declared.items.Item.{Item}
use Rattle.system_texts.specs.declared.items.Item.TheVariants as item
use Rattle.system_texts.specs.Texts.{manifest_text, client_text, scripts_text, memory_text}

-- the text of an item with a number
abbrev pub item_text : Item → ℕ → List ℕ
item_text item.Manifest number = manifest_text number
item_text item.Client number = client_text number
item_text (item.Scripts rounds) number = scripts_text rounds number
item_text item.Memory number = memory_text number
