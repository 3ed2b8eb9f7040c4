-- A section of the code, as the definitions have it.
-- Source: this simulator's script language.
use Rattle.script_asm.specs.Lines.{lines_of}
use Rattle.sfn_calls.specs.Sections as model
use Rattle.sfn_calls.specs.declared.sections.Section.{Section}

abbrev pub section_view : Section → model.Section
section_view x = record { line = x.line; name = x.name.now; lines = lines_of x.texts.now }
