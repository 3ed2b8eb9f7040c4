use Rattle.script_asm.proofs.instructions.instruction_of.Goals as goal

pub returns-in-Change-clause-fits : goal.returns-in-Change-clause-fits
returns-in-Change-clause-fits c = c.change_of.ensures.fits _

pub returns-in-Make-clause-fits : goal.returns-in-Make-clause-fits
returns-in-Make-clause-fits c = c.make_of.ensures.fits _

pub returns-in-Map-clause-fits : goal.returns-in-Map-clause-fits
returns-in-Map-clause-fits c = c.map_of.ensures.fits _
