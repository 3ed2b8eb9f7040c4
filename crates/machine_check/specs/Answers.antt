-- What the checker tells of a trace.
-- Source: this simulator's; `judged` of the model.
use Rattle.ffm_model.specs.Verdicts.{Judgement, Legal, IllegalAt}
use Rattle.machine_check.specs.declared.judging.Checked as code
use Rattle.machine_check.specs.declared.judging.Checked.TheVariants as checked

abbrev pub judgement : code.Checked → Judgement
judgement checked.Legal = Legal
judgement (checked.IllegalAt n) = IllegalAt n
