use Rattle.partition_sim.proofs.ResumeLaws.{script-resumes, held-resumes, contexts-resume}
use Rattle.partition_sim.proofs.laws.plans_resume_after_blocked.Goals as goal

pub returns : goal.returns
returns c = record { script = script-resumes; held = held-resumes; contexts = contexts-resume }
