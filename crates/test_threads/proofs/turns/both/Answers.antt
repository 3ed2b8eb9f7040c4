use denote.Exit.{yes}
use denote.Param.Send.{param_send, arg_send, shr_send}
use Rattle.spm_lock.proofs.Crossing.{pass_crosses, shared_crosses}
use Rattle.test_threads.proofs.Closures.{three_cross}
use Rattle.test_threads.proofs.turns.both.Goals as goal

pub join-requires-send-F : goal.join-requires-send-F
join-requires-send-F g c κs within =
    let shares = c.type_bounds.sync-R in
    param_send _ _ (arg_send _ yes _ (three_cross _ _ _ _ (shr_send _ _ _ shares) (shr_send _ _ _ shared_crosses) pass_crosses))

pub join-requires-send-A : goal.join-requires-send-A
join-requires-send-A g c κs within = param_send _ _ (arg_send _ yes _ pass_crosses)
