-- Each call that waits for an answer, and each reply, has its arrow.
use Rattle.std.proofs.Common.{ℕ, ◌≡◌, true, [], ◌∷◌, ◌∙◌, ap, refl, inl, inr}
use Rattle.std.specs.Prelude.{ℤ, Option, Some, None, if◌then◌else◌}
use Rattle.std.specs.List.{cons_option}
use Rattle.std.specs.Option.{option_map, option_map_or}
use Rattle.ffm_model.specs.declared.system.System.{System}
use Rattle.ffm_model.specs.declared.machine.Entry.{Entry}
use Rattle.ffm_model.specs.declared.machine.Call.{Call}
use Rattle.ffm_model.specs.declared.machine.Call.TheVariants as call
use Rattle.ffm_model.specs.declared.machine.Outcome.TheVariants as outcome
use Rattle.ffm_model.specs.State.{SpmState, State}
use Rattle.law_counting.proofs.Balance.{Balanced}
use Rattle.law_counting.proofs.Resume.{times}
use Rattle.view_diagram.specs.declared.arrows.Arrow.{Arrow}
use Rattle.view_diagram.specs.declared.arrows.Meaning.TheVariants as meaning
use Rattle.view_diagram.specs.Arrows.{arrow, arrow_of_call, is_return, panic_arrows, panicking, panicking_by, reply_arrow}
use Rattle.view_diagram.specs.Pairs.{Asks, EachCallBlocks, EachCallHasArrow, EachReplyHasArrow, SendsMessage}
use Rattle.view_diagram.proofs.Issues.{IsIssued, is_for_message, step-issues}
use Rattle.view_diagram.proofs.Owners.{asks-owned}
use Rattle.view_diagram.proofs.Pairs.{asks-arrow}
use Rattle.view_diagram.proofs.Replies.{step-replies}
use Rattle.view_diagram.proofs.Waiting.{Kept, run-kept, was-due}

asks-for-message : (s : System) (b : SpmState) (a : ℕ) (d : Call) (service : ℕ) (kind : ℤ) → Asks s b a d service kind → is_for_message d ≡ true
asks-for-message s b a (call.Connect sid version) service kind asks = refl
asks-for-message s b a (call.Invoke h k iv il ov ol) service kind asks = refl
asks-for-message s b a (call.Close h) service kind asks = refl
asks-for-message s b a d service kind asks = absurd asks

blocked-stays : (s : System) (b : SpmState) (a : ℕ) (d : Call) (service : ℕ) (kind : ℤ) → Asks s b a d service kind → panicking_by s b a d outcome.Blocked ≡ None
blocked-stays s b a (call.Connect sid version) service kind asks = refl
blocked-stays s b a (call.Invoke h k iv il ov ol) service kind asks = refl
blocked-stays s b a (call.Close h) service kind asks = refl
blocked-stays s b a d service kind asks = absurd asks

sends-message : (s : System) (st new : State) (e : Entry) → Balanced s (times st.handles_given) st.spm → e.outcome ≡ outcome.Blocked → IsIssued s st.spm e.actor.0 e.call new.spm → SendsMessage s st.spm e
sends-message s st new e balanced blocked i =
    let b : SpmState = st.spm in
    let service : ℕ = i.message.service in
    let kind : ℤ = i.message.kind in
    let owned = asks-owned s (times st.handles_given) b e.actor.0 e.call service kind balanced i.asks in
    let x : Arrow = arrow e.actor.0 owned.0 (meaning.Message service kind) in
    let first = asks-arrow s b e service kind owned.0 i.asks blocked owned.1 in
    let none : panicking s b e ≡ None = ap (panicking_by s b e.actor.0 e.call) blocked ∙ blocked-stays s b e.actor.0 e.call service kind i.asks in
    record {
      service = service;
      kind = kind;
      asks = i.asks;
      partition = owned.0;
      owner = owned.1;
      sends = ap (λ (o : Option Arrow). cons_option o (option_map_or (panic_arrows s b) (panicking s b e) [])) first ∙ ap (λ (o : Option ℕ). x ∷ option_map_or (panic_arrows s b) o []) none;
    }

pub each-call-has-arrow : EachCallHasArrow
each-call-has-arrow s m es st new e run is phase =
    let kept : Kept s m es (run-kept s m es st run).0 st = (run-kept s m es st run).1 in
    let blocked : e.outcome ≡ outcome.Blocked = was-due s st new e kept.balanced (kept.sound e.actor.0) is phase in
    sends-message s st new e kept.balanced blocked (step-issues s st new e is (inl phase) blocked)

pub each-call-blocks : EachCallBlocks
each-call-blocks s m es st new e service kind run is blocked asks = (step-issues s st new e is (inr (asks-for-message s st.spm e.actor.0 e.call service kind asks)) blocked).phase

pub each-reply-has-arrow : EachReplyHasArrow
each-reply-has-arrow s m es st new e h status run is reply done =
    let b : SpmState = st.spm in
    let a : ℕ = e.actor.0 in
    let r = step-replies s st new e h status is reply done in
    (r.message, (r.held, ap (λ (d : Call). if is_return d then Some (arrow a a (meaning.Wake e.outcome)) else arrow_of_call s b a d e.outcome) reply ∙ ap (arrow_of_call s b a (call.Reply h status)) done ∙ ap (option_map (reply_arrow a status.0)) r.held))
