use Rattle.std.proofs.Common.{◌≡◌, ◌∙◌, ℕ, List, ap, take}
use Rattle.std.proofs.lemmas.Str.Ascii.{trim_ascii_end_is}
use Rattle.explore_commands.specs.Rescheduling.{front_of, trimmed, without_last}
use Rattle.explore_commands.proofs.rescheduling.front_of.Goals as goal

pub returns : goal.returns
unfolding front_of
returns c =
    let whole : List ℕ = c.trim_ascii_end-whole.result.now in
    let first : whole ≡ trimmed c.args.bytes.now = trim_ascii_end_is c.args.bytes.now whole c.trim_ascii_end-whole.ensures.value in
    let second : c.trim_ascii_end.result.now ≡ trimmed (take c.saturating_sub.result whole) = trim_ascii_end_is (take c.saturating_sub.result whole) c.trim_ascii_end.result.now c.trim_ascii_end.ensures.value in
    second ∙ ap (λ (k : ℕ). trimmed (take k whole)) c.saturating_sub.ensures ∙ ap (λ (x : List ℕ). trimmed (without_last x)) first
