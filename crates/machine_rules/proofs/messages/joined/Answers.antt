use Rattle.std.proofs.Common.{◌≡◌, ℕ, List, ◌++◌, length, rules, ap, ◌∙◌}
use Rattle.machine_rules.proofs.messages.joined.Goals as goal
use Rattle.memory_image.proofs.Words.{all-four, first_four}

pub returns : goal.returns
returns c =
    let head : length c.args.head ≡ 4 = search rules in
    let input : length c.args.input ≡ 4 = search rules in
    let output : length c.args.output ≡ 4 = search rules in
    ap (λ (xs : List ℕ). xs ++ (first_four c.args.input ++ first_four c.args.output)) (all-four c.args.head head)
    ∙ ap (λ (xs : List ℕ). c.args.head ++ (xs ++ first_four c.args.output)) (all-four c.args.input input)
    ∙ ap (λ (xs : List ℕ). c.args.head ++ (c.args.input ++ xs)) (all-four c.args.output output)
