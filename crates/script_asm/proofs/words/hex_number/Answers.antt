use Rattle.std.proofs.Common.{ℕ, ◌≤◌, ◌^◌, arith, length-drop, lit<}
use Rattle.std.proofs.Math.Nat.{pow-le-pow_right}
use Rattle.script_asm.proofs.words.hex_number.Goals as goal

pub overflow_mul-number : goal.overflow_mul-number
overflow_mul-number c =
    let near : c.loop-digit.digit-index ≤ 7 = omega (arith, length-drop {A = ℕ}) in
    let small : 16 ^ c.loop-digit.digit-index ≤ 16 ^ 7 = pow-le-pow_right (lit< tt) near in
    omega arith

pub overflow_add-number : goal.overflow_add-number
overflow_add-number c =
    let near : c.loop-digit.digit-index ≤ 7 = omega (arith, length-drop {A = ℕ}) in
    let small : 16 ^ c.loop-digit.digit-index ≤ 16 ^ 7 = pow-le-pow_right (lit< tt) near in
    omega (arith, c.in_ok-number.ensures.value.0, c.in_ok-number.ensures.value.1)
