use Rattle.std.proofs.Common.{sym, ◌∙◌}
use Rattle.system_json.proofs.HexDigits.{goes_on_so, no_byte_so, odd_so, is_done_so}
use Rattle.system_json.proofs.text_bytes.hex_bytes.Goals as goal

pub returns-in_default-split_first : goal.returns-in_default-split_first
returns-in_default-split_first c =
    odd_so c.loop-high.found.items c.loop-high.digits.now c.in-Some.high.now c.in-Some.after.now _ c.in-Some.ensures.cases.0 c.in_default-split_first.ensures.cases c.loop-high.invariant

pub returns-in_default-hex_byte : goal.returns-in_default-hex_byte
returns-in_default-hex_byte c =
    no_byte_so c.loop-high.found.items c.loop-high.digits.now c.in-Some.high.now c.in-Some.after.now c.in-Some-split_first.low.now c.in-Some-split_first.after.now _ c.in-Some.ensures.cases.0 c.in-Some-split_first.ensures.cases.0 (sym c.hex_byte.ensures ∙ c.in_default-hex_byte.is) c.loop-high.invariant

pub loop-high-preserved : goal.loop-high-preserved
loop-high-preserved c =
    rw c.in_ok-push.ensures.items
    (goes_on_so c.loop-high.found.items c.loop-high.digits.now c.in-Some.high.now c.in-Some.after.now c.in-Some-split_first.low.now c.in-Some-split_first.after.now c.in-Some-hex_byte.byte _ c.in-Some.ensures.cases.0 c.in-Some-split_first.ensures.cases.0 (sym c.hex_byte.ensures ∙ c.in-Some-hex_byte.is) c.loop-high.invariant)

pub returns : goal.returns
returns c = is_done_so c.loop-high.found.items c.loop-high.digits.now _ c.in_default.ensures.cases c.loop-high.invariant
