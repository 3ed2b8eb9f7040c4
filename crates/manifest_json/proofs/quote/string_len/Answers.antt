use Rattle.std.proofs.Common.{length, drop, get_or, min, arith, ◌<◌, ◌≡◌, ◌∙◌, ap, sym}
use Rattle.std.specs.List.{prefix_len}
use Rattle.std.proofs.lemmas.List.{length-drop, take_rest}
use Rattle.ffm_model.specs.Quote.{outside, in_string}
use Rattle.manifest_json.specs.Leads.{is_text_byte}
use Rattle.manifest_json.proofs.Runs.{leads_on, escape_leads, string_ends, string_runs_out, text_leads}
use Rattle.manifest_json.proofs.quote.string_len.Goals as goal

pub returns-then-rest-eq34 : goal.returns-then-rest-eq34
returns-then-rest-eq34 c =
    let bytes = c.args.bytes.now in
    let at = c.loop-at.at in
    let some : 0 < length (drop at bytes) = let long = length-drop at bytes in omega (arith, c.loop-at-test.true) in
    let first : get_or (drop at bytes) 0 0 ≡ 34 = ap (λ t. get_or t 0 0) (sym (take_rest bytes at)) ∙ c.if-rest-eq34.true in
    leads_on in_string in_string outside at 1 bytes c.loop-at.invariant (string_ends (drop at bytes) some first)

pub loop-at-preserved-then-rest-eq92 : goal.loop-at-preserved-then-rest-eq92
loop-at-preserved-then-rest-eq92 c =
    let bytes = c.args.bytes.now in
    let at = c.loop-at.at in
    let some : 0 < length (drop at bytes) = let long = length-drop at bytes in omega (arith, c.loop-at-test.true) in
    let first : get_or (drop at bytes) 0 0 ≡ 92 = ap (λ t. get_or t 0 0) (sym (take_rest bytes at)) ∙ c.if-rest-eq92.true in
    let passed : c.min-at.result ≡ min (length (drop at bytes)) 2 = c.min-at.ensures ∙ ap (λ t. min (length t) 2) (take_rest bytes at) in
    rw passed (leads_on in_string in_string in_string at _ bytes c.loop-at.invariant (escape_leads (drop at bytes) some first))

pub loop-at-preserved : goal.loop-at-preserved
loop-at-preserved c =
    let bytes = c.args.bytes.now in
    let at = c.loop-at.at in
    let passed : c.text_len-at.result ≡ prefix_len is_text_byte (drop at bytes) = c.text_len-at.ensures.front ∙ ap (prefix_len is_text_byte) (take_rest bytes at) in
    rw passed (leads_on in_string in_string in_string at _ bytes c.loop-at.invariant (text_leads (drop at bytes)))

pub returns : goal.returns
returns c = string_runs_out c.loop-at.at c.args.bytes.now c.loop-at-test.false c.loop-at.invariant
