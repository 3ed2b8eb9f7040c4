use Rattle.std.proofs.Common.{length, drop, get_or, arith, ◌<◌, ◌≡◌, ◌∙◌, ap, sym, true, false}
use Rattle.std.specs.List.{prefix_len, take_while}
use Rattle.std.proofs.lemmas.List.{length-drop, take_rest}
use Rattle.ffm_model.specs.Quote.{outside, in_string, is_marked, is_run_byte}
use Rattle.manifest_json.specs.Leads.{is_other_byte}
use Rattle.manifest_json.proofs.Runs.{leads_on, leads_same, other_leads, run_leads, run_length, string_begins}
use Rattle.manifest_json.proofs.quote.plain_len.Goals as goal

pub loop-at-preserved-then-rest-eq34 : goal.loop-at-preserved-then-rest-eq34
loop-at-preserved-then-rest-eq34 c =
    let bytes = c.args.bytes.now in
    let at = c.loop-at.at in
    let rest = take_rest bytes at in
    let some : 0 < length (drop at bytes) = let long = length-drop at bytes in omega (arith, c.loop-at-test.true) in
    let first : get_or (drop at bytes) 0 0 ≡ 34 = ap (λ t. get_or t 0 0) (sym rest) ∙ c.if-rest-eq34.true in
    let string = leads_same in_string outside c.string_len.result _ (drop 1 (drop at bytes)) (take_rest _ 1 ∙ ap (drop 1) rest) c.string_len.ensures in
    leads_on outside outside outside at _ bytes c.loop-at.invariant (leads_on outside in_string outside 1 c.string_len.result (drop at bytes) (string_begins (drop at bytes) some first) string)

pub loop-at-preserved-then-is_run_byte : goal.loop-at-preserved-then-is_run_byte
loop-at-preserved-then-is_run_byte c =
    let bytes = c.args.bytes.now in
    let at = c.loop-at.at in
    let rest = take_rest bytes at in
    let run = c.split_run.ensures.run ∙ ap (take_while is_run_byte) rest in
    let passed : length c.split_run.result.0.now ≡ prefix_len is_run_byte (drop at bytes) = ap length run ∙ run_length (drop at bytes) in
    let none : is_marked (take_while is_run_byte (drop at bytes)) ≡ false = ap is_marked (sym run) ∙ sym c.is_marked.ensures ∙ c.if-is_marked.false in
    let starts : is_run_byte (get_or (drop at bytes) 0 0) ≡ true = ap (λ t. is_run_byte (get_or t 0 0)) (sym rest) ∙ sym c.is_run_byte.ensures ∙ c.if-is_run_byte.true in
    rw passed (leads_on outside outside outside at _ bytes c.loop-at.invariant (run_leads (drop at bytes) none (λ some. starts)))

pub loop-at-preserved : goal.loop-at-preserved
loop-at-preserved c =
    let bytes = c.args.bytes.now in
    let at = c.loop-at.at in
    let passed : c.other_len-at.result ≡ prefix_len is_other_byte (drop at bytes) = c.other_len-at.ensures.front ∙ ap (prefix_len is_other_byte) (take_rest bytes at) in
    rw passed (leads_on outside outside outside at _ bytes c.loop-at.invariant (other_leads (drop at bytes)))
