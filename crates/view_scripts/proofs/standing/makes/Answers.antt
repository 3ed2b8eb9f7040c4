use Rattle.std.proofs.Common.{ℕ, ◌≡◌, List, [], ◌∷◌, rules, ap, sym, ◌∙◌}
use Rattle.std.proofs.lemmas.List.{append_cancel_right}
use Rattle.std.proofs.lemmas.Slice.Eq.{bytes_eq-Decides}
use Rattle.ffm_model.specs.declared.machine.Call.{Call}
use Rattle.ffm_model.specs.declared.machine.Entry.{Entry}
use Rattle.ffm_model.specs.Counts.{ActorCounts}
use Rattle.ffm_model.specs.TraceText.{entry_text, line}
use Rattle.trace_print.proofs.Entries.{FewActors, same_entry}
use Rattle.view_scripts.proofs.standing.makes.Goals as goal

pub returns : goal.returns
returns c =
    let counts : ActorCounts = c.args.counts in
    let few : FewActors c.args.counts = search rules in
    let e : Entry = c.args.entry.now in
    let d : Entry = record e { call = c.args.call } in
    let xs : List ℕ = c.as_slice.result.now in
    let ys : List ℕ = c.as_slice-2.result.now in
    let one : xs ≡ line (entry_text counts e) = c.as_slice.ensures.value ∙ c.print-line.ensures.text in
    let two : ys ≡ line (entry_text counts d) = c.as_slice-2.ensures.value ∙ c.print-other.ensures.text in (
      λ t.
          let same : xs ≡ ys = (bytes_eq-Decides xs ys).0 (sym c.eq.ensures ∙ t) in
          ap (λ (x : Entry). x.call) (same_entry counts e d few c.print-line.ensures.fits c.print-other.ensures.fits (append_cancel_right (entry_text counts e) (entry_text counts d) (10 ∷ []) (sym one ∙ same ∙ two))),
      λ same. c.eq.ensures ∙ (bytes_eq-Decides xs ys).1 (one ∙ ap (λ (k : Call). line (entry_text counts (record e { call = k }))) same ∙ sym two),
    )
