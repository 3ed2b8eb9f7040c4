use Rattle.std.proofs.Common.{◌≡◌, ◌∙◌, sym, subst, ℕ, ℤ, w32}
use Rattle.std.specs.Prelude.{Option, Some, None}
use Rattle.std.specs.Option.{option_map_or}
use Rattle.std.proofs.lemmas.Int.{to_z-of_z}
use Rattle.ffm_model.specs.Actors.{stateless_index}
use Rattle.ffm_model.specs.ClientCalls.{Move, connection_called, service_called}
use Rattle.ffm_model.specs.State.{State}
use Rattle.memory_image.specs.Pieces.{byte_at, regions_of}
use Rattle.spm_tables.specs.Answers.{Answers, state_with}
use Rattle.client_calls.proofs.requests.invoke.Goals as goal
use Rattle.std.specs.Prelude.{All}
use Rattle.std.proofs.Common.{List, []}
use Rattle.ffm_model.specs.declared.machine.Handle.{Handle}
use Rattle.ffm_model.specs.ClientCalls.{psa_call}
use Rattle.ffm_model.specs.State.{SpmState}
use Rattle.law_counting.specs.Objects.{ObjectsFit}
use Rattle.law_counting.proofs.CallsFit.{call-keeps}
use Rattle.law_calls.proofs.CallsWithin.{call-within}
use Rattle.machine_rules.specs.Vectors.{AreWithin}
use Rattle.spm_tables.specs.TablesView.{spm_of}
use Rattle.client_calls.proofs.RequestLemmas.{answers-keep}

pub returns-in-Some-clause-answer : goal.returns-in-Some-clause-answer
returns-in-Some-clause-answer c = λ given.
    let st : State = state_with c.args.tables.now given (byte_at c.args.image.now) in
    let due : Option ℕ → ℤ → Option Move =
    λ o kind. option_map_or (λ index. service_called c.args.system.now st c.args.actor.0 index kind c.args.in_vec c.args.in_len c.args.out_vec c.args.out_len) o
    (connection_called c.args.system.now st c.args.actor.0 c.args.handle kind c.args.in_vec c.args.in_len c.args.out_vec c.args.out_len) in
    let done : Option Move → Type 0 = λ m. Answers (λ o. o) m c.args.tables.now c.call_service.result c.call_service.new.tables in
    let is : stateless_index c.args.handle ≡ Some c.in-Some.index = sym c.stateless_index.ensures ∙ c.in-Some.is in
    subst (λ (o : Option ℕ). done (due o c.args.kind)) (sym is)
    (subst (λ (kind : ℤ). done (due (Some c.in-Some.index) kind)) (to_z-of_z w32 c.args.kind c.ranges.kind) (c.call_service.ensures.answer given))

pub returns-in-None-clause-answer : goal.returns-in-None-clause-answer
returns-in-None-clause-answer c = λ given.
    let st : State = state_with c.args.tables.now given (byte_at c.args.image.now) in
    let due : Option ℕ → ℤ → Option Move =
    λ o kind. option_map_or (λ index. service_called c.args.system.now st c.args.actor.0 index kind c.args.in_vec c.args.in_len c.args.out_vec c.args.out_len) o
    (connection_called c.args.system.now st c.args.actor.0 c.args.handle kind c.args.in_vec c.args.in_len c.args.out_vec c.args.out_len) in
    let done : Option Move → Type 0 = λ m. Answers (λ o. o) m c.args.tables.now c.call_connection.result c.call_connection.new.tables in
    let is : stateless_index c.args.handle ≡ None = sym c.stateless_index.ensures ∙ c.in-None.is in
    subst (λ (o : Option ℕ). done (due o c.args.kind)) (sym is)
    (subst (λ (kind : ℤ). done (due None kind)) (to_z-of_z w32 c.args.kind c.ranges.kind) (c.call_connection.ensures.answer given))

pub returns-in-Some-clause-fits : goal.returns-in-Some-clause-fits
returns-in-Some-clause-fits c =
    let s = c.args.system.now in
    let due : List Handle → Option Move = λ given. psa_call s (state_with c.args.tables.now given (byte_at c.args.image.now)) c.args.actor.0 c.args.handle c.args.kind c.args.in_vec c.args.in_len c.args.out_vec c.args.out_len in
    answers-keep (ObjectsFit s) due c.args.tables.now c.call_service.new.tables c.call_service.result (returns-in-Some-clause-answer c) c.requires.premises.tables.fits
    (λ m e. call-keeps s (spm_of c.args.tables.now) (byte_at c.args.image.now) c.args.actor.0 c.args.handle c.args.kind c.args.in_vec c.args.in_len c.args.out_vec c.args.out_len m c.requires.premises.tables.fits c.requires.running e)

pub returns-in-Some-clause-vectors : goal.returns-in-Some-clause-vectors
returns-in-Some-clause-vectors c = λ all.
    let s = c.args.system.now in
    let due : List Handle → Option Move = λ given. psa_call s (state_with c.args.tables.now given (byte_at c.args.image.now)) c.args.actor.0 c.args.handle c.args.kind c.args.in_vec c.args.in_len c.args.out_vec c.args.out_len in
    let W : List (ℕ × ℕ) → SpmState → Type 0 = λ ranges b. All (λ m. AreWithin ranges m.vectors) b.messages in
    answers-keep (W (regions_of c.args.image.now)) due c.args.tables.now c.call_service.new.tables c.call_service.result (returns-in-Some-clause-answer c) all
    (λ m e.
    subst (λ (ranges : List (ℕ × ℕ)). W ranges m.spm) (sym c.requires.premises.regions)
    (call-within s (state_with c.args.tables.now [] (byte_at c.args.image.now)) c.args.actor.0 c.args.handle c.args.kind c.args.in_vec c.args.in_len c.args.out_vec c.args.out_len m (e [])
    (subst (λ (ranges : List (ℕ × ℕ)). W ranges (spm_of c.args.tables.now)) c.requires.premises.regions all)))

pub returns-in-None-clause-fits : goal.returns-in-None-clause-fits
returns-in-None-clause-fits c =
    let s = c.args.system.now in
    let due : List Handle → Option Move = λ given. psa_call s (state_with c.args.tables.now given (byte_at c.args.image.now)) c.args.actor.0 c.args.handle c.args.kind c.args.in_vec c.args.in_len c.args.out_vec c.args.out_len in
    answers-keep (ObjectsFit s) due c.args.tables.now c.call_connection.new.tables c.call_connection.result (returns-in-None-clause-answer c) c.requires.premises.tables.fits
    (λ m e. call-keeps s (spm_of c.args.tables.now) (byte_at c.args.image.now) c.args.actor.0 c.args.handle c.args.kind c.args.in_vec c.args.in_len c.args.out_vec c.args.out_len m c.requires.premises.tables.fits c.requires.running e)

pub returns-in-None-clause-vectors : goal.returns-in-None-clause-vectors
returns-in-None-clause-vectors c = λ all.
    let s = c.args.system.now in
    let due : List Handle → Option Move = λ given. psa_call s (state_with c.args.tables.now given (byte_at c.args.image.now)) c.args.actor.0 c.args.handle c.args.kind c.args.in_vec c.args.in_len c.args.out_vec c.args.out_len in
    let W : List (ℕ × ℕ) → SpmState → Type 0 = λ ranges b. All (λ m. AreWithin ranges m.vectors) b.messages in
    answers-keep (W (regions_of c.args.image.now)) due c.args.tables.now c.call_connection.new.tables c.call_connection.result (returns-in-None-clause-answer c) all
    (λ m e.
    subst (λ (ranges : List (ℕ × ℕ)). W ranges m.spm) (sym c.requires.premises.regions)
    (call-within s (state_with c.args.tables.now [] (byte_at c.args.image.now)) c.args.actor.0 c.args.handle c.args.kind c.args.in_vec c.args.in_len c.args.out_vec c.args.out_len m (e [])
    (subst (λ (ranges : List (ℕ × ℕ)). W ranges (spm_of c.args.tables.now)) c.requires.premises.regions all)))
