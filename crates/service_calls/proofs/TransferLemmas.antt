-- What reading, skipping and writing answer and leave, from what was done to the vectors of the request.
use Rattle.std.proofs.Common.{ℕ, ◌≡◌, ◌+◌, Bool, true, ◌&&◌, List, ◌∙◌, ap, sym, cond}
use Rattle.std.specs.Prelude.{min, nat_le, Option, Some, None, option_and_then}
use Rattle.std.specs.Option.{option_map}
use Rattle.ffm_model.specs.declared.machine.Handle.{Handle}
use Rattle.ffm_model.specs.declared.machine.Outcome.TheVariants.{Number, Done}
use Rattle.ffm_model.specs.declared.scenario.Bytes.{Bytes}
use Rattle.ffm_model.specs.declared.system.System.{System}
use Rattle.ffm_model.specs.declared.objects.PendingMessage.{PendingMessage}
use Rattle.ffm_model.specs.declared.objects.Vectors.{Vectors}
use Rattle.ffm_model.specs.ClientCalls.{Effect, effect, move}
use Rattle.ffm_model.specs.Memory.{copy_bytes, valid_buffer}
use Rattle.ffm_model.specs.State.{SpmState, with_vectors}
use Rattle.ffm_model.specs.ServiceCalls.{psa_read, psa_skip, psa_write, request_held, rest_of, skip_of, read_of, write_of, output_at, input_of, output_of, with_input_moved, with_output_moved}
use Rattle.memory_image.specs.Pieces.{byte_at}
use Rattle.object_pools.specs.declared.slot.Slot.{Slot}
use Rattle.handle_table.specs.declared.handles.Family.TheVariants.{Message}
use Rattle.handle_table.specs.Handles.{handle_at}
use Rattle.spm_tables.specs.declared.item.QueuedMessage.{QueuedMessage}
use Rattle.spm_tables.specs.Answers.{state_with}
use Rattle.spm_tables.specs.TablesView.{TablesView, spm_of, message_of}
use Rattle.service_calls.proofs.Held.{IsTold, held-told, request-held}

-- the vectors of the request were changed, and nothing else
vectors-changed : (s : System) (d new : TablesView) (a index : ℕ) (k : Handle) (t : Slot) (m : QueuedMessage) (v : Vectors) → request_held s (spm_of d) a k index ≡ Some (message_of t m)
    → (m.delivered ≡ true → spm_of new ≡ with_vectors (spm_of d) (handle_at Message t) v) → spm_of new ≡ with_vectors (spm_of d) k v
vectors-changed s d new a index k t m v held changed =
    let told : IsTold t m k = held-told s (spm_of d) a k t m (request-held s (spm_of d) a k index (message_of t m) held) in
    changed told.delivered ∙ ap (λ (h : Handle). with_vectors (spm_of d) h v) told.handle

pub skip-due : (s : System) (d new : TablesView) (a index len n : ℕ) (k : Handle) (t : Slot) (m : QueuedMessage) (v : Vectors) → request_held s (spm_of d) a k index ≡ Some (message_of t m)
    → n ≡ min len (rest_of (input_of m.vectors index)) → v ≡ with_input_moved m.vectors index n
    → (m.delivered ≡ true → spm_of new ≡ with_vectors (spm_of d) (handle_at Message t) v) → psa_skip s (spm_of d) a k index len ≡ Some (move (Number n) (spm_of new))
skip-due s d new a index len n k t m v held number moved changed =
    let state : spm_of new ≡ with_vectors (spm_of d) k v = vectors-changed s d new a index k t m v held changed in
    ap (option_map (skip_of (spm_of d) k index len)) held
    ∙ ap (λ (i : ℕ). Some (move (Number i) (with_vectors (spm_of d) k (with_input_moved m.vectors index i)))) (sym number)
    ∙ ap (λ (w : Vectors). Some (move (Number n) (with_vectors (spm_of d) k w))) (sym moved)
    ∙ ap (λ (b : SpmState). Some (move (Number n) b)) (sym state)

abbrev where_valid : Bool → (PendingMessage → Effect) → Option PendingMessage → Option Effect
where_valid valid f o = option_and_then (λ m. cond valid (Some (f m)) None) o

pub read-due : (s : System) (d new : TablesView) (given : List Handle) (bytes after : List Bytes) (a index buffer len n : ℕ) (k : Handle) (t : Slot) (m : QueuedMessage) (v : Vectors)
    → request_held s (spm_of d) a k index ≡ Some (message_of t m) → valid_buffer s a buffer len ≡ true
    → n ≡ min len (rest_of (input_of m.vectors index)) → v ≡ with_input_moved m.vectors index n
    → byte_at after ≡ copy_bytes (byte_at bytes) ((input_of m.vectors index).base + (input_of m.vectors index).moved) buffer n
    → (m.delivered ≡ true → spm_of new ≡ with_vectors (spm_of d) (handle_at Message t) v)
    → psa_read s (state_with d given (byte_at bytes)) a k index buffer len ≡ Some (effect (Number n) (state_with new given (byte_at after)))
read-due s d new given bytes after a index buffer len n k t m v held valid number moved copied changed =
    let state : spm_of new ≡ with_vectors (spm_of d) k v = vectors-changed s d new a index k t m v held changed in
    let read = read_of (state_with d given (byte_at bytes)) k index buffer len in
    ap (where_valid (valid_buffer s a buffer len) read) held
    ∙ ap (λ (b : Bool). where_valid b read (Some (message_of t m))) valid
    ∙ ap (λ (i : ℕ). Some (effect (Number i) (record { spm = with_vectors (spm_of d) k (with_input_moved m.vectors index i); handles_given = given; memory = copy_bytes (byte_at bytes) ((input_of m.vectors index).base + (input_of m.vectors index).moved) buffer i }))) (sym number)
    ∙ ap (λ (w : Vectors). Some (effect (Number n) (record { spm = with_vectors (spm_of d) k w; handles_given = given; memory = copy_bytes (byte_at bytes) ((input_of m.vectors index).base + (input_of m.vectors index).moved) buffer n }))) (sym moved)
    ∙ ap (λ (b : SpmState). Some (effect (Number n) (record { spm = b; handles_given = given; memory = copy_bytes (byte_at bytes) ((input_of m.vectors index).base + (input_of m.vectors index).moved) buffer n }))) (sym state)
    ∙ ap (λ (x : ℕ → ℕ). Some (effect (Number n) (record { spm = spm_of new; handles_given = given; memory = x }))) (sym copied)

pub write-due : (s : System) (d new : TablesView) (given : List Handle) (bytes after : List Bytes) (a index buffer len : ℕ) (k : Handle) (t : Slot) (m : QueuedMessage) (v : Vectors)
    → request_held s (spm_of d) a k index ≡ Some (message_of t m) → valid_buffer s a buffer len ≡ true → nat_le len (rest_of (output_of m.vectors index)) ≡ true
    → v ≡ with_output_moved m.vectors index len
    → byte_at after ≡ copy_bytes (byte_at bytes) buffer ((output_of m.vectors index).base + (output_of m.vectors index).moved) len
    → (m.delivered ≡ true → spm_of new ≡ with_vectors (spm_of d) (handle_at Message t) v)
    → psa_write s (state_with d given (byte_at bytes)) a k index buffer len ≡ Some (effect Done (state_with new given (byte_at after)))
write-due s d new given bytes after a index buffer len k t m v held valid fits moved copied changed =
    let state : spm_of new ≡ with_vectors (spm_of d) k v = vectors-changed s d new a index k t m v held changed in
    let write = write_of (state_with d given (byte_at bytes)) k index buffer len in
    ap (option_and_then (λ x. cond (valid_buffer s a buffer len && nat_le len (rest_of (output_at x index))) (Some (write x)) None)) held
    ∙ ap (λ (b : Bool). cond (b && nat_le len (rest_of (output_of m.vectors index))) (Some (write (message_of t m))) None) valid
    ∙ ap (λ (b : Bool). cond b (Some (write (message_of t m))) None) fits
    ∙ ap (λ (w : Vectors). Some (effect Done (record { spm = with_vectors (spm_of d) k w; handles_given = given; memory = copy_bytes (byte_at bytes) buffer ((output_of m.vectors index).base + (output_of m.vectors index).moved) len }))) (sym moved)
    ∙ ap (λ (b : SpmState). Some (effect Done (record { spm = b; handles_given = given; memory = copy_bytes (byte_at bytes) buffer ((output_of m.vectors index).base + (output_of m.vectors index).moved) len }))) (sym state)
    ∙ ap (λ (x : ℕ → ℕ). Some (effect Done (record { spm = spm_of new; handles_given = given; memory = x }))) (sym copied)
