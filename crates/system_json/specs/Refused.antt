-- A file's one refusal. Want of memory alone is free.
-- Source: this simulator's files.
use Rattle.std.specs.Prelude.{◌≡◌}
use Rattle.ffm_model.specs.declared.place.ReadError.{ReadError}
use Rattle.ffm_model.specs.declared.place.ReadError.TheVariants as read_error
use Rattle.ffm_model.specs.declared.place.Refusal.{Refusal}

abbrev pub IsReadRefusal : ReadError → Refusal → Type 0
IsReadRefusal read_error.Memory refusal = Unit {0}
IsReadRefusal (read_error.Refused r) refusal = r ≡ refusal
