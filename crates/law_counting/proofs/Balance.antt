-- The fitting of a state's objects in the form that each call keeps: with a bound for each handle on how many objects have it.
use Rattle.std.proofs.Common.{arith}
use Rattle.std.specs.Prelude.{ℕ, ◌≡◌, ◌+◌, ◌≤◌, count_by}
use Rattle.ffm_model.specs.declared.system.System.{System}
use Rattle.ffm_model.specs.declared.machine.Handle.{Handle}
use Rattle.ffm_model.specs.State.{Rises, SpmState, in_use, has_handle}
use Rattle.law_counting.specs.Objects.{ObjectsFit, PhaseFitsAt, Mark, allowed, message_marked, connection_marked, wrongly_called, wrongly_shown}

pub record Balanced (s : System) (limit : Handle → ℕ) (b : SpmState) : Type 0 where
  pub within : (a v : ℕ) → in_use b a v ≤ allowed s a v
  pub paired : (t : Mark) → count_by (message_marked t) b.messages ≡ count_by (connection_marked t) b.connections
  pub called : count_by (wrongly_called s) b.messages ≡ 0
  pub rising : Rises 0 b.connections b.connections_made
  pub fitting : (a : ℕ) → PhaseFitsAt b.phases b.connections b.messages a
  pub shown : count_by (wrongly_shown b.phases) b.connections ≡ 0
  pub handles : (h : Handle) → count_by (λ m. has_handle m.handle h) b.messages + count_by (λ c. has_handle c.handle h) b.connections ≤ limit h
  pub single : (h : Handle) → limit h ≤ 1

-- one object at most has a handle
abbrev pub one : Handle → ℕ
one h = 1

pub fit-balanced : (s : System) (b : SpmState) → ObjectsFit s b → Balanced s one b
fit-balanced s b h = record { within = h.budgets; paired = h.paired; called = h.called; rising = h.rising; fitting = h.phases; shown = h.shown; handles = h.handles; single = λ k. omega arith }

pub balanced-fit : (s : System) (limit : Handle → ℕ) (b : SpmState) → Balanced s limit b → ObjectsFit s b
balanced-fit s limit b h =
    record { budgets = h.within; paired = h.paired; called = h.called; rising = h.rising; phases = h.fitting; shown = h.shown; handles = λ k. omega (arith, h.handles k, h.single k) }
