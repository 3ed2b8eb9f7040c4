-- What changes of a pool leave of the handles that were given.
use Rattle.std.proofs.Common.{ℕ, ◌≡◌, ◌<◌, ◌≤◌, ◌+◌, Bool, false, not, List, [], ◌∷◌, length, filter, get_or, arith, ◌∙◌, ap, sym, refl, subst}
use Rattle.std.specs.Prelude.{All, Option, Some, None, is_some, slice_set}
use Rattle.std.specs.List.{cons_option, filter_map, list_any}
use Rattle.std.proofs.Math.ListN.{length-set}
use Rattle.std.proofs.lemmas.Grind.{common_steps}
use Rattle.std.proofs.lemmas.List.Elements.{All-cons, All-filter, All-head, All-nil, All-push, All-tail}
use Rattle.ffm_model.specs.declared.machine.Handle.{Handle}
use Rattle.ffm_model.specs.declared.objects.OpenConnection.{OpenConnection}
use Rattle.object_pools.specs.declared.slot.Slot.{Slot}
use Rattle.object_pools.specs.declared.slot.Held.{Held}
use Rattle.object_pools.specs.Pool.{Places, free_slot, has_slot, is_at, item_at, taken, with_item, without}
use Rattle.object_pools.proofs.Pigeons.{index-below}
use Rattle.handle_table.specs.declared.handles.Family.{Family}
use Rattle.handle_table.specs.declared.handles.Family.TheVariants.{Connection}
use Rattle.handle_table.specs.Handles.{handle_at, is_given}
use Rattle.handle_table.proofs.FreshLemmas.{GivesFresh-put, IsUntold}
use Rattle.handle_table.proofs.NameLemmas.{free-parts}
use Rattle.spm_tables.specs.declared.item.QueuedMessage.{QueuedMessage}
use Rattle.spm_tables.specs.TablesView.{TablesView}
use Rattle.law_calls.specs.Named.{KeepsFresh, KeepsFreshConnections, KeepsFreshMessages, KeepsGiven}

-- what each item keeps as long as it is there, all that are left keep
pub All-left : {X : Type 0} (P : X → Type 0) (f : X → Option X) → ((x y : X) → f x ≡ Some y → P x → P y) → (xs : List X) → All P xs → All P (filter_map f xs)
All-left P f keeps [] a = All-nil P
All-left {X = X} P f keeps (x ∷ xs) a =
    let rest : All P (filter_map f xs) = All-left P f keeps xs (All-tail P x xs a) in
    let go : (o : Option X) → f x ≡ o → All P (cons_option o (filter_map f xs)) =
    elim [ None ↦ λ e. rest | Some y ↦ λ e. All-cons P y (filter_map f xs) (keeps x y e (All-head P x xs a)) rest ] in
    go (f x) refl

risen : (generations : List ℕ) (i g k : ℕ) → g ≡ get_or generations i 0 + 1 → get_or generations k 0 ≤ get_or (slice_set generations i g) k 0
risen generations i g k e = grind (arith, common_steps)

module _ {T : Type 0} (f : Family) (told : T → Bool) where
  pub given-then : (a b c : Places T) → KeepsFresh f told a b → KeepsFresh f told b c → KeepsFresh f told a c
  given-then a b c h k = record {
    size = k.size ∙ h.size;
    generations = λ i. omega (arith, h.generations i, k.generations i);
    fresh = λ n few given v. k.fresh n (omega (arith, few, h.size)) given (h.fresh n few given v);
  }

  -- no slot is taken
  pub given-held : (p : Places T) (held : List (Held T)) → ((given : List Handle) → All (IsUntold f told given) p.held → All (IsUntold f told given) held) → KeepsFresh f told p (record p { held = held })
  given-held p held untold = record { size = refl; generations = λ i. omega arith; fresh = λ n few given v. record { future = v.future; untold = untold given v.untold } }

  pub given-same : (p : Places T) → KeepsFresh f told p p
  given-same p = given-held p p.held (λ given a. a)

  pub given-filter : (p : Places T) (q : Held T → Bool) → KeepsFresh f told p (record p { held = filter q p.held })
  given-filter p q = given-held p (filter q p.held) (λ given a. All-filter q (IsUntold f told given) p.held a)

  pub given-put : (p : Places T) (s : Slot) (x y : T) → item_at p s ≡ Some x → (told y ≡ false → told x ≡ false) → KeepsFresh f told p (with_item p s y)
  given-put p s x y live stays = record { size = refl; generations = λ i. omega arith; fresh = λ n few given v. GivesFresh-put f n told p given s x y v live stays }

  -- by another name of the new one
  pub given-to : (old new changed : Places T) → new ≡ changed → KeepsFresh f told old changed → KeepsFresh f told old new
  given-to old new changed same it = subst (KeepsFresh f told old) (sym same) it

  pub given-taken : (p : Places T) (s : Slot) (x : T) → free_slot p ≡ Some s → KeepsFresh f told p (taken p s x)
  given-taken p s x free =
      let parts = free-parts p s free in
      let inside : s.index < length p.generations = index-below (λ i. not (list_any (is_at i) p.held)) (length p.generations) s.index parts.0 in
      let rises : (i : ℕ) → get_or p.generations i 0 ≤ get_or (slice_set p.generations s.index s.generation) i 0 = λ i. risen p.generations s.index s.generation i parts.1 in
      record {
        size = length-set p.generations s.index s.generation;
        generations = rises;
        fresh = λ n few given v. record {
          future = λ a below later. v.future a below (omega (arith, later, rises a.index));
          untold = All-push (IsUntold f told given) p.held (record { slot = s; item = x }) v.untold (λ e. v.future s (omega (arith, few, inside)) (omega (arith, parts.1)));
        };
      }

-- a connection changes in its slot
pub given-connection : (old new : Places OpenConnection) (slot : Slot) (c changed : OpenConnection) → item_at old slot ≡ Some c → (is_some changed.handle ≡ false → is_some c.handle ≡ false) → new ≡ with_item old slot changed → KeepsFreshConnections old new
given-connection old new slot c changed live told of_connections = given-to _ _ old new (with_item old slot changed) of_connections (given-put _ _ old slot c changed live told)

-- or goes
pub given-freed : (old new : Places OpenConnection) (slot : Slot) → new ≡ without old slot → KeepsFreshConnections old new
given-freed old new slot of_connections = given-to _ _ old new (without old slot) of_connections (given-filter _ _ old (λ h. not (has_slot slot h)))

-- some connections go, and others change in their slots
pub given-some : (p : Places OpenConnection) (f : Held OpenConnection → Option (Held OpenConnection)) → ((h g : Held OpenConnection) → f h ≡ Some g → (g.slot ≡ h.slot) × (g.item.handle ≡ h.item.handle))
    → KeepsFreshConnections p (record p { held = filter_map f p.held })
given-some p f same =
    given-held _ _ p (filter_map f p.held)
    (λ given a.
    All-left (IsUntold Connection (λ c. is_some c.handle) given) f
    (λ h g e is off. let it = same h g e in ap (λ (s : Slot). is_given given (handle_at Connection s)) it.0 ∙ is (ap is_some (sym it.1) ∙ off)) p.held a)

-- a message is taken in
pub given-message : (old new : Places QueuedMessage) (slot : Slot) (x : QueuedMessage) → free_slot old ≡ Some slot → new ≡ taken old slot x → KeepsFreshMessages old new
given-message old new slot x free of_messages = given-to _ _ old new (taken old slot x) of_messages (given-taken _ _ old slot x free)

-- or some go
pub given-dropped : (old new : Places QueuedMessage) (q : Held QueuedMessage → Bool) → new ≡ record old { held = filter q old.held } → KeepsFreshMessages old new
given-dropped old new q of_messages = given-to _ _ old new (record old { held = filter q old.held }) of_messages (given-filter _ _ old q)

pub given-still : {T : Type 0} (f : Family) (told : T → Bool) (old new : Places T) → new ≡ old → KeepsFresh f told old new
given-still f told old new same = given-to f told old new old same (given-same f told old)

-- nothing changes
pub given-untouched : (old new : TablesView) → new.connections ≡ old.connections → new.messages ≡ old.messages → KeepsGiven old new
given-untouched old new of_connections of_messages = record { connections = given-still _ _ old.connections new.connections of_connections; messages = given-still _ _ old.messages new.messages of_messages }

-- one change after another
pub given-on : (a b c : TablesView) → KeepsGiven a b → KeepsGiven b c → KeepsGiven a c
given-on a b c h k = record {
  connections = given-then _ _ a.connections b.connections c.connections h.connections k.connections;
  messages = given-then _ _ a.messages b.messages c.messages h.messages k.messages;
}
