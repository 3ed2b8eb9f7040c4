-- Queues of indices, threaded by what comes before and after each index.
-- Source: FF-M 1.0, messages of a service are delivered in order of arrival; the links are this manager's.
use Rattle.std.specs.Prelude.{◌≡◌, ◌≢◌, ℕ, ◌<◌, Bool, List, [], ◌∷◌, length, Option, Some, None, get_or, slice_set, map, filter, All, find, is_some, is_none, if◌then◌else◌}
use Rattle.object_pools.specs.Pool.{Places}
use Rattle.spm_tables.specs.declared.links.Link.{Link}
use Rattle.spm_tables.specs.declared.links.Ends.{Ends}
use Rattle.spm_tables.specs.declared.item.QueuedMessage.{QueuedMessage}
use Rattle.spm_tables.specs.TablesView.{waits_for}

abbrev pub first_of : List ℕ → Option ℕ
first_of [] = None
first_of (i ∷ is) = Some i

-- the last index, and `p` where there is none
abbrev pub last_of : Option ℕ → List ℕ → Option ℕ
last_of p [] = p
last_of p (i ∷ is) = last_of (Some i) is

-- each index is linked to the one after it and the one before it; `p` comes before all
abbrev pub Threaded : (ℕ → Option ℕ) → (ℕ → Option ℕ) → Option ℕ → List ℕ → Type 0
Threaded after before p [] = Unit {0}
Threaded after before p (i ∷ is) = (after i ≡ first_of is) × (before i ≡ p) × Threaded after before (Some i) is

abbrev pub no_link : Link
no_link = record { before = None; after = None }

abbrev pub no_ends : Ends
no_ends = record { first = None; last = None }

abbrev pub link_at : List Link → ℕ → Link
link_at links i = get_or links i no_link

abbrev pub ends_at : List Ends → ℕ → Ends
ends_at ends v = get_or ends v no_ends

-- the queue of each service is threaded through the links
pub record AreQueues (links : List Link) (ends : List Ends) (queues : ℕ → List ℕ) : Type 0 where
  pub first : (v : ℕ) → v < length ends → (ends_at ends v).first ≡ first_of (queues v)
  pub last : (v : ℕ) → v < length ends → (ends_at ends v).last ≡ last_of None (queues v)
  pub threaded : (v : ℕ) → v < length ends → Threaded (λ i. (link_at links i).after) (λ i. (link_at links i).before) None (queues v)

-- the indices of the messages that wait for the service, in order of arrival
abbrev pub queue_in : Places QueuedMessage → ℕ → List ℕ
queue_in p v = map (λ h. h.slot.index) (filter (waits_for v) p.held)

-- what the queues keep
pub record KeepsQueues (messages : Places QueuedMessage) (links : List Link) (ends : List Ends) : Type 0 where
  pub linked : length links ≡ length messages.generations
  -- each message's service is there
  pub known : All (λ h. h.item.service < length ends) messages.held
  pub queues : AreQueues links ends (queue_in messages)

-- what contracts see of the queues
pub record QueuesView : Type 0 where
  pub messages : Places QueuedMessage
  -- how many services there are
  pub services : ℕ

-- whether a message waits for the service
abbrev pub has_waiting : Places QueuedMessage → ℕ → Bool
has_waiting p v = is_some (find (waits_for v) p.held)

-- a change leaves the services for which a message waits
abbrev pub AllWaitAsBefore : Places QueuedMessage → Places QueuedMessage → Type 0
AllWaitAsBefore old new = (v : ℕ) → has_waiting new v ≡ has_waiting old v

-- a change leaves them but for one
abbrev pub OthersWaitAsBefore : ℕ → Places QueuedMessage → Places QueuedMessage → Type 0
OthersWaitAsBefore v old new = (w : ℕ) → w ≢ v → has_waiting new w ≡ has_waiting old w

-- ---- changes of the links

abbrev pub with_after : Option ℕ → Option ℕ → List Link → List Link
with_after None after links = links
with_after (Some i) after links = slice_set links i (record (link_at links i) { after = after })

abbrev pub with_before : Option ℕ → Option ℕ → List Link → List Link
with_before None before links = links
with_before (Some i) before links = slice_set links i (record (link_at links i) { before = before })

-- an index comes after the last one
abbrev pub joined : List Link → Option ℕ → ℕ → List Link
joined links last i = with_after last (Some i) (slice_set links i (record { before = last; after = None }))

-- those before and after an index are linked to each other
abbrev pub unlinked : List Link → Link → List Link
unlinked links link = with_before link.after link.before (with_after link.before link.after links)

abbrev pub joined_ends : Ends → ℕ → Ends
joined_ends e i = record { first = if is_none e.first then Some i else e.first; last = Some i }

abbrev pub unlinked_ends : Ends → Link → Ends
unlinked_ends e link = record { first = if is_none link.before then link.after else e.first; last = if is_none link.after then link.before else e.last }
