-- The text that lists a compiled system: its partitions with their services, interrupts and regions, its clients, and who may connect to what.
-- Source: this simulator's; the values are those of the manifests of FF-M 1.0 and 1.1.
use Rattle.std.specs.Prelude.{ℕ, ◌+◌, ◌==◌, Bool, true, false, not, ◌&&◌, if◌then◌else◌, List, [], ◌∷◌, ◌++◌, length, map, filter, slice_get, codes}
use Rattle.std.specs.Fmt.{decimal, signed_decimal}
use Rattle.std.specs.List.{flat_map, enumerate_from}
use Rattle.std.specs.Option.{option_map_or}
use Rattle.ffm_model.specs.declared.constants.TheConstants.{STATELESS_BASE}
use Rattle.ffm_model.specs.declared.system.System.{System}
use Rattle.ffm_model.specs.declared.system.Partition.{Partition}
use Rattle.ffm_model.specs.declared.system.Service.{Service}
use Rattle.ffm_model.specs.declared.system.Source.{Source}
use Rattle.ffm_model.specs.declared.system.Region.{Region}
use Rattle.ffm_model.specs.declared.system.Budget.{Budget}
use Rattle.ffm_model.specs.declared.system.Class.{Class}
use Rattle.ffm_model.specs.declared.system.Class.TheVariants.{NonSecure, Mmio}
use Rattle.ffm_model.specs.declared.system.RotType.{RotType}
use Rattle.ffm_model.specs.declared.system.RotType.TheVariants.{PsaRot, ApplicationRot}
use Rattle.ffm_model.specs.declared.system.Priority.{Priority}
use Rattle.ffm_model.specs.declared.system.Priority.TheVariants.{Low, Normal, High}
use Rattle.ffm_model.specs.declared.system.Policy.{Policy}
use Rattle.ffm_model.specs.declared.system.Policy.TheVariants.{Strict, Relaxed}
use Rattle.ffm_model.specs.Actors.{client_id_of, is_stateless}
use Rattle.ffm_model.specs.Names.{capacity}
use Rattle.ffm_model.specs.TraceText.{Word, hexadecimal_word, spaced, line}

-- ---- words

-- the manifest's `type`
abbrev pub rot_word : RotType → Word
rot_word PsaRot = codes "PSA-ROT"
rot_word ApplicationRot = codes "APPLICATION-ROT"

-- the manifest's `priority`
abbrev pub priority_word : Priority → Word
priority_word Low = codes "LOW"
priority_word Normal = codes "NORMAL"
priority_word High = codes "HIGH"

-- the service's `version_policy`
abbrev pub policy_word : Policy → Word
policy_word Strict = codes "STRICT"
policy_word Relaxed = codes "RELAXED"

-- whether the service is for non-secure clients
abbrev pub yes_or_no : Bool → Word
yes_or_no true = codes "yes"
yes_or_no false = codes "no"

-- the MMIO item's `permission`
abbrev pub permission_word : Bool → Word
permission_word true = codes "READ-WRITE"
permission_word false = codes "READ-ONLY"

-- a line: its first word, and the others after one space each
abbrev pub line_of : Word → List Word → List ℕ
line_of front words = line (front ++ flat_map spaced words)

-- base and size
abbrev pub range_words : Region → List Word
range_words r = hexadecimal_word r.base ∷ hexadecimal_word r.size ∷ []

-- ---- lines

-- `ID NAME TYPE PRIORITY domain D ram`
unfoldable pub partition_words : ℕ → Partition → List Word
partition_words k p = decimal (k + 1) ∷ p.name ∷ rot_word p.rot ∷ priority_word p.priority ∷ codes "domain" ∷ decimal p.domain ∷ codes "ram" ∷ []

-- `partition ID NAME TYPE PRIORITY domain D ram BASE SIZE`
unfoldable pub partition_line : System → ℕ → Partition → List ℕ
partition_line s k p = line_of (codes "partition") (partition_words k p ++ option_map_or range_words (slice_get s.regions p.ram) [])

-- `NAME sid SID version V POLICY nonsecure yes|no signal S`
unfoldable pub service_words : Service → List Word
service_words v =
    v.name ∷ codes "sid" ∷ hexadecimal_word v.sid.0 ∷ codes "version" ∷ decimal v.version ∷ policy_word v.policy ∷ codes "nonsecure" ∷ yes_or_no v.nonsecure ∷ codes "signal" ∷ hexadecimal_word v.signal ∷ []

-- `handle H`, for a stateless service
abbrev pub handle_words : Service → List Word
handle_words v = if v.stateless == 0 then [] else codes "handle" ∷ hexadecimal_word (STATELESS_BASE + v.stateless) ∷ []

-- `service NAME sid SID version V POLICY nonsecure yes|no signal S`, and the handle of a stateless service
unfoldable pub service_line : Service → List ℕ
service_line v = line_of (codes "service") (service_words v ++ handle_words v)

-- whether a source has a first-level handler
abbrev pub handling_word : Bool → Word
handling_word true = codes "FLIH"
handling_word false = codes "SLIH"

-- `FLIH` or `SLIH`, for a source that isn't of version 1.0: it has a first-level handler or starts disabled
abbrev pub handling_words : Source → List Word
handling_words v = if v.enabled && not v.flih then [] else handling_word v.flih ∷ []

-- `irq SOURCE SIGNALNAME S`, and the handling of a source of version 1.1
unfoldable pub source_line : Source → List ℕ
source_line v = line_of (codes "irq") ((v.name ∷ v.signal_name ∷ hexadecimal_word v.signal ∷ []) ++ handling_words v)

-- `mmio BASE SIZE PERMISSION`, for a region of the k-th partition
unfoldable pub mmio_line : ℕ → Region → Class → List ℕ
mmio_line k r (Mmio owner writable) = if owner == k then line_of (codes "mmio") (range_words r ++ permission_word writable ∷ []) else []
mmio_line k r _ = []

-- a partition with its services, interrupts and MMIO regions
abbrev pub partition_lines : System → ℕ × Partition → List ℕ
partition_lines s e =
    partition_line s e.0 e.1
    ++ (flat_map service_line (filter (λ v. v.owner == e.0) s.services)
    ++ (flat_map source_line (filter (λ v. v.owner == e.0) s.sources)
    ++ flat_map (λ r. mmio_line e.0 r r.class) s.regions))

-- `nonsecure ram BASE SIZE`
unfoldable pub nonsecure_line : Region → Class → List ℕ
nonsecure_line r NonSecure = line_of (codes "nonsecure") (codes "ram" ∷ range_words r)
nonsecure_line r _ = []

-- `client ID NAME`; the k-th client, counted from one, has the ID -k
unfoldable pub client_line : System → ℕ × List ℕ → List ℕ
client_line s e = line_of (codes "client") (signed_decimal (client_id_of s (length s.partitions + e.0)) ∷ e.1 ∷ [])

-- the name of a partition or a client
abbrev pub actor_name : System → ℕ → List ℕ
actor_name s a = option_map_or (λ n. n) (slice_get (map (λ p. p.name) s.partitions ++ s.clients) a) []

-- the name of the service at a place
abbrev pub service_name : System → ℕ → List ℕ
service_name s service = option_map_or (λ v. v.name) (slice_get s.services service) []

-- `connections CLIENT SERVICE COUNT`, or `stateless CLIENT SERVICE`
unfoldable pub budget_line : System → Budget → List ℕ
budget_line s b =
    if is_stateless s b.service
    then line_of (codes "stateless") (actor_name s b.client.0 ∷ service_name s b.service ∷ [])
    else line_of (codes "connections") (actor_name s b.client.0 ∷ service_name s b.service ∷ decimal b.count ∷ [])

-- `admitted P partitions S services C connections`
unfoldable pub admitted_line : ℕ → ℕ → ℕ → List ℕ
admitted_line partitions services connections =
    line_of (codes "admitted") (decimal partitions ∷ codes "partitions" ∷ decimal services ∷ codes "services" ∷ decimal connections ∷ codes "connections" ∷ [])

-- the listing of a system
unfoldable pub listing : System → List ℕ
listing s =
    line_of (codes "isolation") (decimal s.level ∷ [])
    ++ (flat_map (partition_lines s) (enumerate_from 0 s.partitions)
    ++ (flat_map (λ r. nonsecure_line r r.class) s.regions
    ++ (flat_map (client_line s) (enumerate_from 0 s.clients)
    ++ (flat_map (budget_line s) s.budgets
    ++ admitted_line (length s.partitions) (length s.services) (capacity s)))))
