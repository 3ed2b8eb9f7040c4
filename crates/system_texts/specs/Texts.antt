-- A system and a scenario that are made by numbers, as JSON texts: 16 partitions with one service each, and 16 clients, each of which asks one of the services so many times.
-- Source: this simulator's.
use Rattle.std.specs.Prelude.{ℕ, ◌+◌, ◌-◌, ◌*◌, ◌==◌, List, [], ◌∷◌, ◌++◌, codes, if◌then◌else◌}
use Rattle.std.specs.List.{flat_map, range_with_len}
use Rattle.std.specs.Fmt.{decimal}
use Rattle.ffm_model.specs.TraceText.{hexadecimal_digit}

-- the numbers of the partitions, and of the clients
unfoldable pub numbers : List ℕ
numbers = range_with_len 1 16

-- the parts of a text, one after the other
abbrev pub joined : List (List ℕ) → List ℕ
joined parts = flat_map (λ part. part) parts

-- what stands before an item of a list: a comma, except before the first
abbrev pub comma : ℕ → List ℕ
comma number = if number == 1 then [] else codes ","

-- ---- the system

-- the manifest of partition `Pi` with the service `Si`
unfoldable pub manifest_text : ℕ → List ℕ
manifest_text number =
    joined (comma number ∷ codes "{\"psa_framework_version\":\"1.0\",\"name\":\"P" ∷ decimal number
    ∷ codes "\",\"type\":\"APPLICATION-ROT\",\"priority\":\"NORMAL\",\"entry_point\":\"main\",\"stack_size\":1024,\"services\":[{\"name\":\"S" ∷ decimal number
    ∷ codes "\",\"sid\":" ∷ decimal (4096 + number) ∷ codes ",\"non_secure_clients\":true}]}" ∷ [])

-- the name of client `Ni`
unfoldable pub client_text : ℕ → List ℕ
client_text number = joined (comma number ∷ codes "\"N" ∷ decimal number ∷ codes "\"" ∷ [])

-- the system file: each client may use each service, with one connection
unfoldable pub system_text : List ℕ
system_text =
    codes "{\"isolation_level\":3,\"manifests\":[" ++ (flat_map manifest_text numbers
    ++ (codes "],\"clients\":[" ++ (flat_map client_text numbers ++ codes "]}")))

-- ---- the scenario

-- the script of a client: with the descriptors of its vectors at an address, it asks its service so many times
unfoldable pub client_script : ℕ → ℕ → ℕ → List ℕ
client_script rounds number base =
    joined (comma number ∷ codes "{\"actor\":\"N" ∷ decimal number ∷ codes "\",\"lines\":[\"connect " ∷ decimal (4096 + number)
    ∷ codes " 1\",\"set r5 r0\",\"set r6 " ∷ decimal rounds ∷ codes "\",\"again:\",\"call r5 0 " ∷ decimal base
    ∷ codes " 1 " ∷ decimal (base + 8) ∷ codes " 1\",\"sub r6 1\",\"jne r6 0 again\",\"close r5\"]}" ∷ [])

-- the script of a partition, whose memory begins at an address: it copies 4 bytes of each request, and answers every message
unfoldable pub partition_script : ℕ → ℕ → List ℕ
partition_script number base =
    joined (codes ",{\"actor\":\"P" ∷ decimal number
    ∷ codes "\",\"lines\":[\"top:\",\"wait 4294967295 2147483648\",\"get r0 " ∷ decimal base
    ∷ codes "\",\"jeq r1 0 req\",\"reply r2 0\",\"jmp top\",\"req:\",\"read r2 0 " ∷ decimal (base + 256)
    ∷ codes " 4\",\"write r2 0 " ∷ decimal (base + 256) ∷ codes " 4\",\"reply r2 0\",\"jmp top\"]}" ∷ [])

-- the descriptors of a client's two vectors at an address, each with the address of bytes further on and the length 4, the lowest byte first; those of two clients differ in one digit of each address
unfoldable pub descriptors : ℕ → ℕ → ℕ → List ℕ
descriptors number base digit =
    joined (comma number ∷ codes "{\"address\":" ∷ decimal base ∷ codes ",\"bytes\":\"200" ∷ (digit ∷ [])
    ∷ codes "002004000000300" ∷ (digit ∷ []) ∷ codes "002004000000\"}" ∷ [])

-- where a client's part of the non-secure RAM begins
unfoldable pub client_base : ℕ → ℕ
client_base number = 536870912 + 256 * (number - 1)

-- where a partition's memory begins
unfoldable pub partition_base : ℕ → ℕ
partition_base number = 805306368 + 1024 * (number - 1)

-- the scripts of a client and of the partition that it asks
unfoldable pub scripts_text : ℕ → ℕ → List ℕ
scripts_text rounds number = client_script rounds number (client_base number) ++ partition_script number (partition_base number)

-- the opening memory of a client
unfoldable pub memory_text : ℕ → List ℕ
memory_text number = descriptors number (client_base number) (hexadecimal_digit (number - 1))

-- the scenario file, with so many requests of each client
unfoldable pub scenario_text : ℕ → List ℕ
scenario_text rounds =
    codes "{\"event_limit\":262144,\"scripts\":[" ++ (flat_map (scripts_text rounds) numbers
    ++ (codes "],\"memory\":[" ++ (flat_map memory_text numbers ++ codes "]}")))
