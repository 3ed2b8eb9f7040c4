-- What each actor of a system calls next.
-- Source: this simulator's.
use Rattle.std.specs.Prelude.{ℕ, Bool, false, List, [], get_or}
use Rattle.std.specs.List.{list_any}
use Rattle.ffm_model.specs.declared.script.Instruction.{Instruction}
use Rattle.ffm_model.specs.declared.system.ActorKind.{ActorKind}
use Rattle.ffm_model.specs.declared.system.ActorKind.TheVariants.{Partition, Client, Device}
use Rattle.ffm_model.specs.declared.system.System.{System}
use Rattle.ffm_model.specs.Actors.{kind_of}
use Rattle.ffm_model.specs.Contexts.{context_plan}
use Rattle.ffm_model.specs.Held.{Holder, holder_of}
use Rattle.ffm_model.specs.HeldPlans.{held_plan}
use Rattle.ffm_model.specs.Plans.{Plan}
use Rattle.ffm_model.specs.ScriptRuns.{only_part}
use Rattle.ffm_model.specs.Scripts.{maps}

-- what an actor is to its script: a partition, which holds messages and may map their vectors, or one whose contexts take turns
pub data Role : Type 0 where
  holds : Holder → Role
  takes_turns : Role

-- what an actor calls next, where these are the parts of its script: a partition's script has one part; each part of a client's is a context of it
abbrev pub plan_of_role : Role → List (List Instruction) → Plan
plan_of_role (holds p) parts = held_plan p (only_part parts)
plan_of_role takes_turns parts = context_plan parts

-- the device has one context
abbrev pub role_of_kind : ActorKind → Holder → Role
role_of_kind Partition p = holds p
role_of_kind Client p = takes_turns
role_of_kind Device p = takes_turns

abbrev pub role_at : System → ℕ → Role
role_at s a = role_of_kind (kind_of s a) (holder_of s a)

-- it is a partition, and its script maps vectors: it calls by the messages that it holds
abbrev pub needs_messages : ActorKind → List (List Instruction) → Bool
needs_messages Partition parts = list_any maps (only_part parts)
needs_messages Client parts = false
needs_messages Device parts = false

abbrev pub parts_at : List (List (List Instruction)) → ℕ → List (List Instruction)
parts_at scripts a = get_or scripts a []

-- what an actor of a system calls next
abbrev pub plan_at : System → List (List (List Instruction)) → ℕ → Plan
plan_at s scripts a = plan_of_role (role_at s a) (parts_at scripts a)
