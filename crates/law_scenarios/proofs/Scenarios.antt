-- Scenarios and their programs are read alike where priorities are others.
use Rattle.std.proofs.Common.{ℕ, ◌≡◌, ◌==◌, List, [], ◌∷◌, ◌++◌, map, refl, ap, ap₂, sym, ◌∙◌}
use Rattle.std.specs.Prelude.{Option, Some, None, Result, Ok, count_by, if◌then◌else◌, nat_lt, position}
use Rattle.std.specs.Option.{option_map}
use Rattle.std.specs.Str.{bytes_eq}
use mathlib.Core.Path.{fun_ext}
use Rattle.serde_json.specs.Data.{Data}
use Rattle.ffm_model.specs.declared.codes.TheConstants.{BAD_VALUE, UNKNOWN_ACTOR, WRONG_TYPE}
use Rattle.ffm_model.specs.declared.key.Key.TheVariants as key
use Rattle.ffm_model.specs.declared.machine.ActorId.{ActorId}
use Rattle.ffm_model.specs.declared.place.PartRefusal.{PartRefusal}
use Rattle.ffm_model.specs.declared.place.Root.TheVariants as root
use Rattle.ffm_model.specs.declared.scenario.RaiseItem.{RaiseItem}
use Rattle.ffm_model.specs.declared.scenario.Scenario.{Scenario}
use Rattle.ffm_model.specs.declared.script_item.ScriptItem.{ScriptItem}
use Rattle.ffm_model.specs.declared.system.ActorKind.{ActorKind}
use Rattle.ffm_model.specs.declared.system.Partition.{Partition}
use Rattle.ffm_model.specs.declared.system.System.{System}
use Rattle.ffm_model.specs.Actors.{actor_count, is_client, kind_of}
use Rattle.ffm_model.specs.Attributes.{◌>>=◌, list_after, list_of, list_up_to, name_of, object_of, optional, or_refuse, placed, refuse, required, whole_between}
use Rattle.ffm_model.specs.Scenarios.{actor_named, actor_names, answered_raise_of, bytes_of, device_names, line_of, lines_by_actor, new_actor_of, plain_raise_of, raise_of, raised_source_of, scenario_from, scenario_in, scenario_of, script_of, turn_of}
use Rattle.ffm_model.specs.Trees.{tree_of}
use Rattle.serde_json.specs.Find.{as_str}
use Rattle.law_scenarios.specs.Priorities.{DoFit, aside, with_partitions}
use Rattle.law_scenarios.proofs.MachinePriorities.{actors-same, kind-same}

names-plain : (ps : List Partition) → map (λ p. p.name) (aside ps) ≡ map (λ p. p.name) ps
names-plain [] = refl
names-plain (p ∷ ps) = ap (λ (xs : List (List ℕ)). p.name ∷ xs) (names-plain ps)

module _ (s : System) (qs : List Partition) (fits : DoFit s qs) (same : aside qs ≡ aside s.partitions) where
  abbrev other : System
  other = with_partitions s qs fits

  -- ---- actors

  names-same : actor_names other ≡ actor_names s
  unfolding actor_names
  names-same =
      ap (λ (xs : List (List ℕ)). xs ++ (s.clients ++ device_names s.sources))
      (sym (names-plain qs) ∙ ap (λ (xs : List Partition). map (λ p. p.name) xs) same ∙ names-plain s.partitions)

  named-same : (text : List ℕ) → actor_named other text ≡ actor_named s text
  named-same text = ap (λ (names : List (List ℕ)). option_map (λ place. record { 0 = place }) (position (bytes_eq text) names)) names-same

  kinds-same : kind_of other ≡ kind_of s
  kinds-same = fun_ext (kind-same s qs fits same)

  -- ---- scripts, turns and interrupts

  new-actor-same : (scripts : List ScriptItem) (d : Data) → new_actor_of other scripts d ≡ new_actor_of s scripts d
  unfolding new_actor_of
  new-actor-same scripts d =
      let made : (List ℕ → Option ActorId) → (ℕ → ActorKind) → Result ActorId PartRefusal = λ named kinds. (do
        name ← name_of d
        actor ← or_refuse UNKNOWN_ACTOR (named name)
        if nat_lt (count_by (λ script. script.actor.0 == actor.0) scripts) (if is_client (kinds actor.0) then 8 else 1) then Ok actor else refuse BAD_VALUE) in
      ap₂ made (fun_ext named-same) kinds-same

  script-same : (scripts : List ScriptItem) (d : Data) → script_of other scripts d ≡ script_of s scripts d
  unfolding script_of
  script-same scripts d =
      let made : (Data → Result ActorId PartRefusal) → Result ScriptItem PartRefusal = λ new. (do
        object ← object_of d
        actor ← required new key.Actor d
        lines ← required (list_up_to 4096 line_of) key.Lines d
        Ok (record { actor = actor; lines = lines })) in
      ap made (fun_ext (new-actor-same scripts))

  turn-same : (d : Data) → turn_of other d ≡ turn_of s d
  unfolding turn_of
  turn-same d =
      let made : (List ℕ → Option ActorId) → Result ActorId PartRefusal = λ named. (do
        text ← or_refuse WRONG_TYPE (as_str d)
        or_refuse UNKNOWN_ACTOR (named text)) in
      ap made (fun_ext named-same)

  raise-same : (d : Data) → raise_of other d ≡ raise_of s d
  unfolding plain_raise_of answered_raise_of raised_source_of
  raise-same d = refl

  -- ---- the file

  scenario-same : (d : Data) → scenario_of other d ≡ scenario_of s d
  unfolding scenario_of
  scenario-same d =
      let made : ℕ → (List ScriptItem → Data → Result ScriptItem PartRefusal) → (Data → Result ActorId PartRefusal) → (Data → Result RaiseItem PartRefusal) → Result Scenario PartRefusal = λ count script turn raise. (do
        object ← object_of d
        limit ← optional (whole_between 1 262144) 4096 key.EventLimit d
        scripts ← optional (list_after script) [] key.Scripts d
        schedule ← optional (list_of turn) [] key.Schedule d
        raises ← optional (list_of raise) [] key.Interrupts d
        memory ← optional (list_of (bytes_of s.regions)) [] key.Memory d
        restarts ← optional (whole_between 0 15) 0 key.Restarts d
        Ok (record { limit = limit; lines = lines_by_actor count scripts; order = map (λ script. script.actor) scripts; schedule = schedule; raises = raises; memory = memory; restarts = restarts })) in
      ap (λ (n : ℕ). made n (script_of other) (turn_of other) (raise_of other)) (actors-same s qs fits same)
      ∙ ap (λ (f : List ScriptItem → Data → Result ScriptItem PartRefusal). made (actor_count s) f (turn_of other) (raise_of other)) (fun_ext (λ scripts. fun_ext (script-same scripts)))
      ∙ ap₂ (λ (f : Data → Result ActorId PartRefusal) (g : Data → Result RaiseItem PartRefusal). made (actor_count s) (script_of s) f g) (fun_ext turn-same) (fun_ext raise-same)

  from-same : (o : Option Data) → scenario_from other o ≡ scenario_from s o
  from-same None = refl
  from-same (Some d) = scenario-same d

  pub in-same : (bytes : List ℕ) → scenario_in other bytes ≡ scenario_in s bytes
  unfolding scenario_in
  in-same bytes = ap (placed root.Scenario []) (from-same (tree_of bytes))
