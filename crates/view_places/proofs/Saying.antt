-- Where a condition of a call is said to hold the call is a PROGRAMMER ERROR, and where all are said not to it is none.
use Rattle.std.proofs.Common.{ℕ, ℤ, pos, ◌≡◌, ◌+◌, ◌*◌, Bool, true, false, List, [], ◌∷◌, refl, sym, subst, ◌∙◌}
use Rattle.std.specs.Prelude.{Option, Some, None, Result, Ok, Err, IfOk, codes, option_and_then, find, is_none, is_some, nat_lt, nat_le, int_lt, int_le, get_or, length, ◌&&◌, ◌||◌, not, if◌then◌else◌}
use Rattle.std.specs.List.{list_all, list_any}
use Rattle.std.specs.Option.{option_map, option_map_or}
use Rattle.std.specs.Ordering.{int_eq}
use Rattle.std.proofs.lemmas.Bool.{not-true}
use Rattle.ffm_model.specs.declared.constants.TheConstants.{PSA_IPC_CALL, PSA_IPC_CONNECT, PSA_MAX_IOVEC, PSA_NULL_HANDLE}
use Rattle.ffm_model.specs.declared.system.System.{System}
use Rattle.ffm_model.specs.declared.groups.Group.{Group}
use Rattle.ffm_model.specs.declared.machine.Call.{Call}
use Rattle.ffm_model.specs.declared.machine.Call.TheVariants as call
use Rattle.ffm_model.specs.declared.machine.Handle.{Handle}
use Rattle.ffm_model.specs.declared.machine.Outcome.TheVariants.{Done}
use Rattle.ffm_model.specs.declared.objects.OpenConnection.{OpenConnection}
use Rattle.ffm_model.specs.declared.objects.PendingMessage.{PendingMessage}
use Rattle.ffm_model.specs.declared.objects.Vectors.{Vectors}
use Rattle.ffm_model.specs.Accesses.{is_access_size}
use Rattle.ffm_model.specs.Actors.{is_stateless, kind_of, permits, service_at, stateless_at, stateless_index}
use Rattle.ffm_model.specs.Calls.{call_case, has_call}
use Rattle.ffm_model.specs.ClientCalls.{Effect, Move, call_on, call_to, close_on, connect_to, connection_called, in_state, is_busy, move, refuses_requests, service_called, takes_version}
use Rattle.ffm_model.specs.Groups.{group_of}
use Rattle.ffm_model.specs.Memory.{ByteMap, may_read, may_write, valid_buffer, vectors_of, vectors_read}
use Rattle.ffm_model.specs.ServiceCalls.{get_of, is_connect_status, message_size, output_at, read_of, reply_of, rest_of, service_of_signal, skip_of, write_of}
use Rattle.ffm_model.specs.SignalCalls.{has_flih, source_of_signal, with_flags, with_forwarded}
use Rattle.ffm_model.specs.Signals.{assigned_to, has_signal_of}
use Rattle.ffm_model.specs.State.{State, connection_held, flags_at, is_undelivered, message_held, with_rhandle}
use Rattle.view_places.specs.Conditions.{SayWhen, Told, are_arrays_wrong, conditions_of, connection_named, fails, group_conditions, holds, looked, names_own}

-- what conditions say of a call's effect, or of its being a PROGRAMMER ERROR
record Say (cs : List Told) (x : Option Effect) : Type 0 where
  refused : list_any holds cs ≡ true → is_none x ≡ true
  allowed : list_all fails cs ≡ true → is_none x ≡ false

-- all are looked at
record Decide (cs : List Told) (x : Option Effect) : Type 0 where
  any : list_any holds cs ≡ is_none x
  all : list_all fails cs ≡ not (is_none x)

say : (cs : List Told) (x : Option Effect) → Decide cs x → Say cs x
say cs x d = record { refused = λ h. sym d.any ∙ h; allowed = λ h. not-true (is_none x) (sym d.all ∙ h) }

-- ---- by truth values

by_two : (p q : Bool) (v w : List ℕ) (x : Effect) → Decide (looked v (not p) ∷ looked w (not q) ∷ []) (if p && q then Some x else None)
by_two true true v w x = record { any = refl; all = refl }
by_two true false v w x = record { any = refl; all = refl }
by_two false true v w x = record { any = refl; all = refl }
by_two false false v w x = record { any = refl; all = refl }

moved_one : (st : State) (p : Bool) (v : List ℕ) (x : Move) → Decide (looked v (not p) ∷ []) (option_map (in_state st) (if p then Some x else None))
moved_one st true v x = record { any = refl; all = refl }
moved_one st false v x = record { any = refl; all = refl }

-- ---- calls of clients

fits : (st : State) (p q r : Bool) (t u v w : List ℕ) (x : Move) → Decide (looked t false ∷ looked u q ∷ looked v (not p) ∷ looked w (not r) ∷ []) (option_map (in_state st) (if p && (not q && r) then Some x else None))
fits st true true true t u v w x = record { any = refl; all = refl }
fits st true true false t u v w x = record { any = refl; all = refl }
fits st true false true t u v w x = record { any = refl; all = refl }
fits st true false false t u v w x = record { any = refl; all = refl }
fits st false true true t u v w x = record { any = refl; all = refl }
fits st false true false t u v w x = record { any = refl; all = refl }
fits st false false true t u v w x = record { any = refl; all = refl }
fits st false false false t u v w x = record { any = refl; all = refl }

of_connect : (st : State) (service : Option ℕ) (p q r : ℕ → Bool) (t u v w : List ℕ) (x : ℕ → Move)
    → Decide (looked t (is_none service) ∷ looked u (option_map_or q service false) ∷ looked v (option_map_or (λ i. not (p i)) service false) ∷ looked w (option_map_or (λ i. not (r i)) service false) ∷ [])
    (option_map (in_state st) (option_and_then (λ i. if p i && (not (q i) && r i) then Some (x i) else None) service))
of_connect st None p q r t u v w x = record { any = refl; all = refl }
of_connect st (Some i) p q r t u v w x = fits st (p i) (q i) (r i) t u v w (x i)

-- a condition that is looked at only where it holds
abbrev seen : List ℕ → Bool → Told
seen w wrong = (w, if wrong then Some true else None)

never_allowed : (a b c wrong : Bool) (t u v w : List ℕ) → list_all fails (looked t a ∷ looked u b ∷ looked v c ∷ seen w wrong ∷ []) ≡ true → ⊥
never_allowed true b c wrong t u v w h = absurd cc
never_allowed false true c wrong t u v w h = absurd cc
never_allowed false false true wrong t u v w h = absurd cc
never_allowed false false false true t u v w h = absurd cc
never_allowed false false false false t u v w h = absurd cc

may_or_not : (st : State) (p neg : Bool) (t u v w : List ℕ) (x : Move) → list_any holds (looked t (not p) ∷ looked u false ∷ looked v neg ∷ seen w false ∷ []) ≡ true → is_none (option_map (in_state st) (if p && not neg then Some x else None)) ≡ true
may_or_not st true true t u v w x h = refl
may_or_not st true false t u v w x h = h
may_or_not st false neg t u v w x h = refl

-- by a stateless handle
by_stateless : (st : State) (service : Option ℕ) (vectors : Option Vectors) (p : ℕ → Bool) (neg wrong : Bool) (t u v w : List ℕ) (x : ℕ → Vectors → Move) → (wrong ≡ true → vectors ≡ None)
    → list_any holds (looked t (not (option_map_or p service false)) ∷ looked u false ∷ looked v neg ∷ seen w wrong ∷ []) ≡ true
    → is_none (option_map (in_state st) (option_and_then (λ i. option_and_then (λ y. if p i && not neg then Some (x i y) else None) vectors) service)) ≡ true
by_stateless st None vectors p neg wrong t u v w x none h = refl
by_stateless st (Some i) None p neg wrong t u v w x none h = refl
by_stateless st (Some i) (Some y) p neg true t u v w x none h = absurd (let e = none refl in cc)
by_stateless st (Some i) (Some y) p neg false t u v w x none h = may_or_not st (p i) neg t u v w (x i y) h

busy_or_not : (st : State) (r neg : Bool) (t u v w : List ℕ) (x : Move) → list_any holds (looked t false ∷ looked u r ∷ looked v neg ∷ seen w false ∷ []) ≡ true → is_none (option_map (in_state st) (if r || neg then None else Some x)) ≡ true
busy_or_not st true neg t u v w x h = refl
busy_or_not st false true t u v w x h = refl
busy_or_not st false false t u v w x h = h

-- on a connection
by_connection : (st : State) (connection : Option OpenConnection) (vectors : Option Vectors) (r : OpenConnection → Bool) (neg wrong : Bool) (t u v w : List ℕ) (x : OpenConnection → Vectors → Move) → (wrong ≡ true → vectors ≡ None)
    → list_any holds (looked t (not (is_some connection)) ∷ looked u (option_map_or r connection false) ∷ looked v neg ∷ seen w wrong ∷ []) ≡ true
    → is_none (option_map (in_state st) (option_and_then (λ c. option_and_then (λ y. if r c || neg then None else Some (x c y)) vectors) connection)) ≡ true
by_connection st None vectors r neg wrong t u v w x none h = refl
by_connection st (Some c) None r neg wrong t u v w x none h = refl
by_connection st (Some c) (Some y) r neg true t u v w x none h = absurd (let e = none refl in cc)
by_connection st (Some c) (Some y) r neg false t u v w x none h = busy_or_not st (r c) neg t u v w (x c y) h

no_vectors_where : (a b c d : Bool) (x : Vectors) → (not a || (not b || not c)) ≡ true → (if a && (b && c) && d then Some x else None) ≡ None
no_vectors_where true true true d x h = absurd cc
no_vectors_where true true false d x h = refl
no_vectors_where true false c d x h = refl
no_vectors_where false b c d x h = refl

wrong_arrays : (s : System) (m : ByteMap) (a in_vec in_len out_vec out_len : ℕ) → are_arrays_wrong s a in_vec in_len out_vec out_len ≡ true → vectors_of s m a in_vec in_len out_vec out_len ≡ None
wrong_arrays s m a in_vec in_len out_vec out_len h =
    let inputs = vectors_read m in_vec in_len in
    let outputs = vectors_read m out_vec out_len in
    no_vectors_where (nat_le (in_len + out_len) PSA_MAX_IOVEC) (valid_buffer s a in_vec (8 * in_len)) (valid_buffer s a out_vec (8 * out_len))
    (list_all (λ v. valid_buffer s a v.base v.len) inputs && list_all (λ v. valid_buffer s a v.base v.len) outputs) _ h

by_index : (s : System) (st : State) (a : ℕ) (h : Handle) (kind : ℤ) (in_vec in_len out_vec out_len : ℕ) (index : Option ℕ) (t u v w : List ℕ)
    → list_any holds (
    looked t (not (option_map_or (λ i. option_map_or (permits s a) (stateless_at s i) false) index (is_some (connection_held st.spm a h))))
    ∷ looked u (option_map_or (λ c. refuses_requests c.phase) (option_map_or (λ i. None) index (connection_held st.spm a h)) false)
    ∷ looked v (int_lt kind (pos 0))
    ∷ seen w (are_arrays_wrong s a in_vec in_len out_vec out_len)
    ∷ []
    ) ≡ true
    → is_none (option_map (in_state st) (option_map_or (λ i. service_called s st a i kind in_vec in_len out_vec out_len) index (connection_called s st a h kind in_vec in_len out_vec out_len))) ≡ true
by_index s st a h kind in_vec in_len out_vec out_len (Some i) t u v w any =
    by_stateless st (stateless_at s i) (vectors_of s st.memory a in_vec in_len out_vec out_len) (permits s a) (int_lt kind (pos 0)) (are_arrays_wrong s a in_vec in_len out_vec out_len) t u v w
    (λ service vectors. call_to s st.spm a service kind vectors) (wrong_arrays s st.memory a in_vec in_len out_vec out_len) any
by_index s st a h kind in_vec in_len out_vec out_len None t u v w any =
    by_connection st (connection_held st.spm a h) (vectors_of s st.memory a in_vec in_len out_vec out_len) (λ c. refuses_requests c.phase) (int_lt kind (pos 0)) (are_arrays_wrong s a in_vec in_len out_vec out_len) t u v w
    (λ connection vectors. call_on st.spm a connection kind vectors) (wrong_arrays s st.memory a in_vec in_len out_vec out_len) any

busy : (st : State) (r : Bool) (v w : List ℕ) (x : Move) → Decide (looked v false ∷ looked w r ∷ []) (option_map (in_state st) (if r then None else Some x))
busy st true v w x = record { any = refl; all = refl }
busy st false v w x = record { any = refl; all = refl }

of_close : (st : State) (null : Bool) (connection : Option OpenConnection) (r : OpenConnection → Bool) (v w : List ℕ) (y : Move) (x : OpenConnection → Move)
    → Decide (looked v (not null && is_none (if null then None else connection)) ∷ looked w (option_map_or r (if null then None else connection) false) ∷ [])
    (option_map (in_state st) (if null then Some y else option_and_then (λ c. if r c then None else Some (x c)) connection))
of_close st true connection r v w y x = record { any = refl; all = refl }
of_close st false None r v w y x = record { any = refl; all = refl }
of_close st false (Some c) r v w y x = busy st (r c) v w (x c)

-- ---- messages

has_room : (p : Bool) (t u v : List ℕ) (x : Effect) → Decide (looked t false ∷ looked u false ∷ looked v (not p) ∷ []) (if p then Some x else None)
has_room true t u v x = record { any = refl; all = refl }
has_room false t u v x = record { any = refl; all = refl }

of_queue : (p : Bool) (message : Option PendingMessage) (t u v : List ℕ) (x : PendingMessage → Effect)
    → Decide (looked t false ∷ looked u (is_none message) ∷ looked v (not p) ∷ []) (option_and_then (λ m. if p then Some (x m) else None) message)
of_queue p None t u v x = record { any = refl; all = refl }
of_queue p (Some m) t u v x = has_room p t u v (x m)

of_get : (p : Bool) (service : Option ℕ) (first : ℕ → Option PendingMessage) (t u v : List ℕ) (x : ℕ → PendingMessage → Effect)
    → Decide (looked t (is_none service) ∷ looked u (option_map_or (λ i. is_none (first i)) service false) ∷ looked v (not p) ∷ [])
    (option_and_then (λ i. option_and_then (λ m. if p then Some (x i m) else None) (first i)) service)
of_get p None first t u v x = record { any = refl; all = refl }
of_get p (Some i) first t u v x = of_queue p (first i) t u v (x i)

has_connection : (st : State) (connection : Option ℕ) (v w : List ℕ) (x : ℕ → Move) → Decide (looked v false ∷ looked w (is_none connection) ∷ []) (option_map (in_state st) (option_map x connection))
has_connection st None v w x = record { any = refl; all = refl }
has_connection st (Some n) v w x = record { any = refl; all = refl }

of_set_rhandle : (st : State) (message : Option PendingMessage) (v w : List ℕ) (x : ℕ → Move)
    → Decide (looked v (is_none message) ∷ looked w (option_map_or (λ m. is_none m.connection) message false) ∷ []) (option_map (in_state st) (option_map x (option_and_then (λ m. m.connection) message)))
of_set_rhandle st None v w x = record { any = refl; all = refl }
of_set_rhandle st (Some m) v w x = has_connection st m.connection v w x

answered_so : (r : Bool) (m : PendingMessage) (v w : List ℕ) (x : PendingMessage → Effect) → Decide (looked v false ∷ looked w r ∷ []) (option_map x (if r then None else Some m))
answered_so true m v w x = record { any = refl; all = refl }
answered_so false m v w x = record { any = refl; all = refl }

of_reply : (message : Option PendingMessage) (r : PendingMessage → Bool) (v w : List ℕ) (x : PendingMessage → Effect)
    → Decide (looked v (is_none message) ∷ looked w (option_map_or r message false) ∷ []) (option_map x (option_and_then (λ m. if r m then None else Some m) message))
of_reply None r v w x = record { any = refl; all = refl }
of_reply (Some m) r v w x = answered_so (r m) m v w x

-- ---- the bytes of a request

skipped : (st : State) (p q : Bool) (m : PendingMessage) (t u v : List ℕ) (x : PendingMessage → Move) → Decide (looked t false ∷ looked u (not p) ∷ looked v (not q) ∷ []) (option_map (in_state st) (option_map x (if p && q then Some m else None)))
skipped st true true m t u v x = record { any = refl; all = refl }
skipped st true false m t u v x = record { any = refl; all = refl }
skipped st false true m t u v x = record { any = refl; all = refl }
skipped st false false m t u v x = record { any = refl; all = refl }

of_skip : (st : State) (message : Option PendingMessage) (p : PendingMessage → Bool) (q : Bool) (t u v : List ℕ) (x : PendingMessage → Move)
    → Decide (looked t (is_none message) ∷ looked u (option_map_or (λ m. not (p m)) message false) ∷ looked v (not q) ∷ [])
    (option_map (in_state st) (option_map x (option_and_then (λ m. if p m && q then Some m else None) message)))
of_skip st None p q t u v x = record { any = refl; all = refl }
of_skip st (Some m) p q t u v x = skipped st (p m) q m t u v x

read_so : (p q r : Bool) (m : PendingMessage) (t u v w : List ℕ) (x : PendingMessage → Effect)
    → Decide (looked t false ∷ looked u (not p) ∷ looked v (not q) ∷ looked w (not r) ∷ []) (option_and_then (λ m. if r then Some (x m) else None) (if p && q then Some m else None))
read_so true true true m t u v w x = record { any = refl; all = refl }
read_so true true false m t u v w x = record { any = refl; all = refl }
read_so true false r m t u v w x = record { any = refl; all = refl }
read_so false true r m t u v w x = record { any = refl; all = refl }
read_so false false r m t u v w x = record { any = refl; all = refl }

of_read : (message : Option PendingMessage) (p : PendingMessage → Bool) (q r : Bool) (t u v w : List ℕ) (x : PendingMessage → Effect)
    → Decide (looked t (is_none message) ∷ looked u (option_map_or (λ m. not (p m)) message false) ∷ looked v (not q) ∷ looked w (not r) ∷ [])
    (option_and_then (λ m. if r then Some (x m) else None) (option_and_then (λ m. if p m && q then Some m else None) message))
of_read None p q r t u v w x = record { any = refl; all = refl }
of_read (Some m) p q r t u v w x = read_so (p m) q r m t u v w x

write_in : (r o : Bool) (t u v w y : List ℕ) (x : Effect) → Decide (looked t false ∷ looked u false ∷ looked v false ∷ looked w (not r) ∷ looked y (not o) ∷ []) (if r && o then Some x else None)
write_in true true t u v w y x = record { any = refl; all = refl }
write_in true false t u v w y x = record { any = refl; all = refl }
write_in false o t u v w y x = record { any = refl; all = refl }

write_so : (p q r : Bool) (o : PendingMessage → Bool) (m : PendingMessage) (t u v w y : List ℕ) (x : PendingMessage → Effect)
    → Decide (looked t false ∷ looked u (not p) ∷ looked v (not q) ∷ looked w (not r) ∷ looked y (not (o m)) ∷ []) (option_and_then (λ m. if r && o m then Some (x m) else None) (if p && q then Some m else None))
write_so true true r o m t u v w y x = write_in r (o m) t u v w y (x m)
write_so true false r o m t u v w y x = record { any = refl; all = refl }
write_so false true r o m t u v w y x = record { any = refl; all = refl }
write_so false false r o m t u v w y x = record { any = refl; all = refl }

of_write : (message : Option PendingMessage) (p : PendingMessage → Bool) (q r : Bool) (o : PendingMessage → Bool) (t u v w y : List ℕ) (x : PendingMessage → Effect)
    → Decide (looked t (is_none message) ∷ looked u (option_map_or (λ m. not (p m)) message false) ∷ looked v (not q) ∷ looked w (not r) ∷ looked y (option_map_or (λ m. not (o m)) message false) ∷ [])
    (option_and_then (λ m. if r && o m then Some (x m) else None) (option_and_then (λ m. if p m && q then Some m else None) message))
of_write None p q r o t u v w y x = record { any = refl; all = refl }
of_write (Some m) p q r o t u v w y x = write_so (p m) q r o m t u v w y x

-- ---- interrupts

ended : (st : State) (p f : Bool) (v w : List ℕ) (x : Move) → Decide (looked v (not p) ∷ looked w f ∷ []) (option_map (in_state st) (if p && not f then Some x else None))
ended st true true v w x = record { any = refl; all = refl }
ended st true false v w x = record { any = refl; all = refl }
ended st false true v w x = record { any = refl; all = refl }
ended st false false v w x = record { any = refl; all = refl }

of_eoi : (st : State) (source : Option ℕ) (p f : ℕ → Bool) (v w : List ℕ) (x : ℕ → Move)
    → Decide (looked v (not (option_map_or p source false)) ∷ looked w (option_map_or f source false) ∷ []) (option_map (in_state st) (option_and_then (λ i. if p i && not (f i) then Some (x i) else None) source))
of_eoi st None p f v w x = record { any = refl; all = refl }
of_eoi st (Some i) p f v w x = ended st (p i) (f i) v w (x i)

reset : (st : State) (p f : Bool) (v w : List ℕ) (x : Move) → Decide (looked v (not p) ∷ looked w (not f) ∷ []) (option_map (in_state st) (if p && f then Some x else None))
reset st true true v w x = record { any = refl; all = refl }
reset st true false v w x = record { any = refl; all = refl }
reset st false true v w x = record { any = refl; all = refl }
reset st false false v w x = record { any = refl; all = refl }

of_reset : (st : State) (source : Option ℕ) (p f : ℕ → Bool) (v w : List ℕ) (x : ℕ → Move)
    → Decide (looked v (not (option_map_or p source false)) ∷ looked w (option_map_or (λ i. not (f i)) source false) ∷ []) (option_map (in_state st) (option_and_then (λ i. if p i && f i then Some (x i) else None) source))
of_reset st None p f v w x = record { any = refl; all = refl }
of_reset st (Some i) p f v w x = reset st (p i) (f i) v w (x i)

of_enable : (st : State) (source : Option ℕ) (v : List ℕ) (x : ℕ → Move) → Decide (looked v (is_none source) ∷ []) (option_map (in_state st) (option_map x source))
of_enable st None v x = record { any = refl; all = refl }
of_enable st (Some i) v x = record { any = refl; all = refl }

of_raise : (st : State) (there : Bool) (i : ℕ) (f : ℕ → Bool) (v w : List ℕ) (x : Move)
    → Decide (looked v (is_none (if there then Some i else None)) ∷ looked w (option_map_or f (if there then Some i else None) false) ∷ []) (option_map (in_state st) (if there && not (f i) then Some x else None))
of_raise st true i f v w x = ended st true (f i) v w x
of_raise st false i f v w x = record { any = refl; all = refl }

fired : (st : State) (f r : Bool) (t u v : List ℕ) (x : Move) → Decide (looked t false ∷ looked u (not f) ∷ looked v (not r) ∷ []) (option_map (in_state st) (if f && r then Some x else None))
fired st true true t u v x = record { any = refl; all = refl }
fired st true false t u v x = record { any = refl; all = refl }
fired st false true t u v x = record { any = refl; all = refl }
fired st false false t u v x = record { any = refl; all = refl }

of_fire : (st : State) (there : Bool) (i : ℕ) (f : ℕ → Bool) (r : Bool) (t u v : List ℕ) (x : Move)
    → Decide (looked t (is_none (if there then Some i else None)) ∷ looked u (option_map_or (λ i. not (f i)) (if there then Some i else None) false) ∷ looked v (not r) ∷ [])
    (option_map (in_state st) (if there && (f i && r) then Some x else None))
of_fire st true i f r t u v x = fired st (f i) r t u v x
of_fire st false i f r t u v x = record { any = refl; all = refl }

-- ---- each call

abbrev zero_handle : Handle
zero_handle = record { 0 = pos 0 }

of_nothing : (x : Effect) → Decide [] (Some x)
of_nothing x = record { any = refl; all = refl }

of_invoke : (s : System) (st : State) (a : ℕ) (h : Handle) (kind : ℤ) (in_vec in_len out_vec out_len : ℕ)
    → Say (group_conditions (group_of (call.Invoke h kind in_vec in_len out_vec out_len)) s st.spm a (call.Invoke h kind in_vec in_len out_vec out_len)) (call_case s st a (call.Invoke h kind in_vec in_len out_vec out_len) zero_handle)
of_invoke s st a h kind in_vec in_len out_vec out_len = record {
  refused = λ any. by_index s st a h kind in_vec in_len out_vec out_len (stateless_index h) (codes "neither a handle of the caller nor a stateless handle of the caller") (codes "the connection is Busy or Error") (codes "the kind is negative") (codes "a rule of the vectors is broken") any;
  allowed = λ all. absurd (never_allowed (not (names_own s st.spm a h)) (option_map_or (λ c. refuses_requests c.phase) (connection_named st.spm a h) false) (int_lt kind (pos 0)) (are_arrays_wrong s a in_vec in_len out_vec out_len) (codes "neither a handle of the caller nor a stateless handle of the caller") (codes "the connection is Busy or Error") (codes "the kind is negative") (codes "a rule of the vectors is broken") all);
}

by_call : (s : System) (st : State) (a : ℕ) (c : Call) → Say (group_conditions (group_of c) s st.spm a c) (call_case s st a c zero_handle)
by_call s st a call.FrameworkVersion = say _ _ (of_nothing _)
by_call s st a (call.Version sid) = say _ _ (of_nothing _)
by_call s st a (call.Connect sid version) = say _ _ (of_connect st (service_at s sid) (permits s a) (is_stateless s) (λ i. takes_version s i version) _ _ _ _ (λ i. connect_to s st.spm a i))
by_call s st a (call.Invoke h kind in_vec in_len out_vec out_len) = of_invoke s st a h kind in_vec in_len out_vec out_len
by_call s st a (call.Close h) = say _ _ (of_close st (int_eq h.0 PSA_NULL_HANDLE) (connection_held st.spm a h) (λ c. is_busy c.phase) _ _ _ (λ c. close_on st.spm a c))
by_call s st a (call.Wait mask timeout) = say _ _ (moved_one st (has_signal_of (assigned_to s a) mask) _ _)
by_call s st a (call.Get signal msg) = say _ _ (of_get (valid_buffer s a msg message_size) (service_of_signal s a signal) (λ i. find (is_undelivered i) st.spm.messages) _ _ _ (λ i m. get_of s st i msg zero_handle m))
by_call s st a (call.SetRhandle h rhandle) = say _ _ (of_set_rhandle st (message_held s st.spm a h) _ _ (λ n. move Done (with_rhandle st.spm n rhandle)))
by_call s st a (call.Read h index buffer len) = say _ _ (of_read (message_held s st.spm a h) (λ m. int_le PSA_IPC_CALL m.kind) (nat_lt index PSA_MAX_IOVEC) (valid_buffer s a buffer len) _ _ _ _ (λ m. read_of st h index buffer len m))
by_call s st a (call.Skip h index len) = say _ _ (of_skip st (message_held s st.spm a h) (λ m. int_le PSA_IPC_CALL m.kind) (nat_lt index PSA_MAX_IOVEC) _ _ _ (λ m. skip_of st.spm h index len m))
by_call s st a (call.Write h index buffer len) = say _ _ (of_write (message_held s st.spm a h) (λ m. int_le PSA_IPC_CALL m.kind) (nat_lt index PSA_MAX_IOVEC) (valid_buffer s a buffer len) (λ m. nat_le len (rest_of (output_at m index))) _ _ _ _ _ (λ m. write_of st h index buffer len m))
by_call s st a (call.Reply h status) = say _ _ (of_reply (message_held s st.spm a h) (λ m. int_eq m.kind PSA_IPC_CONNECT && not (is_connect_status status.0)) _ _ (λ m. reply_of s st h status.0 m))
by_call s st a (call.Notify id) = say _ _ (moved_one st (int_le (pos 1) id && int_le id (pos (length s.partitions))) _ _)
by_call s st a call.Clear = say _ _ (moved_one st (get_or st.spm.doorbells a false) _ _)
by_call s st a (call.Eoi signal) = say _ _ (of_eoi st (source_of_signal s a signal) (λ i. (flags_at st.spm i).asserted) (has_flih s) _ _ (λ i. move Done (with_forwarded s st.spm i (record (flags_at st.spm i) { asserted = false }))))
by_call s st a (call.IrqEnable signal) = say _ _ (of_enable st (source_of_signal s a signal) _ _)
by_call s st a (call.IrqDisable signal) = say _ _ (of_enable st (source_of_signal s a signal) _ _)
by_call s st a (call.ResetSignal signal) = say _ _ (of_reset st (source_of_signal s a signal) (λ i. (flags_at st.spm i).asserted) (has_flih s) _ _ (λ i. move Done (with_flags st.spm i (record (flags_at st.spm i) { asserted = false }))))
by_call s st a call.Panic = say _ _ (record { any = refl; all = refl })
by_call s st a (call.Load address size) = say _ _ (by_two (is_access_size size) (may_read s a address size) _ _ _)
by_call s st a (call.Store address size value) = say _ _ (by_two (is_access_size size) (may_write s a address size) _ _ _)
by_call s st a (call.Raise source) = say _ _ (of_raise st (nat_lt source (length s.sources)) source (has_flih s) _ _ _)
by_call s st a (call.Fire source result) = say _ _ (of_fire st (nat_lt source (length s.sources)) source (has_flih s) (nat_le result 1) _ _ _ _)
by_call s st a (call.Stop spent) = say _ _ (of_nothing _)
by_call s st a call.Resume = say _ _ (of_nothing _)

by_kind : (has : Bool) (cs : List Told) (x : Option Effect) (w : List ℕ) → Say cs x → Say (if has then cs else looked w true ∷ []) (if has then x else None)
by_kind true cs x w it = it
by_kind false cs x w it = record { refused = λ h. refl; allowed = λ h. absurd cc }

pub conditions_say : (s : System) (st : State) (a : ℕ) (c : Call) → SayWhen s st a c (conditions_of s st.spm a c)
conditions_say s st a c =
    let it = by_kind (has_call (kind_of s a) c) (group_conditions (group_of c) s st.spm a c) (call_case s st a c zero_handle) _ (by_call s st a c) in
    record { refused = it.refused; allowed = it.allowed }

-- the conditions of a call that its actor has, by the group of the call
pub group_says : {V E : Type 0} (s : System) (st : State) (a : ℕ) (c : Call) (g : Group) (cs : V → List Told) (r : Result V E) → has_call (kind_of s a) c ≡ true → group_of c ≡ g
    → IfOk r (λ v. cs v ≡ group_conditions g s st.spm a c) → IfOk r (λ v. SayWhen s st a c (cs v))
group_says s st a c g cs (Err e) has in_group told = tt
group_says s st a c g cs (Ok v) has in_group told =
    let whole : conditions_of s st.spm a c ≡ group_conditions g s st.spm a c = rw (has, in_group) refl in
    subst (SayWhen s st a c) (whole ∙ sym told) (conditions_say s st a c)
