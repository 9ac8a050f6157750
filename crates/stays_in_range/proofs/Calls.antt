-- Every call on a gate in range leaves one in range: a line or two for each.
use Prim.Native.Nat.{ℕ, ◌+◌, ◌-◌, ◌≤◌, min}
use mathlib.Core.Path.{◌≡◌, refl, ◌∙◌}
use mathlib.Core.Bool.{Bool, true, false, cond, and-eq-true_iff}
use native.Mathlib.Omega.{arith}
use mathlib.Core.List.{List, [], ◌∷◌, ◌++◌, map}
use borrow.Author.Tests.{leb-false, lt-ltb, ltb-false, not-true, not-false}
use lib.Dec.{eqb, ltb}
use lib.ListN.{length, take, length-drop, length-take}
use Rattle.phones.specs.declared.PhoneList.{PhoneList}
use Rattle.phones.specs.Ids.{some_of, remove_all, retain_in, Left, stays, becomes, room_for, pushed}
use Rattle.phones.specs.Phones.{id_bytes, laid, list_in_range}
use Rattle.phones.proofs.Range.{id_range, range_all, range_retain, range_first, range_append}
use Rattle.frames.specs.declared.ProbeFrame.{ProbeFrame}
use Rattle.frames.specs.declared.CanFrame.{CanFrame}
use Rattle.frames.specs.declared.TxClass.{TxClass}
use Rattle.frames.specs.declared.TxClass.TheVariants.{Platform, Command}
use Rattle.saved_record.specs.declared.Store.{Store}
use Rattle.saved_record.specs.SavedRecord.{CarIds, record_of, encoded, has_car, Reading, malformed, car_twice, too_large, ok, decoded}
use Rattle.saved_record.specs.Store.{cars_of}
use Rattle.saved_record.proofs.Laws.{cars_of_store}
use Rattle.saved_record.proofs.Parts.{Digests}
use Rattle.state.specs.declared.Kind.{Kind}
use Rattle.state.specs.declared.Kind.TheVariants.{CodeEntry, InCarAction}
use Rattle.state.specs.declared.Status.{Status}
use Rattle.state.specs.declared.Status.TheVariants.{Cancelled, TimedOut}
use Rattle.state.specs.declared.Core.{Core}
use Rattle.state.specs.declared.Save.{Save}
use Rattle.state.specs.declared.Gate.{Gate}
use Rattle.state.specs.declared.Answer.{Answer}
use Rattle.state.specs.declared.Mark.{Mark}
use Rattle.state.specs.declared.Said.{Said}
use Rattle.state.specs.declared.Ended.{Ended}
use Rattle.state.specs.Running.{in_progress}
use Rattle.state.specs.Replies.{leave, quiet, reply, notified, finish}
use Rattle.state.specs.Checks.{unmet}
use Rattle.state.specs.View.{View, lists_stay, store_in_range, lists_in, view, laid_store}
use Rattle.range.specs.Range.{within, methods_fit, tries_fit, session_fits, window_fits, save_fits}
use Rattle.range.proofs.Laws.{within_is}
use Rattle.range.proofs.Stores.{CarsFit, store_fits_lem}
use Rattle.policy_changes.specs.Changes as Changes
use Rattle.can_access.specs.Approval as Access
use Rattle.dev_lock.specs.DevLock as DevLock
use Rattle.car_identity.specs.CarIdentity as CarIdentity
use Rattle.can.specs.Can as Can
use Rattle.pairing.specs.Pairing as Pairing
use Rattle.validations.specs.Store.{record_for, phones_for, storing, forgetting, pruning, restoring, of_car, validating}
use Rattle.validations.specs.Store as Store
use Rattle.save.specs.Save.{no_save, opening, rest, behind, refused, taking}
use Rattle.std.specs.Prelude.{Option, Some, None}
use Rattle.probe_window.specs.Window.{marked_sent, heard_at}
use Rattle.can_probe.specs.Calls as Probe
use Rattle.can_tx.specs.Tx as Tx
use Rattle.methods.specs.Notes as Methods
use Rattle.session.specs.Session.{ended_as, cannot_go_on, lapse_of, place_of}
use Rattle.validation.specs.Calls as Validation
use Rattle.definition.specs.Gate.{SessionCall, ListCall, SaveCall, CoreCall, on_core, saying, of_session, of_lists, of_save, ended, listing, saving, said, left}
use Rattle.definition.specs.Gate as Gate
use Rattle.footprint.specs.Footprint.{in_core, peer, probe, core_touches, is_in}
use Rattle.footprint.proofs.Core.{core_keeps, core_beside}
use Rattle.stays_in_range.specs.Stays.{Sized}
use Rattle.stays_in_range.proofs.Cars.{store_in, empty_store, every_fits, has_fits, last_fits, empty_list, one_fits, more_fits, for_fits, accepted_fits}
use Rattle.stays_in_range.proofs.Digests.{digest_long, every_digests, has_digests, last_digests, accepted_digests, record_fits}
use Rattle.stays_in_range.proofs.Parts.{Fitting, Fits, is_within, full_fits, fewer_fits, phone_short, window_opens_lem, Leaves, Holds, cases, if_cond, if_checked, short_id_lem}

-- ---- lists

-- what becomes of a list, or of a store, in range is in range
abbrev ListFits : PhoneList → Left (List (List ℕ)) → Type 0
ListFits l x = list_in_range (laid l x) ≡ true

record StoreFits (v : Store) (y : Left (List CarIds)) : Type 0 where
  fits : store_in_range (laid_store v y) ≡ true
  digests : Digests (cars_of (laid_store v y))

module _ (v : Store) (h : store_in_range v ≡ true) (d : Digests (cars_of v)) where
  f : CarsFit (cars_of v)
  f = store_fits_lem v h

  store_of_lem : (cs : List CarIds) → CarsFit cs → Digests cs → Holds (StoreFits v) (becomes cs)
  store_of_lem cs k e = record { holds = record { fits = store_in cs k; digests = rw (cars_of_store cs) e } }

  forgetting_fits : (id : List ℕ) → Holds (StoreFits v) (forgetting (cars_of v) id)
  unfolding forgetting
  forgetting_fits id = let k = every_fits (remove_all id) (range_all id) (cars_of v) f in search (if_cond, store_of_lem, every_digests)

  pruning_fits : (paired : List (List ℕ)) → Holds (StoreFits v) (pruning (record { paired = paired; store = cars_of v }))
  unfolding pruning
  pruning_fits paired = let k = every_fits (retain_in paired) (range_retain paired) (cars_of v) f in search (if_cond, store_of_lem, every_digests)

  module _ (car id : List ℕ) (n : length car ≡ 32) (k : length id ≤ 32) where
    pushed_fits : Holds (StoreFits v) (of_car car (cars_of v) (pushed id (phones_for car (cars_of v))))
    unfolding pushed
    pushed_fits =
        let ps = phones_for car (cars_of v) in
        cases (λ (x : Left (List (List ℕ))). Holds (StoreFits v) (of_car car (cars_of v) x)) (room_for id ps) _ _
        (λ r. store_of_lem _ (has_fits car (ps ++ (id ∷ [])) (more_fits id ps k r (for_fits car (cars_of v) f.each)) (cars_of v) f) (has_digests car _ (cars_of v) d))
        (λ r. search)

    validating_fits : Holds (StoreFits v) (validating (cars_of v) car id)
    unfolding validating
    validating_fits =
        if_cond (has_car car (cars_of v)) _ _
        (λ e. search (if_cond, pushed_fits))
        (λ e. store_of_lem _ (last_fits car (id ∷ []) (one_fits id k) (cars_of v) f e) (last_digests (cars_of v) _ d n))

module _ (g : Gate) (h : Fits g) where
  storing_fits : (a : Answer) (x : Left (List (List ℕ))) (y : Left (List CarIds)) → Holds (ListFits g.phones.paired) x → Holds (StoreFits g.phones.store) y
      → Holds (Leaves g of_lists) (storing a x y)
  unfolding left view
  storing_fits a x stays p s = search
  storing_fits a x (becomes y) p s = search

  emptied : Holds (StoreFits g.phones.store) (becomes [])
  emptied = record { holds = record { fits = empty_store; digests = rw (cars_of_store []) tt } }

  restoring_fits : (bytes : List ℕ) (r : Reading) → decoded bytes ≡ r → Holds (Leaves g of_lists) (restoring r)
  unfolding left view
  restoring_fits bytes malformed e = let k = emptied in search
  restoring_fits bytes car_twice e = let k = emptied in search
  restoring_fits bytes too_large e = let k = emptied in search
  restoring_fits bytes (ok cs) e = let k = store_of_lem g.phones.store h.store h.digests cs (accepted_fits bytes cs e) (accepted_digests bytes cs e) in search

  pub fit_listing : (k : ListCall) → Holds (Leaves g of_lists) (listing (lists_in g.phones) g.core.settings.bonded k)
  unfolding listing left view Pairing.pair Pairing.unpairing Pairing.unpair Pairing.clear Store.forget Store.prune Store.restore lists_stay
  fit_listing (Gate.add_paired_phone id) = if_checked (lists_stay _) _ _ (λ a. search) (λ u. let s = short_id_lem id _ _ u in search (if_cond, range_append))
  fit_listing (Gate.remove_paired_phone id) = search (storing_fits, if_cond, range_first, forgetting_fits)
  fit_listing Gate.clear_paired_phones = let k = emptied in search empty_list
  fit_listing (Gate.forget_phone_validation id) = search (storing_fits, forgetting_fits)
  fit_listing Gate.prune_phone_validations = search (storing_fits, pruning_fits)
  fit_listing (Gate.restore_phone_validations bytes) = restoring_fits bytes (decoded bytes) refl

-- ---- the save

-- a position and so many of the bytes left from there on are together at most the length
behind_fits : (s : Save) (n : ℕ) → s.present ≡ true → save_fits s ≡ true → n ≤ length (rest s) → save_fits (behind s n) ≡ true
unfolding save_fits rest
behind_fits s n p f m =
    let q = (and-eq-true_iff (within 0 4358 s.stored.len) _).0 (rw p at f) in
    let a = within_is 0 s.stored.len s.at q.1 in
    let l : length (rest s) ≡ min s.stored.len (length s.stored.bytes) - s.at = length-drop s.at (take s.stored.len s.stored.bytes) ∙ rw length-take in
    rw (p, q.0) (is_within 0 s.stored.len (s.at + n) (omega arith) (omega arith))

module _ (g : Gate) (h : Fits g) where
  opening_fits : save_fits (opening (cars_of g.phones.store)).save ≡ true
  unfolding opening save_fits record_for record_of
  opening_fits =
      let cs = cars_of g.phones.store in
      let m = record_fits cs (store_fits_lem g.phones.store h.store) h.digests in
      rw (is_within 0 4358 (length (encoded cs)) (omega arith) m) (is_within 0 (length (encoded cs)) 0 (omega arith) (omega arith))

  taking_fits : (out : List ℕ) → g.save.present ≡ true
      → let n = min (length out) (length (rest g.save)) in save_fits (cond (eqb n (length (rest g.save))) no_save (behind g.save n)) ≡ true
  unfolding save_fits no_save
  taking_fits out p =
      let n = min (length out) (length (rest g.save)) in
      cases (λ (s : Save). save_fits s ≡ true) (eqb n (length (rest g.save))) _ _ (λ e. refl) (λ e. behind_fits g.save n p h.save (omega arith))

  pub fit_saving : (k : SaveCall) → Holds (Leaves g of_save) (saving (cars_of g.phones.store) g.save k)
  unfolding saving left view taking unmet opening
  fit_saving Gate.open_phone_validations_save = let k = opening_fits in search
  fit_saving (Gate.take_phone_validations_save out) =
      if_checked (refused g.save) _ _ (λ a. search)
      (λ u. let k = taking_fits out (not-false _ (not-true _ ((and-eq-true_iff _ _).0 u).0)) in search)

-- ---- sessions

abbrev pub SaidFits : Said → Type 0
SaidFits o = Fitting o.core

module _ (c : Core) (h : Fitting c) where
  -- 18 and 1 refuse what would not fit
  fit_begin : (phone : List ℕ) (at clock : ℕ) (mark : Mark) → length phone ≤ 32 → ltb at c.methods.count ≡ true → Holds SaidFits (Validation.begin c phone at clock mark)
  unfolding Validation.begin Validation.new_session session_fits tries_fit
  fit_begin phone at clock mark p m =
      let e : session_fits c.methods (Validation.new_session c phone at clock) ≡ true = rw (id_range phone p, m) in
      search

  fit_start_as : (phone : List ℕ) (at clock : ℕ) (lent gives : Bool) (k : Kind) → length phone ≤ 32 → ltb at c.methods.count ≡ true
      → Holds SaidFits (Validation.start_as c phone at clock lent gives k)
  unfolding leave
  fit_start_as phone at clock lent gives InCarAction p m = search fit_begin
  fit_start_as phone at clock lent gives CodeEntry p m = search (if_checked, fit_begin)

  pub fit_start : (phone method : List ℕ) (clock : ℕ) (lent gives : Bool) → Holds SaidFits (Validation.start c phone method clock lent gives)
  unfolding Validation.start Validation.start_at Validation.start_checks leave unmet
  fit_start phone method clock lent gives =
      if_checked (leave c) _ _ (λ a. search)
      (λ (u : unmet (Validation.start_checks c phone (place_of c.methods method) clock) ≡ true).
      let q = simp and-eq-true_iff at u in
      let p = ltb-false 32 (length phone) (not-true _ q.0) in
      let m = lt-ltb _ _ (leb-false c.methods.count (place_of c.methods method) (not-true _ q.1.0)) in
      search fit_start_as)

  fit_end : (a : Answer) (status : Status) (clock : ℕ) → Holds SaidFits (Validation.end_session c a status clock)
  unfolding Validation.end_session finish ended_as session_fits tries_fit
  fit_end a status clock = search

  -- a tick leaves the session, or ends it
  by_lapse : (P : Option Status → Type 0) (clock : ℕ) → P None → ((status : Status) → P (Some status)) → P (lapse_of c clock)
  unfolding lapse_of
  by_lapse P clock s e =
      let x = c.validation.session in
      cases P (in_progress x) _ _
      (λ r. cases P (cannot_go_on c x) _ _ (λ n. e Cancelled) (λ n. cases P (ltb clock x.deadline) _ _ (λ t. s) (λ t. e TimedOut)))
      (λ r. s)

  fit_tick : (clock : ℕ) → Holds SaidFits (Validation.tick c clock)
  unfolding Validation.tick leave
  fit_tick clock = by_lapse (λ (l : Option Status). Holds SaidFits (Validation.ticked_as c clock l)) clock (search) (λ status. fit_end _ status clock)

  fit_wrong : (clock : ℕ) → Holds SaidFits (Validation.wrong c clock)
  unfolding Validation.wrong Validation.tried_core Validation.failed_core Validation.refilled notified reply finish ended_as session_fits tries_fit
  fit_wrong clock = search (if_cond, full_fits, fewer_fits)

module _ (g : Gate) (h : Fits g) where
  unvalidated : (o : Said) → Holds SaidFits o → Holds (Leaves g of_session) (Validation.unvalidated o)
  unfolding left saying view
  unvalidated o f = search

  fit_ticking : (clock : ℕ) (a : Answer) (o : Ended) → Holds (Leaves g of_session) o → Holds (Leaves g of_session) (Validation.ticking g.core clock a o (lapse_of g.core clock))
  fit_ticking clock a o f =
      by_lapse g.core h.core (λ (l : Option Status). Holds (Leaves g of_session) (Validation.ticking g.core clock a o l)) clock f (λ status. search (unvalidated, fit_end))

  -- a session that runs has a phone whose id is in range
  fit_succeed : (a : Answer) (clock : ℕ) → in_progress g.core.validation.session ≡ true → Holds (Leaves g of_session) (Validation.succeed g.core a clock)
  unfolding left saying view Validation.succeed Validation.succeeded_core Validation.refilled finish ended_as session_fits tries_fit
  fit_succeed a clock r =
      let s = g.core.validation.session in
      let p = phone_short g.core.methods s h.core.session r in
      let v = validating_fits g.phones.store h.store h.digests s.car (id_bytes s.phone) h.core.car p in
      search full_fits

  fit_judged : (clock : ℕ) (right full : Bool) (kind : Kind) → in_progress g.core.validation.session ≡ true
      → Holds (Leaves g of_session) (Validation.judge_as g.core clock right full kind)
  unfolding Validation.judge Validation.right_code notified reply
  fit_judged clock right full InCarAction r = search unvalidated
  fit_judged clock right full CodeEntry r = search (if_cond, unvalidated, fit_succeed, fit_wrong)

  pub fit_submit : (phone : List ℕ) (clock : ℕ) (text right full : Bool) → Holds (Leaves g of_session) (Validation.submit g.core phone clock text right full)
  unfolding Validation.submit Validation.submitted Validation.runs_for leave notified reply
  fit_submit phone clock text right full =
      if_checked _ _ _ (λ a. unvalidated (leave g.core a) (search))
      (λ u. fit_ticking clock _ _
      (if_cond (Validation.runs_for g.core.validation.session phone) _ _ (λ e. let r = (simp and-eq-true_iff at e).0 in search fit_judged) (λ e. search unvalidated)))

  fit_complete : (number clock : ℕ) (full : Bool) → Holds (Leaves g of_session) (Validation.complete g.core number clock full)
  unfolding Validation.complete Validation.completed Validation.is_action leave
  fit_complete number clock full =
      fit_ticking clock _ _
      (if_cond (Validation.is_action g.core number) _ _
      (λ e. let r = (simp and-eq-true_iff at e).0.0 in search (if_cond, unvalidated, fit_succeed))
      (λ e. search unvalidated))

  pub fit_ended : (full : Bool) (k : SessionCall) → Holds (Leaves g of_session) (ended g.core full k)
  unfolding ended Validation.cancel leave
  fit_ended full (Gate.cancel_validation phone clock) = search (unvalidated, if_checked, fit_end)
  fit_ended full (Gate.complete_validation_action number clock) = fit_complete number clock full
  fit_ended full (Gate.tick_validation clock) = search (unvalidated, fit_tick)

-- ---- the calls on the core

-- the digest of the car identified now
abbrev Known : Said → Type 0
Known o = length o.core.policy.identity.car.digest ≡ 32

module _ (c : Core) (h : Fitting c) where
  fit_open : (bus : ℕ) (frames : List ProbeFrame) (count clock : ℕ) → length frames ≡ 4 → Holds SaidFits (Probe.open_probe c bus frames count clock)
  unfolding Probe.open_probe Probe.window_changed Probe.is_valid_probe leave reply unmet
  fit_open bus frames count clock f =
      if_checked (leave c) _ _ (λ a. search)
      (λ u. let valid : Probe.is_valid_probe c.policy bus frames count ≡ true = not-false _ (not-true _ ((and-eq-true_iff _ _).0 u).0) in
      let w = window_opens_lem bus frames count clock c.probe.relocks f (simp and-eq-true_iff at valid).0.1 in
      search)

  fit_passed : (u : Option ℕ) → Holds SaidFits (Tx.passed c u)
  unfolding marked_sent window_fits leave quiet
  fit_passed None = search
  fit_passed (Some i) = search

  pub fit_allow : (bus : ℕ) (frame : CanFrame) (class : TxClass) (validated : Bool) (clock : ℕ) → Holds SaidFits (Tx.allow c bus frame class validated clock)
  unfolding leave Tx.allow Tx.allow_platform Tx.through_window
  fit_allow bus frame Platform validated clock = search (if_checked, if_cond, fit_passed)
  fit_allow bus frame Command validated clock = search if_checked

module _ (v : View) (h : Fitting v.core) where
  -- of what the range asks for, a call on the core may touch the peer and the probe; z tells which call it is
  untouched : {k : CoreCall} → Sized (on_core k) → is_in (in_core peer) (map in_core (core_touches k)) ≡ false → is_in (in_core probe) (map in_core (core_touches k)) ≡ false
      → Holds Known (said v.core v.lists k) → Holds SaidFits (said v.core v.lists k)
  unfolding methods_fit session_fits tries_fit
  untouched {k} z p w d =
      let b = core_beside v.core v.lists k in
      let e : (said v.core v.lists k).core.peer ≡ v.core.peer = (λ i. ((core_keeps v.core v.lists k).core i).peer) ∙ rw p in
      let f : (said v.core v.lists k).core.probe ≡ v.core.probe = (λ i. ((core_keeps v.core v.lists k).core i).probe) ∙ rw w in
      search (b.settings, b.methods, b.count, b.validation, e, f)

  pub fit_said : (k : CoreCall) → Sized (on_core k) → Holds SaidFits (said v.core v.lists k)
  unfolding said some_of leave quiet reply notified window_fits Pairing.set_peer Access.approve Access.revoke_approval Access.restore_approval DevLock.set_dev_unlocked DevLock.declare_production CarIdentity.confirm_platform CarIdentity.revoke_platform CarIdentity.confirm_fingerprint CarIdentity.note_platform Can.note_logging Can.note_fd_bus Methods.note_available Methods.note_continue Changes.policy_changed Changes.relocked Probe.close_probe Probe.window_changed Probe.heard heard_at Can.set_read_only
  fit_said (Gate.set_ble_peer id) z = if_checked (leave v.core) _ _ (λ a. search) (λ u. let s = short_id_lem id _ _ u in search (if_cond, id_range))
  fit_said Gate.approve_can_read_write z = untouched z refl refl (search if_checked)
  fit_said Gate.revoke_can_read_write_approval z = untouched z refl refl (search)
  fit_said (Gate.restore_can_read_write_approval approval) z = untouched z refl refl (search)
  fit_said (Gate.set_can_dev_write_unlocked unlocked) z = untouched z refl refl (search if_checked)
  fit_said Gate.declare_production_build z = untouched z refl refl (search)
  fit_said Gate.confirm_car_identity z = untouched z refl refl (search)
  fit_said Gate.revoke_car_identity z = search
  fit_said (Gate.confirm_car_fingerprint fingerprint) z = untouched z refl refl (search (if_checked, digest_long))
  fit_said (Gate.set_can_read_only true) z = search
  fit_said (Gate.set_can_read_only false) z = search
  fit_said (Gate.open_identity_probe bus frames count clock) z = fit_open v.core h bus frames count clock (z.probe bus frames count clock refl)
  fit_said Gate.close_identity_probe z = search if_cond
  fit_said (Gate.allow_can_tx bus frame class owner clock) z = fit_allow v.core h bus frame class _ clock
  fit_said (Gate.heard_can_frame bus clock) z = search if_cond
  fit_said (Gate.note_platform_id number) z = untouched z refl refl (search)
  fit_said (Gate.note_can_logging on) z = untouched z refl refl (search)
  fit_said (Gate.note_can_fd_bus bus on) z = untouched z refl refl (search if_cond)
  fit_said (Gate.note_method_available place on) z = untouched z refl refl (search if_cond)
  fit_said (Gate.note_method_can_continue place on) z = untouched z refl refl (search if_cond)
