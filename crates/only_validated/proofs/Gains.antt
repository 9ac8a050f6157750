-- Who becomes listed by a call. Sessions and records validate; by the other calls nobody becomes listed.
use Prim.Native.Nat.{ℕ, ◌<◌}
use mathlib.Core.Path.{◌≡◌, refl, sym, ◌∙◌}
use mathlib.Core.Bool.{Bool, true, false, cond, not, ◌||◌, and-eq-true_iff}
use mathlib.Core.List.{List}
use lib.Dec.{ltb}
use borrow.Author.Tests.{eqb-true, ltb-true}
use Rattle.arrays.proofs.Laws.{same_bytes_is}
use Rattle.phones.specs.Ids.{some_of, Left, stays, becomes}
use Rattle.phones.specs.Phones.{id_bytes}
use Rattle.saved_record.specs.SavedRecord.{CarIds, decoded}
use Rattle.saved_record.specs.Store.{cars_of}
use Rattle.text.specs.Text.{is_text, right}
use Rattle.state.specs.declared.Kind.{Kind}
use Rattle.state.specs.declared.Kind.TheVariants.{CodeEntry, InCarAction}
use Rattle.state.specs.declared.Session.{Session}
use Rattle.state.specs.declared.Core.{Core}
use Rattle.state.specs.declared.Gate.{Gate}
use Rattle.state.specs.declared.Answer.{Answer}
use Rattle.state.specs.declared.Said.{Said}
use Rattle.state.specs.declared.Ended.{Ended}
use Rattle.state.specs.Running.{is_code, in_progress, method_at}
use Rattle.state.specs.Replies.{finish}
use Rattle.state.specs.Checks.{checked}
use Rattle.state.specs.View.{lists_in, view}
use Rattle.range.specs.Range.{in_range}
use Rattle.policy.specs.Policy.{is_identified}
use Rattle.pairing.specs.Pairing as Pairing
use Rattle.validations.specs.Store.{storing}
use Rattle.validations.specs.Store as Validations
use Rattle.validations.proofs.Laid.{store_after}
use Rattle.std.specs.Prelude.{Option}
use Rattle.state.specs.declared.Status.{Status}
use Rattle.session.specs.Session.{ended_as, is_of, cannot_go_on, lapse_of}
use Rattle.validation.specs.Calls as Validation
use Rattle.definition.specs.Gate.{SessionCall, ListCall, Call, Says, full_for, saying, validates, served, queueing, ended, listing, says, left, gives, step, after}
use Rattle.definition.specs.Gate as Gate
use Rattle.footprint.proofs.Lists.{lists_keep}
use Rattle.only_validated.specs.Row.{Listed, NotListed, session, Validates, by_code, by_action, by_record}
use Rattle.only_validated.proofs.Stores.{untrue, cases, Gains, gain_stays, gain_none, gain_forgetting, gain_pruning, gain_validating, gain_restoring}

-- ---- a session's call validates only a phone of which P holds

record Only (P : List ℕ → List ℕ → Type 0) (e : Ended) : Type 0 where
  only : e.validates ≡ true → P e.said.core.validation.session.car (id_bytes e.said.core.validation.session.phone)

-- a tick would leave the session as it is: if it runs, its car is identified and it is in time
abbrev GoesOn : Core → ℕ → Type 0
GoesOn c clock = in_progress c.validation.session ≡ true → (is_identified c.policy.identity c.validation.session.car ≡ true) × (clock < c.validation.session.deadline)

identified : (c : Core) (s : Session) → cannot_go_on c s ≡ false → is_identified c.policy.identity s.car ≡ true
unfolding cannot_go_on
identified c s = go (is_identified c.policy.identity s.car) _ _
  where
    go : (i l n : Bool) → (not i || l || n) ≡ false → i ≡ true
    go true l n e = refl
    go false l n e = sym e

module _ (P : List ℕ → List ℕ → Type 0) where
  only_not : (o : Said) → Only P (Validation.unvalidated o)
  only_not o = record { only = untrue }

  only_cond : (b : Bool) (e f : Ended) → (b ≡ true → Only P e) → (b ≡ false → Only P f) → Only P (cond b e f)
  only_cond b e f h k = cases (Only P) b e f h k

  -- a call that ticks first goes on only so
  only_ticking : (c : Core) (clock : ℕ) (a : Answer) (e : Ended) → (GoesOn c clock → Only P e) → Only P (Validation.ticking c clock a e (lapse_of c clock))
  unfolding lapse_of
  only_ticking c clock a e k =
      let s = c.validation.session in
      let Q : Option Status → Type 0 = λ l. Only P (Validation.ticking c clock a e l) in
      cases Q (in_progress s) _ _
      (λ x. cases Q (cannot_go_on c s) _ _
      (λ y. only_not _)
      (λ y. cases Q (ltb clock s.deadline) _ _ (λ t. k (λ r. (identified c s y, ltb-true _ _ t))) (λ t. only_not _)))
      (λ x. k (λ r. untrue (sym x ∙ r)))

  only_succeed : (c : Core) (a : Answer) (clock : ℕ) → P c.validation.session.car (id_bytes c.validation.session.phone) → Only P (Validation.succeed c a clock)
  unfolding Validation.succeed Validation.succeeded_core Validation.refilled finish ended_as
  only_succeed c a clock p = record { only = λ e. p }

-- ---- the calls that validate

-- those whom the call validates
abbrev By : Gate → Call → List ℕ → List ℕ → Type 0
By g k car phone = Validates g car phone k

action_is : (k : Kind) → not (is_code k) ≡ true → k ≡ InCarAction
action_is CodeEntry e = untrue e
action_is InCarAction e = refl

module _ (g : Gate) (number clock : ℕ) where
  by_action_lem : GoesOn g.core clock → Validation.is_action g.core number ≡ true
      → By g (Gate.on_session (Gate.complete_validation_action number clock)) (session g).car (id_bytes (session g).phone)
  unfolding Validation.is_action
  by_action_lem t e =
      let p = simp and-eq-true_iff at e in
      let u = t p.0.0 in
      by_action number clock (record { running = p.0.0; of_kind = action_is _ p.1; of_phone = refl; of_car = refl; on_bike = u.0; in_time = u.1 }) (eqb-true _ _ p.0.1)

  only_complete : (full : Bool) → Only (By g (Gate.on_session (Gate.complete_validation_action number clock))) (Validation.complete g.core number clock full)
  unfolding Validation.complete Validation.completed
  only_complete full = only_ticking _ g.core clock _ _ (λ t. search (only_cond, only_not, only_succeed, by_action_lem))

module _ (g : Gate) (phone typed : List ℕ) (clock : ℕ) where
  by_code_lem : GoesOn g.core clock → Validation.runs_for (session g) phone ≡ true → (method_at g.core.methods (session g).method).kind ≡ CodeEntry
      → right g.code g.core.settings.digits typed ≡ true → By g (Gate.submit_validation_code phone typed clock) (session g).car (id_bytes (session g).phone)
  unfolding Validation.runs_for is_of
  by_code_lem t e m r =
      let p = (and-eq-true_iff (in_progress (session g)) _).0 e in
      let o = (same_bytes_is (id_bytes (session g).phone) phone).0 p.1 in
      let u = t p.0 in
      rw o (by_code typed clock (record { running = p.0; of_kind = m; of_phone = o; of_car = refl; on_bike = u.0; in_time = u.1 }) r)

  only_judged : (full : Bool) (k : Kind) → GoesOn g.core clock → Validation.runs_for (session g) phone ≡ true → (method_at g.core.methods (session g).method).kind ≡ k
      → Only (By g (Gate.submit_validation_code phone typed clock)) (Validation.judge_as g.core clock (right g.code g.core.settings.digits typed) full k)
  unfolding Validation.judge Validation.right_code
  only_judged full InCarAction t e m = only_not _ _
  only_judged full CodeEntry t e m = search (only_cond, only_not, only_succeed, by_code_lem)

  only_submit : (full : Bool) → Only (By g (Gate.submit_validation_code phone typed clock)) (Validation.submit g.core phone clock (is_text typed) (right g.code g.core.settings.digits typed) full)
  unfolding Validation.submit Validation.submitted checked
  only_submit full =
      only_cond _ (not (is_text typed)) _ _
      (λ x. only_not _ _)
      (λ x. only_ticking _ g.core clock _ _ (λ t. search (only_cond, only_not, only_judged)))

-- ---- every call

module _ (P : List ℕ → List ℕ → Type 0) (cs : List CarIds) where
  gain_ended : (x : Session) (b : Bool) → (b ≡ true → P x.car (id_bytes x.phone)) → Gains P cs (validates cs x b)
  gain_ended x false k = gain_stays P cs
  gain_ended x true k = gain_validating P cs x.car (id_bytes x.phone) (k refl)

  gain_storing : (a : Answer) (x : Left (List (List ℕ))) (y : Left (List CarIds)) → Gains P cs y → Gains P cs (storing a x y).store
  gain_storing a x stays h = h
  gain_storing a x (becomes z) h = h

module _ (g : Gate) where
  gain_listing : (k : ListCall) → Gains (By g (Gate.on_lists k)) (cars_of g.phones.store) (listing (lists_in g.phones) g.core.settings.bonded k).store
  unfolding listing view some_of Pairing.unpair Pairing.clear Validations.forget Validations.prune Validations.restore
  gain_listing (Gate.add_paired_phone id) = rw (lists_keep (lists_in g.phones) g.core.settings.bonded (Gate.add_paired_phone id)).store (gain_stays _ _)
  gain_listing (Gate.remove_paired_phone id) = search (gain_storing, gain_forgetting)
  gain_listing Gate.clear_paired_phones = gain_none _ _
  gain_listing (Gate.forget_phone_validation id) = search (gain_storing, gain_forgetting)
  gain_listing Gate.prune_phone_validations = search (gain_storing, gain_pruning)
  gain_listing (Gate.restore_phone_validations bytes) = gain_restoring _ _ (decoded bytes) (λ car phone cs e m. by_record bytes cs e m)

  gain_session : (full : Bool) (k : SessionCall) → Only (By g (Gate.on_session k)) (ended g.core full k)
  unfolding ended
  gain_session full (Gate.cancel_validation phone clock) = only_not _ _
  gain_session full (Gate.complete_validation_action number clock) = only_complete g number clock full
  gain_session full (Gate.tick_validation clock) = only_not _ _

  -- a gate that gets 25 stays as it is
  abbrev Served : Call → List ℕ → List ℕ → Type 0
  Served k car phone = (in_range (view g) ≡ true) × Validates g car phone k

  gain_served : (k : Call) (s : Says) → Gains (By g k) (cars_of g.phones.store) s.store → Gains (Served k) (cars_of g.phones.store) (served (view g) s).store
  unfolding served
  gain_served k s h =
      cases (λ (x : Says). Gains (Served k) (cars_of g.phones.store) x.store) (in_range (view g)) _ _
      (λ r. record { gains = λ car phone n l. (r, h.gains car phone n l) })
      (λ r. gain_stays _ _)

  gain_call : (k : Call) → Gains (Served k) (cars_of g.phones.store) (says (view g) k).store
  unfolding says queueing saying view
  gain_call (Gate.new_gate_call settings methods count) = gain_none _ _
  gain_call (Gate.start_validation phone method clock random) = gain_served _ _ (gain_stays _ _)
  gain_call (Gate.submit_validation_code phone typed clock) =
      let e = Validation.submit g.core phone clock (is_text typed) (right g.code g.core.settings.digits typed) (full_for (view g)) in
      gain_served _ _ (gain_ended _ _ e.said.core.validation.session e.validates (only_submit g phone typed clock (full_for (view g))).only)
  gain_call (Gate.on_session k) =
      let e = ended g.core (full_for (view g)) k in
      gain_served _ _ (gain_ended _ _ e.said.core.validation.session e.validates (gain_session (full_for (view g)) k).only)
  gain_call (Gate.on_lists k) = gain_served _ _ (gain_listing k)
  gain_call (Gate.on_save k) = gain_served _ _ (gain_stays _ _)
  gain_call (Gate.on_queue (Gate.send_can_frame list frame class owner)) = gain_served _ _ (gain_stays _ _)
  gain_call (Gate.on_queue (Gate.serve_can_frames list turns clock)) =
      cases (λ (x : Says). Gains (Served (Gate.on_queue (Gate.serve_can_frames list turns clock))) (cars_of g.phones.store) x.store) (in_range (view g)) _ _ (λ r. gain_stays _ _) (λ r. gain_stays _ _)
  gain_call (Gate.on_core k) = gain_served _ _ (gain_stays _ _)
  gain_call (Gate.ask q) = gain_stays _ _

  pub becomes_listed : (k : Call) (car phone : List ℕ) → NotListed g car phone → Listed (after g k) car phone → (in_range (view g) ≡ true) × Validates g car phone k
  unfolding step gives left
  becomes_listed k car phone n l = (gain_call k).gains car phone n (rw (store_after g.phones.store (says (view g) k).store) at l)
