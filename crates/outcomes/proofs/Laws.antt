-- How a call's outcome comes to be what `step` gives: one law for each kind of operation.
use mathlib.Core.Path.{◌≡◌, refl, ap, sym, ◌∙◌}
use mathlib.Core.Bool.{Bool, true, false, cond}
use mathlib.Core.List.{List}
use Prim.Native.Nat.{ℕ}
use Rattle.phones.specs.Ids.{Left, stays, becomes, afterwards}
use Rattle.saved_record.specs.declared.Store.{Store}
use Rattle.saved_record.specs.SavedRecord.{CarIds}
use Rattle.saved_record.specs.Store.{cars_of}
use Rattle.state.specs.declared.Phones.{Phones}
use Rattle.state.specs.declared.Gate.{Gate}
use Rattle.state.specs.declared.Said.{Said}
use Rattle.state.specs.declared.Ended.{Ended}
use Rattle.state.specs.declared.Listed.{Listed}
use Rattle.state.specs.declared.Outcome.{Outcome}
use Rattle.state.specs.declared.Answer.TheVariants.{BadSettings}
use Rattle.save.specs.declared.Kept.{Kept}
use Rattle.save.specs.Save.{Saving}
use Rattle.save.specs.Steps.{Says}
use Rattle.state.specs.Replies.{no_s, no_signals, nothing_raised, sending, leave, no_code, code_at, showing}
use Rattle.state.specs.View.{View, Listing, view, lists_in, lists_stay, laid_store, listed_in}
use Rattle.range.specs.Range.{in_range}
use Rattle.answers.specs.Query.{plain}
use Rattle.validations.proofs.Laid.{store_after}
use Rattle.validation.specs.Calls.{unvalidated}
use Rattle.definition.specs.Gate.{SessionCall, ListCall, SaveCall, CoreCall, on_session, on_lists, on_save, on_core, saying, of_core, of_session, of_lists, of_save, saving, Lent, nothing, bytes, lent_to_save, lent_as, lent_after, given_with, asked, served, ended, listing, said, full_for, says, left, gives, packed, step, given}
use Rattle.outcomes.specs.Served.{out_of_range, said_on, ended_on, listed_on, kept_on}
use Rattle.outcomes.specs.Settled.{put, stored_if, Settles, Keeps}

-- ---- what is put together

pub put_core : (g : Gate) (drawn : List ℕ) (o : Said)
    → given (put g.code drawn o g.phones g.save g.queue (sending (showing (code_at g.code drawn o.shows) o.raised) no_s)) ≡ gives packed g nothing (of_core (view g) drawn o)
unfolding put gives saying left view
put_core g drawn o = refl

pub put_stored : (g : Gate) (o : Said) (stores : Bool) (v : Store) (x : Left (List CarIds)) → v ≡ laid_store g.phones.store x
    → given (put g.code no_code o (record { paired = g.phones.paired; store = v }) g.save g.queue (sending (showing (code_at g.code no_code o.shows) o.raised) (stored_if stores (cars_of v)))) ≡ gives packed g nothing (saying (view g) no_code o stores x)
unfolding put gives saying left view
put_stored g o stores v x e = rw (e, store_after g.phones.store x)

pub put_lists : (g : Gate) (d : Listing) (x : Listed) → x ≡ listed_in g.phones d
    → given (record { answer = x.answer; signals = sending x.raised (stored_if x.stores (cars_of x.phones.store)); gate = record { core = g.core; phones = x.phones; save = g.save; queue = g.queue; code = g.code } })
    ≡ gives packed g nothing (of_lists (view g) d)
unfolding gives left view
put_lists g d x e = rw (e, store_after g.phones.store d.store)

pub put_save : (g : Gate) (m : Lent) (d : Saving) (x : Kept) → Says x d
    → given_with (record { answer = x.answer; signals = no_signals; gate = record { core = g.core; phones = g.phones; save = x.save; queue = g.queue; code = g.code } }) (lent_after m (lent_as bytes d.lent))
    ≡ gives packed g m (of_save (view g) d)
unfolding gives left view no_signals nothing_raised
put_save g m d x e = rw e

-- lent memory as it is left, by what it holds
pub lent_as_lem : {A : Type 0} (f : A → Lent) (m : A) (x : Left A) → f (afterwards m x) ≡ afterwards (f m) (lent_as f x)
lent_as_lem f m stays = refl
lent_as_lem f m (becomes y) = refl

-- ---- 25 before what is said, or in it

module _ (v : View) where
  core_or : (b : Bool) (drawn : List ℕ) (o : Said) → cond b (of_core v drawn o) (asked v (plain BadSettings)) ≡ of_core v drawn (cond b o (out_of_range v.core))
  unfolding saying leave nothing_raised
  core_or true drawn o = refl
  core_or false drawn o = refl

  session_or : (b : Bool) (e : Ended) → cond b (of_session v e) (asked v (plain BadSettings)) ≡ of_session v (cond b e (unvalidated (out_of_range v.core)))
  unfolding saying leave nothing_raised
  session_or true e = refl
  session_or false e = refl

  lists_or : (b : Bool) (d : Listing) → cond b (of_lists v d) (asked v (plain BadSettings)) ≡ of_lists v (cond b d (lists_stay nothing_raised BadSettings))
  unfolding lists_stay
  lists_or true d = refl
  lists_or false d = refl

  save_or : (b : Bool) (x : Saving) → cond b (of_save v x) (asked v (plain BadSettings)) ≡ of_save v (cond b x (record { answer = BadSettings; save = v.save; lent = stays }))
  save_or true x = refl
  save_or false x = refl

laid_or : (p : Phones) (b : Bool) (d e : Listing) → cond b (listed_in p d) (listed_in p e) ≡ listed_in p (cond b d e)
laid_or p true d e = refl
laid_or p false d e = refl

-- ---- what a call gives

module _ (g : Gate) where
  -- an operation on the core
  pub by_said : (drawn : List ℕ) (p o : Said) (r : Outcome) → p ≡ said_on (view g) o → given r ≡ gives packed g nothing (of_core (view g) drawn p)
      → given r ≡ gives packed g nothing (served (view g) (of_core (view g) drawn o))
  unfolding served said_on
  by_said drawn p o r f z = z ∙ ap (λ (t : Said). gives packed g nothing (of_core (view g) drawn t)) f ∙ sym (ap (gives packed g nothing) (core_or (view g) (in_range (view g)) drawn o))

  pub by_core : (k : CoreCall) (o p : Said) (r : Outcome) → o ≡ said g.core (lists_in g.phones) k → p ≡ said_on (view g) o → given r ≡ gives packed g nothing (of_core (view g) no_code p) → given r ≡ step g (on_core k)
  unfolding step says view
  by_core k o p r f q z = by_said no_code p (said g.core (lists_in g.phones) k) r (q ∙ ap (said_on (view g)) f) z

  -- an operation on a session
  pub by_ended : (p o : Ended) (r : Outcome) → p ≡ ended_on (view g) o → given r ≡ gives packed g nothing (of_session (view g) p) → given r ≡ gives packed g nothing (served (view g) (of_session (view g) o))
  unfolding served ended_on
  by_ended p o r f z = z ∙ ap (λ (t : Ended). gives packed g nothing (of_session (view g) t)) f ∙ sym (ap (gives packed g nothing) (session_or (view g) (in_range (view g)) o))

  pub by_session : (k : SessionCall) (o p : Ended) (r : Outcome) → o ≡ ended g.core (full_for (view g)) k → p ≡ ended_on (view g) o → given r ≡ gives packed g nothing (of_session (view g) p) → given r ≡ step g (on_session k)
  unfolding step says view
  by_session k o p r f q z = by_ended p (ended g.core (full_for (view g)) k) r (q ∙ ap (ended_on (view g)) f) z

  -- an operation on the lists
  pub by_lists : (k : ListCall) (x p : Listed) (r : Outcome) → x ≡ listed_in g.phones (listing (lists_in g.phones) g.core.settings.bonded k) → p ≡ listed_on g x → Settles g p r → given r ≡ step g (on_lists k)
  unfolding step says served listed_on view
  by_lists k x p r f q z =
      let b = in_range (view g) in
      let d = listing (lists_in g.phones) g.core.settings.bonded k in
      let none = lists_stay nothing_raised BadSettings in
      z (cond b d none) (q ∙ ap (listed_on g) f ∙ laid_or g.phones b d none) ∙ sym (ap (gives packed g nothing) (lists_or (view g) b d))

  -- an operation on the save
  pub by_save : (k : SaveCall) (x : Kept) (r : Outcome) → Says x (kept_on (view g) (saving (cars_of g.phones.store) g.save k)) → Keeps g x r
      → given_with r (lent_after (lent_to_save k) (lent_as bytes (kept_on (view g) (saving (cars_of g.phones.store) g.save k)).lent)) ≡ step g (on_save k)
  unfolding step says served kept_on view
  by_save k x r e z =
      let b = in_range (view g) in
      let d = saving (cars_of g.phones.store) g.save k in
      z (kept_on (view g) d) (lent_to_save k) e ∙ sym (ap (gives packed g (lent_to_save k)) (save_or (view g) b d))
