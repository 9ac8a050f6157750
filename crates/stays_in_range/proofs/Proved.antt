-- New gate, and the theorems.
use Prim.Native.Nat.{ℕ, zero, suc}
use mathlib.Core.Path.{◌≡◌, refl}
use mathlib.Core.Bool.{Bool, true, false, cond, ◌&&◌, false≢true, and-eq-true_iff}
use mathlib.Core.List.{List, [], ◌∷◌, map}
use native.Mathlib.Omega.{arith}
use borrow.Author.Tests.{ltb-false}
use lib.Dec.{ltb}
use lib.ListN.{length, take, length-map}
use lib.Seq.{length-take-le}
use Rattle.arrays.proofs.Laws.{both, padded_take}
use Rattle.phones.specs.Ids.{all_of}
use Rattle.phones.specs.Phones.{id_bytes, id_of}
use Rattle.phones.proofs.Laws.{bytes_of_id}
use Rattle.phones.proofs.Range.{id_range}
use Rattle.saved_record.proofs.Laws.{cars_of_store}
use Rattle.state.specs.declared.Method.{Method}
use Rattle.state.specs.declared.Settings.{Settings}
use Rattle.state.specs.declared.Methods.{Methods}
use Rattle.state.specs.declared.Gate.{Gate}
use Rattle.state.specs.declared.Said.{Said}
use Rattle.state.specs.Running.{no_method, clean_method}
use Rattle.state.specs.View.{view}
use Rattle.range.specs.Range.{within, method_fits, all_fit, methods_in, methods_fit, settings_fit, session_fits, tries_fit, window_fits, save_fits, queue_fits}
use Rattle.range.proofs.Laws.{within_is}
use Rattle.save.specs.Save.{no_save}
use Rattle.new_gate.specs.New.{new_methods, new_core, least_settings, Made, made_core}
use Rattle.definition.specs.Gate.{Call, new_gate_call, Says, saying, of_core, served, queueing, says, left, gives, step, after, after_all}
use Rattle.definition.specs.Gate as Gate
use Rattle.stays_in_range.specs.Stays.{IdsOf32, SizedMethods, Sized, AllSized, SizedGate, InRange, NewInRange, StaysInRange, AlwaysInRange}
use Rattle.stays_in_range.proofs.Parts.{Fitting, Fits, fits, in_range_lem, full_fits, Holds, cases}
use Rattle.stays_in_range.proofs.Cars.{empty_store, empty_list}
use Rattle.stays_in_range.proofs.Calls.{fit_listing, fit_saving, SaidFits, fit_start, fit_submit, fit_ended, fit_said}
use Rattle.stays_in_range.proofs.Queue.{fit_sending, fit_serving}

-- ---- the methods of a new gate

-- a method that fits does so with zeros past its id's length
clean_fits : (m : Method) → length m.id.bytes ≡ 32 → method_fits m ≡ true → method_fits (clean_method m) ≡ true
unfolding method_fits clean_method id_of id_bytes
clean_fits m far h =
    let p = (and-eq-true_iff (within 1 32 m.id.len) _).0 h in
    let b = within_is 1 32 m.id.len p.0 in
    let long : length (id_bytes m.id) ≡ m.id.len = length-take-le m.id.len m.id.bytes (omega arith) in
    rw (bytes_of_id (id_bytes m.id), long) h

all_clean : (n : ℕ) (ms : List Method) → IdsOf32 ms → all_of method_fits (take n ms) ≡ true → all_of method_fits (take n (map clean_method ms)) ≡ true
unfolding all_of
all_clean zero ms z h = refl
all_clean (suc n) [] z h = refl
all_clean (suc n) (m ∷ ms) z h = let p = both (method_fits m) _ h in rw (clean_fits m z.0 p.0) (all_clean n ms z.1 p.1)

new_methods_fit : (ms : List Method) (count : ℕ) → SizedMethods ms → methods_in ms count ≡ true → methods_fit (new_methods ms count) ≡ true
unfolding methods_fit new_methods methods_in all_fit
new_methods_fit ms count z h =
    let p = unless (ltb 8 count) _ h in
    let far = z.eight in
    let few = ltb-false 8 count p.0 in
    let used = take count (map clean_method ms) in
    let long : length used ≡ count = length-take-le count (map clean_method ms) (rw length-map (omega arith)) in
    rw (p.0, rw long at (padded_take 8 no_method used)) (all_clean count ms z.ids p.1)
  where
    unless : (b x : Bool) → cond b false x ≡ true → (b ≡ false) × (x ≡ true)
    unless true x e = absurd (false≢true e)
    unless false x e = (refl, e)

-- ---- New gate

new_core_fits : (settings : Settings) (m : Methods) → settings_fit settings ≡ true → methods_fit m ≡ true → Fitting (new_core settings m)
unfolding new_core session_fits tries_fit window_fits
new_core_fits settings m s h =
    record {
      settings = s;
      methods = h;
      peer = id_range [] (omega arith);
      session = refl;
      tries = full_fits settings s;
      window = refl;
      identified = refl;
      car = refl;
    }

made_fits : (settings : Settings) (methods : List Method) (count : ℕ) → SizedMethods methods → Fitting (made_core settings methods count).core
unfolding made_core settings_fit within methods_fit methods_in new_methods all_fit all_of
made_fits settings methods count z =
    cases (λ (m : Made). Fitting m.core) (settings_fit settings && methods_in methods count) _ _
    (λ e. let p = (and-eq-true_iff (settings_fit settings) _).0 e in new_core_fits settings (new_methods methods count) p.0 (new_methods_fit methods count z p.1))
    (λ e. new_core_fits least_settings (new_methods [] 0) refl refl)

new_fits : (g : Gate) (settings : Settings) (methods : List Method) (count : ℕ) → SizedMethods methods → Fits (after g (new_gate_call settings methods count))
unfolding step gives left says save_fits queue_fits within no_save
new_fits g settings methods count z =
    record { core = made_fits settings methods count z; paired = empty_list; store = empty_store; save = refl; queue = refl; digests = rw (cars_of_store []) tt }

pub new_in_range : NewInRange
new_in_range g settings methods count z = (in_range_lem _ (new_fits g settings methods count z)).0

-- ---- every call

module _ (g : Gate) (r : InRange g) (h : Fits g) where
  served_in : (s : Says) → Fits (left g s) → Fits (left g (served (view g) s))
  unfolding served
  served_in s f = rw r f

  core_in : (drawn : List ℕ) (o : Said) → Holds SaidFits o → Fits (left g (served (view g) (of_core (view g) drawn o)))
  unfolding saying left view
  core_in drawn o f = served_in _ (search h)

  stays_in : (k : Call) → Sized k → Fits (after g k)
  unfolding step gives says queueing view left
  stays_in (Gate.new_gate_call settings methods count) z = new_fits g settings methods count (z.new settings methods count refl)
  stays_in (Gate.start_validation phone method clock random) z = core_in _ _ (fit_start g.core h.core phone method clock _ _)
  stays_in (Gate.submit_validation_code phone typed clock) z = served_in _ (fit_submit g h phone clock _ _ _).holds
  stays_in (Gate.on_session k) z = served_in _ (fit_ended g h _ k).holds
  stays_in (Gate.on_lists k) z = served_in _ (fit_listing g h k).holds
  stays_in (Gate.on_save k) z = served_in _ (fit_saving g h k).holds
  stays_in (Gate.on_queue (Gate.send_can_frame list frame class owner)) z = served_in _ (fit_sending g h list frame class owner).holds
  stays_in (Gate.on_queue (Gate.serve_can_frames list turns clock)) z = rw r (fit_serving g h list turns clock)
  stays_in (Gate.on_core k) z = core_in _ _ (fit_said (view g) h.core k z)
  stays_in (Gate.ask q) z = h

pub stays_in_range : StaysInRange
stays_in_range g k z s r = in_range_lem _ (stays_in g r (fits g s r) k z)

-- ---- any calls

pub all_in_range : (ks : List Call) (g : Gate) → AllSized ks → InRange g × SizedGate g → InRange (after_all g ks)
all_in_range [] g z p = p.0
all_in_range (k ∷ ks) g z p = all_in_range ks (after g k) z.1 (stays_in_range g k z.0 p.1 p.0)

pub always_in_range : AlwaysInRange
always_in_range g settings methods count ks z zs = all_in_range ks _ zs (in_range_lem _ (new_fits g settings methods count z))
