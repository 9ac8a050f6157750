-- A gate in range whose digests have 32 bytes, part by part; what keeps the parts of a core in range; and what holds whichever way a call goes.
use Prim.Native.Nat.{ℕ, ◌-◌, ◌≤◌}
use mathlib.Core.Path.{◌≡◌, refl}
use mathlib.Core.Bool.{Bool, true, false, cond, and-eq-true_iff}
use mathlib.Core.List.{List, [], ◌∷◌}
use native.Mathlib.Omega.{arith}
use borrow.Author.Tests.{eqb-true, ltb-true, ltb-false, le-ltb, not-true}
use lib.Dec.{eqb, ltb}
use lib.ListN.{length, take, length-take}
use lib.Seq.{length-take-le}
use Rattle.arrays.proofs.Laws.{both}
use Rattle.phones.specs.declared.ShortId.{ShortId}
use Rattle.phones.specs.Ids.{all_of}
use Rattle.phones.specs.Phones.{id_bytes, too_long, id_in_range, list_in_range}
use Rattle.frames.specs.declared.ProbeFrame.{ProbeFrame}
use Rattle.saved_record.specs.SavedRecord.{CarIds}
use Rattle.saved_record.specs.Store.{cars_of}
use Rattle.saved_record.proofs.Parts.{Digests}
use Rattle.state.specs.declared.Methods.{Methods}
use Rattle.state.specs.declared.Settings.{Settings}
use Rattle.state.specs.declared.Session.{Session}
use Rattle.state.specs.declared.Core.{Core}
use Rattle.state.specs.declared.Gate.{Gate}
use Rattle.state.specs.declared.Answer.{Answer}
use Rattle.state.specs.Running.{in_progress}
use Rattle.state.specs.Checks.{Check, ◌refuses◌, checked, unmet}
use Rattle.state.specs.View.{View, view, store_in_range}
use Rattle.range.specs.Range.{within, settings_fit, methods_fit, tries_fit, session_fits, window_fits, core_fits, save_fits, queue_fits, in_range}
use Rattle.probe_window.specs.Window.{new_window}
use Rattle.range.proofs.Laws.{within_is}
use Rattle.definition.specs.Gate.{Says, left}
use Rattle.stays_in_range.specs.Stays.{digests_of32, SizedGate, InRange}

-- ---- digests of 32 bytes, by a test and one by one

pub digests_of : (cs : List CarIds) → digests_of32 cs ≡ true → Digests cs
unfolding all_of
digests_of [] h = tt
digests_of (c ∷ cs) h = let p = both (eqb (length c.car) 32) _ h in (eqb-true (length c.car) 32 p.0, digests_of cs p.1)

of_digests : (cs : List CarIds) → Digests cs → digests_of32 cs ≡ true
unfolding all_of
of_digests [] h = refl
of_digests (c ∷ cs) h = rw h.0 (of_digests cs h.1)

-- ---- the parts

pub record Fitting (c : Core) : Type 0 where
  pub settings : settings_fit c.settings ≡ true
  pub methods : methods_fit c.methods ≡ true
  pub peer : id_in_range c.peer ≡ true
  pub session : session_fits c.methods c.validation.session ≡ true
  pub tries : tries_fit c.settings c.validation ≡ true
  pub window : window_fits c.probe.window ≡ true
  pub identified : length c.policy.identity.car.digest ≡ 32
  pub car : length c.validation.session.car ≡ 32

pub record Fits (g : Gate) : Type 0 where
  pub core : Fitting g.core
  pub paired : list_in_range g.phones.paired ≡ true
  pub store : store_in_range g.phones.store ≡ true
  pub save : save_fits g.save ≡ true
  pub queue : queue_fits g.queue ≡ true
  pub digests : Digests (cars_of g.phones.store)

pub fits : (g : Gate) → SizedGate g → InRange g → Fits g
unfolding view in_range core_fits
fits g z h =
    let p = simp and-eq-true_iff at h in
    let c = p.0.0.0.0 in
    record {
      core = record {
        settings = c.0.0.0.0.0;
        methods = c.0.0.0.0.1;
        peer = c.0.0.0.1;
        session = c.0.0.1;
        tries = c.0.1;
        window = c.1;
        identified = z.identified;
        car = z.session;
      };
      paired = p.0.0.0.1;
      store = p.0.0.1;
      save = p.0.1;
      queue = p.1;
      digests = digests_of (cars_of g.phones.store) z.stored;
    }

pub in_range_lem : (g : Gate) → Fits g → InRange g × SizedGate g
unfolding view in_range core_fits
in_range_lem g h = let c = h.core in (rw (c.settings, c.methods, c.peer, c.session, c.tries, c.window, h.paired, h.store, h.save, h.queue), record { stored = of_digests (cars_of g.phones.store) h.digests; identified = c.identified; session = c.car })

-- ---- numbers and ids

pub is_within : (low high x : ℕ) → low ≤ x → x ≤ high → within low high x ≡ true
unfolding within
is_within low high x p q = rw (le-ltb x low p, le-ltb high x q)

-- ---- the tries left

-- full, as a new gate, a session that succeeds and one that fails leave them
pub full_fits : (s : Settings) → settings_fit s ≡ true → within 1 s.tries s.tries ≡ true
unfolding settings_fit
full_fits s h = is_within 1 s.tries s.tries (within_is 1 20 s.tries (simp and-eq-true_iff at h).0.0.0.0.1).0 (omega arith)

-- one fewer, where it is not the last
pub fewer_fits : (s : Settings) (x : ℕ) → within 1 s.tries x ≡ true → ltb 1 x ≡ true → within 1 s.tries (x - 1) ≡ true
fewer_fits s x w e = let b = within_is 1 s.tries x w in is_within 1 s.tries (x - 1) (omega (arith, ltb-true 1 x e)) (omega arith)

id_short : (p : ShortId) → id_in_range p ≡ true → length (id_bytes p) ≤ 32
unfolding id_in_range too_long id_bytes
id_short p h = let k : p.len ≤ 32 = ltb-false 32 p.len (not-true _ h) in rw length-take (omega arith)

-- ---- the session

pub phone_short : (m : Methods) (s : Session) → session_fits m s ≡ true → in_progress s ≡ true → length (id_bytes s.phone) ≤ 32
unfolding session_fits in_progress
phone_short m s h r = let p = ((and-eq-true_iff s.present _).0 r).0 in id_short s.phone (simp and-eq-true_iff at (rw p at h)).0

-- ---- the window

pub window_opens_lem : (bus : ℕ) (frames : List ProbeFrame) (count clock relocks : ℕ) → length frames ≡ 4 → within 1 4 count ≡ true
    → window_fits (new_window bus (take count frames) clock relocks) ≡ true
unfolding window_fits new_window
window_opens_lem bus frames count clock relocks h w = let b = within_is 1 4 count w in rw (length-take-le count frames (omega arith)) w

-- ---- outcomes

-- what is said so leaves a gate in range
abbrev pub Leaves : Gate → {A : Type 0} → (View → A → Says) → A → Type 0
Leaves g f x = Fits (left g (f (view g) x))

-- P, said of x by name, so that a search goes by what x is
pub record Holds {A : Type 0} (P : A → Type 0) (x : A) : Type 0 where
  pub holds : P x

pub cases : {A : Type 0} (P : A → Type 0) (b : Bool) (x y : A) → (b ≡ true → P x) → (b ≡ false → P y) → P (cond b x y)
cases P true x y h k = h refl
cases P false x y h k = k refl

pub if_cond : {A : Type 0} {P : A → Type 0} (b : Bool) (x y : A) → (b ≡ true → Holds P x) → (b ≡ false → Holds P y) → Holds P (cond b x y)
if_cond {P = P} b x y h k = cases (Holds P) b x y h k

pub if_checked : {A : Type 0} {P : A → Type 0} (refusal : Answer → A) (ks : List Check) (x : A) → ((a : Answer) → Holds P (refusal a)) → (unmet ks ≡ true → Holds P x)
    → Holds P (checked refusal ks x)
unfolding checked unmet
if_checked refusal [] x r h = h refl
if_checked refusal (k ∷ ks) x r h = if_cond k.meets _ _ (λ e. r k.answer) (λ e. if_checked refusal ks x r (λ u. h (rw (e, u))))

-- 18
pub short_id_lem : (id : List ℕ) (a : Answer) (ks : List Check) → unmet ((ltb 32 (length id) refuses a) ∷ ks) ≡ true → length id ≤ 32
unfolding unmet
short_id_lem id a ks u = ltb-false 32 (length id) (not-true _ ((and-eq-true_iff _ _).0 u).0)
