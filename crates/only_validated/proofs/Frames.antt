-- Which frames pass.
use Prim.Native.Nat.{ℕ}
use mathlib.Core.Path.{◌≡◌, refl}
use mathlib.Core.Bool.{Bool, true, false, cond, not, ◌&&◌, true≢false, and-eq-true_iff}
use mathlib.Core.List.{List, [], ◌∷◌}
use mathlib.Core.Logic.{◌↔◌, ◌≢◌}
use native.Mathlib.Omega.{arith}
use borrow.Author.Tests.{eq-eqb, ne_eqb, eqb-true, not-true}
use lib.Dec.{eqb, ltb}
use lib.ListN.{length, take}
use Rattle.phones.specs.Ids.{some_of, all_of, contains}
use Rattle.frames.specs.declared.CanFrame.{CanFrame}
use Rattle.frames.specs.declared.TxClass.TheVariants.{Platform, Command}
use Rattle.frames.specs.Frames.{can_id_in_range}
use Rattle.saved_record.specs.SavedRecord.{twice}
use Rattle.saved_record.specs.Store.{cars_of}
use Rattle.state.specs.declared.Gate.{Gate}
use Rattle.state.specs.declared.Answer.TheVariants.{Yes, No, BadFrame, BadSettings}
use Rattle.state.specs.declared.Said.{Said}
use Rattle.state.specs.Replies.{no_code, leave, quiet, yes_no}
use Rattle.state.specs.Checks.{checked}
use Rattle.state.specs.View.{View, lists_in, view, car_in_range, store_in_range}
use Rattle.range.specs.Range.{in_range}
use Rattle.policy.specs.Policy.{fingerprint_confirmed, is_bus_read_only}
use Rattle.phone_trust.specs.Trust.{validated_now, is_validated}
use Rattle.std.specs.Prelude.{Option, Some, None}
use Rattle.probe_window.specs.Window.{is_open, unsent_in}
use Rattle.can_tx.specs.Tx.{passed, through_window, allow_platform, allows_command, allow}
use Rattle.answers.specs.Query.{plain}
use Rattle.definition.specs.Gate.{saying, of_core, asked, served, said, says, laid_reply, gives, step}
use Rattle.only_validated.specs.Row.{car_now, Allowed, Sound, MayCommand, MaySend, read_write, in_window}
use Rattle.only_validated.proofs.Stores.{untrue, cases, for_listed, listed_for}

-- ---- what an answer of yes tells

-- the gate and the frame's id are in range, and the class says yes
sound_yes : (v : View) (r i : Bool) (o : Said) → laid_reply (cond r (of_core v no_code (cond (not i) (leave v.core BadFrame) o)) (asked v (plain BadSettings))).answer ≡ plain Yes
    → (r ≡ true) × (i ≡ true) × (o.answer ≡ Yes)
unfolding saying leave
sound_yes v true true o e = (refl, refl, cc)
sound_yes v true false o e = untrue cc
sound_yes v false i o e = untrue cc

yes_true : (b : Bool) → yes_no b ≡ Yes → b ≡ true
yes_true true e = refl
yes_true false e = cc

-- ---- the car identified now

-- nobody is validated now unless a car is known
known_lists : (b : Bool) (owner : List ℕ) (ps : List (List ℕ)) → contains owner (cond b ps []) ≡ true → (b ≡ true) × (contains owner ps ≡ true)
unfolding contains some_of
known_lists true owner ps h = (refl, h)
known_lists false owner ps h = untrue h

-- in a gate in range no digest stands twice
apart : (g : Gate) → in_range (view g) ≡ true → twice (cars_of g.phones.store) ≡ false
unfolding in_range view store_in_range
apart g h =
    let s = g.phones.store in
    cases (λ (b : Bool). b ≡ true → twice (cars_of s) ≡ false) (ltb 4 s.count) false _
    (λ e. untrue)
    (λ e k. not-true _ ((and-eq-true_iff (all_of car_in_range (take s.count s.cars)) _).0 k).1)
    (simp and-eq-true_iff at h).0.0.1

-- ---- a command

named_is : (owner : List ℕ) → eqb (length owner) 0 ≡ false → owner ≢ []
named_is owner e p = true≢false (rw p at e)

is_named : (owner : List ℕ) → owner ≢ [] → eqb (length owner) 0 ≡ false
is_named [] e = absurd (e refl)
is_named (x ∷ xs) e = ne_eqb (length (x ∷ xs)) 0 (λ (z : length (x ∷ xs) ≡ 0). omega arith)

module _ (g : Gate) (bus : ℕ) (frame : CanFrame) (owner : List ℕ) (clock : ℕ) where
  command_needs : Allowed g bus frame Command owner clock → MayCommand g bus frame owner
  unfolding step gives says served said view allow checked leave allows_command is_validated validated_now
  command_needs e =
      let s = sound_yes (view g) (in_range (view g)) (can_id_in_range frame.id) _ e in
      let yes : allows_command g.core.policy bus frame (is_validated g.core.policy.identity (lists_in g.phones) owner) ≡ true = yes_true _ s.2 in
      let t = simp and-eq-true_iff at yes in
      let v = t.1 in
      let k = known_lists (fingerprint_confirmed g.core.policy.identity) owner _ v.1 in
      record {
        sound = (s.0, s.1);
        for_bus = eqb-true frame.bus bus t.0.0;
        read_write = not-true _ t.0.1;
        identified = k.0;
        named = named_is owner (not-true _ v.0.0);
        paired = v.0.1;
        validated = for_listed (car_now g) owner (cars_of g.phones.store) k.1;
      }

  needs_command : MayCommand g bus frame owner → Allowed g bus frame Command owner clock
  unfolding step gives says served said saying view allow checked leave allows_command is_validated validated_now
  needs_command m =
      let l = listed_for (car_now g) owner (cars_of g.phones.store) (apart g m.sound.0) m.validated in
      rw (m.sound.0, m.sound.1, eq-eqb _ _ m.for_bus, m.read_write, m.identified, is_named owner m.named, m.paired, l)

  pub command : Allowed g bus frame Command owner clock ↔ MayCommand g bus frame owner
  command = (command_needs, needs_command)

-- ---- a frame of the platform

module _ (g : Gate) (bus : ℕ) (frame : CanFrame) (owner : List ℕ) (clock : ℕ) where
  abbrev in_the_window : Bool
  in_the_window = eqb frame.bus bus && eqb frame.dlc 8 && is_open g.core.policy g.core.probe bus clock

  window_needs : (u : Option ℕ) → unsent_in g.core.probe.window frame ≡ u → in_the_window ≡ true → (passed g.core u).answer ≡ Yes → MaySend g bus frame clock
  unfolding leave
  window_needs (Some i) u p e = let q = simp and-eq-true_iff at p in in_window i (eqb-true frame.bus bus q.0.0) (eqb-true frame.dlc 8 q.0.1) q.1 u
  window_needs None u p e = untrue cc

  platform_needs : Allowed g bus frame Platform owner clock → Sound g frame × MaySend g bus frame clock
  unfolding step gives says served said view allow checked leave allow_platform through_window
  platform_needs e =
      let s = sound_yes (view g) (in_range (view g)) (can_id_in_range frame.id) _ e in
      let Needs : Said → Type 0 = λ o. o.answer ≡ Yes → MaySend g bus frame clock in
      let locked = cases Needs in_the_window (passed g.core (unsent_in g.core.probe.window frame)) (leave g.core No) (λ p. window_needs _ refl p) (λ p y. untrue cc) in
      ((s.0, s.1), cases Needs (is_bus_read_only g.core.policy bus) _ _ (λ r. locked) (λ r y. read_write r) s.2)

  needs_platform : Sound g frame × MaySend g bus frame clock → Allowed g bus frame Platform owner clock
  unfolding step gives says served said saying view allow checked leave quiet allow_platform through_window
  needs_platform (s, read_write r) = rw (s.0, s.1, r)
  needs_platform (s, in_window i b d w u) =
      let yes = cases (λ (o : Said). o.answer ≡ Yes) (is_bus_read_only g.core.policy bus) (passed g.core (Some i)) (leave g.core Yes) (λ e. refl) (λ e. refl) in
      rw (s.0, s.1, eq-eqb _ _ b, eq-eqb _ _ d, w, u, yes)

  pub platform : Allowed g bus frame Platform owner clock ↔ Sound g frame × MaySend g bus frame clock
  platform = (platform_needs, needs_platform)
