-- The calls on the waiting frames leave a gate in range: 27 refuses a seventeenth frame, and a turn serves one of the four buses.
use Prim.Native.Nat.{ℕ, zero, suc, ◌≤◌, ◌<◌}
use mathlib.Core.Path.{◌≡◌, refl}
use mathlib.Core.Bool.{Bool, true, false, ◌||◌, and-eq-true_iff}
use mathlib.Core.List.{List}
use native.Mathlib.Nat.{mod-lt}
use native.Mathlib.Omega.{arith}
use borrow.Author.Tests.{ltb-false, not-true}
use Rattle.frames.specs.declared.CanFrame.{CanFrame}
use Rattle.frames.specs.declared.TxClass.{TxClass}
use Rattle.waiting_list.specs.declared.Waiting.{Waiting}
use Rattle.waiting_list.specs.Queue.{bus_of, waiting_of, record_at, next_place}
use Rattle.state.specs.declared.Queue.{Queue}
use Rattle.state.specs.declared.Gate.{Gate}
use Rattle.state.specs.Checks.{unmet}
use Rattle.state.specs.View.{Lists, view, lists_in}
use Rattle.range.specs.Range.{queue_fits}
use Rattle.range.proofs.Laws.{within_is}
use Rattle.can_queue.specs.Calls.{Sending, unsent, sending}
use Rattle.can_turns.specs.Turns.{Serving, turn, turns, serving}
use Rattle.definition.specs.Gate.{of_sending, of_serving, left}
use Rattle.stays_in_range.proofs.Parts.{Fitting, Fits, is_within, Leaves, Holds, if_checked}
use Rattle.stays_in_range.proofs.Calls.{fit_allow}

-- ---- how many wait, and the bus last served

pub queue_in : (q : Queue) → queue_fits q ≡ true → (q.count ≤ 16) × (q.last ≤ 3)
unfolding queue_fits
queue_in q f = let p = (and-eq-true_iff _ _).0 f in ((within_is 0 16 q.count p.0).1, (within_is 0 3 q.last p.1).1)

pub queue_fits_lem : (q : Queue) → q.count ≤ 16 → q.last ≤ 3 → queue_fits q ≡ true
unfolding queue_fits
queue_fits_lem q c l = rw (is_within 0 16 q.count (omega arith) c) (is_within 0 3 q.last (omega arith) l)

pub neither : (a b : Bool) → (a || b) ≡ false → a ≡ false
neither false b e = refl
neither true b e = e

-- ---- sending

module _ (g : Gate) (h : Fits g) where
  left_fits : (x : Sending) → queue_fits x.queue ≡ true → Holds (Leaves g of_sending) x
  unfolding left view
  left_fits x f = record { holds = record { core = h.core; paired = h.paired; store = h.store; save = h.save; queue = f; digests = h.digests } }

  pub fit_sending : (ws : List Waiting) (frame : CanFrame) (class : TxClass) (owner : List ℕ) → Holds (Leaves g of_sending) (sending g.queue ws frame class owner)
  unfolding sending unmet
  fit_sending ws frame class owner =
      if_checked (unsent g.queue) _ _ (λ a. left_fits (unsent g.queue a) h.queue)
      (λ u. let full = not-true _ (simp and-eq-true_iff at u).1.1.1.0 in
      let room = ltb-false 15 g.queue.count (neither _ _ full) in
      left_fits _ (queue_fits_lem _ (omega arith) (queue_in g.queue h.queue).1))

-- ---- serving

record Stands (s : Serving) : Type 0 where
  core : Fitting s.core
  count : s.queue.count ≤ 16
  last : s.queue.last ≤ 3

turn_stands : (l : Lists) (clock : ℕ) (s : Serving) → Stands s → Stands (turn l clock s)
unfolding turn
turn_stands l clock s h =
    let w = record_at s.list (next_place s.queue.last (waiting_of s.list s.queue.count)) in
    let b : bus_of w < 4 = mod-lt w.frame.bus (omega arith) in
    let k = h.count in
    record { core = (fit_allow s.core h.core _ _ _ _ clock).holds; count = omega arith; last = omega arith }

turns_stand : (l : Lists) (clock n : ℕ) (s : Serving) → Stands s → Stands (turns l clock n s)
unfolding turns
turns_stand l clock zero s h = h
turns_stand l clock (suc n) s h = turn_stands l clock (turns l clock n s) (turns_stand l clock n s h)

pub fit_serving : (g : Gate) → Fits g → (ws : List Waiting) (n clock : ℕ) → Fits (left g (of_serving (view g) (serving g.core (lists_in g.phones) g.queue ws n clock)))
unfolding left view serving
fit_serving g h ws n clock =
    let q = queue_in g.queue h.queue in
    let s = turns_stand (lists_in g.phones) clock _ _ (record { core = h.core; count = q.0; last = q.1 }) in
    record { core = s.core; paired = h.paired; store = h.store; save = h.save; queue = queue_fits_lem _ s.count s.last; digests = h.digests }
