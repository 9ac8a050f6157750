-- Laws of sending a frame.
use Rattle.std.proofs.Common.{◌≡◌, refl, Bool, true, false, cond, not, List, [], ℕ, eqb, ltb, length, Result, Ok, Err}
use mathlib.Core.Bool.{◌||◌}
use Rattle.phones.specs.declared.ShortId.{ShortId}
use Rattle.phones.specs.Phones.{id_of}
use Rattle.frames.specs.declared.CanFrame.{CanFrame}
use Rattle.frames.specs.declared.TxClass.{TxClass}
use Rattle.frames.specs.Frames.{can_id_in_range, bus_exists}
use Rattle.waiting_list.specs.declared.Waiting.{Waiting}
use Rattle.state.specs.declared.Queue.{Queue}
use Rattle.state.specs.declared.Answer.{Answer}
use Rattle.state.specs.declared.Answer.TheVariants.{IdTooLong, BadFrame, BadBus, QueueFull}
use Rattle.state.specs.Checks.{checked}
use Rattle.can_queue.specs.Calls.{Sending, unsent, sent, owner_for, has_no_room, sending}
use Rattle.can_queue.specs.Steps.{looked}

-- what is said of the frame comes first, then whether there is room
abbrev pub sent_if : Queue → List Waiting → CanFrame → TxClass → Result ShortId Answer → Sending
sent_if q ws frame class (Ok p) = cond (has_no_room q ws) (unsent q QueueFull) (sent q ws (record { frame = frame; class = class; owner = p }))
sent_if q ws frame class (Err a) = unsent q a

pub sending_looked : (q : Queue) (ws : List Waiting) (frame : CanFrame) (class : TxClass) (owner : List ℕ) → sending q ws frame class owner ≡ sent_if q ws frame class (looked frame class owner)
unfolding sending looked checked
sending_looked q ws frame class owner = go (not (can_id_in_range frame.id)) (ltb 32 (length (owner_for class owner))) (not (bus_exists frame.bus))
  where
    p : ShortId
    p = id_of (owner_for class owner)

    go : (a b c : Bool)
        → cond a (unsent q BadFrame) (cond b (unsent q IdTooLong) (cond c (unsent q BadBus) (sent_if q ws frame class (Ok p))))
        ≡ sent_if q ws frame class (cond a (Err BadFrame) (cond b (Err IdTooLong) (cond c (Err BadBus) (Ok p))))
    go true b c = refl
    go false true c = refl
    go false false true = refl
    go false false false = refl

-- a list of another length takes no frame, and what it answers hangs on no record
pub sending_other : (q : Queue) (ws : List Waiting) (frame : CanFrame) (class : TxClass) (owner : List ℕ) → eqb (length ws) 16 ≡ false → sending q ws frame class owner ≡ unsent q (sending q [] frame class owner).answer
sending_other q ws frame class owner e = rw (sending_looked q ws frame class owner, sending_looked q [] frame class owner) (go (looked frame class owner))
  where
    full : (b : Bool) (x y : Sending) → cond (b || true) (unsent q QueueFull) x ≡ unsent q (cond (b || true) (unsent q QueueFull) y).answer
    full true x y = refl
    full false x y = refl

    go : (r : Result ShortId Answer) → sent_if q ws frame class r ≡ unsent q (sent_if q [] frame class r).answer
    go (Ok p) = rw e (full (ltb 15 q.count) _ _)
    go (Err a) = refl
