-- Frames that wait in a list that the host lends (02, W-204): sending one.
use Rattle.std.specs.Prelude.{Bool, not, ◌||◌, List, [], ◌∷◌, ◌++◌, ℕ, suc, eqb, ltb, length}
use Rattle.phones.specs.Ids.{Left, stays, becomes}
use Rattle.phones.specs.Phones.{id_of}
use Rattle.frames.specs.declared.CanFrame.{CanFrame}
use Rattle.frames.specs.declared.TxClass.{TxClass}
use Rattle.frames.specs.declared.TxClass.TheVariants.{Platform, Command}
use Rattle.frames.specs.Frames.{can_id_in_range, bus_exists}
use Rattle.waiting_list.specs.declared.Waiting.{Waiting}
use Rattle.waiting_list.specs.Queue.{with_one}
use Rattle.state.specs.declared.Queue.{Queue}
use Rattle.state.specs.declared.Answer.{Answer}
use Rattle.state.specs.declared.Answer.TheVariants.{Done, IdTooLong, BadFrame, BadBus, QueueFull}
use Rattle.state.specs.Checks.{Check, ◌refuses◌, checked}

-- what sending a frame says: its answer, how many wait then, and what becomes of the lent list
pub record Sending : Type 0 where
  pub answer : Answer
  pub queue : Queue
  pub lent : Left (List Waiting)

-- a refusal leaves the list
abbrev pub unsent : Queue → Answer → Sending
unsent q a = record { answer = a; queue = q; lent = stays }

-- a platform frame has no owner: what is lent beside it is not looked at, and its record holds an empty id
abbrev pub owner_for : TxClass → List ℕ → List ℕ
owner_for Platform owner = []
owner_for Command owner = owner

-- "Checks: 24 first, then 18 (owner), then 26 BadBus (bus above 3)": what is asked of a frame, whatever waits
abbrev pub frame_checks : CanFrame → TxClass → List ℕ → List Check
frame_checks frame class owner =
    (not (can_id_in_range frame.id) refuses BadFrame) ∷  -- 24
    (ltb 32 (length (owner_for class owner)) refuses IdTooLong) ∷  -- 18
    (not (bus_exists frame.bus) refuses BadBus) ∷ []  -- 26

-- "then 27 QueueFull (sixteen wait)"; "A list of another length takes no frame (27)"
abbrev pub has_no_room : Queue → List Waiting → Bool
has_no_room q ws = ltb 15 q.count || not (eqb (length ws) 16)

-- one frame more waits
abbrev pub sent : Queue → List Waiting → Waiting → Sending
sent q ws w = record { answer = Done; queue = record { count = suc q.count; last = q.last }; lent = becomes (with_one ws q.count w) }

-- send_can_frame
unfoldable pub sending : Queue → List Waiting → CanFrame → TxClass → List ℕ → Sending
sending q ws frame class owner =
    checked (unsent q) (frame_checks frame class owner ++ ((has_no_room q ws refuses QueueFull) ∷ []))
    (sent q ws (record { frame = frame; class = class; owner = id_of (owner_for class owner) }))
