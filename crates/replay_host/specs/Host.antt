-- What the host of a script holds: its gate, and a list of seventeen records, of which it lends the first to the calls on waiting frames
-- (02, W-204).
use Rattle.std.specs.Prelude.{◌≡◌, List, [], ◌++◌, ℕ, length, take, drop, set, replicate}
use Rattle.phones.specs.Phones.{id_of}
use Rattle.phones.specs.declared.ShortId.{ShortId}
use Rattle.frames.specs.declared.CanFrame.{CanFrame}
use Rattle.frames.specs.declared.Id.TheVariants.{Standard}
use Rattle.frames.specs.declared.TxClass.{TxClass}
use Rattle.frames.specs.declared.TxClass.TheVariants.{Platform}
use Rattle.waiting_list.specs.declared.Waiting.{Waiting}
use Rattle.state.specs.Parts.{with_validation, with_probe, with_next, with_relocks}
use Rattle.state.specs.declared.Gate.{Gate}
use Rattle.definition.specs.Gate.{QueueCall, send_can_frame, serve_can_frames, on_queue, Lent, nothing, bytes, records, Given, step, lent_records, ran_given}
use Rattle.replay_host.specs.declared.Host.{Host}
use Rattle.replay_host.specs.declared.Sent.{Sent}
use Rattle.replay_host.specs.declared.Served.{Served}

-- ---- the list

-- "one never set is `0/std/0/0/0000000000000000/platform/`"
unfoldable pub never_set : Waiting
never_set = record { frame = record { bus = 0; id = Standard 0; «data» = replicate 8 0; dlc = 0 }; class = Platform; owner = id_of [] }

-- "how many records the host lends from now on, 16 at first"
unfoldable pub first_host : Gate → Host
first_host g = record { gate = g; list = replicate 17 never_set; lent = 16 }

abbrev pub with_gate : Host → Gate → Host
with_gate h g = record { gate = g; list = h.list; lent = h.lent }

-- the gate with another number for its next session and another relock count
abbrev pub with_counters : Gate → ℕ → ℕ → Gate
with_counters g next relocks = record {
  core = with_probe (with_validation g.core (with_next g.core.validation next)) (with_relocks g.core.probe relocks);
  phones = g.phones;
  save = g.save;
  queue = g.queue;
  code = g.code;
}

abbrev pub with_list : Host → List Waiting → Host
with_list h l = record { gate = h.gate; list = l; lent = h.lent }

abbrev pub with_lent : Host → ℕ → Host
with_lent h n = record { gate = h.gate; list = h.list; lent = n }

-- "an owner above 32 bytes sets the record's length to its own and the first 32 bytes"
unfoldable pub owner_of : List ℕ → ShortId
owner_of s = record { bytes = (id_of (take 32 s)).bytes; len = length s }

unfoldable pub record_of : CanFrame → TxClass → List ℕ → Waiting
record_of frame class owner = record { frame = frame; class = class; owner = owner_of owner }

-- another record at a place, lent or not
unfoldable pub with_record : Host → ℕ → Waiting → Host
with_record h place w = with_list h (set h.list place w)

-- ---- a call

-- what is lent
abbrev pub lent_of : Host → List Waiting
lent_of h = take h.lent h.list

-- the list after a call that left lent memory so: the records that are not lent stay
abbrev pub list_after : Host → Lent → List Waiting
list_after h nothing = h.list
list_after h (bytes b) = h.list
list_after h (records ws) = ws ++ drop h.lent h.list

abbrev pub host_after : Host → Given → Host
host_after h d = record { gate = d.gate; list = list_after h d.lent; lent = h.lent }

-- what a call gives on the list that is lent
abbrev pub lending_to : Host → (List Waiting → QueueCall) → Given
lending_to h k = step h.gate (on_queue (k (lent_of h)))

-- what the code hands back: what the call gives, with the lent records as it left them, and the other records as they were
pub record Leaves (h : Host) (k : List Waiting → QueueCall) (given : List Waiting → Given) (left : List Waiting) : Type 0 where
  pub gives : given (take h.lent left) ≡ lending_to h k
  pub rest : drop h.lent left ≡ drop h.lent h.list

abbrev pub Sends : Host → CanFrame → TxClass → List ℕ → Sent → Type 0
Sends h frame class owner r = Leaves h (λ (list : List Waiting). send_can_frame list frame class owner) (lent_records r.outcome) r.list

abbrev pub Serves : Host → ℕ → ℕ → Served → Type 0
Serves h turns clock r = Leaves h (λ (list : List Waiting). serve_can_frames list turns clock) (ran_given r.ran) r.list
