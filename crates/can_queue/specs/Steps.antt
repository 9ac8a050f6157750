-- What functions of the code give.
use Rattle.std.specs.Prelude.{Result, Ok, Err, List, ℕ}
use Rattle.phones.specs.Ids.{afterwards}
use Rattle.phones.specs.declared.ShortId.{ShortId}
use Rattle.phones.specs.Phones.{id_of}
use Rattle.frames.specs.declared.CanFrame.{CanFrame}
use Rattle.frames.specs.declared.TxClass.{TxClass}
use Rattle.waiting_list.specs.declared.Waiting.{Waiting}
use Rattle.state.specs.declared.Answer.{Answer}
use Rattle.state.specs.Checks.{checked}
use Rattle.can_queue.specs.declared.Sent.{Sent}
use Rattle.can_queue.specs.Calls.{owner_for, frame_checks, Sending}

-- what 24, 18 and 26 say of a frame, or the id of its record
unfoldable pub looked : CanFrame → TxClass → List ℕ → Result ShortId Answer
looked frame class owner = checked Err (frame_checks frame class owner) (Ok (id_of (owner_for class owner)))

-- what is said of sending a frame, with the list as it is left
abbrev pub sent_by : List Waiting → Sending → Sent
sent_by ws x = record { answer = x.answer; queue = x.queue; all = afterwards ws x.lent }
