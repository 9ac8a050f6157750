-- How frames that were decided are shown, and the records of the host's list (02, W-204). An id is hexadecimal without leading zeros.
use Rattle.std.specs.Prelude.{false, cond, List, [], ℕ, zero, suc, ltb, get_or}
use Rattle.ascii.specs.Ascii.{ascii}
use Rattle.phones.specs.Phones.{id_bytes}
use Rattle.frames.specs.declared.CanFrame.{CanFrame}
use Rattle.frames.specs.declared.Id.{Id}
use Rattle.frames.specs.declared.Id.TheVariants.{Standard}
use Rattle.frames.specs.declared.TxClass.{TxClass}
use Rattle.frames.specs.declared.TxClass.TheVariants.{Platform, Command}
use Rattle.waiting_list.specs.declared.Waiting.{Waiting}
use Rattle.waiting_list.specs.Queue.{record_at}
use Rattle.state.specs.declared.Answer.{Answer}
use Rattle.state.specs.declared.Answer.TheVariants.{Done}
use Rattle.state.specs.declared.Decided.{Decided}
use Rattle.state.specs.declared.Report.{Report}
use Rattle.replay_lines.specs.Answer.{answer}
use Rattle.replay_page.specs.Page.{Page, ◌▸◌, text, number, bytes, comma, item, flag}
use Rattle.replay_running.specs.Probe.{id_text}
use Rattle.replay_answers.specs.Query.{told}

-- BUS/KIND/ID
unfoldable pub bus_id : ℕ → Id → Page → Page
bus_id bus id p = p ▸ number bus ▸ text (ascii "/") ▸ id_text id

-- BUS/KIND/ID/DLC/DATA
unfoldable pub frame : CanFrame → Page → Page
frame f p = p ▸ bus_id f.bus f.id ▸ item (ascii "/") f.dlc ▸ text (ascii "/") ▸ bytes f.data

-- ---- the report of a run

-- BUS/KIND/ID/DLC/DATA/yes, or no
unfoldable pub decided : Decided → Page → Page
decided d p = p ▸ frame d.frame ▸ flag (ascii "/") d.allowed

-- what a read past the end of an array of them is
abbrev pub none_decided : Decided
none_decided = record { frame = record { bus = 0; id = Standard 0; «data» = []; dlc = 0 }; allowed = false }

-- that of the turn at a place, if it was taken
unfoldable pub decided_at : Report → ℕ → Page → Page
decided_at r i p = cond (ltb i r.turns) (p ▸ comma i ▸ decided (get_or r.frames i none_decided)) p

-- those of the first n turns
unfoldable pub decided_to : Report → ℕ → Page → Page
decided_to r zero p = p
decided_to r (suc n) p = p ▸ decided_to r n ▸ decided_at r n

-- the turns taken, and each frame with its yes or no
unfoldable pub report : Answer → Report → Page → Page
report a r = told a (λ p. p ▸ item (ascii " turns=") r.turns ▸ text (ascii " frames=") ▸ decided_to r 16)

-- ---- the host's list

-- /CLASS/
abbrev pub class_part : TxClass → List ℕ
class_part Platform = ascii "/platform/"
class_part Command = ascii "/command/"

-- BUS/KIND/ID/DLC/DATA/CLASS/OWNER, the bus as the record has it; of an owner above 32 bytes the first 32
unfoldable pub waiting : Waiting → Page → Page
waiting w p = p ▸ frame w.frame ▸ text (class_part w.class) ▸ bytes (id_bytes w.owner)

-- the record at a place, if it is lent
unfoldable pub waiting_at : List Waiting → ℕ → ℕ → Page → Page
waiting_at l lent i p = cond (ltb i lent) (p ▸ comma i ▸ waiting (record_at l i)) p

-- those at the first n places
unfoldable pub waiting_to : List Waiting → ℕ → ℕ → Page → Page
waiting_to l lent zero p = p
waiting_to l lent (suc n) p = p ▸ waiting_to l lent n ▸ waiting_at l lent n

-- how many are lent, and all that are, whether a frame waits there or not
unfoldable pub lent_list : List Waiting → ℕ → Page → Page
lent_list l lent p = p ▸ answer Done ▸ item (ascii " length=") lent ▸ text (ascii " records=") ▸ waiting_to l lent 17
