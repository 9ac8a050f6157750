-- The room that the report of a run takes, and the host's list. The numbers in them are of their types.
use Rattle.std.proofs.Common.{List, [], ◌∷◌, ℕ, zero, suc, ◌*◌, ◌^◌, ◌≤◌, ◌<◌, le_of_eq, arith, ltb, lit<, lit≤, length, get_or, rules}
use mir.Val.{Val}
use denote.Array.{each}
use denote.Shadow.{shadow}
use Rattle.ascii.specs.Ascii.{ascii}
use Rattle.frames.specs.declared.CanFrame.{CanFrame}
use Rattle.frames.specs.declared.TxClass.{TxClass}
use Rattle.frames.specs.declared.TxClass.TheVariants.{Platform, Command}
use Rattle.state.specs.declared.Answer.{Answer}
use Rattle.state.specs.declared.Answer.TheVariants.{Done}
use Rattle.state.specs.declared.Decided.{Decided}
use Rattle.state.specs.declared.Report.{Report}
use Rattle.state.specs.contracts.Answer as Answer
use Rattle.state.specs.contracts.Decided as Decided
use Rattle.state.specs.contracts.Report as Report
use Rattle.waiting_list.specs.declared.Waiting.{Waiting}
use Rattle.waiting_list.specs.Queue.{record_at}
use Rattle.waiting_list.specs.contracts.Waiting as Waiting
use Rattle.replay_lines.specs.Answer.{answer}
use Rattle.replay_page.specs.Room.{Within}
use Rattle.replay_lines.proofs.AnswerRoom.{Owned}
use Rattle.replay_page.proofs.Room.{◌⊕◌, upto, either, same, text_in, number_in_lem, bytes_in_lem, comma_in, item_in, flag_in_lem, word_in}
use Rattle.replay_lines.proofs.Room.{id_in_lem}
use Rattle.replay_running.proofs.Room.{id_text_in}
use Rattle.replay_answers.proofs.Room.{told_in}
use Rattle.replay_frames.specs.Frames.{bus_id, frame, decided, none_decided, decided_at, decided_to, report, class_part, waiting, waiting_at, waiting_to, lent_list}

-- ---- a frame

abbrev FrameFits : CanFrame → Type 0
FrameFits f = (f.bus < 2 ^ 64) × (f.dlc < 2 ^ 64) × (length f.data ≤ 8)

frame_in_lem : (f : CanFrame) → FrameFits f → Within 71 (frame f)
unfolding bus_id frame
frame_in_lem f h =
    number_in_lem f.bus h.0 ⊕ text_in (ascii "/") ⊕ id_text_in f.id
    ⊕ item_in (ascii "/") f.dlc h.1 ⊕ text_in (ascii "/") ⊕ bytes_in_lem f.data 8 h.2

-- ---- the report

each_decided : (d : Decided) (vs : List Val) → Owned Decided.the_field d vs → FrameFits d.frame
each_decided d vs h = (omega arith, omega arith, le_of_eq (search rules))

decided_fit : (l : List Decided) (us : List Val) → shadow (each (Decided.the_row).Denot (Decided.the_row).own_val l us)
    → (i : ℕ) → FrameFits (get_or l i none_decided).frame
decided_fit [] us h i = (lit< tt, lit< tt, lit≤ tt)
decided_fit (d ∷ ds) [] h i = absurd h
decided_fit (d ∷ ds) (u ∷ us) h zero = each_decided d (u ∷ []) h.0
decided_fit (d ∷ ds) (u ∷ us) h (suc i) = decided_fit ds us h.1 i

decided_in : (d : Decided) → FrameFits d.frame → Within 75 (decided d)
unfolding decided
decided_in d h = frame_in_lem d.frame h ⊕ flag_in_lem (ascii "/") d.allowed

decided_to_in : (r : Report) → ((i : ℕ) → FrameFits (get_or r.frames i none_decided).frame) → (n : ℕ) → Within (n * 76) (decided_to r n)
unfolding decided_to decided_at
decided_to_in r h zero = same 0
decided_to_in r h (suc n) =
    upto (suc n * 76) (omega arith) (decided_to_in r h n ⊕ either (ltb n r.turns) (comma_in n ⊕ decided_in (get_or r.frames n none_decided) (h n)) (same 76))

pub report_in_lem : (a : Answer) (r : Report) (vs us : List Val) → Owned Answer.the_field a vs → Owned Report.the_field r us → Within 1456 (report a r)
unfolding report
report_in_lem a r vs us h k =
    told_in a vs h 1251 _
    (item_in (ascii " turns=") r.turns (omega (arith, k.1.1.0)) ⊕ text_in (ascii " frames=") ⊕ decided_to_in r (decided_fit r.frames _ k.1.1.1.0.1.1) 16)

-- ---- the host's list

abbrev WaitingFits : Waiting → Type 0
WaitingFits w = FrameFits w.frame × (length w.owner.bytes ≤ 32)

each_waiting : (w : Waiting) (vs : List Val) → Owned Waiting.the_field w vs → WaitingFits w
each_waiting w vs h = ((omega arith, omega arith, le_of_eq (search rules)), le_of_eq (search rules))

waiting_fit : (l : List Waiting) (us : List Val) → shadow (each (Waiting.the_row).Denot (Waiting.the_row).own_val l us)
    → (i : ℕ) → WaitingFits (record_at l i)
waiting_fit [] us h i = ((lit< tt, lit< tt, lit≤ tt), lit≤ tt)
waiting_fit (w ∷ ws) [] h i = absurd h
waiting_fit (w ∷ ws) (u ∷ us) h zero = each_waiting w (u ∷ []) h.0
waiting_fit (w ∷ ws) (u ∷ us) h (suc i) = waiting_fit ws us h.1 i

class_in : (c : TxClass) → length (class_part c) ≤ 10
class_in Platform = lit≤ tt
class_in Command = lit≤ tt

waiting_in : (w : Waiting) → WaitingFits w → Within 145 (waiting w)
unfolding waiting
waiting_in w h = frame_in_lem w.frame h.0 ⊕ upto 10 (class_in w.class) (text_in (class_part w.class)) ⊕ id_in_lem w.owner h.1

waiting_to_in : (l : List Waiting) (lent : ℕ) → ((i : ℕ) → WaitingFits (record_at l i)) → (n : ℕ) → Within (n * 146) (waiting_to l lent n)
unfolding waiting_to waiting_at
waiting_to_in l lent h zero = same 0
waiting_to_in l lent h (suc n) =
    upto (suc n * 146) (omega arith) (waiting_to_in l lent h n ⊕ either (ltb n lent) (comma_in n ⊕ waiting_in (record_at l n) (h n)) (same 146))

pub done_in : Within 10 (answer Done)
unfolding answer
done_in = word_in (ascii " answer=") (ascii "ok") 2 (lit≤ tt)

pub lent_list_in : (l : List Waiting) (lent : ℕ) → lent < 2 ^ 64 → (us : List Val) → shadow (each (Waiting.the_row).Denot (Waiting.the_row).own_val l us)
    → Within 2529 (lent_list l lent)
unfolding lent_list
lent_list_in l lent small us h =
    done_in ⊕ item_in (ascii " length=") lent small ⊕ text_in (ascii " records=") ⊕ waiting_to_in l lent (waiting_fit l us h) 17
