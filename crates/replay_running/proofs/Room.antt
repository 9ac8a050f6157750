-- The room that a running session and the probe take.
use Rattle.std.proofs.Common.{Bool, true, false, List, [], ◌∷◌, ℕ, zero, suc, ◌+◌, ◌*◌, ◌^◌, ◌≤◌, ◌<◌, le_of_eq, arith, ltb, lit<, lit≤, length, get_or, rules}
use mir.Val.{Val}
use denote.Array.{each}
use denote.Shadow.{shadow}
use denote.Builtin.{u64}
use Rattle.ascii.specs.Ascii.{ascii}
use Rattle.frames.specs.declared.Id.{Id}
use Rattle.frames.specs.declared.Id.TheVariants.{Standard, Extended}
use Rattle.frames.specs.declared.ProbeFrame.{ProbeFrame}
use Rattle.frames.specs.contracts.ProbeFrame as ProbeFrame
use Rattle.state.specs.Running.{code_in_progress}
use Rattle.state.specs.declared.Gate.{Gate}
use Rattle.state.specs.declared.Methods.{Methods}
use Rattle.state.specs.declared.Probe.{Probe}
use Rattle.state.specs.declared.Session.{Session}
use Rattle.state.specs.declared.Window.{Window}
use Rattle.state.specs.contracts.Probe as Probe
use Rattle.state.specs.contracts.Session as Session
use Rattle.state.specs.contracts.Window as Window
use Rattle.replay_lines.specs.Answer.{status_name}
use Rattle.replay_page.specs.Room.{Within}
use Rattle.replay_lines.proofs.AnswerRoom.{Owned}
use Rattle.replay_page.proofs.Room.{◌⊕◌, upto, either, same, text_in, bytes_in_lem, comma_in, item_in, word_in, digits_in, hexadecimal_in}
use Rattle.replay_lines.proofs.Room.{id_in_lem, status_in}
use Rattle.replay_running.specs.Probe.{id_text, frame, no_frame, frame_at, frames_to, sent_at, sent_to, window, mark, marks, probe}
use Rattle.replay_running.specs.Session.{code, whose, stands, session_or_none}

-- ---- the session

code_in : (m : Methods) (s : Session) (kept : List ℕ) (n : ℕ) → length kept ≤ 9 → Within 24 (code m s kept n)
unfolding code
code_in m s kept n h =
    either (code_in_progress m s)
    (text_in (ascii " code=") ⊕ digits_in kept n h)
    (upto 24 (lit≤ tt) (word_in (ascii " code=") (ascii "-") 1 (lit≤ tt)))

whose_in : (s : Session) (vs : List Val) → Owned Session.the_field s vs → Within 128 (whose s)
unfolding whose
whose_in s vs h =
    item_in (ascii " session=") s.number (omega arith) ⊕ text_in (ascii " phone=") ⊕ id_in_lem s.phone (le_of_eq (search rules))
    ⊕ item_in (ascii " method=") s.method (omega arith)

stands_in : (s : Session) (vs : List Val) → Owned Session.the_field s vs → Within 156 (stands s)
unfolding stands
stands_in s vs h =
    text_in (ascii " session_car=") ⊕ bytes_in_lem s.car 32 (le_of_eq (search rules)) ⊕ word_in (ascii " status=") (status_name s.status) 11 (status_in s.status)
    ⊕ item_in (ascii " deadline=") s.deadline (omega arith) ⊕ item_in (ascii " ended_at=") s.ended (omega arith)

pub session_in : (g : Gate) (vs : List Val) → Owned Session.the_field g.core.validation.session vs → length g.code ≤ 9 → Within 308 (session_or_none g)
unfolding session_or_none
session_in g vs h c =
    let s = g.core.validation.session in
    either s.present (whose_in s vs h ⊕ stands_in s vs h ⊕ code_in g.core.methods s g.code g.core.settings.digits c) (upto 308 (lit≤ tt) (word_in (ascii " session=") (ascii "none") 4 (lit≤ tt)))

-- ---- the probe

pub id_text_in : (i : Id) → Within 12 (id_text i)
id_text_in (Standard n) = text_in (ascii "std/") ⊕ hexadecimal_in n
id_text_in (Extended n) = text_in (ascii "ext/") ⊕ hexadecimal_in n

frame_in_lem : (f : ProbeFrame) → length f.data ≤ 8 → Within 29 (frame f)
unfolding frame
frame_in_lem f h = id_text_in f.id ⊕ text_in (ascii "/") ⊕ bytes_in_lem f.data 8 h

each_data : (f : ProbeFrame) (vs : List Val) → Owned ProbeFrame.the_field f vs → length f.data ≤ 8
each_data f vs h = le_of_eq (search rules)

frame_data : (l : List ProbeFrame) (us : List Val) → shadow (each (ProbeFrame.the_row).Denot (ProbeFrame.the_row).own_val l us)
    → (i : ℕ) → length (get_or l i no_frame).data ≤ 8
frame_data [] us h i = lit≤ tt
frame_data (f ∷ fs) [] h i = absurd h
frame_data (f ∷ fs) (u ∷ us) h zero = each_data f (u ∷ []) h.0
frame_data (f ∷ fs) (u ∷ us) h (suc i) = frame_data fs us h.1 i

frames_in : (w : Window) → ((i : ℕ) → length (get_or w.frames i no_frame).data ≤ 8) → (n : ℕ) → Within (n * 30) (frames_to w n)
unfolding frames_to frame_at
frames_in w h zero = same 0
frames_in w h (suc n) =
    upto (suc n * 30) (omega arith) (frames_in w h n ⊕ either (ltb n w.count) (comma_in n ⊕ frame_in_lem (get_or w.frames n no_frame) (h n)) (same 30))

sent_in : (w : Window) (n : ℕ) → Within n (sent_to w n)
unfolding sent_to sent_at
sent_in w zero = same 0
sent_in w (suc n) =
    upto (suc n) (omega arith) (sent_in w n ⊕ either (ltb n w.count) (either (get_or w.sent n false) (text_in (ascii "1")) (text_in (ascii "0"))) (same 1))

window_in : (w : Window) (vs : List Val) → Owned Window.the_field w vs → Within 231 (window w)
unfolding window
window_in w vs h =
    either w.present
    (item_in (ascii " window=") w.bus (omega arith) ⊕ text_in (ascii " frames=") ⊕ frames_in w (frame_data w.frames _ h.1.1.1.1.0.1.1) 4
    ⊕ item_in (ascii " opened_at=") w.opened (omega arith) ⊕ item_in (ascii " relocks_then=") w.relocks (omega arith) ⊕ text_in (ascii " sent=") ⊕ sent_in w 4)
    (upto 231 (lit≤ tt) (word_in (ascii " window=") (ascii "none") 4 (lit≤ tt)))

each_mark : (l : List ℕ) (us : List Val) → shadow (each u64.Denot u64.own_val l us) → (i : ℕ) → get_or l i 0 < 2 ^ 64
each_mark [] us h i = lit< tt
each_mark (n ∷ ns) [] h i = absurd h
each_mark (n ∷ ns) (u ∷ us) h zero = omega arith
each_mark (n ∷ ns) (u ∷ us) h (suc i) = each_mark ns us h.1 i

mark_in : (key : List ℕ) (heard : Bool) (ms : ℕ) → ms < 2 ^ 64 → Within (length key + 20) (mark key heard ms)
mark_in key true ms h = item_in key ms h
mark_in key false ms h = upto (length key + 20) (omega arith) (word_in key (ascii "never") 5 (lit≤ tt))

marks_in : (hs : List Bool) (m : List ℕ) → ((i : ℕ) → get_or m i 0 < 2 ^ 64) → Within 90 (marks hs m)
unfolding marks
marks_in hs m h =
    mark_in (ascii " marks=") (get_or hs 0 false) (get_or m 0 0) (h 0) ⊕ mark_in (ascii ",") (get_or hs 1 false) (get_or m 1 0) (h 1)
    ⊕ mark_in (ascii ",") (get_or hs 2 false) (get_or m 2 0) (h 2) ⊕ mark_in (ascii ",") (get_or hs 3 false) (get_or m 3 0) (h 3)

pub probe_in : (p : Probe) (vs : List Val) → Owned Probe.the_field p vs → Within 380 (probe p)
unfolding probe
probe_in p vs h =
    window_in p.window _ h.1.1.0 ⊕ item_in (ascii " attempts=") p.attempts (omega arith) ⊕ item_in (ascii " relocks=") p.relocks (omega arith)
    ⊕ marks_in p.heard p.marks (each_mark p.marks _ h.1.1.1.1.1.1.0.1.1)
