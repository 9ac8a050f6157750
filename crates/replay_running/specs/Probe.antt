-- How the probe of a gate is shown.
use Rattle.std.specs.Prelude.{Bool, true, false, cond, List, [], ℕ, zero, suc, ltb, get_or}
use Rattle.ascii.specs.Ascii.{ascii}
use Rattle.frames.specs.declared.Id.{Id}
use Rattle.frames.specs.declared.Id.TheVariants.{Standard, Extended}
use Rattle.frames.specs.declared.ProbeFrame.{ProbeFrame}
use Rattle.state.specs.declared.Probe.{Probe}
use Rattle.state.specs.declared.Window.{Window}
use Rattle.replay_page.specs.Page.{Page, ◌▸◌, text, bytes, comma, item, word, hexadecimal}

-- KIND/ID
abbrev pub id_text : Id → Page → Page
id_text (Standard n) p = p ▸ text (ascii "std/") ▸ hexadecimal n
id_text (Extended n) p = p ▸ text (ascii "ext/") ▸ hexadecimal n

-- KIND/ID/DATA
unfoldable pub frame : ProbeFrame → Page → Page
frame f p = p ▸ id_text f.id ▸ text (ascii "/") ▸ bytes f.data

-- what a read past the end of an array of frames is
abbrev pub no_frame : ProbeFrame
no_frame = record { id = Standard 0; «data» = [] }

-- the frame at a place, if there is one
unfoldable pub frame_at : Window → ℕ → Page → Page
frame_at w i p = cond (ltb i w.count) (p ▸ comma i ▸ frame (get_or w.frames i no_frame)) p

-- the frames at the first n places
unfoldable pub frames_to : Window → ℕ → Page → Page
frames_to w zero p = p
frames_to w (suc n) p = p ▸ frames_to w n ▸ frame_at w n

-- 1 if it was sent
unfoldable pub sent_at : Window → ℕ → Page → Page
sent_at w i p = cond (ltb i w.count) (cond (get_or w.sent i false) (text (ascii "1") p) (text (ascii "0") p)) p

unfoldable pub sent_to : Window → ℕ → Page → Page
sent_to w zero p = p
sent_to w (suc n) p = p ▸ sent_to w n ▸ sent_at w n

unfoldable pub window : Window → Page → Page
window w p =
    cond w.present
    (p ▸ item (ascii " window=") w.bus ▸ text (ascii " frames=") ▸ frames_to w 4
    ▸ item (ascii " opened_at=") w.opened ▸ item (ascii " relocks_then=") w.relocks ▸ text (ascii " sent=") ▸ sent_to w 4)
    (p ▸ word (ascii " window=") (ascii "none"))

-- when a frame was last heard on a bus, in ms
abbrev pub mark : List ℕ → Bool → ℕ → Page → Page
mark key true ms p = p ▸ item key ms
mark key false ms p = p ▸ word key (ascii "never")

unfoldable pub marks : List Bool → List ℕ → Page → Page
marks hs ms p =
    p ▸ mark (ascii " marks=") (get_or hs 0 false) (get_or ms 0 0)
    ▸ mark (ascii ",") (get_or hs 1 false) (get_or ms 1 0)
    ▸ mark (ascii ",") (get_or hs 2 false) (get_or ms 2 0)
    ▸ mark (ascii ",") (get_or hs 3 false) (get_or ms 3 0)

unfoldable pub probe : Probe → Page → Page
probe b p = p ▸ window b.window ▸ item (ascii " attempts=") b.attempts ▸ item (ascii " relocks=") b.relocks ▸ marks b.heard b.marks
