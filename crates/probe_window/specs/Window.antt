-- The receive marks and the probe window (can_probe.rs).
use Rattle.std.specs.Prelude.{Bool, true, false, cond, not, ◌&&◌, List, [], ◌∷◌, ℕ, suc, ◌-◌, Option, Some, None, eqb, ltb, leb}
use lib.ListN.{get_or, replicate, take, set}
use Rattle.arrays.specs.Arrays.{padded}
use Rattle.frames.specs.declared.Id.TheVariants.{Standard}
use Rattle.frames.specs.declared.CanFrame.{CanFrame}
use Rattle.frames.specs.declared.ProbeFrame.{ProbeFrame}
use Rattle.frames.specs.Frames.{can_id_in_range, is_entry, bus_exists}
use Rattle.state.specs.declared.Identity.{Identity}
use Rattle.state.specs.declared.Policy.{Policy}
use Rattle.state.specs.declared.Probe.{Probe}
use Rattle.state.specs.declared.Window.{Window}
use Rattle.state.specs.Parts.{with_marks}
use Rattle.policy.specs.Policy.{fingerprint_confirmed, is_bus_read_only}

-- ---- receive marks

-- is_bus_awake, by W-201: a frame was heard, not later than now, and at most 1,000 ms ago. P8 and P9 speak of it
unfoldable pub is_awake : Bool → ℕ → ℕ → Bool
is_awake heard mark clock = heard && leb mark clock && leb (clock - mark) 1_000

unfoldable pub is_bus_awake : List Bool → List ℕ → ℕ → ℕ → Bool
is_bus_awake heard marks bus clock = cond (bus_exists bus) (is_awake (get_or heard bus false) (get_or marks bus 0) clock) false

-- note_can_rx: the mark is the clock, whatever stood there
unfoldable pub heard_at : Probe → ℕ → ℕ → Probe
heard_at b bus clock = with_marks b (set b.heard bus true) (set b.marks bus clock)

-- ---- the window

-- probe_allowed: the platform is confirmed and the car is not
unfoldable pub probe_needed : Identity → Bool
probe_needed i = i.confirmed && not (fingerprint_confirmed i)

-- a window is open for less than 6,000 ms; an earlier clock counts as no time. P10 speaks of it
unfoldable pub is_within_time : ℕ → ℕ → Bool
is_within_time opened clock = ltb (clock - opened) 6_000

-- with_open_window: a window that is there, on this bus, in time, and not relocked since
unfoldable pub is_open : Policy → Probe → ℕ → ℕ → Bool
is_open p b bus clock =
    b.window.present
    && probe_needed p.identity
    && not p.buses.logging
    && eqb b.window.bus bus
    && is_within_time b.window.opened clock
    && eqb b.window.relocks b.relocks

-- is_can_bus_listen_only
unfoldable pub is_listen_only : Policy → Probe → ℕ → ℕ → Bool
is_listen_only p b bus clock = is_bus_read_only p bus && not (is_open p b bus clock)

-- ---- the frames of a probe

-- an empty place of a window; also what a read past four frames is
abbrev pub no_frame : ProbeFrame
no_frame = record { id = Standard 0; «data» = replicate 8 0 }

unfoldable pub ids_in_range : List ProbeFrame → Bool
ids_in_range [] = true
ids_in_range (f ∷ fs) = cond (can_id_in_range f.id) (ids_in_range fs) false

-- the place of the first entry that is the frame and was not sent, counted from i
unfoldable pub first_unsent : CanFrame → ℕ → List ProbeFrame → List Bool → Option ℕ
first_unsent frame i [] sent = None
first_unsent frame i (f ∷ fs) [] = None
first_unsent frame i (f ∷ fs) (s ∷ ss) = cond (is_entry f frame && not s) (Some i) (first_unsent frame (suc i) fs ss)

unfoldable pub unsent_in : Window → CanFrame → Option ℕ
unsent_in w frame = first_unsent frame 0 (take w.count w.frames) w.sent

-- no window
abbrev pub no_window : Window
no_window = record { present = false; bus = 0; frames = replicate 4 no_frame; count = 0; opened = 0; relocks = 0; sent = replicate 4 false }

-- a window as it is opened: no frame is marked
unfoldable pub new_window : ℕ → List ProbeFrame → ℕ → ℕ → Window
new_window bus frames clock relocks = record {
  present = true;
  bus = bus;
  frames = padded 4 no_frame frames;
  count = lib.ListN.length frames;
  opened = clock;
  relocks = relocks;
  sent = replicate 4 false;
}

unfoldable pub marked_sent : Window → ℕ → Window
marked_sent w i = record {
  present = w.present;
  bus = w.bus;
  frames = w.frames;
  count = w.count;
  opened = w.opened;
  relocks = w.relocks;
  sent = set w.sent i true;
}
