-- What playing a line on the host's gate gives: what the host holds afterwards and the text that is laid down, by the gate's definition `step`.
use Rattle.std.specs.Prelude.{◌≡◌, Bool, true, false, cond, List, [], ◌∷◌, ◌++◌, ℕ, ◌+◌, eqb, ltb, length, take, replicate}
use Rattle.ascii.specs.Ascii.{ascii}
use Rattle.definition.specs.Gate.{Call, new_gate_call, step}
use Rattle.replay_host.specs.Host.{first_host}
use Rattle.replay_host.specs.declared.Host.{Host}
use Rattle.replay_items.specs.Bytes.{bytes_of}
use Rattle.replay_items.specs.Items.{read_of}
use Rattle.replay_items.specs.Takes.{takes}
use Rattle.replay_page.specs.Page.{Page, ◌▸◌, text, item}
use Rattle.replay_page.specs.Room.{Within}
use Rattle.replay_state.specs.Whole as Whole
use Rattle.replay_names.specs.Names.{rows}
use Rattle.state.specs.Running.{no_method}
use Rattle.state.specs.declared.Gate.{Gate}
use Rattle.replay_calls.specs.Calls.{line_of}
use Rattle.replay_given.specs.Turns.{Turn, ran, turn_room}
use Rattle.word_table.specs.Words.{before, place_in}

-- ---- every line

-- line=N call=WORD
unfoldable pub begun : ℕ → List ℕ → Page → Page
begun n word p = p ▸ item (ascii "line=") n ▸ text (ascii " call=") ▸ text word

-- why a line is no call: a name without a row, or items that it does not take
unfoldable pub error_of : ℕ → List ℕ
error_of name = cond (ltb name (length rows)) (ascii " error=bad_items") (ascii " error=unknown_call")

-- a line that is no call changes nothing
unfoldable pub failed : ℕ → Host → ℕ → Page → Turn
failed name h n p = record { host = h; page = p ▸ item (ascii "line=") n ▸ text (error_of name); called = false }

-- a byte 10 behind it
unfoldable pub ended : Turn → Turn
ended t = record { host = t.host; page = text (10 ∷ []) t.page; called = t.called }

abbrev pub first_word : List ℕ → List ℕ
first_word line = take (before 32 line) line

unfoldable pub played_as : ℕ → Host → ℕ → List ℕ → Page → Turn
played_as name h n line p =
    cond (takes name (read_of line))
    (ended (ran (line_of name (read_of line) (bytes_of line)) h (begun n (first_word line) p)))
    (ended (failed name h n p))

unfoldable pub played : Host → ℕ → List ℕ → Page → Turn
played h n line p = played_as (place_in rows (first_word line)) h n line p

-- ---- the state behind every call

unfoldable pub state_line : ℕ → Gate → Page → Page
state_line n g p = p ▸ begun n (ascii "state") ▸ Whole.gate g ▸ text (10 ∷ [])

abbrev pub stated : ℕ → Turn → Turn
stated n t = record { host = t.host; page = state_line n t.host.gate t.page; called = t.called }

unfoldable pub with_state : Bool → ℕ → Turn → Turn
with_state states n t = cond states (cond t.called (stated n t) t) t

-- ---- room

-- the most bytes that a line has
abbrev pub most_read : ℕ
most_read = 16384

-- a line by itself: its number and its name before what it gives, and the end of the line
abbrev pub played_room : ℕ
played_room = turn_room + 63

abbrev pub PlayedFits : Host → ℕ → List ℕ → Type 0
PlayedFits h n line = Within played_room (λ (p : Page). (played h n line p).page)

-- what `replay` lends for a line, with the state behind it
abbrev pub line_room : ℕ
line_room = 49152

-- none of it is left out
abbrev pub EveryLineFits : Bool → Host → ℕ → List ℕ → Type 0
EveryLineFits states h n line = Within line_room (λ (p : Page). (with_state states n (played h n line p)).page)

-- ---- lines that are not played

-- empty, or `#` (35) and a comment
abbrev pub passed_over : List ℕ → Bool
passed_over [] = true
passed_over (b ∷ bs) = eqb b 35

unfoldable pub too_long : ℕ → Page → Page
too_long n p = p ▸ item (ascii "line=") n ▸ text (ascii " error=line_too_long" ++ (10 ∷ []))

-- ---- before the first line

-- a new gate with settings out of range: 25 hands back the least gate
abbrev pub bad_new : Call
bad_new = new_gate_call (record { digits = 0; tries = 0; session = 0; cooldown = 0; keep = 0; bonded = 0 }) (replicate 8 no_method) 0

abbrev pub FromBadNew : Host → Type 0
FromBadNew r = (g : Gate) → r ≡ first_host (step g bad_new).gate
