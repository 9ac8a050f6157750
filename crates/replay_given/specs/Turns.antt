-- What a call gives that a line says: what the host holds afterwards and the text, by the gate's definition `step`.
use Rattle.std.specs.Prelude.{◌≡◌, Bool, true, false, List, ℕ}
use Rattle.converter.specs.Convert.{converted}
use Rattle.definition.specs.Gate.{Lent, nothing, bytes, records, Given, given, step}
use Rattle.replay_conversion.specs.Conversion.{conversion}
use Rattle.replay_frames.specs.Frames as Frames
use Rattle.replay_host.specs.Host.{with_counters, with_lent, record_of, with_record, host_after, lending_to}
use Rattle.replay_host.specs.declared.Host.{Host}
use Rattle.replay_lines.specs.Answer.{answer}
use Rattle.replay_lines.specs.Lent.{output}
use Rattle.replay_page.specs.Page.{Page, page, ◌▸◌}
use Rattle.replay_page.specs.Room.{Within}
use Rattle.replay_signals.specs.Signals.{signals}
use Rattle.replay_state.specs.Whole as Whole
use Rattle.state.specs.Replies.{no_signals}
use Rattle.state.specs.declared.Answer.{Answer}
use Rattle.state.specs.declared.Answer.TheVariants.{Done}
use Rattle.state.specs.declared.Gate.{Gate}
use Rattle.state.specs.declared.Outcome.{Outcome}
use Rattle.replay_calls.specs.Calls.{Line, call, lending, counters, convert, set_list, set_record, state, lent_list, unknown}
use Rattle.replay_queries.specs.Shown.{shown}
use Rattle.replay_given.specs.declared.Played.{Played}

-- the host, the page, and whether a call was made
pub record Turn : Type 0 where
  pub host : Host
  pub page : Page
  pub called : Bool

-- what the code hands back, with the memory that it laid its text down in
abbrev pub turn_of : Played → List ℕ → Turn
turn_of r memory = record { host = r.host; page = page memory r.at; called = r.called }

-- no call was made
abbrev pub passed : Host → ℕ → Played
passed h at = record { host = h; at = at; called = false }

-- ---- one line that is a call

-- lent memory, as it was left; the host's list has a line of its own
abbrev pub lent_shown : Lent → Page → Page
lent_shown nothing p = p
lent_shown (bytes b) p = output b p
lent_shown (records ws) p = p

-- what a call gives: its answer with the values, the memory that it was lent, and the signals
unfoldable pub laid : Host → Given → Page → Turn
laid h d p = record { host = host_after h d; page = p ▸ shown d.answer ▸ lent_shown d.lent ▸ signals d.signals; called = true }

-- an answer that raises nothing
abbrev pub answer_alone : Gate → Answer → Outcome
answer_alone g a = record { answer = a; signals = no_signals; gate = g }

-- what stands behind the answer of a query, and of any line that leaves the host as it is
abbrev pub calm : Host → Page → Turn
calm h p = record { host = h; page = signals no_signals p; called = true }

-- a line about what the host holds that was done
abbrev pub done : Host → Page → Turn
done h p = calm h (p ▸ answer Done)

unfoldable pub ran : Line → Host → Page → Turn
ran (call c) h p = laid h (step h.gate c) p
ran (lending k) h p = laid h (lending_to h k) p
ran (counters next relocks) h p = laid h (given (answer_alone (with_counters h.gate next relocks) Done)) p
ran (set_list n) h p = done (with_lent h n) p
ran (set_record place frame class owner) h p = done (with_record h place (record_of frame class owner)) p
ran lent_list h p = calm h (p ▸ Frames.lent_list h.list h.lent)
ran state h p = record { host = h; page = Whole.gate h.gate p; called = false }
ran (convert saved two out) h p = calm h (conversion (converted saved two out) p)
ran unknown h p = record { host = h; page = p; called = false }

-- ---- room

-- room for no signals, and for what stands behind the name of a line: an answer with its signals, or the whole state
abbrev pub calm_room : ℕ
calm_room = 13

abbrev pub turn_room : ℕ
turn_room = 24000

abbrev pub TurnFits : (Page → Turn) → Type 0
TurnFits f = Within turn_room (λ (p : Page). (f p).page)

-- what the code hands back is what f gives from a page on, and none of that is left out
abbrev pub Lays : (Page → Turn) → Page → Played → List ℕ → Type 0
Lays f p r memory = (turn_of r memory ≡ f p) × TurnFits f
