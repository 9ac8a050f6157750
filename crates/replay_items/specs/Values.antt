-- The values of single items, each if it stands in the line once and is of its form.
use Rattle.std.specs.Prelude.{cond, List, replicate, ℕ, Bool, false, Option, Some, None, option_and_then}
use Rattle.ascii.specs.Ascii.{ascii}
use Rattle.frames.specs.declared.CanFrame.{CanFrame}
use Rattle.frames.specs.declared.Id.TheVariants.{Standard}
use Rattle.frames.specs.declared.TxClass.{TxClass}
use Rattle.frames.specs.declared.TxClass.TheVariants.{Platform, Command}
use Rattle.state.specs.declared.Car.{Car}
use Rattle.state.specs.declared.Settings.{Settings}
use Rattle.replay_script.specs.Places.{item_of}
use Rattle.replay_values.specs.Values.{the_number, the_flag, is_the_word, the_id, the_data}
use Rattle.replay_items.specs.declared.Numbers.{Numbers}
use Rattle.replay_items.specs.declared.Switches.{Switches}

infixl 10 ◌>>=◌
abbrev pub ◌>>=◌ : {A B : Type 0} → Option A → (A → Option B) → Option B
o >>= f = option_and_then f o

-- ---- numbers

unfoldable pub number_at : ℕ → List ℕ → List ℕ → Option ℕ
number_at most key line = the_number most (item_of key line)

-- a number of 32 bits
abbrev pub word_at : List ℕ → List ℕ → Option ℕ
word_at key line = number_at 4294967295 key line

-- the host's list has seventeen records: up to 17 of them are lent, and their places are 0 to 16
unfoldable pub numbers_at : List ℕ → Numbers
numbers_at line = record {
  clock = number_at 18446744073709551615 (ascii "now") line;
  session = word_at (ascii "session") line;
  bus = number_at 255 (ascii "bus") line;
  number = word_at (ascii "number") line;
  place = word_at (ascii "place") line;
  next = word_at (ascii "next_session") line;
  relocks = word_at (ascii "relocks") line;
  turns = word_at (ascii "turns") line;
  length = number_at 17 (ascii "length") line;
  slot = number_at 16 (ascii "place") line;
}

-- ---- yes or no

unfoldable pub switch_at : List ℕ → List ℕ → Option Bool
switch_at key line = the_flag (item_of key line)

unfoldable pub switches_at : List ℕ → Switches
switches_at line = record {
  unlocked = switch_at (ascii "unlocked") line;
  enabled = switch_at (ascii "enabled") line;
  on = switch_at (ascii "on") line;
  target = switch_at (ascii "target") line;
}

-- ---- a frame to send and its class

unfoldable pub class_at : List ℕ → Option TxClass
class_at line =
    cond (is_the_word (ascii "platform") (item_of (ascii "class") line)) (Some Platform)
    (cond (is_the_word (ascii "command") (item_of (ascii "class") line)) (Some Command) None)

-- frame_bus, kind, id, dlc and data
unfoldable pub frame_at : List ℕ → Option CanFrame
frame_at line = do
  id ← the_id (item_of (ascii "kind") line) (item_of (ascii "id") line)
  bus ← number_at 255 (ascii "frame_bus") line
  dlc ← number_at 255 (ascii "dlc") line
  eight ← the_data (item_of (ascii "data") line)
  Some (record { bus = bus; id = id; «data» = eight; dlc = dlc })

-- ---- the six settings of a new gate

unfoldable pub settings_at : List ℕ → Option Settings
settings_at line = do
  digits ← word_at (ascii "digits") line
  tries ← word_at (ascii "tries") line
  session ← word_at (ascii "session") line
  cooldown ← word_at (ascii "cooldown") line
  keep ← word_at (ascii "keep") line
  bonded ← word_at (ascii "bonded") line
  Some (record { digits = digits; tries = tries; session = session; cooldown = cooldown; keep = keep; bonded = bonded })

-- ---- what a call gets for an item that its line has not

abbrev pub no_car : Car
no_car = record { known = false; digest = replicate 32 0 }

abbrev pub no_frame : CanFrame
no_frame = record { bus = 0; id = Standard 0; «data» = replicate 8 0; dlc = 0 }

abbrev pub no_settings : Settings
no_settings = record { digits = 0; tries = 0; session = 0; cooldown = 0; keep = 0; bonded = 0 }
