-- All that the items of a line say.
use Rattle.std.specs.Prelude.{◌≡◌, List, ℕ, length}
use Rattle.arrays.specs.Arrays.{put}
use Rattle.ascii.specs.Ascii.{ascii}
use Rattle.replay_lists.specs.Lists.{no_methods, add_methods, no_frames, add_frames}
use Rattle.replay_script.specs.Places.{item_of, values_of}
use Rattle.replay_values.specs.Values.{is_the_word, the_car}
use Rattle.replay_script.specs.Words.{items_of}
use Rattle.replay_items.specs.Bytes.{has_at, lent_bytes, bytes_of, joined, ends_of}
use Rattle.replay_items.specs.Values.{numbers_at, switches_at, class_at, frame_at, settings_at}
use Rattle.replay_items.specs.declared.Items.{Items}
use Rattle.replay_items.specs.declared.ItemsRead.{ItemsRead}

unfoldable pub read_of : List ℕ → Items
read_of line = record {
  count = length (items_of line);
  numbers = numbers_at line;
  switches = switches_at line;
  car = the_car (item_of (ascii "car") line);
  class = class_at line;
  frame = frame_at line;
  frames = add_frames no_frames (values_of (ascii "frame") (items_of line));
  settings = settings_at line;
  methods = add_methods no_methods (values_of (ascii "method") (items_of line));
  nobody = is_the_word (ascii "none") (item_of (ascii "phone") line);
  has = has_at line;
}

-- what was read, with the byte values in lent memory; `bytes` follows from where they end and from the memory
pub record Reads (line before after : List ℕ) (r : ItemsRead) : Type 0 where
  pub items : r.items ≡ read_of line
  pub ends : r.ends ≡ ends_of (bytes_of line)
  pub bytes : lent_bytes r.ends after ≡ bytes_of line
  pub memory : after ≡ put before 0 (joined (bytes_of line))
