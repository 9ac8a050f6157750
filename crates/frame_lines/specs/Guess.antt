-- How a line is read. What may stand in it is taken as it comes, and the line of that is compared with it. That this reads
-- exactly the lines of entries in form is proved (every_line, only_lines), so nothing here is to be believed.
use Rattle.std.specs.Prelude.{cond, List, ℕ, suc, ◌-◌, ltb, take, drop, replicate, Option, Some, None}
use Rattle.arrays.specs.Arrays.{same_bytes}
use Rattle.frames.specs.Frames.{can_id_in_range}
use Rattle.frames.specs.declared.Id.{Id}
use Rattle.frames.specs.declared.Id.TheVariants.{Standard}
use Rattle.frames.specs.declared.CanFrame.{CanFrame}
use Rattle.log_entries.specs.Entries.{Entry, entry}
use Rattle.word_table.specs.Words.{before}
use Rattle.replay_digits.specs.Digits.{number_in}
use Rattle.replay_values.specs.Values.{id_in, data_in}
use Rattle.frame_lines.specs.declared.LineEntry.{LineEntry}
use Rattle.frame_lines.specs.declared.Values.{Values}
use Rattle.frame_lines.specs.Lines.{line_of}

abbrev pub empty_frame : CanFrame
empty_frame = record { bus = 0; id = Standard 0; «data» = replicate 8 0; dlc = 0 }

abbrev pub line_entry : Entry → LineEntry
line_entry e = record { time = e.time; frame = e.frame }

-- the first word without its first n bytes
unfoldable pub behind : ℕ → List ℕ → List ℕ
behind n s = take (before 32 s - n) (drop n s)

-- what stands behind the first space
unfoldable pub rest : List ℕ → List ℕ
rest s = drop (suc (before 32 s)) s

-- the values that stand behind five, four, five, three, four and five bytes
unfoldable pub values_in : List ℕ → Values
values_in s = record {
  time = number_in 10 18446744073709551615 (behind 5 s);
  bus = number_in 10 18446744073709551615 (behind 4 (rest s));
  id = id_in (behind 5 (rest (rest s))) (behind 3 (rest (rest (rest s))));
  dlc = number_in 10 18446744073709551615 (behind 4 (rest (rest (rest (rest s)))));
  eight = data_in (take 16 (drop 5 (rest (rest (rest (rest (rest s)))))));
}

-- the entry of values that are in range
abbrev pub entry_if : ℕ → ℕ → Id → ℕ → List ℕ → Option LineEntry
entry_if t b i d bytes =
    cond (ltb 3 b) None
    (cond (ltb 8 d) None
    (cond (can_id_in_range i) (Some (line_entry (entry t (record { bus = b; id = i; «data» = bytes; dlc = d })))) None))

-- the entry of values that are all there and in range
abbrev pub entry_with : Option ℕ → Option ℕ → Option Id → Option ℕ → Option (List ℕ) → Option LineEntry
entry_with None bus id dlc eight = None
entry_with (Some t) None id dlc eight = None
entry_with (Some t) (Some b) None dlc eight = None
entry_with (Some t) (Some b) (Some i) None eight = None
entry_with (Some t) (Some b) (Some i) (Some d) None = None
entry_with (Some t) (Some b) (Some i) (Some d) (Some bytes) = entry_if t b i d bytes

unfoldable pub entry_from : Values → Option LineEntry
entry_from v = entry_with v.time v.bus v.id v.dlc v.eight

-- what was read, if s is its line
abbrev pub if_line : List ℕ → Option LineEntry → Option LineEntry
if_line s None = None
if_line s (Some e) = cond (same_bytes (line_of (entry e.time e.frame)) s) (Some e) None

unfoldable pub read_line : List ℕ → Option LineEntry
read_line s = if_line s (entry_from (values_in s))
