-- A script, byte by byte: what is there of the line that is being read, and what a line gives once it has ended.
use Rattle.std.specs.Prelude.{◌≡◌, ℕ, ◌+◌, ◌-◌, ◌%◌, ◌^◌, Bool, false, cond, List, [], ◌∷◌, ◌++◌, length, take, ◌==◌, nat_lt}
use Rattle.arrays.specs.Arrays.{put}
use Rattle.replay_host.specs.declared.Host.{Host}
use Rattle.replay_page.specs.Page.{Page, page}
use Rattle.replay_played.specs.Played.{played, with_state, passed_over, too_long}
use Rattle.replay_given.specs.Turns.{Turn}
use Rattle.replay.specs.declared.Replay.{Replay}

-- ---- a line in memory

-- how much is there when more comes; above the memory's length: the line is too long
unfoldable pub kept_len : List ℕ → ℕ → List ℕ → ℕ
kept_len memory len more = cond (nat_lt (length memory) len) len (cond (nat_lt (length memory - len) (length more)) (length memory + 1) (len + length more))

-- the memory then
unfoldable pub kept_in : List ℕ → ℕ → List ℕ → List ℕ
kept_in memory len more = cond (nat_lt (length memory) len) memory (cond (nat_lt (length memory - len) (length more)) memory (put memory len more))

-- ---- a line

pub data Line : Type 0 where
  short : List ℕ → Line
  long : Line

unfoldable pub line_in : List ℕ → ℕ → Line
line_in memory len = cond (nat_lt (length memory) len) long (short (take len memory))

-- one byte more, where a line has room for so many
abbrev pub plus : ℕ → ℕ → Line → Line
plus room b (short s) = cond (nat_lt (length s) room) (short (s ++ (b ∷ []))) long
plus room b long = long

-- the text that a line gives and what the host holds afterwards
abbrev pub line_gives : Bool → Host → ℕ → Line → Page → Turn
line_gives states h n (short s) p = cond (passed_over s) (record { host = h; page = p; called = false }) (with_state states n (played h n s p))
line_gives states h n long p = record { host = h; page = too_long n p; called = false }

-- what the host holds afterwards, which hangs neither on what is printed nor on the memory for it
unfoldable pub host_after : Host → ℕ → Line → Host
host_after h n l = (line_gives false h n l (page [] 0)).host

-- ---- a script

-- the host, the number of the line that is being read, and what is there of it
pub record Reading : Type 0 where
  pub host : Host
  pub number : ℕ
  pub line : Line

abbrev pub next_number : ℕ → ℕ
next_number n = (n + 1) % 2 ^ 64

-- the line has ended
unfoldable pub ended : Reading → Reading
ended r = record { host = host_after r.host r.number r.line; number = next_number r.number; line = short [] }

unfoldable pub grown : ℕ → ℕ → Reading → Reading
grown room b r = record { host = r.host; number = r.number; line = plus room b r.line }

-- a line ends with the byte 10
unfoldable pub read : ℕ → List ℕ → Reading → Reading
read room [] r = r
read room (b ∷ bs) r = read room bs (cond (b == 10) (ended r) (grown room b r))

-- a piece of the script was read
pub record ReadOn (room : ℕ) (before after : Reading) : Type 0 where
  pub piece : List ℕ
  pub gives : after ≡ read room piece before

-- ---- what the code keeps

abbrev pub reading_of : Replay → List ℕ → Reading
reading_of p memory = record { host = p.host; number = p.number; line = line_in memory p.len }

abbrev pub next_line : ℕ → Host → Bool → Replay
next_line n h going = record { host = h; number = next_number n; len = 0; going = going }
