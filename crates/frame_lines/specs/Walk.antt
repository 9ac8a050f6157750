-- What the private functions of the code write and find.
use Rattle.std.specs.Prelude.{◌≡◌, List, [], ◌∷◌, ℕ, length, take}
use Rattle.ascii.specs.Ascii.{ascii}
use Rattle.decimal.specs.Decimal.{decimal_of}
use Rattle.hexadecimal.specs.Hex.{hex_of}
use Rattle.frames.specs.declared.CanFrame.{CanFrame}
use Rattle.replay_page.specs.Page.{Page, text}
use Rattle.log_entries.specs.Entries.{Entry}
use Rattle.frame_lines.specs.Lines.{kind_of}

-- a page of n bytes begins with the text t, and its place is the one after it
pub record Laid (n : ℕ) (p : Page) (t : List ℕ) : Type 0 where
  pub room : length p.memory ≡ n
  pub place : p.place ≡ length t
  pub front : take (length t) p.memory ≡ t

-- texts laid down one behind the other
unfoldable pub lay : List (List ℕ) → Page → Page
lay [] p = p
lay (s ∷ ss) p = lay ss (text s p)

-- the texts of a line before the number of its id, and behind it
abbrev pub front : Entry → List (List ℕ)
front e = ascii "time=" ∷ decimal_of e.time ∷ ascii " bus=" ∷ decimal_of e.frame.bus ∷ ascii " kind=" ∷ kind_of e.frame.id ∷ ascii " id=" ∷ []

abbrev pub back : CanFrame → List (List ℕ)
back f = ascii " dlc=" ∷ decimal_of f.dlc ∷ ascii " data=" ∷ hex_of f.data ∷ (10 ∷ []) ∷ []
