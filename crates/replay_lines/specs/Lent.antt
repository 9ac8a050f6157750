-- Memory that a line lends, and how it is shown as it is left.
use Rattle.std.specs.Prelude.{List, ℕ}
use Rattle.ascii.specs.Ascii.{ascii}
use Rattle.replay_page.specs.Page.{Page, ◌▸◌, text, bytes}

-- how many bytes a line can lend: it has at most 16,384, and each byte is two of them
abbrev pub most_lent : ℕ
most_lent = 8192

unfoldable pub output : List ℕ → Page → Page
output s p = p ▸ text (ascii " output=") ▸ bytes s
