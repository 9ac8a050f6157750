-- How a conversion is shown. The room and the lent bytes stand behind every answer.
use Rattle.std.specs.Prelude.{List, ℕ, Result, Ok, Err}
use Rattle.ascii.specs.Ascii.{ascii}
use Rattle.converter.specs.Convert.{Outcome, room_of}
use Rattle.converter.specs.declared.ConversionError.{ConversionError}
use Rattle.converter.specs.declared.ConversionError.TheVariants.{Malformed, CarTwice, TooLarge, ManyCars, ShortOutput}
use Rattle.replay_lines.specs.Lent.{output}
use Rattle.replay_page.specs.Page.{Page, ◌▸◌, item, word}

abbrev pub conversion_name : Result ℕ ConversionError → List ℕ
conversion_name (Ok room) = ascii "ok"
conversion_name (Err Malformed) = ascii "22/Malformed"
conversion_name (Err CarTwice) = ascii "28/CarTwice"
conversion_name (Err TooLarge) = ascii "23/TooLarge"
conversion_name (Err ManyCars) = ascii "29/ManyCars"
conversion_name (Err (ShortOutput room)) = ascii "30/ShortOutput"

unfoldable pub conversion : Outcome → Page → Page
conversion o p = p ▸ word (ascii " answer=") (conversion_name o.answer) ▸ item (ascii " room=") (room_of o.answer) ▸ output o.out

-- room for what is shown, of a line that lends as much as it can
abbrev pub conversion_room : ℕ
conversion_room = 16440
