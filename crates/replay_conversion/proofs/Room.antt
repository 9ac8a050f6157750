-- The room that a conversion takes.
use Rattle.std.proofs.Common.{List, ℕ, ◌^◌, ◌≤◌, ◌<◌, Result, Ok, Err, length, lit≤}
use Rattle.ascii.specs.Ascii.{ascii}
use Rattle.converter.specs.Convert.{outcome_of, room_of}
use Rattle.converter.specs.declared.ConversionError.{ConversionError}
use Rattle.converter.specs.declared.ConversionError.TheVariants.{Malformed, CarTwice, TooLarge, ManyCars, ShortOutput}
use Rattle.replay_lines.specs.Lent.{most_lent}
use Rattle.replay_page.specs.Room.{Within}
use Rattle.replay_page.proofs.Room.{◌⊕◌, item_in, word_in}
use Rattle.replay_lines.proofs.Room.{output_in}
use Rattle.replay_conversion.specs.Conversion.{conversion_name, conversion, conversion_room}

name_in : (c : Result ℕ ConversionError) → length (conversion_name c) ≤ 14
name_in (Ok room) = lit≤ tt
name_in (Err Malformed) = lit≤ tt
name_in (Err CarTwice) = lit≤ tt
name_in (Err TooLarge) = lit≤ tt
name_in (Err ManyCars) = lit≤ tt
name_in (Err (ShortOutput room)) = lit≤ tt

-- what the code is handed, with the lent bytes as they are left
pub converted_in : (c : Result ℕ ConversionError) → room_of c < 2 ^ 64 → (left : List ℕ) → length left ≤ most_lent → Within conversion_room (conversion (outcome_of c left))
unfolding conversion
converted_in c h left few =
    word_in (ascii " answer=") (conversion_name c) 14 (name_in c) ⊕ item_in (ascii " room=") (room_of c) h
    ⊕ output_in left few
