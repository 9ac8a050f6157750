-- How the paired phones are shown, and the cars of a store with the phones validated for each (W-207).
use Rattle.std.specs.Prelude.{List, [], ◌∷◌, ℕ}
use Rattle.ascii.specs.Ascii.{ascii}
use Rattle.saved_record.specs.SavedRecord.{CarIds}
use Rattle.replay_page.specs.Page.{Page, ◌▸◌, text, bytes, word}
use Rattle.replay_lines.specs.Parts.{ids_from}

-- a store without cars
unfoldable pub no_car : Page → Page
no_car p = p ▸ word (ascii " validated_car=") (ascii "none") ▸ text (ascii " validated=")

unfoldable pub car : CarIds → Page → Page
car c p = p ▸ text (ascii " validated_car=") ▸ bytes c.car ▸ text (ascii " validated=") ▸ ids_from 0 c.phones

-- one behind the other
unfoldable pub each_car : List CarIds → Page → Page
each_car [] p = p
each_car (c ∷ cs) p = p ▸ car c ▸ each_car cs

unfoldable pub cars : List CarIds → Page → Page
cars [] p = no_car p
cars (c ∷ cs) p = each_car (c ∷ cs) p

unfoldable pub lists : List (List ℕ) → List CarIds → Page → Page
lists paired store p = p ▸ text (ascii " paired=") ▸ ids_from 0 paired ▸ cars store
