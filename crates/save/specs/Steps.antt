-- What functions of the code give.
use Rattle.std.specs.Prelude.{◌≡◌, List, ℕ}
use Rattle.phones.specs.Ids.{afterwards}
use Rattle.save.specs.declared.Kept.{Kept}
use Rattle.save.specs.Save.{Saving}

-- the answer and the save, where no memory was lent
abbrev pub Says : Kept → Saving → Type 0
Says r x = r ≡ record { answer = x.answer; save = x.save }

-- and the lent memory before and after
abbrev pub SaysOf : Kept → List ℕ → List ℕ → Saving → Type 0
SaysOf r before after x = Says r x × (after ≡ afterwards before x.lent)
