-- Which ids of a list stay.
use Rattle.std.specs.Prelude.{◌≡◌, ◌<◌, Bool, false, List, [], ℕ, length, slice_index_or}
use denote.Ref.{Bor}
use Rattle.phones.specs.declared.PhoneList.{PhoneList}
use Rattle.phones.specs.Ids.{keep_where}
use Rattle.phones.specs.Phones.{list_of}

-- these marks are what a test of the place and the id answers
abbrev pub Answers : (ℕ → Bor (List ℕ) → Bool → Type 0) → List (List ℕ) → List Bool → Type 0
Answers post ps ms = (i : ℕ) (id : Bor (List ℕ)) (b : Bool) → i < length ps → id.now ≡ slice_index_or ps i [] → post i id b → b ≡ slice_index_or ms i false

-- those stay on which it passes
abbrev pub KeepsBy : (ℕ → Bor (List ℕ) → Bool → Type 0) → List (List ℕ) → PhoneList → Type 0
KeepsBy post ps r = (ms : List Bool) → Answers post ps ms → r ≡ list_of (keep_where ms ps)
