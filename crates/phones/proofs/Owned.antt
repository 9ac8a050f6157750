-- What owning a list tells of its ids; `search` finds the fact that this takes.
use mathlib.Core.Path.{◌≡◌}
use Prim.Native.Nat.{◌≤◌}
use native.Mathlib.Omega.{arith}
use lib.ListN.{length}
use Rattle.phones.specs.declared.PhoneList.{PhoneList}
use Rattle.phones.specs.Phones.{phones_of}
use Rattle.phones.proofs.Laws.{phones_length}

-- there are at most 32
pub owned_count : (l : PhoneList) → length l.lens ≡ 32 → length (phones_of l) ≤ 32
owned_count l h = let e = phones_length l h in omega arith
