-- The walk over packed ids gives those that are left.
use Rattle.std.proofs.Common.{List, ℕ, ap, length}
use denote.Ref.{Bor}
use Rattle.std.proofs.lemmas.Iterator.{YieldsList}
use Rattle.std.proofs.lemmas.Iterator.Consumers.{YieldsList-from_shown}
use Rattle.phones.specs.declared.PackedIds.{PackedIds}
use Rattle.phones.specs.Phones.{ids_left, GivesId}

pub ids_yield : (ids : PackedIds) → YieldsList GivesId (λ (x : Bor (List ℕ)). x.now) ids (ids_left ids)
ids_yield ids =
    YieldsList-from_shown GivesId (λ (x : Bor (List ℕ)). x.now) ids_left
    (λ s t g. ap length g.0)
    (λ s x t g. g.0)
    ids
