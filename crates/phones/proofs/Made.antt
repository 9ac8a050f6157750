-- What an id that was made says of its bytes, and none of them.
use Rattle.std.proofs.Common.{◌≡◌, refl, ap, ◌∙◌, Bool, true, false, cond, ltb, List, ℕ, length, Option, Some, None}
use Rattle.phones.specs.declared.ShortId.{ShortId}
use Rattle.phones.specs.Phones.{id_bytes, id_of, made_id}
use Rattle.phones.proofs.Laws.{bytes_of_id}

some_tells : (t : Bool) (p q : ShortId) → Some p ≡ cond t None (Some q) → (t ≡ false) × (p ≡ q)
some_tells true p q e = cc
some_tells false p q e = (refl, cc)

pub made_fits : (p : ShortId) (s : List ℕ) → Some p ≡ made_id s → ltb 32 (length s) ≡ false
unfolding made_id
made_fits p s e = (some_tells (ltb 32 (length s)) p (id_of s) e).0

pub made_id_lem : (p : ShortId) (s : List ℕ) → Some p ≡ made_id s → p ≡ id_of s
unfolding made_id
made_id_lem p s e = (some_tells (ltb 32 (length s)) p (id_of s) e).1

pub made_bytes : (p : ShortId) (s : List ℕ) → Some p ≡ made_id s → id_bytes p ≡ s
made_bytes p s e = ap id_bytes (made_id_lem p s e) ∙ bytes_of_id s

pub made_long : (s : List ℕ) → ◌≡◌ {A = Option ShortId} None (made_id s) → ltb 32 (length s) ≡ true
unfolding made_id
made_long s e = go (ltb 32 (length s)) e
  where
    go : (t : Bool) → ◌≡◌ {A = Option ShortId} None (cond t None (Some (id_of s))) → t ≡ true
    go true e = refl
    go false e = cc
