-- The place of a method is that of the first with its id, or past those in use.
use Rattle.std.proofs.Common.{◌≡◌, ℕ, suc, ◌+◌, min, Bool, true, false, cond, List, [], ◌∷◌, Option, Some, None, unwrap_or, length, take, refl, ap, ◌∙◌, add-one, add-zero, arith}
use lib.ListN.{length-take}
use Rattle.std.specs.List.{position_from}
use Rattle.arrays.specs.Arrays.{same_bytes}
use Rattle.phones.specs.Phones.{id_bytes}
use Rattle.state.specs.declared.Method.{Method}
use Rattle.state.specs.declared.Methods.{Methods}
use Rattle.session.specs.Session.{place_from, place_of}

abbrev pub has_id : List ℕ → Method → Bool
has_id id m = same_bytes (id_bytes m.id) id

unwrap_cond : (b : Bool) (i d : ℕ) (o : Option ℕ) → unwrap_or (cond b (Some i) o) d ≡ cond b i (unwrap_or o d)
unwrap_cond true i d o = refl
unwrap_cond false i d o = refl

place_at : (id : List ℕ) (i d : ℕ) (ms : List Method) → i + length ms ≡ d → unwrap_or (position_from (has_id id) i ms) d ≡ place_from id i ms
unfolding place_from
place_at id i d [] e = omega arith
place_at id i d (m ∷ ms) e =
    let k : suc i + length ms ≡ d = omega arith in
    unwrap_cond (has_id id m) i d (position_from (has_id id) (i + 1) ms) ∙ ap (cond (has_id id m) i) (rw add-one (place_at id (suc i) d ms k))

pub place_is : (m : Methods) (id : List ℕ) (r : Option ℕ) → length m.list ≡ 8 → r ≡ position_from (has_id id) 0 (take m.count m.list) → unwrap_or r (min m.count 8) ≡ place_of m id
unfolding place_of
place_is m id r far e =
    let n : 0 + length (take m.count m.list) ≡ min m.count 8 = rw (length-take, far) (omega arith) in
    rw e (place_at id 0 (min m.count 8) (take m.count m.list) n)
