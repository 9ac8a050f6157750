-- What W-204's claim on waiting speaks of (`before`, `follow`), and what its proof counts (`gone`, `turns_left`): "A frame with k before it on its bus, none altered meanwhile, is decided within 4 × (k + 1) turns".
use Rattle.std.specs.Prelude.{cond, List, [], ◌∷◌, ℕ, zero, suc, ◌+◌, ◌-◌, ◌*◌, ◌%◌, eqb, ltb}
use Rattle.waiting_list.specs.declared.Waiting.{Waiting}
use Rattle.waiting_list.specs.Queue.{record_at, bus_of}

-- how many of the places before p are on bus b: the k of the frame at p, with b its bus
unfoldable pub before : ℕ → List Waiting → ℕ → ℕ
before b ws zero = 0
before b [] (suc p) = 0
before b (w ∷ ws) (suc p) = cond (eqb (bus_of w) b) 1 0 + before b ws p

-- those that wait, but for the one at a place
unfoldable pub gone : ℕ → List Waiting → List Waiting
gone p [] = []
gone zero (w ∷ ws) = ws
gone (suc p) (w ∷ ws) = w ∷ gone p ws

-- the place of the frame that was at p, once a turn took the one at t. A turn that takes place p decides it
unfoldable pub follow : ℕ → ℕ → ℕ
follow t p = cond (ltb t p) (p - 1) p

-- how many turns at most go by before the one that decides it: four for each before it on its bus, and one for each bus that comes first,
-- going round past the last served
unfoldable pub turns_left : ℕ → List Waiting → ℕ → ℕ
turns_left last ws p = 4 * before (bus_of (record_at ws p)) ws p + (bus_of (record_at ws p) + 3 - last) % 4
