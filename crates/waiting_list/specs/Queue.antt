-- The frames that wait to be sent (02, W-204): which is next, and the list as it is left. What allow decides of a frame is no part of it.
use Rattle.std.specs.Prelude.{Bool, cond, List, [], ◌∷◌, ℕ, zero, suc, ◌+◌, ◌-◌, ◌%◌, eqb, ltb, length, take, get_or, set}
use Rattle.frames.specs.declared.Id.TheVariants.{Standard}
use Rattle.frames.specs.declared.TxClass.TheVariants.{Platform}
use Rattle.waiting_list.specs.declared.Waiting.{Waiting}

-- what stands past the end of a list: 0 for every number, the first case of every enum, no bytes
abbrev pub blank : Waiting
blank = record { frame = record { bus = 0; id = Standard 0; «data» = []; dlc = 0 }; class = Platform; owner = record { bytes = []; len = 0 } }

abbrev pub record_at : List Waiting → ℕ → Waiting
record_at l i = get_or l i blank

-- "a lent list of sixteen records, kept in arrival order": the first `count` of them wait
unfoldable pub waiting_of : List Waiting → ℕ → List Waiting
waiting_of l count = take count l

-- ---- buses

-- "each on its frame's own bus"; "A record that the host altered is served, decided and reported under its bus modulo 4"
abbrev pub bus_of : Waiting → ℕ
bus_of w = w.frame.bus % 4

abbrev pub under_bus : Waiting → Waiting
under_bus w = record { frame = record { bus = bus_of w; id = w.frame.id; «data» = w.frame.data; dlc = w.frame.dlc }; class = w.class; owner = w.owner }

-- the place of the oldest frame on a bus; the number of frames if none is on it
unfoldable pub oldest_on : ℕ → List Waiting → ℕ
oldest_on b [] = 0
oldest_on b (w ∷ ws) = cond (eqb (bus_of w) b) 0 (suc (oldest_on b ws))

unfoldable pub has_one : List Waiting → ℕ → Bool
has_one ws b = ltb (oldest_on b ws) (length ws)

-- ---- a turn

-- the first that passes a test, and d if none does
unfoldable pub first_that : (ℕ → Bool) → List ℕ → ℕ → ℕ
first_that f [] d = d
first_that f (b ∷ bs) d = cond (f b) b (first_that f bs d)

-- "the next bus that has one, going round from 0 to 3": the first of the three past the last served, and else the last served itself.
-- "A new gate's first turn looks from bus 0": its last served is 3
unfoldable pub next_bus : ℕ → List Waiting → ℕ
next_bus last ws = first_that (has_one ws) ((last + 1) % 4 ∷ (last + 2) % 4 ∷ (last + 3) % 4 ∷ []) (last % 4)

-- "One turn takes the oldest frame of the next bus that has one"
unfoldable pub next_place : ℕ → List Waiting → ℕ
next_place last ws = oldest_on (next_bus last ws) ws

-- ---- the list as it is left

-- the places from p to e - 1 hold what the next place held; every other place is as it was
unfoldable pub moved : {A : Type 0} → List A → ℕ → ℕ → List A
moved [] p e = []
moved (x ∷ xs) p zero = x ∷ xs
moved (x ∷ xs) (suc p) (suc e) = x ∷ moved xs p e
moved (x ∷ []) zero (suc e) = x ∷ []
moved (x ∷ y ∷ ys) zero (suc e) = y ∷ moved (y ∷ ys) zero e

-- "later frames then move one place forward, and no other record changes": of n that wait, those at p + 1 to n - 1 move to p to n - 2.
-- Place n - 1, where none waits any more, keeps what it held, as the places from n on do
unfoldable pub closed_up : List Waiting → ℕ → ℕ → List Waiting
closed_up l p n = moved l p (n - 1)

-- one frame more, behind the n that wait
unfoldable pub with_one : List Waiting → ℕ → Waiting → List Waiting
with_one l n w = set l n w
