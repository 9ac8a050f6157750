-- The store of validated phones: up to four cars, each with its list (phone_trust.rs; 02, W-207).
use Rattle.std.specs.Prelude.{Bool, true, false, cond, not, ◌&&◌, List, [], ◌∷◌, ◌++◌, map, ℕ, eqb, ltb, length, drop}
use Rattle.arrays.specs.Arrays.{same_bytes}
use Rattle.phones.specs.Ids.{contains, remove_all, retain_in, some_of, Left, stays, becomes, pushed}
use Rattle.saved_record.specs.declared.SavedRecord.{SavedRecord}
use Rattle.saved_record.specs.SavedRecord.{CarIds, record_of, encoded, has_car, Reading, malformed, car_twice, too_large, ok, decoded}
use Rattle.state.specs.declared.Answer.{Answer}
use Rattle.state.specs.declared.Answer.TheVariants.{Done, Malformed, CarTwice, TooLarge}
use Rattle.state.specs.Replies.{nothing_raised, phone_access_changed}
use Rattle.state.specs.View.{Lists, Listing}

-- encode_phone_validations: the record of a store
unfoldable pub record_for : List CarIds → SavedRecord
record_for cs = record_of (encoded cs)

-- ---- cars and their phones

-- a car with what is left of its list
abbrev pub with_phones : CarIds → List (List ℕ) → CarIds
with_phones c ps = record { car = c.car; phones = ps }

-- "a car without phones leaves"
unfoldable pub with_some : List CarIds → List CarIds
with_some [] = []
with_some (c ∷ cs) = cond (eqb (length c.phones) 0) (with_some cs) (c ∷ with_some cs)

-- the same is done to the list of every car, and those without phones leave
unfoldable pub under_every : (List (List ℕ) → List (List ℕ)) → List CarIds → List CarIds
under_every f cs = with_some (map (λ (c : CarIds). with_phones c (f c.phones)) cs)

-- the phones of the car with this digest; none if it is not in the store
unfoldable pub phones_for : List ℕ → List CarIds → List (List ℕ)
phones_for car [] = []
phones_for car (c ∷ cs) = cond (same_bytes c.car car) c.phones (phones_for car cs)

-- ---- the calls on the store

-- store_validations: S A V where the store changes
abbrev pub storing : Answer → Left (List (List ℕ)) → Left (List CarIds) → Listing
storing a paired stays = record { answer = a; raised = nothing_raised; stores = false; paired = paired; store = stays }
storing a paired (becomes cs) = record { answer = a; raised = phone_access_changed; stores = true; paired = paired; store = becomes cs }

-- "removes it under every car"; every equal id goes
unfoldable pub forgetting : List CarIds → List ℕ → Left (List CarIds)
forgetting cs id =
    cond (some_of (λ (c : CarIds). contains id c.phones) cs)
    (becomes (under_every (remove_all id) cs))
    stays

-- forget_phone_validation
unfoldable pub forget : Lists → List ℕ → Listing
forget l id = storing Done stays (forgetting l.store id)

-- some id of the car is not paired
unfoldable pub loses_some : List (List ℕ) → CarIds → Bool
loses_some paired c = not (eqb (length (retain_in paired c.phones)) (length c.phones))

-- the ids that are not paired go, under every car
unfoldable pub pruning : Lists → Left (List CarIds)
pruning l =
    cond (some_of (loses_some l.paired) l.store)
    (becomes (under_every (retain_in l.paired) l.store))
    stays

-- prune_phone_validations
unfoldable pub prune : Lists → Listing
prune l = storing Done stays (pruning l)

-- the store is replaced by what a record says: A V
abbrev pub replaced : Answer → List CarIds → Listing
replaced a cs = record { answer = a; raised = phone_access_changed; stores = false; paired = stays; store = becomes cs }

-- each refusal empties the store
abbrev pub restoring : Reading → Listing
restoring malformed = replaced Malformed []  -- 22
restoring car_twice = replaced CarTwice []  -- 28
restoring too_large = replaced TooLarge []  -- 23
restoring (ok cs) = replaced Done cs

-- restore_phone_validations
unfoldable pub restore : List ℕ → Listing
restore bytes = restoring (decoded bytes)

-- ---- for validation.rs

-- 21, "ListFull now concerns one car": this car's list is full without the phone
unfoldable pub is_full : List CarIds → List ℕ → List ℕ → Bool
is_full cs car id = ltb 31 (length (phones_for car cs)) && not (contains id (phones_for car cs))

-- this car has these phones now, at the place it has
unfoldable pub car_has : List ℕ → List (List ℕ) → List CarIds → List CarIds
car_has car ps [] = []
car_has car ps (c ∷ cs) = cond (same_bytes c.car car) (with_phones c ps ∷ cs) (c ∷ car_has car ps cs)

abbrev pub of_car : List ℕ → List CarIds → Left (List (List ℕ)) → Left (List CarIds)
of_car car cs stays = stays
of_car car cs (becomes ps) = becomes (car_has car ps cs)

-- "a fifth car displaces the first"
unfoldable pub displaced : List CarIds → List CarIds
displaced cs = cond (ltb 3 (length cs)) (drop 1 cs) cs

-- add_phone_validation: a car that is not in the store comes last
unfoldable pub validating : List CarIds → List ℕ → List ℕ → Left (List CarIds)
validating cs car id =
    cond (has_car car cs)
    (cond (contains id (phones_for car cs)) stays (of_car car cs (pushed id (phones_for car cs))))
    (becomes (displaced cs ++ (record { car = car; phones = id ∷ [] } ∷ [])))
