-- The calls on the pairings and the connected phone (pairing.rs, phone_trust.rs).
use Rattle.std.specs.Prelude.{false, cond, List, [], ◌∷◌, ℕ, eqb, ltb, length}
use Rattle.arrays.specs.Arrays.{same_bytes}
use Rattle.phones.specs.Ids.{contains, remove_first, Left, stays, becomes, pushed}
use Rattle.phones.specs.Phones.{id_bytes, id_of}
use Rattle.state.specs.declared.Core.{Core}
use Rattle.state.specs.declared.Answer.TheVariants.{Done, Yes, No, Count, IdTooLong}
use Rattle.state.specs.declared.Said.{Said}
use Rattle.state.specs.Parts.{with_peer}
use Rattle.state.specs.Replies.{nothing_raised, phone_access_changed, leave, quiet, notified, yes_no}
use Rattle.state.specs.Checks.{◌refuses◌, checked}
use Rattle.state.specs.View.{Lists, Listing, lists_stay}
use Rattle.validations.specs.Store.{storing, forgetting}

-- ---- pairings

-- add_paired_phone; `bonded` is the set limit
unfoldable pub pair : List (List ℕ) → ℕ → List ℕ → Listing
pair paired bonded id =
    checked (lists_stay nothing_raised)
    ((ltb 32 (length id) refuses IdTooLong) ∷  -- 18
    (eqb (length id) 0 refuses No) ∷ [])  -- no for an empty id, without a signal
    (cond (contains id paired) (lists_stay phone_access_changed Yes)
    (cond (ltb (length paired) bonded)
    (record { answer = Yes; raised = phone_access_changed; stores = false; paired = pushed id paired; store = stays })
    (lists_stay phone_access_changed No)))

-- the first match goes
unfoldable pub unpairing : List (List ℕ) → List ℕ → Left (List (List ℕ))
unpairing paired id = cond (contains id paired) (becomes (remove_first id paired)) stays

-- remove_paired_phone: the phone's validation goes in any case
unfoldable pub unpair : Lists → List ℕ → Listing
unpair l id = storing (yes_no (contains id l.paired)) (unpairing l.paired id) (forgetting l.store id)

-- clear_paired_phones: no pairing and no car is left; S A V if there was a car
unfoldable pub clear : Lists → Listing
clear l =
    let were = ltb 0 (length l.store) in
    record {
      answer = Count (length l.paired);
      raised = cond were phone_access_changed nothing_raised;
      stores = were;
      paired = becomes [];
      store = becomes [];
    }

-- ---- the connected phone

-- set_ble_peer: an empty id is none
unfoldable pub set_peer : Core → List ℕ → Said
set_peer c id =
    checked (leave c)
    ((ltb 32 (length id) refuses IdTooLong) ∷ [])  -- 18
    (cond (same_bytes (id_bytes c.peer) id)
    (quiet (with_peer c (id_of id)) Done)
    (notified (with_peer c (id_of id)) Done))
