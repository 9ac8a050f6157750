-- What a call on the lists leaves of them: one line for each call. It leaves the rest of the gate by its type.
use mathlib.Core.Path.{◌≡◌}
use mathlib.Core.Bool.{Bool, cond}
use mathlib.Core.List.{List, [], ◌∷◌}
use Prim.Native.Nat.{ℕ}
use Rattle.phones.specs.Ids.{some_of, Left, stays, becomes}
use Rattle.saved_record.specs.SavedRecord.{CarIds, Reading, malformed, car_twice, too_large, ok}
use Rattle.state.specs.declared.Answer.{Answer}
use Rattle.state.specs.declared.Raised.{Raised}
use Rattle.state.specs.Checks.{Check, checked}
use Rattle.state.specs.View.{Lists, Listing, lists_stay}
use Rattle.validations.specs.Store as Validations
use Rattle.pairing.specs.Pairing as Pairing
use Rattle.definition.specs.Gate as Gate
use Rattle.definition.specs.Gate.{ListCall, listing}
use Rattle.footprint.specs.Footprint.{Part, paired, store, list_touches, is_in}
use Rattle.footprint.proofs.Keeps.{pick, either, each_check, same_either}

-- an operation that changes these lists and no other
pub record KeepsLists (ps : List Part) (x : Listing) : Type 0 where
  pub paired : x.paired ≡ pick ps paired stays x.paired
  pub store : x.store ≡ pick ps store stays x.store

lists_stay_lem : (ps : List Part) (r : Raised) (a : Answer) → KeepsLists ps (lists_stay r a)
unfolding lists_stay
lists_stay_lem ps r a = record { paired = same_either (is_in paired ps) stays; store = same_either (is_in store ps) stays }

lists_cond : (ps : List Part) (b : Bool) (x y : Listing) → KeepsLists ps x → KeepsLists ps y → KeepsLists ps (cond b x y)
lists_cond ps b x y h k = either (λ z. KeepsLists ps z) b x y h k

lists_checked : (ps : List Part) (r : Raised) (ks : List Check) (x : Listing) → KeepsLists ps x → KeepsLists ps (checked (lists_stay r) ks x)
lists_checked ps r ks x h = each_check (λ z. KeepsLists ps z) (lists_stay r) ks x (lists_stay_lem ps r) h

lists_storing : (a : Answer) (s : Left (List CarIds)) → KeepsLists (store ∷ []) (Validations.storing a stays s)
unfolding some_of
lists_storing a stays = search
lists_storing a (becomes s) = search

lists_restoring : (r : Reading) → KeepsLists (store ∷ []) (Validations.restoring r)
unfolding some_of
lists_restoring malformed = search
lists_restoring car_twice = search
lists_restoring too_large = search
lists_restoring (ok cs) = search

pub lists_keep : (l : Lists) (bonded : ℕ) (k : ListCall) → KeepsLists (list_touches k) (listing l bonded k)
unfolding listing Pairing.pair Validations.forget Validations.prune Validations.restore some_of
lists_keep l bonded (Gate.add_paired_phone id) = search (lists_checked, lists_cond, lists_stay_lem)
lists_keep l bonded (Gate.remove_paired_phone id) = search
lists_keep l bonded Gate.clear_paired_phones = search
lists_keep l bonded (Gate.forget_phone_validation id) = search lists_storing
lists_keep l bonded Gate.prune_phone_validations = search lists_storing
lists_keep l bonded (Gate.restore_phone_validations bytes) = search lists_restoring
