-- Who is paired, who is validated (pairing.rs, phone_trust.rs).
use Rattle.std.specs.Prelude.{Bool, cond, not, ◌&&◌, List, [], ℕ, eqb, length}
use Rattle.phones.specs.Ids.{contains, any_in}
use Rattle.state.specs.declared.Identity.{Identity}
use Rattle.state.specs.View.{Lists}
use Rattle.saved_record.specs.SavedRecord.{CarIds}
use Rattle.validations.specs.Store.{phones_for}
use Rattle.policy.specs.Policy.{fingerprint_confirmed}
use Rattle.phone_trust.specs.declared.Trust.{Trust}
use Rattle.phone_trust.specs.declared.Trust.TheVariants.{NotBonded, Bonded, Validated}

-- is_paired
unfoldable pub is_paired : Lists → List ℕ → Bool
is_paired l id = contains id l.paired

-- the phones validated for the car identified now, wherever it stands in the store
unfoldable pub validated_now : Identity → List CarIds → List (List ℕ)
validated_now i cs = cond (fingerprint_confirmed i) (phones_for i.car.digest cs) []

-- is_phone_validated: not empty, paired, and listed for the car identified now
unfoldable pub is_validated : Identity → Lists → List ℕ → Bool
is_validated i l id = not (eqb (length id) 0) && is_paired l id && contains id (validated_now i l.store)

-- car_has_validated_phone
unfoldable pub car_has_some_validated : Identity → Lists → Bool
car_has_some_validated i l = any_in l.paired (validated_now i l.store)

-- phone_trust_level
unfoldable pub trust_of : Identity → Lists → List ℕ → Trust
trust_of i l id = cond (is_paired l id) (cond (is_validated i l id) Validated Bonded) NotBonded
