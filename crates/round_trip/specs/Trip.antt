-- Demand 2's round trip over the calls: what encode_phone_validations answers, restore_phone_validations takes back, on any gate, and
-- the other way round. What is written is version 2 of the record (W-207).
use Rattle.std.specs.Prelude.{ℕ, ◌≤◌, ◌<◌, ◌≡◌, true, false, List, [], ◌∷◌, length, take}
use Rattle.phones.specs.Ids.{some_of, contains}
use Rattle.saved_record.specs.declared.SavedRecord.{SavedRecord}
use Rattle.saved_record.specs.declared.Store.{Store}
use Rattle.saved_record.specs.SavedRecord.{CarIds, record_of}
use Rattle.saved_record.specs.Store.{cars_of, store_of}
use Rattle.state.specs.declared.Gate.{Gate}
use Rattle.state.specs.declared.Answer.TheVariants.{Done}
use Rattle.state.specs.Answers.{numbered}
use Rattle.state.specs.Replies.{no_s, phone_access_changed, sending}
use Rattle.answers.specs.Query.{plain, saved, encode_phone_validations}
use Rattle.definition.specs.Gate.{Given, nothing, on_lists, ask, restore_phone_validations, step}
use Rattle.stays_in_range.specs.Stays.{InRange, digests_of32}

-- the gate answers done and this record
abbrev pub Saves : Gate → SavedRecord → Type 0
Saves g r = (step g (ask encode_phone_validations)).answer ≡ saved (record { answer = Done; stored = r })

-- the bytes of a record that are in use
abbrev pub used : SavedRecord → List ℕ
used r = take r.len r.bytes

-- what the gate gives if it is to restore these bytes
abbrev pub restoring : Gate → List ℕ → Given
restoring h bytes = step h (on_lists (restore_phone_validations bytes))

-- done, A V raised, and the gate as it was but for its store
abbrev pub done_with : Gate → Store → Given
done_with h s = record {
  numbered = numbered Done;
  answer = plain Done;
  signals = sending phone_access_changed no_s;
  lent = nothing;
  gate = record { core = h.core; phones = record { paired = h.phones.paired; store = s }; save = h.save; queue = h.queue; code = h.code };
}

-- a store with something to save: one car or more, and no id that is empty under any; and what its type gives, car is a [u8; 32]
pub record Storable (cs : List CarIds) : Type 0 where
  pub digests : digests_of32 cs ≡ true
  pub many : 0 < length cs
  pub named : some_of (λ (c : CarIds). contains [] c.phones) cs ≡ false

-- ---- the claims

-- a gate answers a record, and any gate takes its bytes back as the same cars and ids, in their order; their store is canonical, so it is
-- byte for byte the one that was saved if that one is
abbrev pub SavedRestores : Type 0
SavedRestores =
    (g h : Gate) → InRange g → InRange h → Storable (cars_of g.phones.store)
    → (r : SavedRecord) × Saves g r × (restoring h (used r) ≡ done_with h (store_of (cars_of g.phones.store)))

-- bytes of version 2 that a gate restores are at most 4,358, and the gate that it leaves answers exactly these bytes and their number
abbrev pub RestoredSaves : Type 0
RestoredSaves =
    (h : Gate) (body : List ℕ) → (restoring h (2 ∷ body)).answer ≡ plain Done → (length (2 ∷ body) ≤ 4358) × Saves (restoring h (2 ∷ body)).gate (record_of (2 ∷ body))

-- of version 1, it answers those of version 2 with one car and the same body
abbrev pub OlderSaves : Type 0
OlderSaves =
    (h : Gate) (body : List ℕ) → (restoring h (1 ∷ body)).answer ≡ plain Done
    → (length (2 ∷ 1 ∷ body) ≤ 4358) × Saves (restoring h (1 ∷ body)).gate (record_of (2 ∷ 1 ∷ body))
