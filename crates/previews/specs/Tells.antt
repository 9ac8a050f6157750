-- 02, W-203: a preview gives "the answer and the paired and validated lists that the operation would give on a copy of the gate". The
-- claim is `PreviewTells`, at the end.
use Rattle.std.specs.Prelude.{◌≡◌, true, false, List, [], ℕ}
use Rattle.phones.specs.Phones.{phones_of, list_of}
use Rattle.saved_record.specs.declared.SavedRecord.{SavedRecord}
use Rattle.saved_record.specs.Store.{cars_of, store_of}
use Rattle.state.specs.declared.Gate.{Gate}
use Rattle.state.specs.declared.Answer.{Answer}
use Rattle.state.specs.declared.Answer.TheVariants.{Done, BadSettings}
use Rattle.state.specs.View.{view}
use Rattle.range.specs.Range.{in_range}
use Rattle.validations.specs.Store.{record_for}
use Rattle.answers.specs.Query.{Query, plain, saved, preview, encode_phone_validations, preview_remove_paired_phone, preview_forget_phone_validation, preview_clear_paired_phones, preview_prune_phone_validations, preview_approve_can_read_write}
use Rattle.definition.specs.Gate.{Call, remove_paired_phone, forget_phone_validation, clear_paired_phones, prune_phone_validations, approve_can_read_write, on_lists, on_core, ask, PackedReply, step, after, answered}

-- each preview beside its operation
pub data Previews : Query → Call → Type 0 where
  unpair : (id : List ℕ) → Previews (preview_remove_paired_phone id) (on_lists (remove_paired_phone id))
  forget : (id : List ℕ) → Previews (preview_forget_phone_validation id) (on_lists (forget_phone_validation id))
  clear : Previews preview_clear_paired_phones (on_lists clear_paired_phones)
  prune : Previews preview_prune_phone_validations (on_lists prune_phone_validations)
  approve : Previews preview_approve_can_read_write (on_core approve_can_read_write)

-- the record of a gate's store
abbrev pub record_at : Gate → SavedRecord
record_at h = record_for (cars_of h.phones.store)

-- an answer with the lists of a gate, in canonical form, and a number of bytes
abbrev pub told_of : Answer → Gate → ℕ → PackedReply
told_of a h n = preview a (list_of (phones_of h.phones.paired)) (store_of (cars_of h.phones.store)) n

-- `answered g r` is the reply r alone: the gate g is kept, and no signal is raised
pub record PreviewTells : Type 0 where
  -- what the operation answers, the lists of the gate that it leaves, and the bytes of its record
  pub tells : (g : Gate) (q : Query) (k : Call) → Previews q k → in_range (view g) ≡ true
      → (a : Answer) × ((step g k).answer ≡ plain a) × (step g (ask q) ≡ answered g (told_of a (after g k) (record_at (after g k)).len))
  -- that record is the one that encode_phone_validations gives there
  pub encodes : (h : Gate) → in_range (view h) ≡ true
      → step h (ask encode_phone_validations) ≡ answered h (saved (record { answer = Done; stored = record_at h }))
  -- "With 25 these lists are empty and the bytes 0"
  pub refused : (g : Gate) (q : Query) (k : Call) → Previews q k → in_range (view g) ≡ false
      → step g (ask q) ≡ answered g (preview BadSettings (list_of []) (store_of []) 0)
