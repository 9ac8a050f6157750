-- The queries, and the answer to each. Only the running challenge shows the gate's digits.
use Rattle.std.specs.Prelude.{cond, List, [], ℕ, length}
use Rattle.phones.specs.Ids.{afterwards}
use Rattle.saved_record.specs.SavedRecord.{CarIds}
use Rattle.state.specs.declared.Answer.{Answer}
use Rattle.state.specs.declared.Answer.TheVariants.{Done, Count, Number, Reason, BadSettings}
use Rattle.state.specs.declared.Report.{Report}
use Rattle.state.specs.Answers.{Numbered, numbered}
use Rattle.state.specs.View.{Lists, View, Listing, lists_stay}
use Rattle.range.specs.Range.{in_range}
use Rattle.policy.specs.Policy.{fingerprint_confirmed, dev_lock, dev_unlocked, is_read_only, is_fd_bus, is_bus_read_only, reason}
use Rattle.state.specs.Replies.{nothing_raised, yes_no}
use Rattle.validations.specs.Store.{record_for, forget, prune}
use Rattle.pairing.specs.Pairing.{unpair, clear}
use Rattle.can_access.specs.Approval.{approve}
use Rattle.phone_trust.specs.Trust.{is_paired, is_validated, car_has_some_validated}
use Rattle.probe_window.specs.Window.{is_listen_only}
use Rattle.answers.specs.declared.ApprovalAnswer.{ApprovalAnswer}
use Rattle.answers.specs.declared.AccessAnswer.{AccessAnswer}
use Rattle.answers.specs.declared.TrustAnswer.{TrustAnswer}
use Rattle.answers.specs.declared.PeerAnswer.{PeerAnswer}
use Rattle.answers.specs.declared.PhoneAccessAnswer.{PhoneAccessAnswer}
use Rattle.answers.specs.declared.MethodsAnswer.{MethodsAnswer}
use Rattle.answers.specs.declared.ChallengeAnswer.{ChallengeAnswer}
use Rattle.answers.specs.declared.RecordAnswer.{RecordAnswer}
use Rattle.answers.specs.Answers.{if_in_range, approval_answer, access_answer, trust_answer, record_answer, peer_answer, session_shown, phone_access_answer, methods_answer, challenge_answer}

pub data Query : Type 0 where
  is_can_read_only can_read_only_reason is_car_identity_confirmed is_car_fingerprint_confirmed can_read_write_approval : Query
  has_can_dev_write_lock is_can_dev_write_unlocked can_access_state platform_id is_can_logging : Query
  is_can_fd_bus is_can_bus_read_only : (bus : ℕ) → Query
  is_can_bus_listen_only : (bus clock : ℕ) → Query
  is_phone_paired is_phone_validated phone_trust_level : (id : List ℕ) → Query
  paired_phone_count list_paired_phones ble_max_bonded_phones car_has_validated_phone ble_peer : Query
  phone_access_state : (clock : ℕ) → Query
  validation_methods : Query
  session_for : (phone : List ℕ) (clock : ℕ) → Query
  current_validation_challenge encode_phone_validations : Query
  preview_remove_paired_phone preview_forget_phone_validation : (id : List ℕ) → Query
  preview_clear_paired_phones preview_prune_phone_validations preview_approve_can_read_write : Query

-- an answer, or a struct that begins with one; L is a list of phones and S a store of cars: by their ids, or as they lie in memory
pub data Reply (L S : Type 0) : Type 0 where
  plain : Answer → Reply L S
  approval : ApprovalAnswer → Reply L S
  access : AccessAnswer → Reply L S
  phones : Answer → L → Reply L S
  trust : TrustAnswer → Reply L S
  peer : PeerAnswer → Reply L S
  phone_access : PhoneAccessAnswer → Reply L S
  methods : MethodsAnswer → Reply L S
  challenge : ChallengeAnswer → Reply L S
  saved : RecordAnswer → Reply L S
  preview : Answer → (paired : L) (store : S) (bytes : ℕ) → Reply L S
  report : Answer → Report → Reply L S

-- by their ids
abbrev pub ReplyByIds : Type 0
ReplyByIds = Reply (List (List ℕ)) (List CarIds)

-- document 01's number and values of the answer that a reply is or begins with
abbrev pub numbered_reply : {L S : Type 0} → Reply L S → Numbered
numbered_reply (plain a) = numbered a
numbered_reply (approval a) = numbered a.answer
numbered_reply (access a) = numbered a.answer
numbered_reply (phones a ps) = numbered a
numbered_reply (trust a) = numbered a.answer
numbered_reply (peer a) = numbered a.answer
numbered_reply (phone_access a) = numbered a.answer
numbered_reply (methods a) = numbered a.answer
numbered_reply (challenge a) = numbered a.answer
numbered_reply (saved a) = numbered a.answer
numbered_reply (preview a paired store bytes) = numbered a
numbered_reply (report a r) = numbered a

-- 02, W-203: what an operation would answer, the lists that it would leave, and how many bytes their record would need
unfoldable pub foreseen : Lists → Listing → ReplyByIds
foreseen l x =
    let store = afterwards l.store x.store in
    preview x.answer (afterwards l.paired x.paired) store (record_for store).len

-- "With 25 these lists are empty and the bytes 0"
unfoldable pub preview_of : View → Listing → ReplyByIds
preview_of v x = cond (in_range v) (foreseen v.lists x) (preview BadSettings [] [] 0)

unfoldable pub answer_to : View → Query → ReplyByIds
answer_to v is_can_read_only = plain (if_in_range v (yes_no (is_read_only v.core.policy)))
answer_to v can_read_only_reason = plain (if_in_range v (Reason (reason v.core.policy)))
answer_to v is_car_identity_confirmed = plain (if_in_range v (yes_no v.core.policy.identity.confirmed))
answer_to v is_car_fingerprint_confirmed = plain (if_in_range v (yes_no (fingerprint_confirmed v.core.policy.identity)))
answer_to v can_read_write_approval = approval (approval_answer v)
answer_to v has_can_dev_write_lock = plain (if_in_range v (yes_no (dev_lock v.core.policy.access)))
answer_to v is_can_dev_write_unlocked = plain (if_in_range v (yes_no (dev_unlocked v.core.policy.access)))
answer_to v can_access_state = access (access_answer v)
answer_to v platform_id = plain (if_in_range v (Number v.core.policy.identity.platform))
answer_to v is_can_logging = plain (if_in_range v (yes_no v.core.policy.buses.logging))
answer_to v (is_can_fd_bus bus) = plain (if_in_range v (yes_no (is_fd_bus v.core.policy.buses bus)))
answer_to v (is_can_bus_read_only bus) = plain (if_in_range v (yes_no (is_bus_read_only v.core.policy bus)))
answer_to v (is_can_bus_listen_only bus clock) = plain (if_in_range v (yes_no (is_listen_only v.core.policy v.core.probe bus clock)))
answer_to v (is_phone_paired id) = plain (if_in_range v (yes_no (is_paired v.lists id)))
answer_to v (is_phone_validated id) = plain (if_in_range v (yes_no (is_validated v.core.policy.identity v.lists id)))
answer_to v (phone_trust_level id) = trust (trust_answer v id)
answer_to v paired_phone_count = plain (if_in_range v (Count (length v.lists.paired)))
answer_to v list_paired_phones = cond (in_range v) (phones Done v.lists.paired) (phones BadSettings [])
answer_to v ble_max_bonded_phones = plain (if_in_range v (Count v.core.settings.bonded))
answer_to v car_has_validated_phone = plain (if_in_range v (yes_no (car_has_some_validated v.core.policy.identity v.lists)))
answer_to v ble_peer = peer (peer_answer v)
answer_to v (phone_access_state clock) = phone_access (phone_access_answer v clock)
answer_to v validation_methods = methods (methods_answer v)
answer_to v (session_for phone clock) = plain (if_in_range v (session_shown v.core phone clock))
answer_to v current_validation_challenge = challenge (challenge_answer v)
answer_to v encode_phone_validations = saved (record_answer v)
answer_to v (preview_remove_paired_phone id) = preview_of v (unpair v.lists id)
answer_to v (preview_forget_phone_validation id) = preview_of v (forget v.lists id)
answer_to v preview_clear_paired_phones = preview_of v (clear v.lists)
answer_to v preview_prune_phone_validations = preview_of v (prune v.lists)
answer_to v preview_approve_can_read_write = preview_of v (lists_stay nothing_raised (approve v.core).answer)
