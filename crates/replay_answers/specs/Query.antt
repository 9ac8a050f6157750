-- How the answers of queries are shown that hold more than an answer. Nothing stands behind a refusal or none, but for previews.
use Rattle.std.specs.Prelude.{Bool, true, false, cond, Option, Some, None, List, ℕ, zero, suc, ltb, length, get_or, take}
use Rattle.ascii.specs.Ascii.{ascii}
use Rattle.policy.specs.declared.Approval.{Approval}
use Rattle.policy.specs.declared.Approval.TheVariants.{NotApproved, AwaitingCar, Approved, OtherCar}
use Rattle.phone_trust.specs.declared.Trust.{Trust}
use Rattle.phone_trust.specs.declared.Trust.TheVariants.{NotBonded, Bonded, Validated}
use Rattle.phones.specs.Phones.{id_bytes, phones_of}
use Rattle.saved_record.specs.Store.{cars_of}
use Rattle.state.specs.Running.{past_methods}
use Rattle.state.specs.declared.Answer.{Answer}
use Rattle.state.specs.declared.SessionReply.{SessionReply}
use Rattle.answers.specs.declared.AccessAnswer.{AccessAnswer}
use Rattle.answers.specs.declared.ApprovalAnswer.{ApprovalAnswer}
use Rattle.answers.specs.declared.ChallengeAnswer.{ChallengeAnswer}
use Rattle.answers.specs.declared.MethodsAnswer.{MethodsAnswer}
use Rattle.answers.specs.declared.PeerAnswer.{PeerAnswer}
use Rattle.answers.specs.declared.PhoneAccessAnswer.{PhoneAccessAnswer}
use Rattle.answers.specs.declared.PhonesAnswer.{PhonesAnswer}
use Rattle.answers.specs.declared.PreviewAnswer.{PreviewAnswer}
use Rattle.answers.specs.declared.RecordAnswer.{RecordAnswer}
use Rattle.answers.specs.declared.TrustAnswer.{TrustAnswer}
use Rattle.replay_lines.specs.declared.answer.Held.{Held}
use Rattle.replay_lines.specs.declared.answer.Held.TheVariants.{Fine, Blank, Item, Part, Reply, Wrong}
use Rattle.replay_lines.specs.Answer.{held_by, is_out_of_range, reply, answer}
use Rattle.replay_cars.specs.Cars.{lists}
use Rattle.replay_page.specs.Page.{Page, ◌▸◌, text, bytes, digits, comma, item, flag, word}
use Rattle.replay_lines.specs.Parts.{ids_from, method}

-- whether an answer is Done
abbrev pub is_fine : Held → Bool
is_fine Fine = true
is_fine Blank = false
is_fine (Item k n) = false
is_fine (Part n end) = false
is_fine (Reply r) = false
is_fine (Wrong r) = false

abbrev pub is_done : Answer → Bool
is_done a = is_fine (held_by a)

abbrev pub approval_name : Approval → List ℕ
approval_name NotApproved = ascii "not_approved"
approval_name AwaitingCar = ascii "awaiting_car"
approval_name Approved = ascii "approved"
approval_name OtherCar = ascii "other_car"

abbrev pub trust_name : Trust → List ℕ
trust_name NotBonded = ascii "not_bonded"
trust_name Bonded = ascii "bonded"
trust_name Validated = ascii "validated"

-- an answer, and what stands behind it if it is Done
unfoldable pub told : Answer → (Page → Page) → Page → Page
told a f p = cond (is_done a) (p ▸ answer a ▸ f) (p ▸ answer a)

unfoldable pub approval : ApprovalAnswer → Page → Page
approval a = told a.answer (λ p. p ▸ word (ascii " approval=") (approval_name a.approval))

unfoldable pub access : AccessAnswer → Page → Page
access a =
    told a.answer (λ p.
    p ▸ flag (ascii " platform=") a.platform ▸ flag (ascii " car=") a.car ▸ word (ascii " approval=") (approval_name a.approval)
    ▸ flag (ascii " dev_lock=") a.devlock ▸ flag (ascii " dev_unlocked=") a.unlocked ▸ flag (ascii " logging=") a.logging
    ▸ flag (ascii " read_only=") a.readonly)

unfoldable pub phones_listed : PhonesAnswer → Page → Page
phones_listed a =
    told a.answer (λ p. p ▸ item (ascii " count=") (length (phones_of a.phones)) ▸ text (ascii " phones=") ▸ ids_from 0 (phones_of a.phones))

unfoldable pub trust : TrustAnswer → Page → Page
trust a = told a.answer (λ p. p ▸ word (ascii " trust=") (trust_name a.trust))

unfoldable pub peer : PeerAnswer → Page → Page
peer a = told a.answer (λ p. p ▸ text (ascii " peer=") ▸ bytes (id_bytes a.peer) ▸ flag (ascii " validated=") a.validated)

-- the session of a phone, or none
abbrev pub seen_in : Held → Option SessionReply
seen_in Fine = None
seen_in Blank = None
seen_in (Item k n) = None
seen_in (Part n end) = None
seen_in (Reply r) = Some r
seen_in (Wrong r) = None

abbrev pub seen : Answer → Option SessionReply
seen a = seen_in (held_by a)

abbrev pub shown : Option SessionReply → Page → Page
shown None p = word (ascii " session=") (ascii "none") p
shown (Some r) p = reply r p

unfoldable pub phone_access : PhoneAccessAnswer → Page → Page
phone_access a =
    told a.answer (λ p.
    p ▸ word (ascii " trust=") (trust_name a.trust) ▸ flag (ascii " car_has_validated=") a.car_has_validated
    ▸ shown (seen a.session))

-- ID/KIND/APPROVAL/AVAILABLE of the method at a place, if there is one
unfoldable pub method_at : MethodsAnswer → ℕ → Page → Page
method_at a i p = cond (ltb i a.count) (p ▸ comma i ▸ method (get_or a.list i past_methods) ▸ flag (ascii "/") (get_or a.available i false)) p

-- the methods at the first n places
unfoldable pub methods_to : MethodsAnswer → ℕ → Page → Page
methods_to a zero p = p
methods_to a (suc n) p = p ▸ methods_to a n ▸ method_at a n

unfoldable pub methods : MethodsAnswer → Page → Page
methods a = told a.answer (λ p. p ▸ item (ascii " count=") a.count ▸ text (ascii " methods=") ▸ methods_to a 8)

unfoldable pub challenge : ChallengeAnswer → Page → Page
challenge a =
    told a.answer (λ p.
    p ▸ item (ascii " session=") a.challenge.session ▸ item (ascii " method=") a.challenge.method
    ▸ text (ascii " code=") ▸ digits a.challenge.code a.challenge.length)

unfoldable pub encoded : RecordAnswer → Page → Page
encoded a = told a.answer (λ p. p ▸ text (ascii " record=") ▸ bytes (take a.stored.len a.stored.bytes))

-- which phones would go (W-203): behind every answer but 25, the lists that would be left and the bytes of their record
unfoldable pub preview : PreviewAnswer → Page → Page
preview a p =
    cond (is_out_of_range a.answer) (p ▸ answer a.answer)
    (p ▸ answer a.answer ▸ lists (phones_of a.paired) (cars_of a.store) ▸ item (ascii " record_bytes=") a.bytes)

-- room for each of these answers
abbrev pub long_room : ℕ
long_room = 12288
