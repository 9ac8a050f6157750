-- The room that the answers of queries take.
use Rattle.std.proofs.Common.{◌≡◌, refl, ap, false, List, [], ◌∷◌, ℕ, zero, suc, ◌+◌, ◌*◌, ◌^◌, ◌≤◌, ◌<◌, le_of_eq, arith, ltb, lit≤, length, get_or, take, length-take, rules}
use mir.Val.{Val}
use Rattle.ascii.specs.Ascii.{ascii}
use Rattle.answers.specs.declared.AccessAnswer.{AccessAnswer}
use Rattle.answers.specs.declared.ApprovalAnswer.{ApprovalAnswer}
use Rattle.answers.specs.declared.ChallengeAnswer.{ChallengeAnswer}
use Rattle.answers.specs.declared.MethodsAnswer.{MethodsAnswer}
use Rattle.answers.specs.declared.PeerAnswer.{PeerAnswer}
use Rattle.answers.specs.declared.PhoneAccessAnswer.{PhoneAccessAnswer}
use Rattle.answers.specs.declared.PhonesAnswer.{PhonesAnswer}
use Rattle.answers.specs.declared.PreviewAnswer.{PreviewAnswer}
use Rattle.answers.specs.declared.RecordAnswer.{RecordAnswer}
use Rattle.answers.specs.declared.TrustAnswer.{TrustAnswer}
use Rattle.answers.specs.contracts.AccessAnswer as AccessAnswer
use Rattle.answers.specs.contracts.ApprovalAnswer as ApprovalAnswer
use Rattle.answers.specs.contracts.ChallengeAnswer as ChallengeAnswer
use Rattle.answers.specs.contracts.MethodsAnswer as MethodsAnswer
use Rattle.answers.specs.contracts.PeerAnswer as PeerAnswer
use Rattle.answers.specs.contracts.PhoneAccessAnswer as PhoneAccessAnswer
use Rattle.answers.specs.contracts.PhonesAnswer as PhonesAnswer
use Rattle.answers.specs.contracts.PreviewAnswer as PreviewAnswer
use Rattle.answers.specs.contracts.RecordAnswer as RecordAnswer
use Rattle.answers.specs.contracts.TrustAnswer as TrustAnswer
use Rattle.phone_trust.specs.declared.Trust.{Trust}
use Rattle.phone_trust.specs.declared.Trust.TheVariants.{NotBonded, Bonded, Validated}
use Rattle.phones.specs.Phones.{ids_in, phones_of}
use Rattle.phones.specs.declared.PhoneList.{PhoneList}
use Rattle.policy.specs.declared.Approval.{Approval}
use Rattle.policy.specs.declared.Approval.TheVariants.{NotApproved, AwaitingCar, Approved, OtherCar}
use Rattle.state.specs.Running.{past_methods}
use Rattle.state.specs.declared.Answer.{Answer}
use Rattle.state.specs.contracts.Answer as Answer
use Rattle.replay_lines.specs.Answer.{held_by, is_out_of_range}
use Rattle.replay_page.specs.Page.{Page, word}
use Rattle.replay_page.specs.Room.{Within}
use Rattle.replay_lines.specs.declared.answer.Held.{Held}
use Rattle.replay_lines.specs.declared.answer.Held.TheVariants.{Fine, Blank, Item, Part, Reply, Wrong}
use Rattle.replay_lines.proofs.AnswerRoom.{Owned, method_ids, HeldIn, shown_in, answer_in}
use Rattle.replay_lines.proofs.AnswerRoom.{saved_in}
use Rattle.replay_cars.proofs.Room.{lists_in_lem}
use Rattle.replay_page.proofs.Room.{◌⊕◌, upto, either, same, text_in, comma_in, item_in, flag_in_lem, word_in, digits_in}
use Rattle.replay_lines.proofs.Room.{id_in_lem, phones_in, method_in_lem}
use Rattle.replay_answers.specs.Query.{is_done, approval_name, trust_name, told, approval, access, phones_listed, trust, peer, seen_in, shown, phone_access, method_at, methods_to, methods, challenge, encoded, preview, long_room}

pub told_in : (a : Answer) (vs : List Val) → Owned Answer.the_field a vs → (n : ℕ) (f : Page → Page) → Within n f → Within (205 + n) (told a f)
unfolding told
told_in a vs h n f u = either (is_done a) (answer_in a vs h ⊕ u) (upto (205 + n) (omega arith) (answer_in a vs h))

approval_name_lem : (a : Approval) → length (approval_name a) ≤ 12
approval_name_lem NotApproved = lit≤ tt
approval_name_lem AwaitingCar = lit≤ tt
approval_name_lem Approved = lit≤ tt
approval_name_lem OtherCar = lit≤ tt

trust_name_lem : (t : Trust) → length (trust_name t) ≤ 10
trust_name_lem NotBonded = lit≤ tt
trust_name_lem Bonded = lit≤ tt
trust_name_lem Validated = lit≤ tt

approval_word : (a : Approval) → Within 22 (word (ascii " approval=") (approval_name a))
approval_word a = word_in (ascii " approval=") (approval_name a) 12 (approval_name_lem a)

trust_word : (t : Trust) → Within 17 (word (ascii " trust=") (trust_name t))
trust_word t = word_in (ascii " trust=") (trust_name t) 10 (trust_name_lem t)

-- ---- one law for each

pub approval_in : (a : ApprovalAnswer) (vs : List Val) → Owned ApprovalAnswer.the_field a vs → Within long_room (approval a)
unfolding approval
approval_in a vs h = upto long_room (lit≤ tt) (told_in a.answer _ h.1.1.0 22 _ (approval_word a.approval))

pub access_in : (a : AccessAnswer) (vs : List Val) → Owned AccessAnswer.the_field a vs → Within long_room (access a)
unfolding access
access_in a vs h =
    upto long_room (lit≤ tt) (told_in a.answer _ h.1.1.0 99 _
    (flag_in_lem (ascii " platform=") a.platform ⊕ flag_in_lem (ascii " car=") a.car ⊕ approval_word a.approval
    ⊕ flag_in_lem (ascii " dev_lock=") a.devlock ⊕ flag_in_lem (ascii " dev_unlocked=") a.unlocked ⊕ flag_in_lem (ascii " logging=") a.logging
    ⊕ flag_in_lem (ascii " read_only=") a.readonly))

ids_count : (ns b : List ℕ) → length (ids_in ns b) ≡ length ns
unfolding ids_in
ids_count [] b = refl
ids_count (n ∷ ns) b = ap suc (ids_count ns _)

few : (l : PhoneList) → length l.lens ≤ 32 → length (phones_of l) < 2 ^ 64
unfolding phones_of
few l h = omega (arith, ids_count (take l.count l.lens) l.bytes, length-take l.count l.lens)

pub phones_listed_in : (a : PhonesAnswer) (vs : List Val) → Owned PhonesAnswer.the_field a vs → Within long_room (phones_listed a)
unfolding phones_listed
phones_listed_in a vs h =
    let bytes : length a.phones.bytes ≤ 1024 = le_of_eq (search rules) in
    let lens : length a.phones.lens ≤ 32 = le_of_eq (search rules) in
    upto long_room (lit≤ tt) (told_in a.answer _ h.1.1.0 2115 _
    (item_in (ascii " count=") (length (phones_of a.phones)) (few a.phones lens) ⊕ text_in (ascii " phones=") ⊕ phones_in a.phones bytes lens))

pub trust_in : (a : TrustAnswer) (vs : List Val) → Owned TrustAnswer.the_field a vs → Within long_room (trust a)
unfolding trust
trust_in a vs h = upto long_room (lit≤ tt) (told_in a.answer _ h.1.1.0 17 _ (trust_word a.trust))

pub peer_in : (a : PeerAnswer) (vs : List Val) → Owned PeerAnswer.the_field a vs → Within long_room (peer a)
unfolding peer
peer_in a vs h =
    upto long_room (lit≤ tt) (told_in a.answer _ h.1.1.0 84 _
    (text_in (ascii " peer=") ⊕ id_in_lem a.peer (le_of_eq (search rules)) ⊕ flag_in_lem (ascii " validated=") a.validated))

seen_in_lem : (h : Held) → HeldIn h → Within 173 (shown (seen_in h))
seen_in_lem Fine u = upto 173 (lit≤ tt) (word_in (ascii " session=") (ascii "none") 4 (lit≤ tt))
seen_in_lem Blank u = upto 173 (lit≤ tt) (word_in (ascii " session=") (ascii "none") 4 (lit≤ tt))
seen_in_lem (Item k n) u = upto 173 (lit≤ tt) (word_in (ascii " session=") (ascii "none") 4 (lit≤ tt))
seen_in_lem (Part n end) u = upto 173 (lit≤ tt) (word_in (ascii " session=") (ascii "none") 4 (lit≤ tt))
seen_in_lem (Reply r) u = u
seen_in_lem (Wrong r) u = upto 173 (lit≤ tt) (word_in (ascii " session=") (ascii "none") 4 (lit≤ tt))

pub phone_access_in : (a : PhoneAccessAnswer) (vs : List Val) → Owned PhoneAccessAnswer.the_field a vs → Within long_room (phone_access a)
unfolding phone_access
phone_access_in a vs h =
    upto long_room (lit≤ tt) (told_in a.answer _ h.1.1.0 212 _
    (trust_word a.trust ⊕ flag_in_lem (ascii " car_has_validated=") a.car_has_validated
    ⊕ seen_in_lem (held_by a.session) (shown_in a.session h.0.1.1.1.0 h.1.1.1.1.1.0).1))

methods_to_in : (a : MethodsAnswer) → ((i : ℕ) → length (get_or a.list i past_methods).id.bytes ≤ 32) → (n : ℕ) → Within (n * 80) (methods_to a n)
unfolding methods_to method_at
methods_to_in a ids zero = same 0
methods_to_in a ids (suc n) =
    upto (suc n * 80) (omega arith) (methods_to_in a ids n
    ⊕ either (ltb n a.count) (comma_in n ⊕ method_in_lem (get_or a.list n past_methods) (ids n) ⊕ flag_in_lem (ascii "/") (get_or a.available n false)) (same 80))

pub methods_in_lem : (a : MethodsAnswer) (vs : List Val) → Owned MethodsAnswer.the_field a vs → Within long_room (methods a)
unfolding methods
methods_in_lem a vs h =
    upto long_room (lit≤ tt) (told_in a.answer _ h.1.1.0 676 _
    (item_in (ascii " count=") a.count (omega arith) ⊕ text_in (ascii " methods=") ⊕ methods_to_in a (method_ids a.list _ h.1.1.1.0.1.1) 8))

pub challenge_in : (a : ChallengeAnswer) (vs : List Val) → Owned ChallengeAnswer.the_field a vs → Within long_room (challenge a)
unfolding challenge
challenge_in a vs h =
    upto long_room (lit≤ tt) (told_in a.answer _ h.1.1.0 81 _
    (item_in (ascii " session=") a.challenge.session (omega arith) ⊕ item_in (ascii " method=") a.challenge.method (omega arith)
    ⊕ text_in (ascii " code=") ⊕ digits_in a.challenge.code a.challenge.length (le_of_eq (search rules))))

pub encoded_in : (a : RecordAnswer) (vs : List Val) → Owned RecordAnswer.the_field a vs → Within long_room (encoded a)
unfolding encoded
encoded_in a vs h =
    upto long_room (lit≤ tt) (told_in a.answer _ h.1.1.0 8724 _
    (text_in (ascii " record=") ⊕ saved_in a.stored _ h.1.1.1.0))

pub preview_in : (a : PreviewAnswer) (vs : List Val) → Owned PreviewAnswer.the_field a vs → Within long_room (preview a)
unfolding preview
preview_in a vs h =
    let said = answer_in a.answer _ h.1.1.0 in
    either (is_out_of_range a.answer) (upto long_room (lit≤ tt) said)
    (upto long_room (lit≤ tt) (said ⊕ lists_in_lem a.paired a.store _ _ h.1.1.1.0 h.1.1.1.1.0 ⊕ item_in (ascii " record_bytes=") a.bytes (omega arith)))
