-- The queries: only the running challenge shows digits.
use mathlib.Core.Path.{◌≡◌, refl}
use mathlib.Core.Bool.{Bool, true, false, cond}
use mathlib.Core.List.{List}
use Prim.Native.Nat.{ℕ}
use Rattle.state.specs.declared.Answer.TheVariants.{Done, Nothing, BadSettings}
use Rattle.state.specs.Running.{in_progress, code_in_progress}
use Rattle.state.specs.View.{View}
use Rattle.range.specs.Range.{in_range}
use Rattle.answers.specs.Answers.{if_in_range, approval_answer, access_answer, trust_answer, record_answer, peer_answer, phone_access_answer, methods_answer, shown_digits, challenge_of, no_challenge_now, challenge_answer}
use Rattle.answers.specs.Query as Query
use Rattle.answers.specs.Query.{Query, numbered_reply, answer_to, ReplyByIds}
use Rattle.definition.specs.Gate.{laid_reply}
use Rattle.two_runs.specs.Demand.{blanked, hide_challenge, hide_reply}
use Rattle.two_runs.proofs.Digits.{blanked_shown}

-- v with other digits
abbrev pub recoded : View → List ℕ → View
recoded v other = record { core = v.core; lists = v.lists; paired_fits = v.paired_fits; store_fits = v.store_fits; save = v.save; queue = v.queue; code = other }

-- replies that look alike as they are returned
abbrev pub SameReply : ReplyByIds → ReplyByIds → Type 0
SameReply r r' = (numbered_reply r ≡ numbered_reply r') × (hide_reply (laid_reply r) ≡ hide_reply (laid_reply r'))

module _ (v : View) (other : List ℕ) (e : blanked v.core.settings.digits v.code ≡ blanked v.core.settings.digits other) where
  digits_as : (b : Bool) → let n = cond b v.core.settings.digits 0 in blanked n (shown_digits v.code n) ≡ blanked n (shown_digits other n)
  unfolding shown_digits
  digits_as true = blanked_shown v.core.settings.digits v.code other e
  digits_as false = refl

  shown_as_lem : hide_challenge (challenge_of v.core v.code) ≡ hide_challenge (challenge_of v.core other)
  unfolding hide_challenge challenge_of
  shown_as_lem =
      let s = v.core.validation.session in
      let b = code_in_progress v.core.methods s in
      λ i. record { running = true; session = s.number; method = s.method; length = cond b v.core.settings.digits 0; code = digits_as b i }

  challenge_as : SameReply (answer_to v Query.current_validation_challenge) (answer_to (recoded v other) Query.current_validation_challenge)
  unfolding answer_to challenge_answer in_range
  challenge_as = go (in_range v) (in_progress v.core.validation.session)
    where
      at : Bool → Bool → List ℕ → ReplyByIds
      at x y held = Query.challenge (cond x (cond y (record { answer = Done; challenge = challenge_of v.core held }) (no_challenge_now Nothing)) (no_challenge_now BadSettings))

      go : (x y : Bool) → SameReply (at x y v.code) (at x y other)
      go true true = (refl, λ i. Query.challenge (record { answer = Done; challenge = shown_as_lem i }))
      go true false = (refl, refl)
      go false y = (refl, refl)

pub answer_as : (v : View) (other : List ℕ) → blanked v.core.settings.digits v.code ≡ blanked v.core.settings.digits other → (q : Query)
    → SameReply (answer_to v q) (answer_to (recoded v other) q)
unfolding answer_to if_in_range approval_answer access_answer trust_answer record_answer peer_answer phone_access_answer methods_answer Query.preview_of in_range
answer_as v other e Query.is_can_read_only = (refl, refl)
answer_as v other e Query.can_read_only_reason = (refl, refl)
answer_as v other e Query.is_car_identity_confirmed = (refl, refl)
answer_as v other e Query.is_car_fingerprint_confirmed = (refl, refl)
answer_as v other e Query.can_read_write_approval = (refl, refl)
answer_as v other e Query.has_can_dev_write_lock = (refl, refl)
answer_as v other e Query.is_can_dev_write_unlocked = (refl, refl)
answer_as v other e Query.can_access_state = (refl, refl)
answer_as v other e Query.platform_id = (refl, refl)
answer_as v other e Query.is_can_logging = (refl, refl)
answer_as v other e (Query.is_can_fd_bus bus) = (refl, refl)
answer_as v other e (Query.is_can_bus_read_only bus) = (refl, refl)
answer_as v other e (Query.is_can_bus_listen_only bus clock) = (refl, refl)
answer_as v other e (Query.is_phone_paired id) = (refl, refl)
answer_as v other e (Query.is_phone_validated id) = (refl, refl)
answer_as v other e (Query.phone_trust_level id) = (refl, refl)
answer_as v other e Query.paired_phone_count = (refl, refl)
answer_as v other e Query.list_paired_phones = (refl, refl)
answer_as v other e Query.ble_max_bonded_phones = (refl, refl)
answer_as v other e Query.car_has_validated_phone = (refl, refl)
answer_as v other e Query.ble_peer = (refl, refl)
answer_as v other e (Query.phone_access_state clock) = (refl, refl)
answer_as v other e Query.validation_methods = (refl, refl)
answer_as v other e (Query.session_for phone clock) = (refl, refl)
answer_as v other e Query.current_validation_challenge = challenge_as v other e
answer_as v other e Query.encode_phone_validations = (refl, refl)
answer_as v other e (Query.preview_remove_paired_phone id) = (refl, refl)
answer_as v other e (Query.preview_forget_phone_validation id) = (refl, refl)
answer_as v other e Query.preview_clear_paired_phones = (refl, refl)
answer_as v other e Query.preview_prune_phone_validations = (refl, refl)
answer_as v other e Query.preview_approve_can_read_write = (refl, refl)
