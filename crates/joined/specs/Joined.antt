-- W-209: a save goes on while phones change. `Joined`, at the end, is the whole claim; what stands in quotes is 02's.
use Rattle.std.specs.Prelude.{ℕ, min, ◌≡◌, Bool, true, false, cond, ◌||◌, List, [], ◌∷◌, ◌++◌, eqb, length, take, drop}
use Rattle.phones.specs.Ids.{all_of}
use Rattle.saved_record.specs.declared.SavedRecord.{SavedRecord}
use Rattle.state.specs.declared.Gate.{Gate}
use Rattle.state.specs.declared.Answer.TheVariants.{Taken, NoSave}
use Rattle.state.specs.Answers as Answers
use Rattle.state.specs.Answers.{Values}
use Rattle.save.specs.Save.{rest}
use Rattle.answers.specs.Query.{plain}
use Rattle.definition.specs.Gate.{SaveCall, open_phone_validations_save, take_phone_validations_save, Call, new_gate_call, start_validation, submit_validation_code, on_session, on_lists, on_save, on_queue, on_core, ask, Lent, nothing, bytes, records, step, after, after_all}
use Rattle.stays_in_range.specs.Stays.{InRange, AllSized, SizedGate}
use Rattle.round_trip.specs.Trip.{Saves, used}

-- ---- the save of a gate

abbrev pub is_open : Gate → Bool
is_open g = g.save.present

-- the bytes that an open save has left; nothing if none is open
abbrev pub bytes_left : Gate → List ℕ
bytes_left g = cond (is_open g) (rest g.save) []

-- ---- the calls from an opening on

abbrev pub opened : Gate → Gate
opened g = after g (on_save open_phone_validations_save)

abbrev pub is_take : SaveCall → Bool
is_take open_phone_validations_save = false
is_take (take_phone_validations_save out) = true

-- any call but New gate and another opening, which drop the save
abbrev pub goes_on : Call → Bool
goes_on (new_gate_call settings methods count) = false
goes_on (start_validation phone method clock random) = true
goes_on (submit_validation_code phone typed clock) = true
goes_on (on_session k) = true
goes_on (on_lists k) = true
goes_on (on_save k) = is_take k
goes_on (on_queue k) = true
goes_on (on_core k) = true
goes_on (ask q) = true

-- the gate that they come to
abbrev pub comes_to : Gate → List Call → Gate
comes_to g ks = after_all (opened g) ks

-- ---- what is handed out

pub record Handed : Type 0 where
  pub bytes : List ℕ
  pub end : Bool

abbrev pub nothing_handed : Handed
nothing_handed = record { bytes = []; end = false }

-- of an answer Taken n end, the first n bytes of the lent memory as the call left it; a call that is lent none hands out nothing
abbrev pub of_answer : List ℕ → Values → Handed
of_answer b Answers.no_value = nothing_handed
of_answer b Answers.done = nothing_handed
of_answer b Answers.yes = nothing_handed
of_answer b Answers.no = nothing_handed
of_answer b Answers.none = nothing_handed
of_answer b (Answers.count n) = nothing_handed
of_answer b (Answers.platform n) = nothing_handed
of_answer b (Answers.reason n) = nothing_handed
of_answer b (Answers.seconds n) = nothing_handed
of_answer b (Answers.session r) = nothing_handed
of_answer b (Answers.taken n end) = record { bytes = take n b; end = end }

abbrev pub of_call : Lent → Values → Handed
of_call nothing v = nothing_handed
of_call (bytes b) v = of_answer b v
of_call (records ws) v = nothing_handed

abbrev pub hands : Gate → Call → Handed
hands g k = of_call (step g k).lent (step g k).numbered.values

-- the bytes that calls hand out, joined
abbrev pub handed : Gate → List Call → List ℕ
handed g [] = []
handed g (k ∷ ks) = (hands g k).bytes ++ handed (after g k) ks

-- one of the calls told the end
abbrev pub told : Gate → List Call → Bool
told g [] = false
told g (k ∷ ks) = (hands g k).end || told (after g k) ks

-- ---- one take at a gate h

abbrev pub take_into : List ℕ → Call
take_into out = on_save (take_phone_validations_save out)

-- "as many of the next bytes as the lent length holds"
abbrev pub many : Gate → List ℕ → ℕ
many h out = min (length out) (length (bytes_left h))

-- it is served
pub record Takes (h : Gate) (out : List ℕ) : Type 0 where
  -- "The take that leaves no byte over tells the end"
  pub answer : (step h (take_into out)).answer ≡ plain (Taken (many h out) (eqb (length (bytes_left (after h (take_into out)))) 0))
  -- "lent bytes past them stay"
  pub lent : (step h (take_into out)).lent ≡ bytes (take (many h out) (bytes_left h) ++ drop (many h out) out)
  pub leaves : bytes_left (after h (take_into out)) ≡ drop (many h out) (bytes_left h)

-- it gets 31, and everything is as it was
pub record Refuses (h : Gate) (out : List ℕ) : Type 0 where
  pub answer : (step h (take_into out)).answer ≡ plain NoSave
  pub lent : (step h (take_into out)).lent ≡ bytes out
  pub gate : after h (take_into out) ≡ h

-- ---- the claim

-- r is the record as at opening, at the gate g, and the calls ks came since
pub record Place (g : Gate) (r : SavedRecord) (ks : List Call) : Type 0 where
  -- "the bytes joined are the record as at opening": with those that are left, and once the end was told by themselves
  pub joined : handed (opened g) ks ++ bytes_left (comes_to g ks) ≡ used r
  pub whole : told (opened g) ks ≡ true → handed (opened g) ks ≡ used r
  -- a take is served until the end was told, and from then on gets 31
  pub next : told (opened g) ks ≡ false → InRange (comes_to g ks) → (out : List ℕ) → Takes (comes_to g ks) out
  pub later : told (opened g) ks ≡ true → InRange (comes_to g ks) → (out : List ℕ) → Refuses (comes_to g ks) out
  -- with digests and arguments of their types' sizes no call gets 25. One that did would hand out nothing and leave the save
  pub in_range : SizedGate g → AllSized ks → InRange (comes_to g ks)

-- At every place: "Other calls remain allowed". A gate answers done and a record exactly if it is in range; another gets 25 and opens nothing.
-- A save that is open at g is dropped: "Opening another save drops the unfinished one"
abbrev pub Joined : Type 0
Joined = (g : Gate) (r : SavedRecord) (ks : List Call) → Saves g r → all_of goes_on ks ≡ true → Place g r ks
