-- What a round looks at in what a call gives, as one number.
use Rattle.std.specs.Prelude.{ℕ, ◌+◌, ◌%◌, ◌^◌, Bool, false, cond, slice_index, slice_index_or}
use Rattle.saved_record.specs.declared.SavedRecord.{SavedRecord}
use Rattle.waiting_list.specs.Queue.{blank}
use Rattle.state.specs.declared.Challenge.{Challenge}
use Rattle.state.specs.declared.Report.{Report}
use Rattle.state.specs.declared.Signals.{Signals}
use Rattle.state.specs.declared.Answer.{Answer}
use Rattle.state.specs.declared.Answer.TheVariants.{Done, Yes, No, Nothing, Count, Number, Reason, Session, Taken, UnknownMethod, CarNotIdentified, CoolingDown, OtherPhoneSession, MethodUnavailable, MethodNotAvailableNow, NoRandomSource, NoSession, NotCodeEntry, WrongCode, NoDevLock, NotNeeded, Logging, BusAsleep, Busy, NoAttemptsLeft, Invalid, IdTooLong, RandomSpent, NotText, ListFull, Malformed, TooLarge, BadFrame, BadSettings, BadBus, QueueFull, CarTwice, NoSave}

-- a sum of 32 bits, which wraps
abbrev pub add : ℕ → ℕ → ℕ
add x y = (x + y) % 2 ^ 32

-- the weight, or 0
abbrev pub bit : Bool → ℕ → ℕ
bit b weight = cond b weight 0

-- another byte of a car's part, behind the version and the count of cars, and another digit, at each turn
abbrev pub record_byte : SavedRecord → ℕ → ℕ
record_byte r i = slice_index r.bytes (i % 1089 + 2)

abbrev pub digit : Challenge → ℕ → ℕ
digit c i = slice_index c.code (i % 9)

abbrev pub flags : Signals → ℕ
flags s =
    add (add (bit s.access 1) (bit s.availability 2))
    (add (add (bit s.readonly.sent 4) (bit s.approval.sent 8)) (add (bit s.validations.sent 16) (bit s.challenge.sent 32)))

abbrev pub raised : Signals → ℕ → ℕ
raised s i = add (flags s) (add (record_byte s.validations.stored i) (digit s.challenge.challenge i))

-- how many turns a run took, and whether its first frame passes
abbrev pub report_seen : Report → ℕ
report_seen r = add (r.turns % 2 ^ 32) (bit (slice_index_or r.frames 0 (record { frame = blank.frame; allowed = false })).allowed 1)

abbrev pub answer_seen : Answer → ℕ
answer_seen Done = 2
answer_seen Yes = 1
answer_seen No = 0
answer_seen Nothing = 0
answer_seen (Count n) = 0
answer_seen (Number n) = 0
answer_seen (Reason n) = 0
answer_seen (Session s) = add s.seconds 3
answer_seen (Taken n end) = 0
answer_seen UnknownMethod = 0
answer_seen CarNotIdentified = 0
answer_seen (CoolingDown n) = 0
answer_seen OtherPhoneSession = 0
answer_seen MethodUnavailable = 0
answer_seen MethodNotAvailableNow = 0
answer_seen NoRandomSource = 0
answer_seen NoSession = 0
answer_seen NotCodeEntry = 0
answer_seen (WrongCode s) = add s.seconds 4
answer_seen NoDevLock = 0
answer_seen NotNeeded = 0
answer_seen Logging = 0
answer_seen BusAsleep = 0
answer_seen Busy = 0
answer_seen NoAttemptsLeft = 0
answer_seen Invalid = 0
answer_seen IdTooLong = 0
answer_seen RandomSpent = 0
answer_seen NotText = 0
answer_seen ListFull = 0
answer_seen Malformed = 0
answer_seen TooLarge = 0
answer_seen BadFrame = 0
answer_seen BadSettings = 0
answer_seen BadBus = 0
answer_seen QueueFull = 0
answer_seen CarTwice = 0
answer_seen NoSave = 0
