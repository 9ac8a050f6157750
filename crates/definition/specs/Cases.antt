-- The cases P1 to P13 of document 01, in its order and words, and behind them those of W-207; P5, P7, P9 and P12 as W-202, W-206, W-201 and W-207 of document 02 have
-- them: what the gate gives, beside what they say. proofs/Table.antt proves them.
use Rattle.std.specs.Prelude.{◌≡◌, Bool, true, false, List, [], ◌∷◌, ◌++◌, map, ℕ, Option, Some, length, replicate}
use Prim.Native.String.{String}
use Rattle.arrays.specs.Arrays.{padded}
use Rattle.phones.specs.Phones.{id_of}
use Rattle.frames.specs.declared.Id.TheVariants.{Standard}
use Rattle.frames.specs.declared.ProbeFrame.{ProbeFrame}
use Rattle.frames.specs.declared.TxClass.TheVariants.{Platform}
use Rattle.draw.specs.Draw.{drawn}
use Rattle.saved_record.specs.SavedRecord.{record_of}
use Rattle.ascii.specs.Ascii.{ascii}
use Rattle.listing.specs.Listing.{lines}
use Rattle.state.specs.declared.Kind.TheVariants.{CodeEntry}
use Rattle.state.specs.declared.Status.{Status}
use Rattle.state.specs.declared.Status.TheVariants.{InProgress, Succeeded, Failed, TimedOut}
use Rattle.state.specs.declared.Method.{Method}
use Rattle.state.specs.declared.Settings.{Settings}
use Rattle.state.specs.declared.Gate.{Gate}
use Rattle.state.specs.declared.Probe.{Probe}
use Rattle.state.specs.declared.Answer.TheVariants.{Done}
use Rattle.state.specs.Answers.{Numbered, Values, no_value, done, yes, no, seconds, session}
use Rattle.state.specs.Parts.{with_policy}
use Rattle.policy_changes.specs.Changes.{with_identity}
use Rattle.probe_window.specs.Window.{is_bus_awake, is_open}
use Rattle.answers.specs.Query.{saved, is_can_bus_listen_only, session_for, encode_phone_validations}
use Rattle.new_gate.specs.New.{new_gate, least_settings}
use Rattle.definition.specs.Gate.{Call, PackedReply, new_gate_call, start_validation, submit_validation_code, on_session, on_lists, on_core, ask, tick_validation, confirm_car_identity, open_identity_probe, allow_can_tx, heard_can_frame, approve_can_read_write, forget_phone_validation, restore_phone_validations, step, after_all}

-- ---- a row: what is looked at, and what 01 says of it

pub data Observed : Type 0 where
  draw : Option (List ℕ) → Observed  -- what random bytes draw: the nine places of a code, or none
  code : List ℕ → Observed  -- the nine places of the gate's code
  answer : Numbered → Observed  -- a call's answer
  truth : Bool → Observed  -- a definition that is no call: a bus is awake, a window is open
  reply : PackedReply → Observed  -- the whole reply to a query
  printed : List ℕ → Observed  -- the bytes that the listing program prints

pub record Row : Type 0 where
  pub given : Observed
  pub wanted : Observed

infixl 10 ◌gives◌
abbrev pub ◌gives◌ : Observed → Observed → Row
g gives w = record { given = g; wanted = w }

-- a refusal, with what it carries
abbrev pub refused : ℕ → Values → Observed
refused n v = answer (record { number = n; values = v })

-- done, yes, no or a session
abbrev pub says : Values → Observed
says v = answer (record { number = 0; values = v })

-- a session of the one method: its status, tries left, seconds left, and the seconds of cooldown
abbrev pub session_of : Status → ℕ → ℕ → ℕ → Values
session_of status tries left cooldown =
    session (record { method = 0; kind = CodeEntry; status = status; length = 4; tries = tries; seconds = left; cooldown = cooldown })

-- a session before its first try
abbrev pub running : ℕ → Observed
running left = says (session_of InProgress 3 left 0)

-- the digits of a code in its nine places
abbrev pub nine : String → List ℕ
nine digits = padded 9 0 (ascii digits)

-- a written record: these bytes, their number, and zeros past them
abbrev pub written : List ℕ → Observed
written bytes = reply (saved (record { answer = Done; stored = record_of bytes }))

-- ---- the gates

-- "Settings: 4 digits, 3 tries, 60,000, 30,000, 10,000 ms."
abbrev pub settings : Settings
settings = record { digits = 4; tries = 3; session = 60_000; cooldown = 30_000; keep = 10_000; bonded = 8 }

abbrev pub method : Method
method = record { id = id_of (ascii "code"); kind = CodeEntry; needs_approval = false }

-- the answer of a gate to a call after others
abbrev pub answer_after : Gate → List Call → Call → Observed
answer_after g cs c = answer (step (after_all g cs) c).numbered

-- a new gate; it does not matter on which gate New gate is called
abbrev pub new : Gate
new = after_all (new_gate least_settings [] 0).gate (new_gate_call settings (method ∷ []) 1 ∷ [])

-- the platform is confirmed and the car is not
abbrev pub platform : Gate
platform = after_all new (on_core confirm_car_identity ∷ [])

-- the car is known too. It is set by hand: the call would take the SHA-256 of a fingerprint, and no case is about that
abbrev pub known_car : Gate
known_car = record {
  core = with_policy new.core (with_identity new.core.policy (record { platform = 0; confirmed = true; car = record { known = true; digest = replicate 32 0x11 } }));
  phones = new.phones;
  save = new.save;
  queue = new.queue;
  code = new.code;
}

-- ---- P1 to P7: sessions and codes

abbrev pub phone : List ℕ
phone = 0xA1 ∷ 0xB2 ∷ []

abbrev pub start_with : List ℕ → ℕ → Call
start_with random clock = start_validation phone (ascii "code") clock random

-- with the code 1234, as P1 says
abbrev pub start : ℕ → Call
start clock = start_with (0xD2 ∷ 0x04 ∷ 0x00 ∷ 0x00 ∷ []) clock

-- random bytes draw a code: the draw gives it, and after a start that is lent them it is the gate's
abbrev pub draws : List ℕ → String → List Row
draws random digits =
    (draw (drawn random settings.digits) gives draw (Some (nine digits))) ∷
    (code (after_all known_car (start_with random 1_000 ∷ [])).code gives code (nine digits)) ∷ []

-- P1 D2 04 00 00 draws 1234. P2 FF FF FF FF 07 00 00 00 draws 0007. P3 7F E3 FF FF draws 9999. P4 80 E3 FF FF alone gives 19.
abbrev pub p1_p4 : List Row
p1_p4 =
    draws (0xD2 ∷ 0x04 ∷ 0x00 ∷ 0x00 ∷ []) "1234"
    ++ draws (0xFF ∷ 0xFF ∷ 0xFF ∷ 0xFF ∷ 0x07 ∷ 0x00 ∷ 0x00 ∷ 0x00 ∷ []) "0007"
    ++ draws (0x7F ∷ 0xE3 ∷ 0xFF ∷ 0xFF ∷ []) "9999"
    ++ ((answer_after known_car [] (start_with (0x80 ∷ 0xE3 ∷ 0xFF ∷ 0xFF ∷ []) 1_000) gives refused 19 no_value) ∷ [])

-- the answer to what is typed in a session whose code is 1234
abbrev pub typed : List ℕ → Observed
typed bytes = answer_after known_car (start 1_000 ∷ []) (submit_validation_code phone bytes 2_000)

-- P5 code 1234: " 1234" and C2 A0 before 1234 are right; "12 34" is right (W-202).
abbrev pub p5 : List Row
p5 =
    (code (after_all known_car (start 1_000 ∷ [])).code gives code (nine "1234")) ∷
    (typed (ascii " 1234") gives says (session_of Succeeded 3 0 0)) ∷
    (typed (0xC2 ∷ 0xA0 ∷ ascii "1234") gives says (session_of Succeeded 3 0 0)) ∷
    (typed (ascii "12 34") gives says (session_of Succeeded 3 0 0)) ∷ []

-- P6 start at 1,000: 60 s left; at 60,001, 1 s; at 61,000, 0 s and InProgress until a tick.
abbrev pub p6 : List Row
p6 =
    (answer_after known_car [] (start 1_000) gives running 60) ∷
    (answer_after known_car (start 1_000 ∷ []) (ask (session_for phone 60_001)) gives running 1) ∷
    (answer_after known_car (start 1_000 ∷ []) (ask (session_for phone 61_000)) gives running 0) ∷
    (answer_after known_car (start 1_000 ∷ on_session (tick_validation 61_000) ∷ []) (ask (session_for phone 61_000)) gives says (session_of TimedOut 3 0 0)) ∷ []

abbrev pub wrong : ℕ → Call
wrong clock = submit_validation_code phone (ascii "0000") clock

-- P7 third wrong code at 5,000: start at 34,999 gives 3 with 1 s; at 35,000 it passes. The session that failed shows the tries full again (W-206).
abbrev pub p7 : List Row
p7 =
    (answer_after known_car (start 1_000 ∷ wrong 3_000 ∷ wrong 4_000 ∷ []) (wrong 5_000) gives refused 10 (session_of Failed 3 0 30)) ∷
    (answer_after known_car (start 1_000 ∷ wrong 3_000 ∷ wrong 4_000 ∷ wrong 5_000 ∷ []) (start 34_999) gives refused 3 (seconds 1)) ∷
    (answer_after known_car (start 1_000 ∷ wrong 3_000 ∷ wrong 4_000 ∷ wrong 5_000 ∷ []) (start 35_000) gives running 60) ∷ []

-- ---- P8 to P11: bus 0 and its probe

abbrev pub heard : ℕ → Call
heard clock = on_core (heard_can_frame 0 clock)

abbrev pub entry : ProbeFrame
entry = record { id = Standard 0x7DF; «data» = 2 ∷ 1 ∷ 0 ∷ 0 ∷ 0 ∷ 0 ∷ 0 ∷ 0 ∷ [] }

-- a window for two equal entries, and a frame that is such an entry
abbrev pub open_probe : ℕ → Call
open_probe clock = on_core (open_identity_probe 0 (entry ∷ entry ∷ []) 2 clock)

abbrev pub send_entry : ℕ → Call
send_entry clock = on_core (allow_can_tx 0 (record { bus = 0; id = entry.id; «data» = entry.data; dlc = 8 }) Platform [] clock)

-- whether the bus is awake; an opening on one that is asleep is refused by 14
abbrev pub awake_by : Probe → ℕ → Observed
awake_by b clock = truth (is_bus_awake b.heard b.marks 0 clock)

abbrev pub awake : List Call → ℕ → Observed
awake cs clock = awake_by (after_all platform cs).core.probe clock

-- P8 bus heard at 0: awake at 1,000, asleep at 1,001. P9, in the words of W-201: heard at 4,294,967,295 and asked at that ms, awake. And
-- W-201: a bus that fell silent 2^32 ms ago is asleep, and so is one that was never heard.
abbrev pub p8_p9 : List Row
p8_p9 =
    (awake (heard 0 ∷ []) 1_000 gives truth true) ∷
    (answer_after platform (heard 0 ∷ []) (open_probe 1_000) gives says done) ∷
    (awake (heard 0 ∷ []) 1_001 gives truth false) ∷
    (answer_after platform (heard 0 ∷ []) (open_probe 1_001) gives refused 14 no_value) ∷
    (awake (heard 4_294_967_295 ∷ []) 4_294_967_295 gives truth true) ∷
    (answer_after platform (heard 4_294_967_295 ∷ []) (open_probe 4_294_967_295) gives says done) ∷
    (awake (heard 0 ∷ []) 4_294_967_296 gives truth false) ∷
    (answer_after platform (heard 0 ∷ []) (open_probe 4_294_967_296) gives refused 14 no_value) ∷
    (awake [] 0 gives truth false) ∷
    (answer_after platform [] (open_probe 0) gives refused 14 no_value) ∷ []

abbrev pub opened : List Call
opened = heard 100 ∷ open_probe 100 ∷ []

-- at a time: whether the window is open, whether the frame may be sent, whether the bus is listen-only
abbrev pub window_at : ℕ → Bool → Values → Values → List Row
window_at clock is_open_then may_send is_listen_only =
    (truth (is_open (after_all platform opened).core.policy (after_all platform opened).core.probe 0 clock) gives truth is_open_then) ∷
    (answer_after platform opened (send_entry clock) gives says may_send) ∷
    (answer_after platform opened (ask (is_can_bus_listen_only 0 clock)) gives says is_listen_only) ∷ []

-- P10 window opened at 100: open at 6,099 and at 50, shut at 6,100. P11 two equal probe entries: two frames pass, the third not.
abbrev pub p10_p11 : List Row
p10_p11 =
    window_at 6_099 true yes no
    ++ window_at 50 true yes no
    ++ window_at 6_100 false no yes
    ++ ((answer_after platform opened (send_entry 200) gives says yes) ∷
    (answer_after platform (opened ++ (send_entry 200 ∷ [])) (send_entry 200) gives says yes) ∷
    (answer_after platform (opened ++ (send_entry 200 ∷ send_entry 200 ∷ [])) (send_entry 200) gives says no) ∷ [])

-- ---- P12 and P13: the saved record

-- the part of a car with a digest of 32 equal bytes and one phone
abbrev pub part : ℕ → List ℕ → List ℕ
part byte id = replicate 32 byte ++ (0x01 ∷ length id ∷ id)

-- "01, 32 × 0x11, 01, 02, A1 B2"
abbrev pub the_record : List ℕ
the_record = 0x01 ∷ part 0x11 phone

abbrev pub restore : List ℕ → Call
restore bytes = on_lists (restore_phone_validations bytes)

abbrev pub written_after : Gate → List Call → Observed
written_after g cs = reply (step (after_all g cs) (ask encode_phone_validations)).answer

-- P12 the record above; it is written as version 2 (W-207). P13 the same plus one byte gives 22, whatever the byte, and empties the store.
abbrev pub p12_p13 : ℕ → List Row
p12_p13 byte =
    (answer_after new [] (restore the_record) gives says done) ∷
    (written_after new (restore the_record ∷ []) gives written (0x02 ∷ 0x01 ∷ part 0x11 phone)) ∷
    (printed (lines the_record)
    gives printed (ascii "answer=ok\ncar=1111111111111111111111111111111111111111111111111111111111111111\nphones=1\nphone=a1b2\n")) ∷
    (answer_after new (restore the_record ∷ []) (restore (the_record ++ (byte ∷ []))) gives refused 22 no_value) ∷
    (written_after new (restore the_record ∷ restore (the_record ++ (byte ∷ [])) ∷ []) gives written []) ∷
    (printed (lines (the_record ++ (byte ∷ []))) gives printed (ascii "answer=refused\n")) ∷ []

-- ---- W-207: up to four cars. The car that is known is 32 × 0x11

abbrev pub other : List ℕ
other = 0xC3 ∷ 0xD4 ∷ []

-- version 2, one car twice
abbrev pub two_equal : List ℕ
two_equal = 0x02 ∷ 0x02 ∷ part 0x22 phone ++ part 0x22 phone

abbrev pub two_cars : List ℕ
two_cars = 0x02 ∷ 0x02 ∷ part 0x22 phone ++ part 0x33 other

abbrev pub four_cars : List ℕ
four_cars = 0x02 ∷ 0x04 ∷ part 0x22 other ++ part 0x33 other ++ part 0x44 other ++ part 0x55 other

-- "28 CarTwice (a digest occurs again ..); the store is emptied as for 22". "An accepted version 2 record is written back unchanged".
-- "Approving a car no longer clears the others". "Forgetting .. removes it under every car, and a car without phones leaves".
-- "A fifth car displaces the first".
abbrev pub w207 : List Row
w207 =
    (answer_after new [] (restore two_equal) gives refused 28 no_value) ∷
    (written_after new (restore the_record ∷ restore two_equal ∷ []) gives written []) ∷
    (printed (lines two_equal) gives printed (ascii "answer=refused\n")) ∷
    (written_after new (restore four_cars ∷ []) gives written four_cars) ∷
    (written_after known_car (restore two_cars ∷ on_core approve_can_read_write ∷ []) gives written two_cars) ∷
    (written_after new (restore two_cars ∷ on_lists (forget_phone_validation phone) ∷ []) gives written (0x02 ∷ 0x01 ∷ part 0x33 other)) ∷
    (written_after known_car (restore four_cars ∷ start 1_000 ∷ submit_validation_code phone (ascii "1234") 2_000 ∷ [])
    gives written (0x02 ∷ 0x04 ∷ part 0x33 other ++ part 0x44 other ++ part 0x55 other ++ part 0x11 phone)) ∷ []

unfoldable pub Holds : List Row → Type 0
Holds rows = map (λ (r : Row). r.given) rows ≡ map (λ (r : Row). r.wanted) rows

-- every row gives what 01 says
abbrev pub Table : Type 0
Table = (byte : ℕ) → Holds (p1_p4 ++ p5 ++ p6 ++ p7 ++ p8_p9 ++ p10_p11 ++ p12_p13 byte ++ w207)
