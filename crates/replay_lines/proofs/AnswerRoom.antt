-- The room that an answer takes. Its numbers are of their types: `Owned` is what having such a value tells.
use Rattle.std.proofs.Common.{List, [], ◌∷◌, ℕ, zero, suc, ◌^◌, ◌≤◌, ◌<◌, le_of_eq, arith, lit≤, length, take, get_or, rules}
use mir.Val.{Val}
use denote.Array.{each}
use denote.Laws.{Is}
use denote.Shadow.{shadow}
use denote.Struct.Field.{Field}
use Rattle.ascii.specs.Ascii.{ascii}
use Rattle.state.specs.declared.Answer.{Answer}
use Rattle.state.specs.declared.Answer.TheVariants.{Done, Yes, No, Nothing, Count, Number, Reason, Session, Taken, UnknownMethod, CarNotIdentified, CoolingDown, OtherPhoneSession, MethodUnavailable, MethodNotAvailableNow, NoRandomSource, NoSession, NotCodeEntry, WrongCode, NoDevLock, NotNeeded, Logging, BusAsleep, Busy, NoAttemptsLeft, Invalid, IdTooLong, RandomSpent, NotText, ListFull, Malformed, TooLarge, BadFrame, BadSettings, BadBus, QueueFull, CarTwice, NoSave}
use Rattle.state.specs.Running.{past_methods}
use Rattle.state.specs.declared.Method.{Method}
use Rattle.state.specs.declared.SessionReply.{SessionReply}
use Rattle.saved_record.specs.declared.SavedRecord.{SavedRecord}
use Rattle.saved_record.specs.contracts.SavedRecord as SavedRecord
use Rattle.state.specs.contracts.Answer as Answer
use Rattle.state.specs.contracts.Method as Method
use Rattle.state.specs.contracts.SessionReply as SessionReply
use Rattle.replay_lines.specs.declared.answer.Held.{Held}
use Rattle.replay_lines.specs.declared.answer.Held.TheVariants.{Fine, Blank, Item, Part, Reply, Wrong}
use Rattle.replay_lines.specs.Answer.{name_of, held_by, status_name, reply, behind, answer}
use Rattle.replay_page.specs.Page.{bytes}
use Rattle.replay_page.specs.Room.{Within}
use Rattle.replay_lines.specs.declared.key.Key.{Key}
use Rattle.replay_lines.specs.Table.{key_text}
use Rattle.replay_page.proofs.Room.{◌⊕◌, upto, same, item_in, flag_in_lem, word_in, part_in}
use Rattle.replay_lines.proofs.Room.{kind_word_in, status_in}

abbrev pub Owned : (F : Field) → F.Value → List Val → Type 0
Owned F x vs = Is F.row (F.into x) vs

-- the ids of methods, in an array of them
each_id : (m : Method) (vs : List Val) → Owned Method.the_field m vs → length m.id.bytes ≤ 32
each_id m vs h = le_of_eq (search rules)

pub method_ids : (l : List Method) (us : List Val) → shadow (each (Method.the_row).Denot (Method.the_row).own_val l us)
    → (i : ℕ) → length (get_or l i past_methods).id.bytes ≤ 32
method_ids [] us h i = lit≤ tt
method_ids (m ∷ ms) [] h i = absurd h
method_ids (m ∷ ms) (u ∷ us) h zero = each_id m (u ∷ []) h.0
method_ids (m ∷ ms) (u ∷ us) h (suc i) = method_ids ms us h.1 i

pub saved_in : (r : SavedRecord) (vs : List Val) → Owned SavedRecord.the_field r vs → Within 8716 (bytes (take r.len r.bytes))
saved_in r vs h = part_in r.bytes r.len 4358 (le_of_eq (search rules))

-- ---- keys, and the session reply

key_in : (k : Key) → length (key_text k) ≤ 20
key_in Key.Answer = lit≤ tt
key_in Key.Count = lit≤ tt
key_in Key.Number = lit≤ tt
key_in Key.Reason = lit≤ tt
key_in Key.Seconds = lit≤ tt
key_in Key.Method = lit≤ tt
key_in Key.Kind = lit≤ tt
key_in Key.Status = lit≤ tt
key_in Key.Digits = lit≤ tt
key_in Key.Tries = lit≤ tt
key_in Key.Cooldown = lit≤ tt
key_in Key.Approval = lit≤ tt
key_in Key.Platform = lit≤ tt
key_in Key.Car = lit≤ tt
key_in Key.DevLock = lit≤ tt
key_in Key.DevUnlocked = lit≤ tt
key_in Key.Logging = lit≤ tt
key_in Key.ReadOnly = lit≤ tt
key_in Key.Phones = lit≤ tt
key_in Key.Trust = lit≤ tt
key_in Key.CarHasValidated = lit≤ tt
key_in Key.Session = lit≤ tt
key_in Key.Peer = lit≤ tt
key_in Key.Validated = lit≤ tt
key_in Key.Methods = lit≤ tt
key_in Key.Code = lit≤ tt
key_in Key.Record = lit≤ tt
key_in Key.SessionMs = lit≤ tt
key_in Key.CooldownMs = lit≤ tt
key_in Key.KeepMs = lit≤ tt
key_in Key.Bonded = lit≤ tt
key_in Key.PlatformNumber = lit≤ tt
key_in Key.PlatformConfirmed = lit≤ tt
key_in Key.Production = lit≤ tt
key_in Key.VehicleReadOnly = lit≤ tt
key_in Key.Fd = lit≤ tt
key_in Key.Comma = lit≤ tt
key_in Key.Paired = lit≤ tt
key_in Key.ValidatedCar = lit≤ tt
key_in Key.CooldownUntil = lit≤ tt
key_in Key.NextSession = lit≤ tt
key_in Key.Phone = lit≤ tt
key_in Key.SessionCar = lit≤ tt
key_in Key.TriesLeft = lit≤ tt
key_in Key.Deadline = lit≤ tt
key_in Key.EndedAt = lit≤ tt
key_in Key.Window = lit≤ tt
key_in Key.Frames = lit≤ tt
key_in Key.OpenedAt = lit≤ tt
key_in Key.RelocksThen = lit≤ tt
key_in Key.Sent = lit≤ tt
key_in Key.Attempts = lit≤ tt
key_in Key.Relocks = lit≤ tt
key_in Key.Marks = lit≤ tt
key_in Key.Room = lit≤ tt
key_in Key.Output = lit≤ tt
key_in Key.Taken = lit≤ tt
key_in Key.End = lit≤ tt
key_in Key.Save = lit≤ tt
key_in Key.At = lit≤ tt
key_in Key.RecordBytes = lit≤ tt
key_in Key.Turns = lit≤ tt
key_in Key.Length = lit≤ tt
key_in Key.Records = lit≤ tt
key_in Key.Waiting = lit≤ tt
key_in Key.LastBus = lit≤ tt

reply_in : (r : SessionReply) (vs : List Val) → Owned SessionReply.the_field r vs → Within 173 (reply r)
unfolding reply
reply_in r vs h =
    item_in (ascii " method=") r.method (omega arith) ⊕ kind_word_in (ascii " kind=") r.kind
    ⊕ word_in (ascii " status=") (status_name r.status) 11 (status_in r.status) ⊕ item_in (ascii " digits=") r.length (omega arith)
    ⊕ item_in (ascii " tries=") r.tries (omega arith) ⊕ item_in (ascii " seconds=") r.seconds (omega arith)
    ⊕ item_in (ascii " cooldown=") r.cooldown (omega arith)

-- ---- every answer

abbrev pub HeldIn : Held → Type 0
HeldIn Fine = Unit {0}
HeldIn Blank = Unit {0}
HeldIn (Item k n) = n < 2 ^ 64
HeldIn (Part n end) = n < 2 ^ 64
HeldIn (Reply r) = Within 173 (reply r)
HeldIn (Wrong r) = Within 173 (reply r)

pub shown_in : (a : Answer) (vs : List Val) → Owned Answer.the_field a vs → (length (name_of a) ≤ 24) × HeldIn (held_by a)
shown_in Done vs h = (lit≤ tt, tt)
shown_in Yes vs h = (lit≤ tt, tt)
shown_in No vs h = (lit≤ tt, tt)
shown_in Nothing vs h = (lit≤ tt, tt)
shown_in (Count n) vs h = (lit≤ tt, omega arith)
shown_in (Number n) vs h = (lit≤ tt, omega arith)
shown_in (Reason n) vs h = (lit≤ tt, omega arith)
shown_in (Session r) vs h = (lit≤ tt, reply_in r h.1.1.0.0 h.1.1.1.1.0)
shown_in (Taken n end) vs h = (lit≤ tt, omega arith)
shown_in UnknownMethod vs h = (lit≤ tt, tt)
shown_in CarNotIdentified vs h = (lit≤ tt, tt)
shown_in (CoolingDown n) vs h = (lit≤ tt, omega arith)
shown_in OtherPhoneSession vs h = (lit≤ tt, tt)
shown_in MethodUnavailable vs h = (lit≤ tt, tt)
shown_in MethodNotAvailableNow vs h = (lit≤ tt, tt)
shown_in NoRandomSource vs h = (lit≤ tt, tt)
shown_in NoSession vs h = (lit≤ tt, tt)
shown_in NotCodeEntry vs h = (lit≤ tt, tt)
shown_in (WrongCode r) vs h = (lit≤ tt, reply_in r h.1.1.0.0 h.1.1.1.1.0)
shown_in NoDevLock vs h = (lit≤ tt, tt)
shown_in NotNeeded vs h = (lit≤ tt, tt)
shown_in Logging vs h = (lit≤ tt, tt)
shown_in BusAsleep vs h = (lit≤ tt, tt)
shown_in Busy vs h = (lit≤ tt, tt)
shown_in NoAttemptsLeft vs h = (lit≤ tt, tt)
shown_in Invalid vs h = (lit≤ tt, tt)
shown_in IdTooLong vs h = (lit≤ tt, tt)
shown_in RandomSpent vs h = (lit≤ tt, tt)
shown_in NotText vs h = (lit≤ tt, tt)
shown_in ListFull vs h = (lit≤ tt, tt)
shown_in Malformed vs h = (lit≤ tt, tt)
shown_in TooLarge vs h = (lit≤ tt, tt)
shown_in BadFrame vs h = (lit≤ tt, tt)
shown_in BadSettings vs h = (lit≤ tt, tt)
shown_in BadBus vs h = (lit≤ tt, tt)
shown_in QueueFull vs h = (lit≤ tt, tt)
shown_in CarTwice vs h = (lit≤ tt, tt)
shown_in NoSave vs h = (lit≤ tt, tt)

behind_in : (h : Held) → HeldIn h → Within 173 (behind h)
behind_in Fine u = same 173
behind_in Blank u = same 173
behind_in (Item k n) u = upto 173 (omega (arith, key_in k)) (item_in (key_text k) n u)
behind_in (Part n end) u = upto 173 (lit≤ tt) (item_in (ascii " taken=") n u ⊕ flag_in_lem (ascii " end=") end)
behind_in (Reply r) u = u
behind_in (Wrong r) u = u

pub answer_in : (a : Answer) (vs : List Val) → Owned Answer.the_field a vs → Within 205 (answer a)
unfolding answer
answer_in a vs h = let s = shown_in a vs h in word_in (ascii " answer=") (name_of a) 24 s.0 ⊕ behind_in (held_by a) s.1
