-- How an answer is shown: the number and name of a refusal (documents 01 and 02), and the values behind an answer.
use Rattle.std.specs.Prelude.{Bool, List, ℕ, eqb}
use Rattle.ascii.specs.Ascii.{ascii}
use Rattle.state.specs.Answers.{number}
use Rattle.state.specs.declared.Answer.{Answer}
use Rattle.state.specs.declared.Answer.TheVariants.{Done, Yes, No, Nothing, Count, Number, Reason, Session, Taken, UnknownMethod, CarNotIdentified, CoolingDown, OtherPhoneSession, MethodUnavailable, MethodNotAvailableNow, NoRandomSource, NoSession, NotCodeEntry, WrongCode, NoDevLock, NotNeeded, Logging, BusAsleep, Busy, NoAttemptsLeft, Invalid, IdTooLong, RandomSpent, NotText, ListFull, Malformed, TooLarge, BadFrame, BadSettings, BadBus, QueueFull, CarTwice, NoSave}
use Rattle.state.specs.declared.Kind.{Kind}
use Rattle.state.specs.declared.Kind.TheVariants.{CodeEntry, InCarAction}
use Rattle.state.specs.declared.SessionReply.{SessionReply}
use Rattle.state.specs.declared.Status.{Status}
use Rattle.state.specs.declared.Status.TheVariants.{InProgress, Succeeded, Failed, Cancelled, TimedOut}
use Rattle.replay_lines.specs.declared.answer.Held.{Held}
use Rattle.replay_lines.specs.declared.answer.Held.TheVariants.{Fine, Blank, Item, Part, Reply, Wrong}
use Rattle.replay_page.specs.Page.{Page, ◌▸◌, item, flag, word}
use Rattle.replay_lines.specs.declared.key.Key.TheVariants as Key
use Rattle.replay_lines.specs.Table.{key_text}

-- the name of an answer, and what it holds
abbrev pub shown_as : Answer → List ℕ × Held
shown_as Done = (ascii "ok", Fine)
shown_as Yes = (ascii "yes", Blank)
shown_as No = (ascii "no", Blank)
shown_as Nothing = (ascii "none", Blank)
shown_as (Count n) = (ascii "ok", Item Key.Count n)
shown_as (Number n) = (ascii "ok", Item Key.Number n)
shown_as (Reason n) = (ascii "ok", Item Key.Reason n)
shown_as (Session r) = (ascii "ok", Reply r)
shown_as (Taken n end) = (ascii "ok", Part n end)
shown_as UnknownMethod = (ascii "1/UnknownMethod", Blank)
shown_as CarNotIdentified = (ascii "2/CarNotIdentified", Blank)
shown_as (CoolingDown n) = (ascii "3/CoolingDown", Item Key.Seconds n)
shown_as OtherPhoneSession = (ascii "4/OtherPhoneSession", Blank)
shown_as MethodUnavailable = (ascii "5/MethodUnavailable", Blank)
shown_as MethodNotAvailableNow = (ascii "6/MethodNotAvailableNow", Blank)
shown_as NoRandomSource = (ascii "7/NoRandomSource", Blank)
shown_as NoSession = (ascii "8/NoSession", Blank)
shown_as NotCodeEntry = (ascii "9/NotCodeEntry", Blank)
shown_as (WrongCode r) = (ascii "10/WrongCode", Wrong r)
shown_as NoDevLock = (ascii "11/NoDevLock", Blank)
shown_as NotNeeded = (ascii "12/NotNeeded", Blank)
shown_as Logging = (ascii "13/Logging", Blank)
shown_as BusAsleep = (ascii "14/BusAsleep", Blank)
shown_as Busy = (ascii "15/Busy", Blank)
shown_as NoAttemptsLeft = (ascii "16/NoAttemptsLeft", Blank)
shown_as Invalid = (ascii "17/Invalid", Blank)
shown_as IdTooLong = (ascii "18/IdTooLong", Blank)
shown_as RandomSpent = (ascii "19/RandomSpent", Blank)
shown_as NotText = (ascii "20/NotText", Blank)
shown_as ListFull = (ascii "21/ListFull", Blank)
shown_as Malformed = (ascii "22/Malformed", Blank)
shown_as TooLarge = (ascii "23/TooLarge", Blank)
shown_as BadFrame = (ascii "24/BadFrame", Blank)
shown_as BadSettings = (ascii "25/BadSettings", Blank)
shown_as BadBus = (ascii "26/BadBus", Blank)
shown_as QueueFull = (ascii "27/QueueFull", Blank)
shown_as CarTwice = (ascii "28/CarTwice", Blank)
shown_as NoSave = (ascii "31/NoSave", Blank)

abbrev pub name_of : Answer → List ℕ
name_of a = (shown_as a).0

abbrev pub held_by : Answer → Held
held_by a = (shown_as a).1

-- 25, which comes before everything else
abbrev pub is_out_of_range : Answer → Bool
is_out_of_range a = eqb (number a) 25

abbrev pub kind_name : Kind → List ℕ
kind_name CodeEntry = ascii "code"
kind_name InCarAction = ascii "action"

abbrev pub status_name : Status → List ℕ
status_name InProgress = ascii "in_progress"
status_name Succeeded = ascii "succeeded"
status_name Failed = ascii "failed"
status_name Cancelled = ascii "cancelled"
status_name TimedOut = ascii "timed_out"

-- the session reply
unfoldable pub reply : SessionReply → Page → Page
reply r p =
    p ▸ item (ascii " method=") r.method
    ▸ word (ascii " kind=") (kind_name r.kind)
    ▸ word (ascii " status=") (status_name r.status)
    ▸ item (ascii " digits=") r.length
    ▸ item (ascii " tries=") r.tries
    ▸ item (ascii " seconds=") r.seconds
    ▸ item (ascii " cooldown=") r.cooldown

-- what stands behind the name
abbrev pub behind : Held → Page → Page
behind Fine p = p
behind Blank p = p
behind (Item k n) p = p ▸ item (key_text k) n
behind (Part n end) p = p ▸ item (ascii " taken=") n ▸ flag (ascii " end=") end
behind (Reply r) p = reply r p
behind (Wrong r) p = reply r p

unfoldable pub answer : Answer → Page → Page
answer a p = p ▸ word (ascii " answer=") (name_of a) ▸ behind (held_by a)
