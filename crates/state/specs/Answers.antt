-- Document 01's number and values of each answer.
use Rattle.std.specs.Prelude.{Bool, true, false, ℕ}
use Rattle.state.specs.declared.SessionReply.{SessionReply}
use Rattle.state.specs.declared.Answer.{Answer}
use Rattle.state.specs.declared.Answer.TheVariants.{Done, Yes, No, Nothing, Count, Number, Reason, Session, Taken, UnknownMethod, CarNotIdentified, CoolingDown, OtherPhoneSession, MethodUnavailable, MethodNotAvailableNow, NoRandomSource, NoSession, NotCodeEntry, WrongCode, NoDevLock, NotNeeded, Logging, BusAsleep, Busy, NoAttemptsLeft, Invalid, IdTooLong, RandomSpent, NotText, ListFull, Malformed, TooLarge, BadFrame, BadSettings, BadBus, QueueFull, CarTwice, NoSave}

-- 0 for one that is no refusal
abbrev pub number : Answer → ℕ
number Done = 0
number Yes = 0
number No = 0
number Nothing = 0
number (Count n) = 0
number (Number n) = 0
number (Reason n) = 0
number (Session r) = 0
number (Taken n end) = 0
number UnknownMethod = 1
number CarNotIdentified = 2
number (CoolingDown s) = 3
number OtherPhoneSession = 4
number MethodUnavailable = 5
number MethodNotAvailableNow = 6
number NoRandomSource = 7
number NoSession = 8
number NotCodeEntry = 9
number (WrongCode r) = 10
number NoDevLock = 11
number NotNeeded = 12
number Logging = 13
number BusAsleep = 14
number Busy = 15
number NoAttemptsLeft = 16
number Invalid = 17
number IdTooLong = 18
number RandomSpent = 19
number NotText = 20
number ListFull = 21
number Malformed = 22
number TooLarge = 23
number BadFrame = 24
number BadSettings = 25
number BadBus = 26
number QueueFull = 27
number CarTwice = 28
number NoSave = 31

-- what stands beside the number: nothing; done, yes, no or none; or a value
pub data Values : Type 0 where
  no_value done yes no none : Values
  count platform reason seconds : ℕ → Values
  session : SessionReply → Values
  taken : ℕ → Bool → Values

abbrev pub values : Answer → Values
values Done = done
values Yes = yes
values No = no
values Nothing = none
values (Count n) = count n
values (Number n) = platform n
values (Reason n) = reason n
values (Session r) = session r
values (Taken n end) = taken n end
values UnknownMethod = no_value
values CarNotIdentified = no_value
values (CoolingDown s) = seconds s
values OtherPhoneSession = no_value
values MethodUnavailable = no_value
values MethodNotAvailableNow = no_value
values NoRandomSource = no_value
values NoSession = no_value
values NotCodeEntry = no_value
values (WrongCode r) = session r
values NoDevLock = no_value
values NotNeeded = no_value
values Logging = no_value
values BusAsleep = no_value
values Busy = no_value
values NoAttemptsLeft = no_value
values Invalid = no_value
values IdTooLong = no_value
values RandomSpent = no_value
values NotText = no_value
values ListFull = no_value
values Malformed = no_value
values TooLarge = no_value
values BadFrame = no_value
values BadSettings = no_value
values BadBus = no_value
values QueueFull = no_value
values CarTwice = no_value
values NoSave = no_value

-- whether an answer is yes
abbrev pub is_yes : Values → Bool
is_yes no_value = false
is_yes done = false
is_yes yes = true
is_yes no = false
is_yes none = false
is_yes (count n) = false
is_yes (platform n) = false
is_yes (reason n) = false
is_yes (seconds n) = false
is_yes (session r) = false
is_yes (taken n end) = false

pub record Numbered : Type 0 where
  pub number : ℕ
  pub values : Values

abbrev pub numbered : Answer → Numbered
numbered a = record { number = number a; values = values a }
