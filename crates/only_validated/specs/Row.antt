-- The row of the price list: a pack's limits "cannot be changed by a phone that was not validated on that bike". `OnlyValidated`, at the
-- end, is the whole claim. A bike is the digest of the car that the gate has identified, a phone the bytes of its id.
use Rattle.std.specs.Prelude.{ℕ, ◌<◌, ◌≡◌, Bool, true, false, ◌&&◌, List, [], ◌∷◌, Some, ◌↔◌, ◌≢◌, get_or}
use Rattle.arrays.specs.Arrays.{same_bytes}
use Rattle.phones.specs.Ids.{some_of, contains}
use Rattle.phones.specs.Phones.{id_bytes}
use Rattle.frames.specs.declared.CanFrame.{CanFrame}
use Rattle.frames.specs.declared.TxClass.{TxClass}
use Rattle.frames.specs.declared.TxClass.TheVariants.{Platform, Command}
use Rattle.frames.specs.Frames as Frames
use Rattle.waiting_list.specs.declared.Waiting.{Waiting}
use Rattle.saved_record.specs.SavedRecord.{CarIds, ok, decoded}
use Rattle.saved_record.specs.Store.{cars_of}
use Rattle.text.specs.Text.{right}
use Rattle.state.specs.declared.Kind.{Kind}
use Rattle.state.specs.declared.Kind.TheVariants.{CodeEntry, InCarAction}
use Rattle.state.specs.declared.Method.{Method}
use Rattle.state.specs.declared.Settings.{Settings}
use Rattle.state.specs.declared.Session.{Session}
use Rattle.state.specs.declared.Gate.{Gate}
use Rattle.state.specs.declared.Answer.TheVariants.{Yes}
use Rattle.state.specs.Running.{in_progress, method_at}
use Rattle.state.specs.View.{lists_in, view}
use Rattle.range.specs.Range.{in_range}
use Rattle.policy.specs.Policy.{fingerprint_confirmed, is_identified, is_bus_read_only}
use Rattle.phone_trust.specs.Trust.{is_paired}
use Rattle.probe_window.specs.Window.{is_open, unsent_in}
use Rattle.can_turns.specs.Turns.{no_decision}
use Rattle.answers.specs.Query.{plain}
use Rattle.new_gate.specs.New.{new_gate}
use Rattle.definition.specs.Gate.{Call, submit_validation_code, on_session, complete_validation_action, on_lists, restore_phone_validations, on_core, allow_can_tx, step, after, after_all}
use Rattle.fair_turns.specs.Turns.{Host, serve, reported, entries, before_turn, taken}

-- ---- who is listed

-- of these cars with their phones, one is this car and lists this phone
unfoldable pub listed : List CarIds → List ℕ → List ℕ → Bool
listed cs car phone = some_of (λ (c : CarIds). same_bytes c.car car && contains phone c.phones) cs

-- the gate lists this phone for this car
abbrev pub Listed : Gate → List ℕ → List ℕ → Type 0
Listed g car phone = listed (cars_of g.phones.store) car phone ≡ true

-- it does not store this car, or does not list this phone for it
abbrev pub NotListed : Gate → List ℕ → List ℕ → Type 0
NotListed g car phone = listed (cars_of g.phones.store) car phone ≡ false

-- the car that the gate knows now
abbrev pub car_now : Gate → List ℕ
car_now g = g.core.policy.identity.car.digest

-- ---- which frames pass

-- the gate answers yes to this frame
abbrev pub Allowed : Gate → ℕ → CanFrame → TxClass → List ℕ → ℕ → Type 0
Allowed g bus frame class owner clock = (step g (on_core (allow_can_tx bus frame class owner clock))).answer ≡ plain Yes

-- turn i of a run decides a command with this frame and this owner, and reports yes (W-204)
pub record Served (s : Host) (n clock i : ℕ) (frame : CanFrame) (owner : List ℕ) : Type 0 where
  pub is_turn : i < (reported s.gate (serve s n clock)).turns
  pub entry : get_or (entries s.gate (serve s n clock)) i no_decision ≡ record { frame = frame; allowed = true }
  pub class : (taken (before_turn s clock i)).class ≡ Command
  pub owned : id_bytes (taken (before_turn s clock i)).owner ≡ owner

-- the gate lets a command of this owner pass: it answers yes to its frame, or serves it from whatever list it is lent
pub data Passes (g : Gate) (owner : List ℕ) : Type 0 where
  asked : (bus : ℕ) (frame : CanFrame) (clock : ℕ) → Allowed g bus frame Command owner clock → Passes g owner
  served : (list : List Waiting) (n clock i : ℕ) (frame : CanFrame) → Served (record { gate = g; list = list }) n clock i frame owner → Passes g owner

-- what every frame needs: the gate is in range, and so is the frame's id
abbrev pub Sound : Gate → CanFrame → Type 0
Sound g frame = (in_range (view g) ≡ true) × (Frames.can_id_in_range frame.id ≡ true)

-- what a command needs: a frame for that bus, the bus read-write, a car identified now, and an owner that has an id, is paired, and is
-- listed for this car
pub record MayCommand (g : Gate) (bus : ℕ) (frame : CanFrame) (owner : List ℕ) : Type 0 where
  pub sound : Sound g frame
  pub for_bus : frame.bus ≡ bus
  pub read_write : is_bus_read_only g.core.policy bus ≡ false
  pub identified : fingerprint_confirmed g.core.policy.identity ≡ true
  pub named : owner ≢ []
  pub paired : is_paired (lists_in g.phones) owner ≡ true
  pub validated : Listed g (car_now g) owner

-- what a frame of the platform needs: the bus read-write, or the identity probe's open window with an equal frame that was not sent
pub data MaySend (g : Gate) (bus : ℕ) (frame : CanFrame) (clock : ℕ) : Type 0 where
  read_write : is_bus_read_only g.core.policy bus ≡ false → MaySend g bus frame clock
  in_window : (place : ℕ) → frame.bus ≡ bus → frame.dlc ≡ 8 → is_open g.core.policy g.core.probe bus clock ≡ true
      → unsent_in g.core.probe.window frame ≡ Some place → MaySend g bus frame clock

-- ---- how a phone comes to be listed

-- the latest session
abbrev pub session : Gate → Session
session g = g.core.validation.session

-- a session of this kind, of this phone and this car, runs and is in time, and this car is the one identified now
pub record Runs (g : Gate) (kind : Kind) (car phone : List ℕ) (clock : ℕ) : Type 0 where
  pub running : in_progress (session g) ≡ true
  pub of_kind : (method_at g.core.methods (session g).method).kind ≡ kind
  pub of_phone : id_bytes (session g).phone ≡ phone
  pub of_car : (session g).car ≡ car
  pub on_bike : is_identified g.core.policy.identity car ≡ true
  pub in_time : clock < (session g).deadline

-- the call, made at the gate g, validates this phone for this car: the phone submits the gate's own code in its session; or the action in
-- the car is completed for its session; or the host restores its stored record, which lists the phone for this car
pub data Validates (g : Gate) (car phone : List ℕ) : Call → Type 0 where
  by_code : (typed : List ℕ) (clock : ℕ) → Runs g CodeEntry car phone clock → right g.code g.core.settings.digits typed ≡ true
      → Validates g car phone (submit_validation_code phone typed clock)
  by_action : (number clock : ℕ) → Runs g InCarAction car phone clock → (session g).number ≡ number
      → Validates g car phone (on_session (complete_validation_action number clock))
  by_record : (bytes : List ℕ) (cs : List CarIds) → decoded bytes ≡ ok cs → listed cs car phone ≡ true
      → Validates g car phone (on_lists (restore_phone_validations bytes))

-- ---- runs

-- the phone is listed for the car at every gate of the run, first and last included
pub data Stays (car phone : List ℕ) : Gate → List Call → Type 0 where
  last : {g : Gate} → Listed g car phone → Stays car phone g []
  more : {g : Gate} {k : Call} {ks : List Call} → Listed g car phone → Stays car phone (after g k) ks → Stays car phone g (k ∷ ks)

-- one of the calls validates the phone for the car, at the gate as it is then, and from then on the phone stays listed to the end
pub data WasValidated (car phone : List ℕ) : Gate → List Call → Type 0 where
  here : {g : Gate} {k : Call} {ks : List Call} → in_range (view g) ≡ true → Validates g car phone k → Stays car phone (after g k) ks
      → WasValidated car phone g (k ∷ ks)
  later : {g : Gate} {k : Call} {ks : List Call} → WasValidated car phone (after g k) ks → WasValidated car phone g (k ∷ ks)

-- ---- the claim

pub record OnlyValidated : Type 0 where
  -- a command passes exactly if its owner is validated for the car identified now, on a bus that is read-write
  pub command : (g : Gate) (bus : ℕ) (frame : CanFrame) (owner : List ℕ) (clock : ℕ) → Allowed g bus frame Command owner clock ↔ MayCommand g bus frame owner
  -- any other frame is the platform's own, and passes exactly if the bus is read-write or the probe has it
  pub platform : (g : Gate) (bus : ℕ) (frame : CanFrame) (owner : List ℕ) (clock : ℕ)
      → Allowed g bus frame Platform owner clock ↔ Sound g frame × MaySend g bus frame clock
  -- whatever the call, a phone becomes listed for a car only if the call validates it
  pub call : (g : Gate) (k : Call) (car phone : List ℕ) → NotListed g car phone → Listed (after g k) car phone
      → (in_range (view g) ≡ true) × Validates g car phone k
  -- a command that waited passes only by the same rule, at the gate as it is before its turn
  pub turn : (s : Host) (n clock i : ℕ) (frame : CanFrame) (owner : List ℕ) → Served s n clock i frame owner → MayCommand (before_turn s clock i).gate frame.bus frame owner
  -- whatever the calls, from any gate that does not list the owner: if a command of it passes after them, one of them validated it for
  -- the car identified then
  pub any_run : (g : Gate) (ks : List Call) (owner : List ℕ) → NotListed g (car_now (after_all g ks)) owner → Passes (after_all g ks) owner
      → WasValidated (car_now (after_all g ks)) owner g ks
  -- the row: the same from a new gate
  pub row : (settings : Settings) (methods : List Method) (count : ℕ) (ks : List Call) (owner : List ℕ) → Passes (after_all (new_gate settings methods count).gate ks) owner
      → WasValidated (car_now (after_all (new_gate settings methods count).gate ks)) owner (new_gate settings methods count).gate ks
