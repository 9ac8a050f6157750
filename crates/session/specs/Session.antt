-- What a session shows, and its ends (validation.rs).
use Rattle.std.specs.Prelude.{Bool, false, cond, not, ◌&&◌, ◌||◌, List, [], ◌∷◌, ℕ, suc, Option, Some, None, ltb, get_or, take}
use Rattle.arrays.specs.Arrays.{same_bytes}
use Rattle.session_times.specs.Times.{seconds_to}
use Rattle.phones.specs.Phones.{id_bytes}
use Rattle.state.specs.declared.Status.{Status}
use Rattle.state.specs.declared.Status.TheVariants.{Cancelled, TimedOut}
use Rattle.state.specs.declared.Method.{Method}
use Rattle.state.specs.declared.Methods.{Methods}
use Rattle.state.specs.declared.Session.{Session}
use Rattle.state.specs.declared.SessionReply.{SessionReply}
use Rattle.state.specs.declared.Core.{Core}
use Rattle.state.specs.Running.{is_code, is_running, method_at, in_progress}
use Rattle.policy.specs.Policy.{is_read_only, is_identified}

-- ---- what a session shows

-- seconds to the deadline, of a running session only
unfoldable pub seconds_of : Session → ℕ → ℕ
seconds_of s clock = cond (is_running s.status) (seconds_to s.deadline clock) 0

-- session_proto; the tries are the gate's (W-206)
unfoldable pub reply_of : Core → Session → ℕ → SessionReply
reply_of c s clock =
    let kind = (method_at c.methods s.method).kind in
    record {
      method = s.method;
      kind = kind;
      status = s.status;
      length = cond (is_code kind) c.settings.digits 0;
      tries = cond (is_code kind) c.validation.tries 0;
      seconds = seconds_of s clock;
      cooldown = seconds_to c.validation.cooldown_until clock;
    }

-- ---- the end of a session

-- end_session: the status and the time of the end
unfoldable pub ended_as : Session → Status → ℕ → Session
ended_as s status clock = record {
  present = s.present;
  number = s.number;
  phone = s.phone;
  method = s.method;
  car = s.car;
  deadline = s.deadline;
  status = status;
  ended = clock;
}

-- the session is this phone's
unfoldable pub is_of : Session → List ℕ → Bool
is_of s phone = same_bytes (id_bytes s.phone) phone

-- the method needs approval and the gate is read-only
unfoldable pub lost_read_write : Core → Method → Bool
lost_read_write c m = m.needs_approval && is_read_only c.policy

-- the host's notes of a place; the lists have eight
unfoldable pub note_at : List Bool → ℕ → Bool
note_at notes i = cond (ltb i 8) (get_or notes i false) false

-- the running session cannot go on: the car changed, read-write is lost where approval is needed, or the host says so
unfoldable pub cannot_go_on : Core → Session → Bool
cannot_go_on c s =
    not (is_identified c.policy.identity s.car)
    || lost_read_write c (method_at c.methods s.method)
    || not (note_at c.methods.continues s.method)

-- the status with which a tick ends the session, if it does
unfoldable pub lapse_of : Core → ℕ → Option Status
lapse_of c clock =
    cond (in_progress c.validation.session)
    (cond (cannot_go_on c c.validation.session) (Some Cancelled)
    (cond (ltb clock c.validation.session.deadline) None (Some TimedOut)))
    None

-- ---- methods

-- the place of the first method with this id, counted from i; past them if there is none
unfoldable pub place_from : List ℕ → ℕ → List Method → ℕ
place_from id i [] = i
place_from id i (m ∷ ms) = cond (same_bytes (id_bytes m.id) id) i (place_from id (suc i) ms)

unfoldable pub place_of : Methods → List ℕ → ℕ
place_of m id = place_from id 0 (take m.count m.list)
