-- New gate: read-only, with the source's starting statics.
use Rattle.std.specs.Prelude.{true, false, cond, ◌&&◌, List, [], map, ℕ, replicate, take}
use Rattle.arrays.specs.Arrays.{padded}
use Rattle.phones.specs.Phones.{id_of, list_of}
use Rattle.state.specs.declared.Status.TheVariants.{InProgress}
use Rattle.state.specs.declared.Method.{Method}
use Rattle.state.specs.declared.Methods.{Methods}
use Rattle.state.specs.declared.Settings.{Settings}
use Rattle.state.specs.declared.Queue.{Queue}
use Rattle.state.specs.declared.Session.{Session}
use Rattle.state.specs.declared.Policy.{Policy}
use Rattle.state.specs.declared.Probe.{Probe}
use Rattle.state.specs.declared.Core.{Core}
use Rattle.state.specs.declared.Answer.{Answer}
use Rattle.state.specs.declared.Answer.TheVariants.{Done, BadSettings}
use Rattle.state.specs.declared.Outcome.{Outcome}
use Rattle.state.specs.Running.{no_method, clean_method}
use Rattle.range.specs.Range.{settings_fit, methods_in}
use Rattle.state.specs.Replies.{no_car, no_signals, no_code}
use Rattle.saved_record.specs.Store.{store_of}
use Rattle.save.specs.Save.{no_save}
use Rattle.probe_window.specs.Window.{no_window}

-- none waits, and "A new gate's first turn looks from bus 0": the last served is 3 (W-204)
abbrev pub new_queue : Queue
new_queue = record { count = 0; last = 3 }

abbrev pub no_session : Session
no_session = record { present = false; number = 0; phone = id_of []; method = 0; car = replicate 32 0; deadline = 0; status = InProgress; ended = 0 }

abbrev pub new_policy : Policy
new_policy = record {
  identity = record { platform = 0; confirmed = false; car = no_car };
  access = record { approval = no_car; unlocked = false; production = false };
  buses = record { vehicle_read_only = true; logging = false; fd = replicate 4 false };
}

abbrev pub new_probe : Probe
new_probe = record { window = no_window; attempts = 0; relocks = 0; heard = replicate 4 false; marks = replicate 4 0 }

-- the methods in use, with zeros past the length of each id, and none past them; each may start and go on
unfoldable pub new_methods : List Method → ℕ → Methods
new_methods list count = record { list = padded 8 no_method (take count (map clean_method list)); count = count; available = replicate 8 true; continues = replicate 8 true }

unfoldable pub new_core : Settings → Methods → Core
new_core settings methods = record {
  settings = settings;
  methods = methods;
  policy = new_policy;
  peer = id_of [];
  validation = record { session = no_session; cooldown_until = 0; next = 1; tries = settings.tries };
  probe = new_probe;
}

-- each setting at its least
abbrev pub least_settings : Settings
least_settings = record { digits = 1; tries = 1; session = 1; cooldown = 0; keep = 0; bonded = 0 }

-- the answer and the core of a new gate; 25 hands back one without methods, each setting at its least
pub record Made : Type 0 where
  pub answer : Answer
  pub core : Core

unfoldable pub made_core : Settings → List Method → ℕ → Made
made_core settings list count =
    cond (settings_fit settings && methods_in list count)
    (record { answer = Done; core = new_core settings (new_methods list count) })
    (record { answer = BadSettings; core = new_core least_settings (new_methods [] 0) })

-- with empty lists and no digits
abbrev pub made_gate : Made → Outcome
made_gate m = record {
  answer = m.answer;
  signals = no_signals;
  gate = record { core = m.core; phones = record { paired = list_of []; store = store_of [] }; save = no_save; queue = new_queue; code = no_code };
}

unfoldable pub new_gate : Settings → List Method → ℕ → Outcome
new_gate settings list count = made_gate (made_core settings list count)
