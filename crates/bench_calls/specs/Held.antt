-- The gate that a round runs on: the car identified and approved, read-write, and the phones of the record paired and
-- validated.
use Rattle.std.specs.Prelude.{ℕ, Bool, true, false, cond, List, Option, unwrap_or, replicate}
use Rattle.frames.specs.declared.CanFrame.{CanFrame}
use Rattle.frames.specs.declared.Id.TheVariants.{Standard}
use Rattle.frames.specs.declared.TxClass.{TxClass}
use Rattle.frames.specs.declared.TxClass.TheVariants.{Platform, Command}
use Rattle.phones.specs.declared.ShortId.{ShortId}
use Rattle.phones.specs.Phones.{made_id, list_of}
use Rattle.saved_record.specs.Store.{cars_of}
use Rattle.validations.specs.Store.{phones_for}
use Rattle.state.specs.declared.Kind.TheVariants.{CodeEntry}
use Rattle.state.specs.declared.Car.{Car}
use Rattle.state.specs.declared.Policy.{Policy}
use Rattle.state.specs.declared.Method.{Method}
use Rattle.state.specs.declared.Settings.{Settings}
use Rattle.state.specs.declared.Gate.{Gate}
use Rattle.state.specs.Parts.{with_policy}
use Rattle.waiting_list.specs.declared.Waiting.{Waiting}
use Rattle.new_gate.specs.New.{new_gate, new_queue}
use Rattle.definition.specs.Gate.{step, on_lists, restore_phone_validations}

abbrev pub class_of : Bool → TxClass
class_of command = cond command Command Platform

abbrev pub frame : CanFrame
frame = record { bus = 1; id = Standard 0x123; «data» = replicate 8 0x11; dlc = 8 }

abbrev pub car_of : List ℕ → Car
car_of digest = record { known = true; digest = digest }

abbrev pub writable : List ℕ → Policy
writable digest = record {
  identity = record { platform = 7; confirmed = true; car = car_of digest };
  access = record { approval = car_of digest; unlocked = true; production = false };
  buses = record { vehicle_read_only = false; logging = false; fd = replicate 4 false };
}

abbrev pub settings : Settings
settings = record { digits = 4; tries = 3; session = 60000; cooldown = 0; keep = 10000; bonded = 32 }

abbrev pub no_id : ShortId
no_id = record { bytes = replicate 32 0; len = 0 }

abbrev pub method_of : Option ShortId → Method
method_of made = record { id = unwrap_or made no_id; kind = CodeEntry; needs_approval = true }

-- a gate with that policy, the phones validated for this car paired
abbrev pub opened : Gate → List ℕ → Gate
opened g digest = record {
  core = with_policy g.core (writable digest);
  phones = record { paired = list_of (phones_for digest (cars_of g.phones.store)); store = g.phones.store };
  save = g.save;
  queue = g.queue;
  code = g.code;
}

unfoldable pub ready : List ℕ → List ℕ → List ℕ → Gate
ready digest bytes method =
    opened (step (new_gate settings (replicate 8 (method_of (made_id method))) 1).gate (on_lists (restore_phone_validations bytes))).gate digest

-- a list in which no frame waits
abbrev pub list : List Waiting
list = replicate 16 (record { frame = frame; class = Platform; owner = no_id })

-- the gate with no frame waiting
abbrev pub emptied : Gate → Gate
emptied g = record { core = g.core; phones = g.phones; save = g.save; queue = new_queue; code = g.code }
