-- What runs: the kind of a method, the status of a session, and both together.
use Rattle.std.specs.Prelude.{Bool, true, false, cond, ◌&&◌, [], ℕ, ltb, get_or, replicate}
use Rattle.phones.specs.Phones.{id_bytes, id_of}
use Rattle.state.specs.declared.Kind.{Kind}
use Rattle.state.specs.declared.Kind.TheVariants.{CodeEntry, InCarAction}
use Rattle.state.specs.declared.Status.{Status}
use Rattle.state.specs.declared.Status.TheVariants.{InProgress, Succeeded, Failed, Cancelled, TimedOut}
use Rattle.state.specs.declared.Method.{Method}
use Rattle.state.specs.declared.Methods.{Methods}
use Rattle.state.specs.declared.Session.{Session}

-- ValidationKind::CodeEntry
abbrev pub is_code : Kind → Bool
is_code CodeEntry = true
is_code InCarAction = false

-- PhoneValidationStatus::InProgress
abbrev pub is_running : Status → Bool
is_running InProgress = true
is_running Succeeded = false
is_running Failed = false
is_running Cancelled = false
is_running TimedOut = false

-- a method without an id
abbrev pub no_method : Method
no_method = record { id = record { bytes = replicate 32 0; len = 0 }; kind = InCarAction; needs_approval = false }

-- the same method with zeros past the length of its id
unfoldable pub clean_method : Method → Method
clean_method m = record { id = id_of (id_bytes m.id); kind = m.kind; needs_approval = m.needs_approval }

-- what the list of methods is taken to hold past its end: it has eight, so that this is never read
abbrev pub past_methods : Method
past_methods = record { id = record { bytes = []; len = 0 }; kind = CodeEntry; needs_approval = false }

-- the method at a place of the eight, or one without an id
unfoldable pub method_at : Methods → ℕ → Method
method_at m i = cond (ltb i 8) (get_or m.list i past_methods) no_method

-- a session is there, and its status is InProgress
unfoldable pub in_progress : Session → Bool
in_progress s = s.present && is_running s.status

-- a CodeEntry session is InProgress
unfoldable pub code_in_progress : Methods → Session → Bool
code_in_progress m s = in_progress s && is_code (method_at m s.method).kind
