-- The range of a lent gate: what is outside gets 25 first from every call (01, "New gate").
use Rattle.std.specs.Prelude.{Bool, true, false, cond, ◌&&◌, List, ℕ, ltb, take}
use Rattle.phones.specs.Ids.{all_of}
use Rattle.phones.specs.Phones.{id_bytes, id_in_range}
use Rattle.state.specs.declared.Method.{Method}
use Rattle.state.specs.declared.Settings.{Settings}
use Rattle.state.specs.declared.Methods.{Methods}
use Rattle.state.specs.declared.Session.{Session}
use Rattle.state.specs.declared.Validation.{Validation}
use Rattle.state.specs.declared.Window.{Window}
use Rattle.state.specs.declared.Core.{Core}
use Rattle.state.specs.declared.Save.{Save}
use Rattle.state.specs.declared.Queue.{Queue}
use Rattle.state.specs.View.{View}

-- x is from low to high
unfoldable pub within : ℕ → ℕ → ℕ → Bool
within low high x = cond (ltb x low) false (cond (ltb high x) false true)

-- 01, New gate: the settings, times in ms
unfoldable pub settings_fit : Settings → Bool
settings_fit s =
    within 1 9 s.digits
    && within 1 20 s.tries
    && within 1 86_400_000 s.session
    && within 0 86_400_000 s.cooldown
    && within 0 86_400_000 s.keep
    && within 0 32 s.bonded

-- 01, New gate: bytes from 33 to 126
unfoldable pub printable : List ℕ → Bool
printable bs = all_of (within 33 126) bs

-- 01, New gate: a method's id has 1 to 32 bytes
unfoldable pub method_fits : Method → Bool
method_fits m = within 1 32 m.id.len && printable (id_bytes m.id)

-- all of these methods
unfoldable pub all_fit : List Method → Bool
all_fit ms = all_of method_fits ms

-- 01, New gate: at most 8 methods; those past the count are not looked at
unfoldable pub methods_in : List Method → ℕ → Bool
methods_in list count = cond (ltb 8 count) false (all_fit (take count list))

unfoldable pub methods_fit : Methods → Bool
methods_fit m = methods_in m.list m.count

-- 02, W-206: the tries left are from 1 to the set number
unfoldable pub tries_fit : Settings → Validation → Bool
tries_fit settings v = within 1 settings.tries v.tries

-- of a session, ended ones too: the length of its phone's id, its method place
unfoldable pub session_fits : Methods → Session → Bool
session_fits m s = cond s.present (id_in_range s.phone && ltb s.method m.count) true

-- 01, Open probe: a window has 1 to 4 frames
unfoldable pub window_fits : Window → Bool
window_fits w = cond w.present (within 1 4 w.count) true

-- 01, New gate: no count, length, method place or setting of the core is out of range; W-206: nor are the tries left
unfoldable pub core_fits : Core → Bool
core_fits c =
    settings_fit c.settings
    && methods_fit c.methods
    && id_in_range c.peer
    && session_fits c.methods c.validation.session
    && tries_fit c.settings c.validation
    && window_fits c.probe.window

-- 02, W-209: of a save that is open, the length of its record, and the position in it
unfoldable pub save_fits : Save → Bool
save_fits s = cond s.present (within 0 4358 s.stored.len && within 0 s.stored.len s.at) true

-- 02, W-204: "The gate keeps the count and the bus last served, 25 if out of range"
unfoldable pub queue_fits : Queue → Bool
queue_fits q = within 0 16 q.count && within 0 3 q.last

-- 01, New gate: a gate out of range gets 25 first. Lists: the counts and lengths of all, and W-207: no digest under two cars
unfoldable pub in_range : View → Bool
in_range v = core_fits v.core && v.paired_fits && v.store_fits && save_fits v.save && queue_fits v.queue
