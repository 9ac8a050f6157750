-- How the whole state of a gate is shown.
use Rattle.std.specs.Prelude.{false, cond, ℕ, zero, suc, eqb, ltb, get_or, take}
use Rattle.ascii.specs.Ascii.{ascii}
use Rattle.phones.specs.Phones.{id_bytes, phones_of}
use Rattle.phones.specs.declared.ShortId.{ShortId}
use Rattle.saved_record.specs.Store.{cars_of}
use Rattle.state.specs.Running.{past_methods}
use Rattle.state.specs.declared.Access.{Access}
use Rattle.state.specs.declared.Buses.{Buses}
use Rattle.state.specs.declared.Core.{Core}
use Rattle.state.specs.declared.Gate.{Gate}
use Rattle.state.specs.declared.Identity.{Identity}
use Rattle.state.specs.declared.Methods.{Methods}
use Rattle.state.specs.declared.Phones.{Phones}
use Rattle.state.specs.declared.Policy.{Policy}
use Rattle.state.specs.declared.Queue.{Queue}
use Rattle.state.specs.declared.Save.{Save}
use Rattle.state.specs.declared.Settings.{Settings}
use Rattle.replay_cars.specs.Cars.{lists}
use Rattle.replay_page.specs.Page.{Page, ◌▸◌, text, bytes, known, comma, item, flag, word}
use Rattle.replay_lines.specs.Parts.{method}
use Rattle.replay_running.specs.Probe.{probe}
use Rattle.replay_running.specs.Session.{session_or_none}

unfoldable pub settings : Settings → Page → Page
settings s p =
    p ▸ item (ascii " digits=") s.digits ▸ item (ascii " tries=") s.tries ▸ item (ascii " session_ms=") s.session
    ▸ item (ascii " cooldown_ms=") s.cooldown ▸ item (ascii " keep_ms=") s.keep ▸ item (ascii " bonded=") s.bonded
    ▸ text (ascii " methods=")

-- ID/KIND/APPROVAL/AVAILABLE/CONTINUE of the method at a place, if there is one
unfoldable pub method_at : Methods → ℕ → Page → Page
method_at m i p =
    cond (ltb i m.count)
    (p ▸ comma i ▸ method (get_or m.list i past_methods) ▸ flag (ascii "/") (get_or m.available i false) ▸ flag (ascii "/") (get_or m.continues i false))
    p

-- the methods at the first n places
unfoldable pub methods_to : Methods → ℕ → Page → Page
methods_to m zero p = p
methods_to m (suc n) p = p ▸ methods_to m n ▸ method_at m n

unfoldable pub identity : Identity → Page → Page
identity s p =
    p ▸ item (ascii " platform_number=") s.platform ▸ flag (ascii " platform_confirmed=") s.confirmed
    ▸ text (ascii " car=") ▸ known s.car.known s.car.digest

unfoldable pub access : Access → Page → Page
access s p =
    p ▸ text (ascii " approval=") ▸ known s.approval.known s.approval.digest
    ▸ flag (ascii " dev_unlocked=") s.unlocked ▸ flag (ascii " production=") s.production

unfoldable pub buses : Buses → Page → Page
buses s p =
    p ▸ flag (ascii " vehicle_read_only=") s.vehicle_read_only ▸ flag (ascii " logging=") s.logging
    ▸ flag (ascii " fd=") (get_or s.fd 0 false) ▸ flag (ascii ",") (get_or s.fd 1 false) ▸ flag (ascii ",") (get_or s.fd 2 false)
    ▸ flag (ascii ",") (get_or s.fd 3 false)

unfoldable pub policy : Policy → Page → Page
policy s p = p ▸ identity s.identity ▸ access s.access ▸ buses s.buses

-- the connected phone; none exactly if its id is empty
unfoldable pub peer : ShortId → Page → Page
peer id p = cond (eqb id.len 0) (p ▸ word (ascii " peer=") (ascii "none")) (p ▸ text (ascii " peer=") ▸ bytes (id_bytes id))

unfoldable pub front : Core → Phones → Page → Page
front core l p =
    p ▸ settings core.settings ▸ methods_to core.methods 8 ▸ policy core.policy
    ▸ lists (phones_of l.paired) (cars_of l.store) ▸ peer core.peer

-- a save that is open: its whole record, and how far it was taken
unfoldable pub save : Save → Page → Page
save s p =
    cond s.present
    (p ▸ text (ascii " save=") ▸ bytes (take s.stored.len s.stored.bytes) ▸ item (ascii " at=") s.at)
    (p ▸ word (ascii " save=") (ascii "none"))

-- how many frames wait, and the bus last served (W-204)
unfoldable pub queue : Queue → Page → Page
queue q p = p ▸ item (ascii " waiting=") q.count ▸ item (ascii " last_bus=") q.last

unfoldable pub gate : Gate → Page → Page
gate g p =
    p ▸ front g.core g.phones ▸ session_or_none g
    ▸ item (ascii " cooldown_until=") g.core.validation.cooldown_until ▸ item (ascii " next_session=") g.core.validation.next
    ▸ item (ascii " tries_left=") g.core.validation.tries ▸ probe g.core.probe ▸ save g.save ▸ queue g.queue
