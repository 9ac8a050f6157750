-- The room that the whole state of a gate takes.
use Rattle.std.proofs.Common.{false, List, ℕ, zero, suc, ◌*◌, ◌≤◌, le_of_eq, arith, eqb, ltb, lit≤, length, get_or, rules}
use mir.Val.{Val}
use Rattle.ascii.specs.Ascii.{ascii}
use Rattle.phones.specs.declared.ShortId.{ShortId}
use Rattle.phones.specs.contracts.ShortId as ShortId
use Rattle.state.specs.Running.{past_methods}
use Rattle.state.specs.declared.Access.{Access}
use Rattle.state.specs.declared.Buses.{Buses}
use Rattle.state.specs.declared.Core.{Core}
use Rattle.state.specs.declared.Gate.{Gate}
use Rattle.state.specs.declared.Identity.{Identity}
use Rattle.state.specs.declared.Methods.{Methods}
use Rattle.state.specs.declared.Phones.{Phones}
use Rattle.state.specs.declared.Policy.{Policy}
use Rattle.state.specs.declared.Queue.{Queue}
use Rattle.state.specs.declared.Save.{Save}
use Rattle.state.specs.declared.Settings.{Settings}
use Rattle.state.specs.contracts.Access as Access
use Rattle.state.specs.contracts.Core as Core
use Rattle.state.specs.contracts.Gate as Gate
use Rattle.state.specs.contracts.Identity as Identity
use Rattle.state.specs.contracts.Phones as Phones
use Rattle.state.specs.contracts.Policy as Policy
use Rattle.state.specs.contracts.Queue as Queue
use Rattle.state.specs.contracts.Save as Save
use Rattle.state.specs.contracts.Settings as Settings
use Rattle.replay_page.specs.Room.{Within}
use Rattle.replay_lines.proofs.AnswerRoom.{Owned, method_ids}
use Rattle.replay_page.proofs.Room.{◌⊕◌, upto, either, same, text_in, known_in, comma_in, item_in, flag_in_lem, word_in}
use Rattle.replay_lines.proofs.Room.{id_in_lem, method_in_lem}
use Rattle.replay_lines.proofs.AnswerRoom.{saved_in}
use Rattle.replay_cars.proofs.Room.{lists_in_lem}
use Rattle.replay_running.proofs.Room.{session_in, probe_in}
use Rattle.replay_state.specs.Whole.{settings, method_at, methods_to, identity, access, buses, policy, peer, front, save, queue, gate}

settings_in : (s : Settings) (vs : List Val) → Owned Settings.the_field s vs → Within 186 (settings s)
unfolding settings
settings_in s vs h =
    item_in (ascii " digits=") s.digits (omega arith) ⊕ item_in (ascii " tries=") s.tries (omega arith) ⊕ item_in (ascii " session_ms=") s.session (omega arith)
    ⊕ item_in (ascii " cooldown_ms=") s.cooldown (omega arith) ⊕ item_in (ascii " keep_ms=") s.keep (omega arith) ⊕ item_in (ascii " bonded=") s.bonded (omega arith)
    ⊕ text_in (ascii " methods=")

methods_in_lem : (m : Methods) → ((i : ℕ) → length (get_or m.list i past_methods).id.bytes ≤ 32) → (n : ℕ) → Within (n * 84) (methods_to m n)
unfolding methods_to method_at
methods_in_lem m ids zero = same 0
methods_in_lem m ids (suc n) =
    upto (suc n * 84) (omega arith) (methods_in_lem m ids n
    ⊕ either (ltb n m.count)
    (comma_in n ⊕ method_in_lem (get_or m.list n past_methods) (ids n) ⊕ flag_in_lem (ascii "/") (get_or m.available n false) ⊕ flag_in_lem (ascii "/") (get_or m.continues n false))
    (same 84))

identity_in : (s : Identity) (vs : List Val) → Owned Identity.the_field s vs → Within 129 (identity s)
unfolding identity
identity_in s vs h =
    item_in (ascii " platform_number=") s.platform (omega arith) ⊕ flag_in_lem (ascii " platform_confirmed=") s.confirmed
    ⊕ text_in (ascii " car=") ⊕ known_in s.car.known s.car.digest (le_of_eq (search rules))

access_in : (s : Access) (vs : List Val) → Owned Access.the_field s vs → Within 106 (access s)
unfolding access
access_in s vs h =
    text_in (ascii " approval=") ⊕ known_in s.approval.known s.approval.digest (le_of_eq (search rules))
    ⊕ flag_in_lem (ascii " dev_unlocked=") s.unlocked ⊕ flag_in_lem (ascii " production=") s.production

buses_in : (s : Buses) → Within 53 (buses s)
unfolding buses
buses_in s =
    flag_in_lem (ascii " vehicle_read_only=") s.vehicle_read_only ⊕ flag_in_lem (ascii " logging=") s.logging
    ⊕ flag_in_lem (ascii " fd=") (get_or s.fd 0 false) ⊕ flag_in_lem (ascii ",") (get_or s.fd 1 false) ⊕ flag_in_lem (ascii ",") (get_or s.fd 2 false)
    ⊕ flag_in_lem (ascii ",") (get_or s.fd 3 false)

policy_in : (s : Policy) (vs : List Val) → Owned Policy.the_field s vs → Within 288 (policy s)
unfolding policy
policy_in s vs h = identity_in s.identity _ h.1.1.0 ⊕ access_in s.access _ h.1.1.1.0 ⊕ buses_in s.buses

peer_in : (id : ShortId) (vs : List Val) → Owned ShortId.the_field id vs → Within 70 (peer id)
unfolding peer
peer_in id vs h =
    either (eqb id.len 0) (upto 70 (lit≤ tt) (word_in (ascii " peer=") (ascii "none") 4 (lit≤ tt)))
    (text_in (ascii " peer=") ⊕ id_in_lem id (le_of_eq (search rules)))

front_in : (c : Core) (l : Phones) (vs us : List Val) → Owned Core.the_field c vs → Owned Phones.the_field l us → Within 11984 (front c l)
unfolding front
front_in c l vs us h k =
    settings_in c.settings _ h.1.1.0 ⊕ methods_in_lem c.methods (method_ids c.methods.list _ h.1.1.1.0.1.1.0.1.1) 8
    ⊕ policy_in c.policy _ h.1.1.1.1.0 ⊕ lists_in_lem l.paired l.store _ _ k.1.1.0 k.1.1.1.0 ⊕ peer_in c.peer _ h.1.1.1.1.1.0

save_in : (s : Save) (vs : List Val) → Owned Save.the_field s vs → Within 8746 (save s)
unfolding save
save_in s vs h =
    either s.present (text_in (ascii " save=") ⊕ saved_in s.stored _ h.1.1.0 ⊕ item_in (ascii " at=") s.at (omega arith))
    (upto 8746 (lit≤ tt) (word_in (ascii " save=") (ascii "none") 4 (lit≤ tt)))

queue_in : (q : Queue) (vs : List Val) → Owned Queue.the_field q vs → Within 59 (queue q)
unfolding queue
queue_in q vs h = item_in (ascii " waiting=") q.count (omega arith) ⊕ item_in (ascii " last_bus=") q.last (omega arith)

pub gate_in : (g : Gate) (vs : List Val) → Owned Gate.the_field g vs → Within 21579 (gate g)
unfolding gate
gate_in g vs h =
    let core = h.1.1.0 in
    let v = core.1.1.1.1.1.1.0 in
    let code = le_of_eq h.1.1.1.1.1.1.0.1.0.1 in
    front_in g.core g.phones _ _ core h.1.1.1.0 ⊕ session_in g _ v.1.1.0 code
    ⊕ item_in (ascii " cooldown_until=") g.core.validation.cooldown_until v.1.1.1.0.1 ⊕ item_in (ascii " next_session=") g.core.validation.next (omega (arith, v.1.1.1.1.0.1))
    ⊕ item_in (ascii " tries_left=") g.core.validation.tries (omega (arith, v.1.1.1.1.1.0.1)) ⊕ probe_in g.core.probe _ core.1.1.1.1.1.1.1.0
    ⊕ save_in g.save _ h.1.1.1.1.0 ⊕ queue_in g.queue _ h.1.1.1.1.1.0
