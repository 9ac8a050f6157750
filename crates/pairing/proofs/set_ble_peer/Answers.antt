use Rattle.std.proofs.Common.{sym, ◌∙◌}
use Rattle.state.specs.Checks.{checked}
use Rattle.phones.proofs.Made.{made_fits, made_long, made_id_lem}
use Rattle.pairing.specs.Pairing.{set_peer}
use Rattle.pairing.proofs.set_ble_peer.Goals as goal

pub returns-in_default : goal.returns-in_default
unfolding set_peer checked
returns-in_default c = rw (c.leave.ensures, made_long c.args.id.now (sym c.in_default.is ∙ c.make_id.ensures))

pub returns-then-id_is : goal.returns-then-id_is
unfolding set_peer checked
returns-then-id_is c =
    let m = sym c.in-Some.is ∙ c.make_id.ensures in
    rw (c.quiet.ensures, c.with_peer-c.ensures, made_id_lem c.in-Some.peer c.args.id.now m, made_fits c.in-Some.peer c.args.id.now m, ← c.id_is.ensures, c.if-id_is.true)

pub returns-else-id_is : goal.returns-else-id_is
unfolding set_peer checked
returns-else-id_is c =
    let m = sym c.in-Some.is ∙ c.make_id.ensures in
    rw (c.notified.ensures, c.with_peer-c.ensures, made_id_lem c.in-Some.peer c.args.id.now m, made_fits c.in-Some.peer c.args.id.now m, ← c.id_is.ensures, c.if-id_is.false)
