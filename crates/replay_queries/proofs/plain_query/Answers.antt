-- Each arm: its number, the phone and the items where it takes them, and what its query ensures.
use Rattle.std.proofs.Common.{refl, rules}
use Rattle.answers.specs.Query.{is_can_read_only}
use Rattle.replay_items.specs.Bytes.{lent_bytes}
use Rattle.replay_calls.specs.Calls.{plain_queries, plain_query}
use Rattle.replay_calls.proofs.Laws.{else_first}
use Rattle.replay_queries.proofs.plain_query.Goals as goal

pub returns-in-1 : goal.returns-in-1
unfolding lent_bytes plain_query plain_queries
returns-in-1 c = rw c.in-1.is c.can_read_only_reason.ensures

pub returns-in-2 : goal.returns-in-2
unfolding lent_bytes plain_query plain_queries
returns-in-2 c = rw c.in-2.is c.is_car_identity_confirmed.ensures

pub returns-in-3 : goal.returns-in-3
unfolding lent_bytes plain_query plain_queries
returns-in-3 c = rw c.in-3.is c.is_car_fingerprint_confirmed.ensures

pub returns-in-4 : goal.returns-in-4
unfolding lent_bytes plain_query plain_queries
returns-in-4 c = rw c.in-4.is c.has_can_dev_write_lock.ensures

pub returns-in-5 : goal.returns-in-5
unfolding lent_bytes plain_query plain_queries
returns-in-5 c = rw c.in-5.is c.is_can_dev_write_unlocked.ensures

pub returns-in-6 : goal.returns-in-6
unfolding lent_bytes plain_query plain_queries
returns-in-6 c = rw c.in-6.is c.platform_id.ensures

pub returns-in-7 : goal.returns-in-7
unfolding lent_bytes plain_query plain_queries
returns-in-7 c = rw c.in-7.is c.is_can_logging.ensures

pub returns-in-8 : goal.returns-in-8
unfolding lent_bytes plain_query plain_queries
returns-in-8 c = rw (c.in-8.is, ← c.unwrap_or-bus.ensures) c.is_can_fd_bus.ensures

pub returns-in-9 : goal.returns-in-9
unfolding lent_bytes plain_query plain_queries
returns-in-9 c = rw (c.in-9.is, ← c.unwrap_or-bus.ensures) c.is_can_bus_read_only.ensures

pub returns-in-10 : goal.returns-in-10
unfolding lent_bytes plain_query plain_queries
returns-in-10 c = rw (c.in-10.is, ← c.unwrap_or-bus.ensures, ← c.unwrap_or-at.ensures) c.is_can_bus_listen_only.ensures

pub returns-in-11 : goal.returns-in-11
unfolding lent_bytes plain_query plain_queries
returns-in-11 c = rw (c.in-11.is, ← c.lent-phone.ensures) c.is_phone_paired.ensures

pub returns-in-12 : goal.returns-in-12
unfolding lent_bytes plain_query plain_queries
returns-in-12 c = rw c.in-12.is c.paired_phone_count.ensures

pub returns-in-13 : goal.returns-in-13
unfolding lent_bytes plain_query plain_queries
returns-in-13 c = rw c.in-13.is c.ble_max_bonded_phones.ensures

pub returns-in-14 : goal.returns-in-14
unfolding lent_bytes plain_query plain_queries
returns-in-14 c = rw (c.in-14.is, ← c.lent-phone.ensures) c.is_phone_validated.ensures

pub returns-in-15 : goal.returns-in-15
unfolding lent_bytes plain_query plain_queries
returns-in-15 c = rw c.in-15.is c.car_has_validated_phone.ensures

pub returns-in-16 : goal.returns-in-16
unfolding lent_bytes plain_query plain_queries
returns-in-16 c = rw (c.in-16.is, ← c.lent-phone.ensures, ← c.unwrap_or-at.ensures) c.session_for.ensures

pub returns-in_default : goal.returns-in_default
unfolding lent_bytes plain_query plain_queries
returns-in_default c = let a = c.args in rw (else_first (plain_queries a.i (lent_bytes a.p a.room.now)) is_can_read_only a.name refl (search rules)) c.is_can_read_only.ensures
