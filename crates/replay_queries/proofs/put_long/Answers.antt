-- Each arm: its number, what its query ensures, and what is laid down of the answer and how much room that takes.
use Rattle.std.proofs.Common.{refl, rules}
use Rattle.answers.specs.Query.{can_read_write_approval}
use Rattle.replay_answers.proofs.Room.{approval_in, access_in, phones_listed_in, trust_in, peer_in, phone_access_in, methods_in_lem, challenge_in, encoded_in, preview_in}
use Rattle.replay_items.specs.Bytes.{lent_bytes}
use Rattle.replay_calls.specs.Calls.{long_queries, long_query}
use Rattle.replay_calls.proofs.Laws.{else_first}
use Rattle.replay_queries.proofs.put_long.Goals as goal

pub returns-in-1 : goal.returns-in-1
unfolding lent_bytes long_query long_queries
returns-in-1 c = rw (c.in-1.is, ← c.can_access_state.ensures) (c.put_access.ensures, access_in c.can_access_state.result _ c.can_access_state.type_inv)

pub returns-in-2 : goal.returns-in-2
unfolding lent_bytes long_query long_queries
returns-in-2 c = rw (c.in-2.is, ← c.list_paired_phones.ensures) (c.put_phones_listed.ensures, phones_listed_in c.list_paired_phones.result _ c.list_paired_phones.type_inv)

pub returns-in-3 : goal.returns-in-3
unfolding lent_bytes long_query long_queries
returns-in-3 c = rw (c.in-3.is, ← c.lent-phone.ensures, ← c.phone_trust_level.ensures) (c.put_trust.ensures, trust_in c.phone_trust_level.result _ c.phone_trust_level.type_inv)

pub returns-in-4 : goal.returns-in-4
unfolding lent_bytes long_query long_queries
returns-in-4 c = rw (c.in-4.is, ← c.ble_peer.ensures) (c.put_peer.ensures, peer_in c.ble_peer.result _ c.ble_peer.type_inv)

pub returns-in-5 : goal.returns-in-5
unfolding lent_bytes long_query long_queries
returns-in-5 c = rw (c.in-5.is, ← c.unwrap_or.ensures, ← c.phone_access_state-access.ensures) (c.put_phone_access.ensures, phone_access_in c.phone_access_state-access.result _ c.phone_access_state-access.type_inv)

pub returns-in-6 : goal.returns-in-6
unfolding lent_bytes long_query long_queries
returns-in-6 c = rw (c.in-6.is, ← c.validation_methods.ensures) (c.put_methods.ensures, methods_in_lem c.validation_methods.result _ c.validation_methods.type_inv)

pub returns-in-7 : goal.returns-in-7
unfolding lent_bytes long_query long_queries
returns-in-7 c = rw (c.in-7.is, ← c.current_validation_challenge.ensures) (c.put_challenge.ensures, challenge_in c.current_validation_challenge.result _ c.current_validation_challenge.type_inv)

pub returns-in-8 : goal.returns-in-8
unfolding lent_bytes long_query long_queries
returns-in-8 c = rw (c.in-8.is, ← c.encode_phone_validations.ensures) (c.put_encoded.ensures, encoded_in c.encode_phone_validations.result _ c.encode_phone_validations.type_inv)

pub returns-in-9 : goal.returns-in-9
unfolding lent_bytes long_query long_queries
returns-in-9 c = rw (c.in-9.is, ← c.lent-phone.ensures, ← c.preview_remove_paired_phone-told.ensures) (c.put_preview.ensures, preview_in c.preview_remove_paired_phone-told.result _ c.preview_remove_paired_phone-told.type_inv)

pub returns-in-10 : goal.returns-in-10
unfolding lent_bytes long_query long_queries
returns-in-10 c = rw (c.in-10.is, ← c.lent-phone.ensures, ← c.preview_forget_phone_validation-told.ensures) (c.put_preview-in-10.ensures, preview_in c.preview_forget_phone_validation-told.result _ c.preview_forget_phone_validation-told.type_inv)

pub returns-in-11 : goal.returns-in-11
unfolding lent_bytes long_query long_queries
returns-in-11 c = rw (c.in-11.is, ← c.preview_clear_paired_phones.ensures) (c.put_preview-in-11.ensures, preview_in c.preview_clear_paired_phones.result _ c.preview_clear_paired_phones.type_inv)

pub returns-in-12 : goal.returns-in-12
unfolding lent_bytes long_query long_queries
returns-in-12 c = rw (c.in-12.is, ← c.preview_prune_phone_validations.ensures) (c.put_preview-in-12.ensures, preview_in c.preview_prune_phone_validations.result _ c.preview_prune_phone_validations.type_inv)

pub returns-in-13 : goal.returns-in-13
unfolding lent_bytes long_query long_queries
returns-in-13 c = rw (c.in-13.is, ← c.preview_approve_can_read_write.ensures) (c.put_preview-in-13.ensures, preview_in c.preview_approve_can_read_write.result _ c.preview_approve_can_read_write.type_inv)

pub returns-in_default : goal.returns-in_default
unfolding lent_bytes long_query long_queries
returns-in_default c = let a = c.args in rw (else_first (long_queries a.i (lent_bytes a.p a.room.now)) can_read_write_approval a.name refl (search rules), ← c.can_read_write_approval.ensures) (c.put_approval.ensures, approval_in c.can_read_write_approval.result _ c.can_read_write_approval.type_inv)
