-- The call that a line makes, by the number of its name and by its items; of an item that is not there it gets 0, off, the
-- platform's class and the like, but the table of names lets no such line through. Each list is in the order of the rows of
-- replay_names/specs/Names.antt.
use Rattle.std.specs.Prelude.{Bool, false, List, [], ◌∷◌, ◌++◌, map, replicate, ℕ, get_or, unwrap_or}
use Rattle.answers.specs.Query.{Query, is_can_read_only, can_read_only_reason, is_car_identity_confirmed, is_car_fingerprint_confirmed, can_read_write_approval, has_can_dev_write_lock, is_can_dev_write_unlocked, can_access_state, platform_id, is_can_logging, is_can_fd_bus, is_can_bus_read_only, is_can_bus_listen_only, is_phone_paired, paired_phone_count, list_paired_phones, ble_max_bonded_phones, is_phone_validated, car_has_validated_phone, phone_trust_level, ble_peer, encode_phone_validations, phone_access_state, validation_methods, session_for, current_validation_challenge, preview_remove_paired_phone, preview_forget_phone_validation, preview_clear_paired_phones, preview_prune_phone_validations, preview_approve_can_read_write}
use Rattle.definition.specs.Gate.{Call, QueueCall, new_gate_call, start_validation, submit_validation_code, on_session, on_lists, on_save, on_core, ask}
use Rattle.definition.specs.Gate.{cancel_validation, complete_validation_action, tick_validation, add_paired_phone, remove_paired_phone, clear_paired_phones, forget_phone_validation, prune_phone_validations, set_ble_peer, restore_phone_validations, open_phone_validations_save, take_phone_validations_save, send_can_frame, serve_can_frames, approve_can_read_write, revoke_can_read_write_approval, restore_can_read_write_approval, set_can_dev_write_unlocked, declare_production_build, confirm_car_identity, revoke_car_identity, confirm_car_fingerprint, set_can_read_only, open_identity_probe, close_identity_probe, allow_can_tx, heard_can_frame, note_platform_id, note_can_logging, note_can_fd_bus, note_method_available, note_method_can_continue}
use Rattle.frames.specs.declared.CanFrame.{CanFrame}
use Rattle.frames.specs.declared.TxClass.{TxClass}
use Rattle.frames.specs.declared.TxClass.TheVariants.{Platform}
use Rattle.waiting_list.specs.declared.Waiting.{Waiting}
use Rattle.replay_lists.specs.Lists.{no_method, no_frame as no_probe_frame}
use Rattle.replay_items.specs.Bytes.{Bytes}
use Rattle.replay_items.specs.Values.{no_car, no_frame, no_settings}
use Rattle.replay_items.specs.declared.Items.{Items}

-- ---- the calls that change the gate

abbrev pub new_call : Items → Call
new_call i = new_gate_call (unwrap_or i.settings no_settings) (unwrap_or i.methods.list (replicate 8 no_method)) i.methods.count

-- the phones and their validation; `none` for the connected phone is no bytes
unfoldable pub phone_calls : Items → Bytes → List Call
phone_calls i b =
    new_call i
    ∷ start_validation b.phone b.method (unwrap_or i.numbers.clock 0) b.random
    ∷ submit_validation_code b.phone b.code (unwrap_or i.numbers.clock 0)
    ∷ on_session (cancel_validation b.phone (unwrap_or i.numbers.clock 0))
    ∷ on_session (complete_validation_action (unwrap_or i.numbers.session 0) (unwrap_or i.numbers.clock 0))
    ∷ on_session (tick_validation (unwrap_or i.numbers.clock 0))
    ∷ on_lists (add_paired_phone b.phone)
    ∷ on_lists (remove_paired_phone b.phone)
    ∷ on_lists clear_paired_phones
    ∷ on_lists (forget_phone_validation b.phone)
    ∷ on_lists prune_phone_validations
    ∷ on_lists (restore_phone_validations b.stored)
    ∷ on_save open_phone_validations_save
    ∷ on_core (set_ble_peer b.phone)
    ∷ []

-- the approval, the dev lock, the bike's identity, the probe, outbound frames and the host's notes; a platform frame has no
-- owner, which is no bytes
unfoldable pub can_calls : Items → Bytes → List Call
can_calls i b =
    on_core approve_can_read_write
    ∷ on_core revoke_can_read_write_approval
    ∷ on_core (restore_can_read_write_approval (unwrap_or i.car no_car))
    ∷ on_core (set_can_dev_write_unlocked (unwrap_or i.switches.unlocked false))
    ∷ on_core declare_production_build
    ∷ on_core confirm_car_identity
    ∷ on_core revoke_car_identity
    ∷ on_core (confirm_car_fingerprint b.fingerprint)
    ∷ on_core (set_can_read_only (unwrap_or i.switches.enabled false))
    ∷ on_core (open_identity_probe (unwrap_or i.numbers.bus 0) (unwrap_or i.frames.list (replicate 4 no_probe_frame)) i.frames.count (unwrap_or i.numbers.clock 0))
    ∷ on_core close_identity_probe
    ∷ on_core (allow_can_tx (unwrap_or i.numbers.bus 0) (unwrap_or i.frame no_frame) (unwrap_or i.class Platform) b.owner (unwrap_or i.numbers.clock 0))
    ∷ on_core (heard_can_frame (unwrap_or i.numbers.bus 0) (unwrap_or i.numbers.clock 0))
    ∷ on_core (note_platform_id (unwrap_or i.numbers.number 0))
    ∷ on_core (note_can_logging (unwrap_or i.switches.on false))
    ∷ on_core (note_can_fd_bus (unwrap_or i.numbers.bus 0) (unwrap_or i.switches.on false))
    ∷ on_core (note_method_available (unwrap_or i.numbers.place 0) (unwrap_or i.switches.on false))
    ∷ on_core (note_method_can_continue (unwrap_or i.numbers.place 0) (unwrap_or i.switches.on false))
    ∷ []

-- ---- the queries

-- those that give an answer and nothing else
unfoldable pub plain_queries : Items → Bytes → List Query
plain_queries i b =
    is_can_read_only
    ∷ can_read_only_reason
    ∷ is_car_identity_confirmed
    ∷ is_car_fingerprint_confirmed
    ∷ has_can_dev_write_lock
    ∷ is_can_dev_write_unlocked
    ∷ platform_id
    ∷ is_can_logging
    ∷ is_can_fd_bus (unwrap_or i.numbers.bus 0)
    ∷ is_can_bus_read_only (unwrap_or i.numbers.bus 0)
    ∷ is_can_bus_listen_only (unwrap_or i.numbers.bus 0) (unwrap_or i.numbers.clock 0)
    ∷ is_phone_paired b.phone
    ∷ paired_phone_count
    ∷ ble_max_bonded_phones
    ∷ is_phone_validated b.phone
    ∷ car_has_validated_phone
    ∷ session_for b.phone (unwrap_or i.numbers.clock 0)
    ∷ []

-- those whose answers hold more
unfoldable pub long_queries : Items → Bytes → List Query
long_queries i b =
    can_read_write_approval
    ∷ can_access_state
    ∷ list_paired_phones
    ∷ phone_trust_level b.phone
    ∷ ble_peer
    ∷ phone_access_state (unwrap_or i.numbers.clock 0)
    ∷ validation_methods
    ∷ current_validation_challenge
    ∷ encode_phone_validations
    ∷ preview_remove_paired_phone b.phone
    ∷ preview_forget_phone_validation b.phone
    ∷ preview_clear_paired_phones
    ∷ preview_prune_phone_validations
    ∷ preview_approve_can_read_write
    ∷ []

-- ---- one of each by its place; past the last it is the first, which no line asks for

unfoldable pub phone_call : ℕ → Items → Bytes → Call
phone_call n i b = get_or (phone_calls i b) n (new_call i)

unfoldable pub can_call : ℕ → Items → Bytes → Call
can_call n i b = get_or (can_calls i b) n (on_core approve_can_read_write)

unfoldable pub plain_query : ℕ → Items → Bytes → Query
plain_query n i b = get_or (plain_queries i b) n is_can_read_only

unfoldable pub long_query : ℕ → Items → Bytes → Query
long_query n i b = get_or (long_queries i b) n can_read_write_approval

-- ---- every line

-- a call of the gate, or one that is lent what the host lends of its list; a line that is no call; or one that has no name
pub data Line : Type 0 where
  call : Call → Line
  lending : (List Waiting → QueueCall) → Line
  counters : (next relocks : ℕ) → Line
  convert : (saved : List ℕ) (two : Bool) (out : List ℕ) → Line
  set_list : (length : ℕ) → Line
  set_record : (place : ℕ) (frame : CanFrame) (class : TxClass) (owner : List ℕ) → Line
  state lent_list unknown : Line

abbrev pub asking : Query → Line
asking q = call (ask q)

-- those that are no calls, and the call that is lent memory
unfoldable pub other_lines : Items → Bytes → List Line
other_lines i b =
    counters (unwrap_or i.numbers.next 0) (unwrap_or i.numbers.relocks 0)
    ∷ state
    ∷ convert b.stored (unwrap_or i.switches.target false) b.output
    ∷ call (on_save (take_phone_validations_save b.output))
    ∷ []

-- the calls on waiting frames, and the lines about the host's list (02, W-204)
unfoldable pub host_lines : Items → Bytes → List Line
host_lines i b =
    lending (λ (list : List Waiting). send_can_frame list (unwrap_or i.frame no_frame) (unwrap_or i.class Platform) b.owner)
    ∷ lending (λ (list : List Waiting). serve_can_frames list (unwrap_or i.numbers.turns 0) (unwrap_or i.numbers.clock 0))
    ∷ set_list (unwrap_or i.numbers.length 0)
    ∷ set_record (unwrap_or i.numbers.slot 0) (unwrap_or i.frame no_frame) (unwrap_or i.class Platform) b.owner
    ∷ lent_list
    ∷ []

unfoldable pub host_line : ℕ → Items → Bytes → Line
host_line n i b = get_or (host_lines i b) n unknown

-- a line for each row: what changes the gate, what asks it, and the rest
unfoldable pub rest_lines : Items → Bytes → List Line
rest_lines i b = other_lines i b ++ host_lines i b

unfoldable pub asking_lines : Items → Bytes → List Line
asking_lines i b = map asking (plain_queries i b) ++ (map asking (long_queries i b) ++ rest_lines i b)

unfoldable pub lines : Items → Bytes → List Line
lines i b = map call (phone_calls i b) ++ (map call (can_calls i b) ++ asking_lines i b)

unfoldable pub rest_line : ℕ → Items → Bytes → Line
rest_line n i b = get_or (rest_lines i b) n unknown

unfoldable pub asking_line : ℕ → Items → Bytes → Line
asking_line n i b = get_or (asking_lines i b) n unknown

unfoldable pub line_of : ℕ → Items → Bytes → Line
line_of n i b = get_or (lines i b) n unknown
