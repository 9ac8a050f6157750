-- The names that the lines of a script begin with, each with the items that it wants.
use Rattle.std.specs.Prelude.{Bool, true, false, cond, List, [], ◌∷◌, map, ℕ, ◌+◌, eqb, ltb, length, get_or}
use Prim.Native.String.{String}
use Rattle.ascii.specs.Ascii.{ascii}
use Rattle.word_table.specs.Words.{lines_of, rest_of, place_in}

-- A row to a name: the calls of the phones, from `new` on, and those of the bike, from `approve_can_read_write` on; the queries with a
-- plain answer, from `is_can_read_only` on, and those with a longer one, from `can_read_write_approval` on; the lines that are no
-- calls, from `set_counters` on; the call that is lent memory; the calls that are lent the host's list, from `send_can_frame` on, and the
-- lines about that list. replay_calls/specs/Calls.antt has what each makes, in the same order.
unfoldable pub table : List String
table =
    "new settings methods"
    ∷ "start_validation phone method now random"
    ∷ "submit_validation_code phone code now"
    ∷ "cancel_validation phone now"
    ∷ "complete_validation_action_at session now"
    ∷ "tick_validation now"
    ∷ "add_paired_phone phone"
    ∷ "remove_paired_phone phone"
    ∷ "clear_paired_phones"
    ∷ "forget_phone_validation phone"
    ∷ "prune_phone_validations"
    ∷ "restore_phone_validations record"
    ∷ "open_phone_validations_save"
    ∷ "set_ble_peer peer"
    ∷ "approve_can_read_write"
    ∷ "revoke_can_read_write_approval"
    ∷ "restore_can_read_write_approval car"
    ∷ "set_can_dev_write_unlocked unlocked"
    ∷ "declare_production_build"
    ∷ "confirm_car_identity"
    ∷ "revoke_car_identity"
    ∷ "confirm_car_fingerprint fingerprint"
    ∷ "set_can_read_only enabled"
    ∷ "open_identity_probe bus now frames"
    ∷ "close_identity_probe"
    ∷ "allow_can_tx bus frame class now"
    ∷ "heard_can_frame bus now"
    ∷ "note_platform_id number"
    ∷ "note_can_logging on"
    ∷ "note_can_fd_bus bus on"
    ∷ "note_method_available place on"
    ∷ "note_method_can_continue place on"
    ∷ "is_can_read_only"
    ∷ "can_read_only_reason"
    ∷ "is_car_identity_confirmed"
    ∷ "is_car_fingerprint_confirmed"
    ∷ "has_can_dev_write_lock"
    ∷ "is_can_dev_write_unlocked"
    ∷ "platform_id"
    ∷ "is_can_logging"
    ∷ "is_can_fd_bus bus"
    ∷ "is_can_bus_read_only bus"
    ∷ "is_can_bus_listen_only bus now"
    ∷ "is_phone_paired phone"
    ∷ "paired_phone_count"
    ∷ "ble_max_bonded_phones"
    ∷ "is_phone_validated phone"
    ∷ "car_has_validated_phone"
    ∷ "session_for phone now"
    ∷ "can_read_write_approval"
    ∷ "can_access_state"
    ∷ "list_paired_phones"
    ∷ "phone_trust_level phone"
    ∷ "ble_peer"
    ∷ "phone_access_state now"
    ∷ "validation_methods"
    ∷ "current_validation_challenge"
    ∷ "encode_phone_validations"
    ∷ "preview_remove_paired_phone phone"
    ∷ "preview_forget_phone_validation phone"
    ∷ "preview_clear_paired_phones"
    ∷ "preview_prune_phone_validations"
    ∷ "preview_approve_can_read_write"
    ∷ "set_counters next_session relocks"
    ∷ "state"
    ∷ "convert_phone_validations record target output"
    ∷ "take_phone_validations_save output"
    ∷ "send_can_frame frame class"
    ∷ "serve_can_frames turns now"
    ∷ "set_list length"
    ∷ "set_record record_place frame class"
    ∷ "lent_list"
    ∷ []

-- What a row wants: one item of this key. But `peer` is a phone, which may be `none`; `frame` is frame_bus, kind, id, dlc and
-- data; `class` is the class and, of a command, its owner; `settings` are the six of a new gate; `methods` and `frames` are any
-- number of items; `record_place` is a place in the host's list.
unfoldable pub key_names : List String
key_names =
    "phone"
    ∷ "method"
    ∷ "random"
    ∷ "code"
    ∷ "record"
    ∷ "fingerprint"
    ∷ "output"
    ∷ "now"
    ∷ "session"
    ∷ "bus"
    ∷ "number"
    ∷ "place"
    ∷ "next_session"
    ∷ "relocks"
    ∷ "turns"
    ∷ "length"
    ∷ "record_place"
    ∷ "unlocked"
    ∷ "enabled"
    ∷ "on"
    ∷ "target"
    ∷ "car"
    ∷ "peer"
    ∷ "frame"
    ∷ "class"
    ∷ "settings"
    ∷ "methods"
    ∷ "frames"
    ∷ []

unfoldable pub rows : List (List ℕ)
rows = map ascii table

unfoldable pub keys : List (List ℕ)
keys = map ascii key_names

-- `right` says of each key whether its items are there and of their form: here, of these keys
unfoldable pub all_right : List (List ℕ) → List Bool → List (List ℕ) → Bool
all_right ks right [] = true
all_right ks right (w ∷ ws) = cond (get_or right (place_in ks w) false) (all_right ks right ws) false

-- `many` says of each key how many its items are: here, of these keys
unfoldable pub in_all : List (List ℕ) → List ℕ → List (List ℕ) → ℕ
in_all ks many [] = 0
in_all ks many (w ∷ ws) = get_or many (place_in ks w) 0 + in_all ks many ws

-- the items of these keys are right, and no other is there
unfoldable pub exactly : List (List ℕ) → List Bool → List ℕ → ℕ → List (List ℕ) → Bool
exactly ks right many count ws = cond (all_right ks right ws) (eqb (in_all ks many ws) count) false

-- the same of the keys that row n has behind its name
unfoldable pub wanted : List (List ℕ) → List (List ℕ) → ℕ → List Bool → List ℕ → ℕ → Bool
wanted rs ks n right many count = exactly ks right many count (lines_of 32 (rest_of (get_or rs n [])))

-- a name takes the items that its row wants, and no other
unfoldable pub takes : ℕ → List Bool → List ℕ → ℕ → Bool
takes n right many count = cond (ltb n (length rows)) (wanted rows keys n right many count) false
