-- What `Sized` and `SizedGate` ask is needed: with fewer frames, methods or bytes than the array has, or with more bytes in a digest, a call
-- makes a gate out of range.
use mathlib.Core.Path.{◌≡◌, refl, ap}
use mathlib.Core.Bool.{Bool, true, false, ◌&&◌}
use mathlib.Core.List.{List, [], ◌∷◌}
use Prim.Native.Nat.{ℕ, ◌<◌}
use native.Mathlib.Omega.{arith}
use borrow.Author.Tests.{lt-ltb, le-ltb}
use lib.ListN.{length, replicate, length-append}
use Rattle.arrays.specs.Arrays.{padded}
use Rattle.phones.specs.Ids.{some_of, all_of, joined}
use Rattle.phones.specs.Phones.{id_bytes, id_in_range, id_of, ids_in, list_in_range, list_of, phones_of, too_long}
use Rattle.saved_record.specs.SavedRecord.{CarIds, car_part, car_parts, encoded, record_of, twice, has_car}
use Rattle.saved_record.specs.Store.{car_of, laid_car, empty_car, cars_of, store_of}
use Rattle.saved_record.proofs.Laws.{car_of_laid}
use Rattle.state.specs.declared.Kind.TheVariants.{CodeEntry}
use Rattle.state.specs.declared.Method.{Method}
use Rattle.state.specs.declared.Gate.{Gate}
use Rattle.state.specs.Running as Running
use Rattle.state.specs.Replies as Replies
use Rattle.state.specs.Replies.{no_code}
use Rattle.state.specs.Checks as Checks
use Rattle.state.specs.View.{view, car_in_range, store_in_range}
use Rattle.range.specs.Range as Range
use Rattle.policy.specs.Policy as Policy
use Rattle.policy_changes.specs.Changes as Changes
use Rattle.car_identity.specs.CarIdentity as CarIdentity
use Rattle.validations.specs.Store.{record_for}
use Rattle.save.specs.Save as Save
use Rattle.save.specs.Save.{no_save}
use Rattle.probe_window.specs.Window as Window
use Rattle.can_probe.specs.Calls as Probe
use Rattle.new_gate.specs.New.{least_settings, new_methods, new_core}
use Rattle.new_gate.specs.New as New
use Rattle.definition.specs.Gate.{new_gate_call, on_save, open_phone_validations_save, on_core, confirm_car_identity, heard_can_frame, open_identity_probe, after, after_all}
use Rattle.definition.specs.Gate as Gate

-- an id of length 1 without a byte
abbrev method : Method
method = record { id = record { bytes = []; len = 1 }; kind = CodeEntry; needs_approval = false }

-- what these gates compute through
unfoldable opened : Unit {0}
unfolding Range.within Range.settings_fit all_of Range.printable Range.method_fits Range.all_fit Range.methods_in Range.methods_fit Range.session_fits Range.tries_fit Range.window_fits Range.core_fits Range.save_fits Range.queue_fits Range.in_range Save.no_save view car_in_range store_in_range car_of laid_car empty_car cars_of store_of has_car twice some_of phones_of id_bytes id_in_range id_of too_long list_of joined ids_in list_in_range padded Running.clean_method New.new_methods New.new_core New.made_core Gate.says Gate.left Gate.gives Gate.step Gate.said Gate.saying Gate.served Replies.reply Replies.quiet Checks.checked Changes.policy_changed CarIdentity.confirm_platform Policy.fingerprint_confirmed Policy.is_fd_bus Window.is_awake Window.is_bus_awake Window.heard_at Window.probe_needed Window.ids_in_range Window.new_window Probe.is_valid_probe Probe.window_changed Probe.open_probe Probe.heard
opened = tt

methods_needed : (g : Gate) → Range.in_range (view (after g (new_gate_call least_settings [] 1))) ≡ false
unfolding opened
methods_needed g = refl

bytes_needed : (g : Gate) → Range.in_range (view (after g (new_gate_call least_settings (replicate 8 method) 1))) ≡ false
unfolding opened
bytes_needed g = refl

frames_needed : (g : Gate)
    → Range.in_range (view (after_all (after g (new_gate_call least_settings [] 0)) (on_core confirm_car_identity ∷ on_core (heard_can_frame 0 0) ∷ on_core (open_identity_probe 0 [] 1 0) ∷ []))) ≡ false
unfolding opened
frames_needed g = refl

-- a gate whose store has one car, with a phone
abbrev storing : List ℕ → Gate
storing car = record {
  core = new_core least_settings (new_methods [] 0);
  phones = record { paired = list_of []; store = store_of (record { car = car; phones = (1 ∷ []) ∷ [] } ∷ []) };
  save = no_save;
  queue = New.new_queue;
  code = no_code;
}

too_long_lem : (c : CarIds) → 4358 < length c.car → Range.save_fits (Save.opening (c ∷ [])).save ≡ false
unfolding Save.opening Range.save_fits Range.within record_for record_of encoded car_parts car_part
too_long_lem c h =
    let n = length (encoded (c ∷ [])) in
    let l : 4358 < n = rw (length-append, length-append) (omega arith) in
    rw (le-ltb n 0 (omega arith), lt-ltb 4358 n l)

digests_needed : (car : List ℕ) → 4358 < length car → (Range.in_range (view (storing car)) ≡ true) × (Range.in_range (view (after (storing car) (on_save open_phone_validations_save))) ≡ false)
unfolding opened Gate.saving
digests_needed car h = (refl, let c : CarIds = record { car = car; phones = (1 ∷ []) ∷ [] } in rw (car_of_laid c) (ap (λ (b : Bool). b && true) (too_long_lem c h)))
