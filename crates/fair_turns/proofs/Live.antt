-- `Fair` is about something, and its bound is the least: from a new gate, two commands wait on each bus; bus 3 is the one last served, so its
-- first is decided by turn 4 and its second by turn 8, and no sooner.
use Prim.Native.Nat.{ℕ, suc, ◌<◌, ◌≤◌}
use mathlib.Core.Path.{◌≡◌, refl}
use mathlib.Core.Bool.{true}
use mathlib.Core.List.{List, [], ◌∷◌, map}
use native.Mathlib.Omega.{arith}
use lib.ListN.{length, replicate}
use Rattle.arrays.specs.Arrays.{padded}
use Rattle.phones.specs.Ids.{all_of, joined, some_of}
use Rattle.phones.specs.Phones.{id_bytes, id_in_range, id_of, ids_in, list_in_range, list_of, phones_of, too_long}
use Rattle.frames.specs.declared.Id.TheVariants.{Standard}
use Rattle.frames.specs.declared.CanFrame.{CanFrame}
use Rattle.frames.specs.declared.TxClass.TheVariants.{Command}
use Rattle.waiting_list.specs.Queue as Queue
use Rattle.waiting_list.specs.Queue.{blank}
use Rattle.waiting_list.specs.Fair as Before
use Rattle.saved_record.specs.SavedRecord.{twice}
use Rattle.saved_record.specs.Store.{car_of, laid_car, empty_car, cars_of, store_of}
use Rattle.state.specs.declared.Decided.{Decided}
use Rattle.state.specs.Running as Running
use Rattle.state.specs.Checks.{checked}
use Rattle.state.specs.Replies as Replies
use Rattle.state.specs.View.{view, car_in_range, store_in_range}
use Rattle.range.specs.Range as Range
use Rattle.can.specs.Can as Can
use Rattle.save.specs.Save as Save
use Rattle.can_tx.specs.Tx as Tx
use Rattle.can_queue.specs.Calls as CanQueue
use Rattle.can_turns.specs.Turns as CanTurns
use Rattle.new_gate.specs.New as New
use Rattle.definition.specs.Gate as Gate
use Rattle.definition.specs.Gate.{Call, on_queue, on_core, step}
use Rattle.definition.specs.Cases.{new, phone}
use Rattle.fair_turns.specs.Turns.{Host, count_of, host_after, TakesTurns, serve}
use Rattle.fair_turns.specs.Fair.{Unaltered, end, next, all_took, turns_until, bound, InTime}
use Rattle.fair_turns.proofs.Fair.{fair}

-- ---- frames that wait

-- the n-th frame, on this bus
abbrev frame : ℕ → ℕ → CanFrame
frame bus n = record { bus = bus; id = Standard n; «data» = replicate 8 0; dlc = 8 }

abbrev send : Host → ℕ → ℕ → Call
send s bus n = on_queue (Gate.send_can_frame s.list (frame bus n) Command phone)

-- one frame more on each of these buses, the first of them the n-th
abbrev sent : Host → ℕ → List ℕ → Host
sent s n [] = s
sent s n (b ∷ bs) = sent (host_after s (send s b n)) (suc n) bs

-- at places 0 to 7
abbrev first : Host
first = sent (record { gate = new; list = replicate 16 blank }) 0 (0 ∷ 0 ∷ 1 ∷ 1 ∷ 2 ∷ 2 ∷ 3 ∷ 3 ∷ [])

-- ---- eight turns, in two runs; meanwhile a frame is sent on bus 0, and logging is noted

abbrev one : Host
one = host_after first (serve first 3 1_000)

abbrev two : Host
two = host_after one (send one 0 8)

abbrev three : Host
three = host_after two (on_core (Gate.note_can_logging true))

abbrev calls : List Call
calls = serve first 3 1_000 ∷ send one 0 8 ∷ on_core (Gate.note_can_logging true) ∷ serve three 5 2_000 ∷ []

unaltered : Unaltered first calls
unaltered = next refl refl (next refl refl (next refl tt (next refl refl end)))

pub record Examples : Type 0 where
  pub serves : TakesTurns first
  pub waits : 7 < count_of first
  pub many : bound first 7 ≤ length (all_took first calls).entries
  -- in which order they are decided, by their numbers
  pub order : map (λ (d : Decided). d.frame.id) (all_took first calls).entries ≡ map Standard (0 ∷ 2 ∷ 4 ∷ 6 ∷ 1 ∷ 3 ∷ 5 ∷ 7 ∷ [])
  -- 4 × (0 + 1) turns, the last of which decides it
  pub first_bound : bound first 6 ≡ 4
  pub first_until : turns_until 6 (all_took first calls).places ≡ 3
  -- 4 × (1 + 1) turns, the last of which decides it
  pub second_bound : bound first 7 ≡ 8
  pub second_until : turns_until 7 (all_took first calls).places ≡ 7

pub examples : Examples
unfolding padded joined all_of some_of id_bytes id_in_range id_of ids_in list_in_range list_of phones_of too_long twice car_of laid_car empty_car cars_of store_of Running.method_at Running.clean_method Running.in_progress checked Replies.leave Replies.quiet Replies.reply view car_in_range store_in_range Range.within Range.settings_fit Range.printable Range.method_fits Range.all_fit Range.methods_in Range.methods_fit Range.tries_fit Range.session_fits Range.window_fits Range.core_fits Range.save_fits Range.queue_fits Range.in_range Save.no_save Tx.allow Can.note_logging Queue.waiting_of Queue.oldest_on Queue.has_one Queue.first_that Queue.next_bus Queue.next_place Queue.moved Queue.closed_up Queue.with_one Before.before Before.follow CanQueue.sending CanTurns.turn CanTurns.turns CanTurns.turns_taken CanTurns.serving CanTurns.report_of New.new_methods New.new_core New.made_core New.new_gate Gate.saying Gate.served Gate.queueing Gate.said Gate.says Gate.left Gate.gives step
examples = record {
  serves = record { ranged = refl; sixteen = refl };
  waits = omega arith;
  many = omega arith;
  order = refl;
  first_bound = refl;
  first_until = refl;
  second_bound = refl;
  second_until = refl;
}

-- what the claim says of the second
pub second : InTime first 7 (all_took first calls)
second = fair.taken first 7 calls examples.serves examples.waits unaltered examples.many
