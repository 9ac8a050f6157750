-- W-204: "A frame with k before it on its bus, none altered meanwhile, is decided within 4 × (k + 1) turns". `Fair`, at the end, is the claim.
use Rattle.std.specs.Prelude.{ℕ, zero, suc, ◌+◌, ◌*◌, ◌<◌, ◌≤◌, ◌≡◌, Bool, true, false, cond, List, [], ◌∷◌, ◌++◌, eqb, length, get_or}
use Rattle.waiting_list.specs.declared.Waiting.{Waiting}
use Rattle.waiting_list.specs.Queue.{record_at, bus_of, under_bus}
use Rattle.waiting_list.specs.Fair.{before, follow}
use Rattle.state.specs.declared.Decided.{Decided}
use Rattle.can_turns.specs.Turns.{no_decision}
use Rattle.definition.specs.Gate.{QueueCall, send_can_frame, serve_can_frames, Call, new_gate_call, start_validation, submit_validation_code, on_session, on_lists, on_save, on_queue, on_core, ask, Lent, nothing, bytes, records, lent_to}
use Rattle.fair_turns.specs.Turns.{Host, count_of, host_after, TakesTurns, reported, entries, serve, before_turn, next_of}

-- ---- the calls

-- any call but New gate, at which none waits any more
abbrev pub goes_on : Call → Bool
goes_on (new_gate_call settings methods count) = false
goes_on (start_validation phone method clock random) = true
goes_on (submit_validation_code phone typed clock) = true
goes_on (on_session k) = true
goes_on (on_lists k) = true
goes_on (on_save k) = true
goes_on (on_queue k) = true
goes_on (on_core k) = true
goes_on (ask q) = true

-- a call that is lent records is lent these
abbrev pub Lends : List Waiting → Lent → Type 0
Lends ws nothing = Unit {0}
Lends ws (bytes b) = Unit {0}
Lends ws (records l) = l ≡ ws

-- "none altered meanwhile": the first send or serve is lent this list, and each later one the list as the one before it left it. Other
-- calls, and frames that are sent meanwhile, are free
pub data Unaltered : Host → List Call → Type 0 where
  end : {s : Host} → Unaltered s []
  next : {s : Host} {k : Call} {ks : List Call} → goes_on k ≡ true → Lends s.list (lent_to k) → Unaltered (host_after s k) ks → Unaltered s (k ∷ ks)

-- ---- their turns

-- the places that turns take, and what is reported of each
pub record Took : Type 0 where
  pub places : List ℕ
  pub entries : List Decided

abbrev pub no_turns : Took
no_turns = record { places = []; entries = [] }

-- the places of a run of n turns
abbrev pub places_of : Host → ℕ → ℕ → List ℕ
places_of s clock zero = []
places_of s clock (suc n) = places_of s clock n ++ (next_of (before_turn s clock n) ∷ [])

-- of a call that is lent the host's list
abbrev pub took_by : Host → QueueCall → Took
took_by s (send_can_frame list frame class owner) = no_turns
took_by s (serve_can_frames list turns clock) =
    let k = on_queue (serve_can_frames list turns clock) in
    record { places = places_of s clock (reported s.gate k).turns; entries = entries s.gate k }

abbrev pub took : Host → Call → Took
took s (new_gate_call settings methods count) = no_turns
took s (start_validation phone method clock random) = no_turns
took s (submit_validation_code phone typed clock) = no_turns
took s (on_session k) = no_turns
took s (on_lists k) = no_turns
took s (on_save k) = no_turns
took s (on_queue k) = took_by s k
took s (on_core k) = no_turns
took s (ask q) = no_turns

-- those of one, and then those of the other
abbrev pub joined : Took → Took → Took
joined a b = record { places = a.places ++ b.places; entries = a.entries ++ b.entries }

abbrev pub all_took : Host → List Call → Took
all_took s [] = no_turns
all_took s (k ∷ ks) = joined (took s k) (all_took (host_after s k) ks)

-- of turns that take these places, how many go by before the one that decides the frame at p: one that takes p decides it, one that takes a
-- place before p makes its place one less, one that takes a place behind p keeps it. All of them, if none decides it
abbrev pub turns_until : ℕ → List ℕ → ℕ
turns_until p [] = 0
turns_until p (t ∷ ts) = cond (eqb t p) 0 (suc (turns_until (follow t p) ts))

-- ---- the claim

-- 4 × (k + 1)
abbrev pub bound : Host → ℕ → ℕ
bound s p = 4 * (before (bus_of (record_at s.list p)) s.list p + 1)

-- one of these turns, which come from here on, decides the frame at p in time, and reports it
pub record InTime (s : Host) (p : ℕ) (a : Took) : Type 0 where
  pub each : length a.places ≡ length a.entries
  pub within : turns_until p a.places < bound s p
  pub frame : (get_or a.entries (turns_until p a.places) no_decision).frame ≡ (under_bus (record_at s.list p)).frame

pub record Fair : Type 0 where
  -- a frame that waits, and calls that take so many turns
  pub taken : (s : Host) (p : ℕ) (ks : List Call) → TakesTurns s → p < count_of s → Unaltered s ks → bound s p ≤ length (all_took s ks).entries
      → InTime s p (all_took s ks)
  -- and one run that is given so many, be it that fewer wait
  pub given : (s : Host) (p n clock : ℕ) → TakesTurns s → p < count_of s → bound s p ≤ n → InTime s p (took s (serve s n clock))
