-- The heart of W-204's claim: with each turn that does not decide a frame the turns left to it fall, whatever else waits.
use mathlib.Core.Path.{◌≡◌, refl, sym, ap, ◌∙◌}
use mathlib.Core.Bool.{Bool, true, false, cond}
use mathlib.Core.List.{List, [], ◌∷◌}
use Prim.Native.Nat.{ℕ, suc, ◌+◌, ◌-◌, ◌*◌, ◌%◌, ◌<◌, ◌≤◌}
use native.Mathlib.Nat.{mod-lt}
use native.Mathlib.Omega.{arith}
use borrow.Author.Tests.{ltb-true, ltb-false, ne_eqb}
use lib.Dec.{eqb, ltb}
use lib.ListN.{length, length-set, get_or-append}
use lib.Seq.{get_or-set_other}
use Rattle.waiting_list.specs.declared.Waiting.{Waiting}
use Rattle.waiting_list.specs.Queue.{blank, record_at, waiting_of, bus_of, oldest_on, has_one, next_bus, next_place, closed_up, with_one}
use Rattle.waiting_list.specs.Fair.{before, gone, follow, turns_left}
use Rattle.waiting_list.proofs.Gone.{oldest_on_lem, oldest_least, has_one_lem, gone_length, gone_below, gone_above, before_below, before_above, before_more}
use Rattle.waiting_list.proofs.Oldest.{waiting_length, waiting_at_lem}
use Rattle.waiting_list.proofs.Places.{closed_up_length, waiting_left, waiting_more}
use Rattle.waiting_list.proofs.Round.{nearer, next_nearer}

bus_below : (w : Waiting) → bus_of w < 4
bus_below w = mod-lt w.frame.bus (omega arith)

-- ---- a turn, while the frame at p waits and the last served is a bus
module _ (last : ℕ) (ws : List Waiting) (p : ℕ) (bus : last < 4) (waits : p < length ws) where
  abbrev b : ℕ
  b = bus_of (record_at ws p)

  next : (has_one ws (next_bus last ws) ≡ true) × (nearer last b (next_bus last ws) ≡ true)
  next = next_nearer ws last b bus (bus_below (record_at ws p)) (has_one_lem ws p waits)

  -- it takes a frame that waits, of the bus that is served
  pub takes_one : next_place last ws < length ws
  unfolding next_place has_one
  takes_one = ltb-true (oldest_on (next_bus last ws) ws) (length ws) next.0

  pub takes_bus : bus_of (record_at ws (next_place last ws)) ≡ next_bus last ws
  unfolding next_place
  takes_bus = oldest_on_lem (next_bus last ws) ws takes_one

  -- which is a bus again
  pub next_bus_below : next_bus last ws < 4
  next_bus_below = rw takes_bus at (bus_below (record_at ws (next_place last ws)))

  -- the frames of a bus are taken in the order of their places
  pub oldest_first : b ≡ next_bus last ws → next_place last ws ≤ p
  unfolding next_place
  oldest_first e = oldest_least (next_bus last ws) ws p waits e

  -- ---- if it does not take the frame at p
  module _ (passes : next_place last ws ≡ p → ⊥) where
    abbrev t : ℕ
    t = next_place last ws

    abbrev q : ℕ
    q = follow t p

    -- then that frame waits one place further forward, or where it was
    pub same_frame_lem : record_at (gone t ws) q ≡ record_at ws p
    unfolding follow
    same_frame_lem = go (ltb t p) refl
      where
        go : (s : Bool) → ltb t p ≡ s → record_at (gone t ws) (cond s (p - 1) p) ≡ record_at ws p
        go true e = gone_above t (p - 1) ws (omega (arith, ltb-true t p e)) ∙ ap (record_at ws) (omega (arith, ltb-true t p e))
        go false e = gone_below t p ws (omega (arith, ltb-false t p e, passes))

    pub still_waits : q < length (gone t ws)
    unfolding follow
    still_waits = go (ltb t p) refl (gone_length t ws takes_one)
      where
        go : (s : Bool) → ltb t p ≡ s → length ws ≡ suc (length (gone t ws)) → cond s (p - 1) p < length (gone t ws)
        go true e r = omega (arith, ltb-true t p e, waits)
        go false e r = omega (arith, ltb-false t p e, passes, takes_one)

    -- one fewer stands before it if its bus was served, and as many as before if another was
    one_fewer : before b ws p ≡ cond (eqb (next_bus last ws) b) 1 0 + before b (gone t ws) q
    unfolding follow
    one_fewer = go (ltb t p) refl
      where
        go : (s : Bool) → ltb t p ≡ s → before b ws p ≡ cond (eqb (next_bus last ws) b) 1 0 + before b (gone t ws) (cond s (p - 1) p)
        go true e =
            ap (before b ws) (omega (arith, ltb-true t p e)) ∙ before_above b t (p - 1) ws (omega (arith, ltb-true t p e)) takes_one ∙
            ap (λ (u : ℕ). cond (eqb u b) 1 0 + before b (gone t ws) (p - 1)) takes_bus
        go false e = rw (ne_eqb (next_bus last ws) b (λ (r : next_bus last ws ≡ b). omega (arith, ltb-false t p e, passes, oldest_first (sym r)))) (omega (arith, before_below b t p ws (ltb-false t p e)))

    pub turns_fall : turns_left (next_bus last ws) (gone t ws) q < turns_left last ws p
    unfolding turns_left
    turns_fall = rw same_frame_lem (go (eqb (next_bus last ws) b) one_fewer next.1)
      where
        go : (s : Bool) → before b ws p ≡ cond s 1 0 + before b (gone t ws) q → cond s true (ltb ((b + 3 - next_bus last ws) % 4) ((b + 3 - last) % 4)) ≡ true
            → 4 * before b (gone t ws) q + (b + 3 - next_bus last ws) % 4 < 4 * before b ws p + (b + 3 - last) % 4
        go true k n = omega (arith, k, mod-lt (b + 3 - next_bus last ws) {m = 4} (omega arith))
        go false k n = omega (arith, k, ltb-true ((b + 3 - next_bus last ws) % 4) ((b + 3 - last) % 4) n)

-- at most 4 × k + 3 turns go by, so one of 4 × (k + 1) decides it
pub turns_bounded : (last : ℕ) (ws : List Waiting) (p : ℕ) → turns_left last ws p < 4 * (before (bus_of (record_at ws p)) ws p + 1)
unfolding turns_left
turns_bounded last ws p = omega (arith, mod-lt (bus_of (record_at ws p) + 3 - last) {m = 4} (omega arith))

-- ---- over a list of which the first n wait

-- a turn takes one of them, and it is on the bus that is served
module _ (l : List Waiting) (n last : ℕ) (fits : n ≤ length l) (bus : last < 4) (some : 0 < n) where
  first_waits : 0 < length (waiting_of l n)
  first_waits = omega (arith, waiting_length l n)

  pub taken_below : next_place last (waiting_of l n) < n
  taken_below = omega (arith, waiting_length l n, takes_one last (waiting_of l n) 0 bus first_waits)

  pub taken_bus : bus_of (record_at l (next_place last (waiting_of l n))) ≡ next_bus last (waiting_of l n)
  taken_bus = ap bus_of (sym (waiting_at_lem l n (next_place last (waiting_of l n)) taken_below)) ∙ takes_bus last (waiting_of l n) 0 bus first_waits

-- the frame at p of l waits at p' of l', where n' wait and `last'` was served
pub record Follows (l : List Waiting) (p : ℕ) (l' : List Waiting) (n' last' p' : ℕ) : Type 0 where
  pub waits : p' < n'
  pub same : record_at l' p' ≡ record_at l p
  pub fits : n' ≤ length l'
  pub bus : last' < 4

module _ (l : List Waiting) (n last p : ℕ) (bus : last < 4) (waits : p < n) where
  abbrev line : List Waiting
  line = waiting_of l n

  in_line : n ≤ length l → p < length line
  in_line fits = omega (arith, waiting_length l n, waits)

  -- a turn that does not decide it: it waits on, and fewer turns are left to it
  module _ (fits : n ≤ length l) (passes : next_place last line ≡ p → ⊥) where
    abbrev place : ℕ
    place = next_place last line

    abbrev rest : List Waiting
    rest = closed_up l place n

    here : p < length line
    here = in_line fits

    left : waiting_of rest (n - 1) ≡ gone place line
    left = waiting_left l place n (taken_below l n last fits bus (omega arith)) fits

    there : follow place p < n - 1
    there = omega (arith, waiting_length l n, fits, still_waits last line p bus here passes, gone_length place line (takes_one last line p bus here))

    pub turn_follows : Follows l p rest (n - 1) (next_bus last line) (follow place p)
    turn_follows = record {
      waits = there;
      same = sym (waiting_at_lem rest (n - 1) (follow place p) there) ∙ ap (λ (m : List Waiting). record_at m (follow place p)) left ∙ same_frame_lem last line p bus here passes ∙ waiting_at_lem l n p waits;
      fits = omega (arith, fits, closed_up_length l place n);
      bus = next_bus_below last line p bus here;
    }

    pub turn_falls : turns_left (next_bus last line) (waiting_of rest (n - 1)) (follow place p) < turns_left last line p
    turn_falls = rw left (turns_fall last line p bus here passes)

  -- a frame that is sent meanwhile: it waits where it did, and as many turns are left to it
  module _ (w : Waiting) (fits : n < length l) where
    pub send_follows : Follows l p (with_one l n w) (suc n) last p
    unfolding with_one
    send_follows = record {
      waits = omega arith;
      same = get_or-set_other l n p w blank (omega arith);
      fits = omega (arith, length-set l n w);
      bus = bus;
    }

    pub send_keeps : turns_left last (waiting_of (with_one l n w) (suc n)) p ≡ turns_left last line p
    unfolding turns_left
    send_keeps = rw (waiting_more l n w fits, get_or-append line (w ∷ []) blank p (in_line (omega arith)), before_more (bus_of (record_at line p)) p line (w ∷ []) (omega (arith, in_line (omega arith))))
