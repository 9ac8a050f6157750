-- What becomes of a frame that waits: some turn decides it, or it waits on, nearer to its turn. One law joins two stretches of turns.
use Prim.Native.Nat.{ℕ, suc, ◌+◌, ◌<◌, ◌≤◌}
use mathlib.Core.Path.{◌≡◌, refl, ap, ◌∙◌}
use mathlib.Core.Bool.{Bool, true, false}
use mathlib.Core.List.{List, [], ◌∷◌, ◌++◌, append_assoc}
use native.Mathlib.Nat.{mod-lt}
use native.Mathlib.Omega.{arith}
use borrow.Author.Tests.{eqb-true, eqb-false}
use lib.Dec.{eqb}
use lib.ListN.{length, get_or, length-append, get_or-append}
use lib.Seq.{get_or-append-add}
use Rattle.waiting_list.specs.declared.Waiting.{Waiting}
use Rattle.waiting_list.specs.Queue.{record_at, under_bus, waiting_of, with_one}
use Rattle.waiting_list.specs.Fair.{follow, turns_left}
use Rattle.waiting_list.proofs.Fair.{taken_bus, turn_follows, turn_falls, send_follows, send_keeps}
use Rattle.waiting_list.proofs.Places.{closed_up_length}
use Rattle.state.specs.declared.Decided.{Decided}
use Rattle.state.specs.declared.Gate.{Gate}
use Rattle.state.specs.declared.Queue.{Queue}
use Rattle.state.specs.View.{lists_in}
use Rattle.can_turns.specs.Turns.{Serving, turn, no_decision}
use Rattle.fair_turns.specs.Turns.{Host, next_of}
use Rattle.fair_turns.specs.Fair.{Took, no_turns, joined, turns_until}
use Rattle.fair_turns.proofs.Ranged.{host_of, entry_of}

-- the frame at p waits
pub record Stands (q : Queue) (l : List Waiting) (p : ℕ) : Type 0 where
  pub waits : p < q.count
  pub few : q.count ≤ 16
  pub bus : q.last < 4
  pub sixteen : length l ≡ 16

-- how many turns at most go by before the one that decides it
abbrev pub left_of : Queue → List Waiting → ℕ → ℕ
left_of q l p = turns_left q.last (waiting_of l q.count) p

-- from s on come these turns, and then t: the frame at p of s is decided by turn i, or waits at p' of t
pub data Fate (s : Host) (p : ℕ) (a : Took) (t : Host) : Type 0 where
  decided : (i : ℕ) → i < length a.entries → i ≤ left_of s.gate.queue s.list p → ((ts : List ℕ) → turns_until p (a.places ++ ts) ≡ i)
      → (get_or a.entries i no_decision).frame ≡ (under_bus (record_at s.list p)).frame → Fate s p a t
  waits : (p' : ℕ) → Stands t.gate.queue t.list p' → record_at t.list p' ≡ record_at s.list p
      → left_of t.gate.queue t.list p' + length a.entries ≤ left_of s.gate.queue s.list p
      → ((ts : List ℕ) → turns_until p (a.places ++ ts) ≡ length a.entries + turns_until p' ts) → Fate s p a t

-- ---- one stretch behind another

module _ (s t u : Host) (p : ℕ) (a b : Took) where
  again : (p' : ℕ) → Fate t p' b u → Stands t.gate.queue t.list p' → record_at t.list p' ≡ record_at s.list p
      → left_of t.gate.queue t.list p' + length a.entries ≤ left_of s.gate.queue s.list p
      → ((ts : List ℕ) → turns_until p (a.places ++ ts) ≡ length a.entries + turns_until p' ts) → Fate s p (joined a b) u
  again p' (decided i l k m f) h e n o =
      decided (length a.entries + i) (omega (arith, length-append a.entries b.entries)) (omega arith)
      (λ ts. ap (turns_until p) (append_assoc a.places b.places ts) ∙ o (b.places ++ ts) ∙ ap (λ (j : ℕ). length a.entries + j) (m ts))
      (ap (λ (d : Decided). d.frame) (get_or-append-add a.entries b.entries i no_decision) ∙ f ∙ ap (λ (w : Waiting). (under_bus w).frame) e)
  again p' (waits p'' h' e' n' o') h e n o =
      waits p'' h' (e' ∙ e) (omega (arith, length-append a.entries b.entries))
      (λ ts. let x = o (b.places ++ ts) in let y = o' ts in ap (turns_until p) (append_assoc a.places b.places ts) ∙ omega (arith, length-append a.entries b.entries))

  pub and_then : Fate s p a t → ((p' : ℕ) → Stands t.gate.queue t.list p' → Fate t p' b u) → Fate s p (joined a b) u
  and_then (decided i l k m f) next =
      decided i (omega (arith, length-append a.entries b.entries)) k
      (λ ts. ap (turns_until p) (append_assoc a.places b.places ts) ∙ m (b.places ++ ts))
      (ap (λ (d : Decided). d.frame) (get_or-append a.entries b.entries no_decision i l) ∙ f)
  and_then (waits p' h e n o) next = again p' (next p' h) h e n o

-- ---- no turn

-- nothing of what waits changes
pub same_host : (s t : Host) (p : ℕ) → t.gate.queue ≡ s.gate.queue → t.list ≡ s.list → Stands s.gate.queue s.list p → Fate s p no_turns t
same_host s t p e f h = waits p (rw (e, f) h) (ap (λ (l : List Waiting). record_at l p) f) (rw (e, f) (omega arith)) (λ ts. omega arith)

-- a frame is sent
pub one_more : (s t : Host) (p : ℕ) (w : Waiting) → t.gate.queue ≡ record { count = suc s.gate.queue.count; last = s.gate.queue.last } → t.list ≡ with_one s.list s.gate.queue.count w
    → s.gate.queue.count < 16 → Stands s.gate.queue s.list p → Fate s p no_turns t
unfolding with_one
one_more s t p w e f room h =
    let l = s.list in
    let q = s.gate.queue in
    let fits : q.count < length l = omega (arith, h.sixteen) in
    let x = send_follows l q.count q.last p h.bus h.waits w fits in
    waits p (rw (e, f) (record { waits = x.waits; few = omega arith; bus = h.bus; sixteen = lib.ListN.length-set l q.count w ∙ h.sixteen }))
    (ap (λ (m : List Waiting). record_at m p) f ∙ x.same)
    (rw (e, f, send_keeps l q.count q.last p h.bus h.waits w fits) (omega arith))
    (λ ts. omega arith)

-- ---- a turn

module _ (g : Gate) (clock : ℕ) (x : Serving) (p : ℕ) (h : Stands x.queue x.list p) where
  abbrev t : ℕ
  t = next_of (host_of g x)

  fits : x.queue.count ≤ length x.list
  fits = omega (arith, h.few, h.sixteen)

  pub one_turn : Fate (host_of g x) p (record { places = t ∷ []; entries = entry_of g clock x ∷ [] }) (host_of g (turn (lists_in g.phones) clock x))
  unfolding turn
  one_turn = go (eqb t p) refl
    where
      go : (b : Bool) → eqb t p ≡ b → Fate (host_of g x) p (record { places = t ∷ []; entries = entry_of g clock x ∷ [] }) (host_of g (turn (lists_in g.phones) clock x))
      go true e = decided 0 (omega arith) (omega arith) (λ ts. rw e) (ap (λ (i : ℕ). (under_bus (record_at x.list i)).frame) (eqb-true t p e))
      go false e =
          let l = x.list in
          let n = x.queue.count in
          let last = x.queue.last in
          let passes = eqb-false t p e in
          let r = turn_follows l n last p h.bus h.waits fits passes in
          let b = taken_bus l n last fits h.bus (omega (arith, h.waits)) in
          waits (follow t p)
          (record { waits = r.waits; few = omega (arith, h.few); bus = mod-lt (record_at l t).frame.bus (omega arith); sixteen = closed_up_length l t n ∙ h.sixteen })
          r.same
          (rw b (omega (arith, turn_falls l n last p h.bus h.waits fits passes)))
          (λ ts. rw e (omega arith))
