-- Laws of the host's list: sixteen records taken out and put back, what is lent of it, and what the two calls give on that.
use Rattle.std.proofs.Common.{◌≡◌, Bool, true, false, List, ◌++◌, ℕ, min, eqb, ltb, refl, arith, ltb-true, ltb-false, ne_eqb, length, take, drop, replicate, length-take}
use lib.Seq.{take_all, take-length, take_at, drop_at}
use Rattle.std.proofs.lemmas.List.{drop-replicate}
use Rattle.arrays.specs.Arrays.{padded}
use Rattle.phones.specs.Phones.{id_of}
use Rattle.phones.specs.declared.ShortId.{ShortId}
use Rattle.frames.specs.declared.CanFrame.{CanFrame}
use Rattle.frames.specs.declared.TxClass.{TxClass}
use Rattle.waiting_list.specs.declared.Waiting.{Waiting}
use Rattle.state.specs.declared.Outcome.{Outcome}
use Rattle.state.specs.declared.Ran.{Ran}
use Rattle.gate_queue.specs.declared.SentOn.{SentOn}
use Rattle.gate_queue.specs.declared.RanOn.{RanOn}
use Rattle.gate_queue.specs.Given.{sent_of, unsent_of, served_of, unserved_of}
use Rattle.gate_queue.proofs.Laws.{sends, sends_none, serves, serves_none}
use Rattle.replay_host.specs.declared.Host.{Host}
use Rattle.replay_host.specs.Host.{owner_of, lent_of, Sends, Serves}

-- ---- an owner

first_bytes : (s : List ℕ) (n : ℕ) → n ≡ min (length s) 32 → take n s ≡ take 32 s
first_bytes s n e = go (ltb 32 (length s)) refl
  where
    go : (b : Bool) → ltb 32 (length s) ≡ b → take n s ≡ take 32 s
    go true h = let f : n ≡ 32 = omega (arith, ltb-true 32 (length s) h) in rw f
    go false h = let f = ltb-false 32 (length s) h in let k : n ≡ length s = omega arith in rw (k, take-length s, take_all 32 s f)

pub owner_made : (s : List ℕ) (n : ℕ) → n ≡ min (length s) 32
    → ◌≡◌ {A = ShortId} (record { bytes = take n s ++ drop n (replicate 32 0); len = length s }) (owner_of s)
unfolding owner_of id_of padded
owner_made s n e =
    let first = first_bytes s n e in
    let kept : length (take 32 s) ≡ n = rw length-take (omega arith) in
    rw (first, kept, drop-replicate {X = ℕ} n 32 0)

-- ---- the calls

module _ (h : Host) where
  -- with sixteen lent
  module _ (whole : h.lent ≡ 16) (all : List Waiting) (first : all ≡ take 16 h.list) (l : List Waiting) where
    pub sends_sixteen : (frame : CanFrame) (class : TxClass) (owner : List ℕ) (s : SentOn) → s ≡ sent_of h.gate all frame class owner → length s.all ≡ 16
        → l ≡ s.all ++ drop 16 h.list → Sends h frame class owner (record { outcome = s.outcome; list = l })
    sends_sixteen frame class owner s e far k = record {
      gives = rw (whole, k, take_at s.all (drop 16 h.list) 16 far, e, first) (sends h.gate (take 16 h.list) frame class owner);
      rest = rw (whole, k, drop_at s.all (drop 16 h.list) 16 far);
    }

    pub serves_sixteen : (turns clock : ℕ) (s : RanOn) → s ≡ served_of h.gate all turns clock → length s.all ≡ 16
        → l ≡ s.all ++ drop 16 h.list → Serves h turns clock (record { ran = s.ran; list = l })
    serves_sixteen turns clock s e far k = record {
      gives = rw (whole, k, take_at s.all (drop 16 h.list) 16 far, e, first) (serves h.gate (take 16 h.list) turns clock);
      rest = rw (whole, k, drop_at s.all (drop 16 h.list) 16 far);
    }

  -- with another number lent
  module _ (other : h.lent ≡ 16 → ⊥) (far : length h.list ≡ 17) where
    other_length : eqb (length (lent_of h)) 16 ≡ false
    other_length = ne_eqb (length (lent_of h)) 16 (λ e. other (omega (arith, e, length-take h.lent h.list)))

    pub sends_other : (frame : CanFrame) (class : TxClass) (owner : List ℕ) (o : Outcome) → o ≡ unsent_of h.gate frame class owner → Sends h frame class owner (record { outcome = o; list = h.list })
    sends_other frame class owner o e = record { gives = rw e (sends_none h.gate (lent_of h) frame class owner other_length); rest = refl }

    pub serves_other : (turns clock : ℕ) (r : Ran) → r ≡ unserved_of h.gate → Serves h turns clock (record { ran = r; list = h.list })
    serves_other turns clock r e = record { gives = rw e (serves_none h.gate (lent_of h) turns clock other_length); rest = refl }
