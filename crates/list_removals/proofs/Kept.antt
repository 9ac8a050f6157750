-- The loop that keeps the ids on which a test passes.
use Rattle.std.proofs.Common.{◌≡◌, refl, sym, ap, ◌∙◌, ℕ, ◌+◌, ◌<◌, ◌≤◌, arith, Bool, true, false, cond, List, [], ◌∷◌, ◌++◌, length, get_or, length-append, append_assoc}
use mathlib.Core.List.{append-nil}
use Rattle.std.proofs.Math.Seq.{get_or-append_seam}
use denote.Ref.{Bor}
use borrow.Author.Tests.{lt-ltb, le-ltb}
use Rattle.phones.specs.Ids.{joined, keep_where, room_for}
use Rattle.phones.proofs.Laws.{joined_snoc, joined_reach}
use Rattle.list_removals.specs.Marks.{Answers}

keep_snoc : {A : Type 0} (ms : List Bool) (xs : List A) (x : A) → keep_where ms (xs ++ (x ∷ [])) ≡ keep_where ms xs ++ cond (get_or ms (length xs) false) (x ∷ []) []
unfolding keep_where
keep_snoc [] [] x = refl
keep_snoc (m ∷ ms) [] x = refl
keep_snoc [] (y ∷ ys) x = refl
keep_snoc {A = A} (m ∷ ms) (y ∷ ys) x = rw (keep_snoc ms ys x) (go m (keep_where ms ys) (cond (get_or ms (length ys) false) (x ∷ []) []))
  where
    go : (t : Bool) (a b : List A) → cond t (y ∷ (a ++ b)) (a ++ b) ≡ cond t (y ∷ a) a ++ b
    go true a b = refl
    go false a b = refl

module _ (post : ℕ → Bor (List ℕ) → Bool → Type 0) (ps : List (List ℕ)) where
  -- where the loop stands: `kept` are those of the ids that are not left on which the test passed
  pub record Keeping (left : List (List ℕ)) (at : ℕ) (kept : List (List ℕ)) : Type 0 where
    pub done : List (List ℕ)
    pub all : ps ≡ done ++ left
    pub place : at ≡ length done
    pub fewer : length kept ≤ length done
    pub shorter : length (joined kept) ≤ length (joined done)
    pub marks : (ms : List Bool) → Answers post ps ms → kept ≡ keep_where ms done

  pub keeping_start : Keeping ps 0 []
  unfolding keep_where
  keeping_start = record { done = []; all = refl; place = refl; fewer = omega arith; shorter = omega arith; marks = λ ms h. refl }

  module _ (left : List (List ℕ)) (at : ℕ) (kept : List (List ℕ)) (k : Keeping left at kept) where
    pub keeping_end : left ≡ [] → (ms : List Bool) → Answers post ps ms → kept ≡ keep_where ms ps
    keeping_end e ms h = k.marks ms h ∙ ap (keep_where ms) (sym (k.all ∙ ap (λ (qs : List (List ℕ)). k.done ++ qs) e ∙ append-nil k.done))

    module _ (id : Bor (List ℕ)) (others : List (List ℕ)) (e : left ≡ id.now ∷ others) where
      whole : ps ≡ k.done ++ (id.now ∷ others)
      whole = k.all ∙ ap (λ (qs : List (List ℕ)). k.done ++ qs) e

      pub place_below : length ps ≤ 32 → at < 32
      place_below h = let a = k.place in let l = ap length whole ∙ length-append k.done (id.now ∷ others) in omega arith

      answer : (b : Bool) → post at id b → (ms : List Bool) → Answers post ps ms → b ≡ get_or ms (length k.done) false
      answer b p ms h =
          let l = ap length whole ∙ length-append k.done (id.now ∷ others) in
          let here : id.now ≡ get_or ps at [] = rw (whole, k.place) (sym (get_or-append_seam k.done id.now others [])) in
          let a = k.place in
          h at id b (omega arith) here p ∙ ap (λ (n : ℕ). get_or ms n false) k.place

      pub room : length ps ≤ 32 → length (joined ps) ≤ 1024 → room_for id.now kept ≡ true
      unfolding room_for
      room h j =
          let f = k.fewer in
          let s = k.shorter in
          let l = ap length whole ∙ length-append k.done (id.now ∷ others) in
          let r = joined_reach k.done others id.now in
          let w = ap (λ (qs : List (List ℕ)). length (joined qs)) whole in
          rw (lt-ltb (length kept) 32 (omega arith), le-ltb 1024 (length (joined kept) + length id.now) (omega arith))

      pub keeping_on : post at id true → Keeping others (at + 1) (kept ++ (id.now ∷ []))
      keeping_on p =
          let f = k.fewer in
          let s = k.shorter in
          let a = k.place in
          record {
            done = k.done ++ (id.now ∷ []);
            all = whole ∙ sym (append_assoc k.done (id.now ∷ []) others);
            place = rw length-append (omega arith);
            fewer = rw (length-append, length-append) (omega arith);
            shorter = rw (joined_snoc, joined_snoc, length-append, length-append) (omega arith);
            marks = λ ms h. rw (keep_snoc ms k.done id.now, ← answer true p ms h, ← k.marks ms h);
          }

      pub keeping_past : post at id false → Keeping others (at + 1) kept
      keeping_past p =
          let f = k.fewer in
          let s = k.shorter in
          let a = k.place in
          record {
            done = k.done ++ (id.now ∷ []);
            all = whole ∙ sym (append_assoc k.done (id.now ∷ []) others);
            place = rw length-append (omega arith);
            fewer = rw length-append (omega arith);
            shorter = rw (joined_snoc, length-append) (omega arith);
            marks = λ ms h. rw (keep_snoc ms k.done id.now, ← answer false p ms h, ← k.marks ms h, append-nil);
          }

    -- as many are left as there are turns to come
    pub few_left : at + length left ≡ length ps
    few_left = let a = k.place in let l = ap length k.all ∙ length-append k.done left in omega arith
