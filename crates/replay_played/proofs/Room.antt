-- No line is ever cut: the room that a line takes, with the state behind it.
use mathlib.Core.Path.{◌≡◌, refl, ap, sym, ◌∙◌}
use mathlib.Core.Bool.{Bool, true, false, cond}
use mathlib.Core.List.{List, [], ◌∷◌, ◌++◌, map}
use Prim.Native.Nat.{ℕ, suc, ◌+◌, ◌^◌, ◌≤◌, ◌<◌}
use native.Mathlib.Omega.{arith}
use borrow.Author.Tests.{ltb-true}
use lib.Dec.{ltb, lit≤}
use lib.ListN.{length, take}
use mir.Val.{Val}
use Rattle.arrays.specs.Arrays.{same_bytes}
use Rattle.arrays.proofs.Laws.{both, same_bytes_is}
use Rattle.ascii.specs.Ascii.{ascii}
use Rattle.replay_calls.specs.Calls.{line_of}
use Rattle.replay_items.specs.Bytes.{Bytes, bytes_of}
use Rattle.replay_items.specs.Items.{read_of}
use Rattle.replay_items.specs.Takes.{takes}
use Rattle.replay_items.specs.declared.Items.{Items}
use Rattle.replay_items.proofs.Together.{output_half}
use Rattle.replay_lines.specs.Lent.{most_lent}
use Rattle.replay_page.specs.Page.{Page}
use Rattle.replay_page.specs.Room.{Within}
use Rattle.replay_lines.proofs.AnswerRoom.{Owned}
use Rattle.replay_page.proofs.Room.{◌⊕◌, upto, text_in, item_in}
use Rattle.replay_names.specs.Names as Names
use Rattle.replay_names.specs.Names.{table, rows}
use Rattle.replay_state.proofs.Room.{gate_in}
use Rattle.replay_state.specs.Whole as Whole
use Rattle.replay_given.specs.Turns.{Turn, turn_of, ran, turn_room, TurnFits}
use Rattle.replay_host.specs.declared.Host.{Host}
use Rattle.replay_given.specs.declared.Played.{Played}
use Rattle.replay_given.specs.contracts.Played as Played
use Rattle.state.specs.declared.Gate.{Gate}
use Rattle.word_table.specs.Words.{before, name_of, place_in}
use Rattle.replay_played.specs.Played.{begun, error_of, failed, ended, played_as, played, state_line, stated, with_state, most_read, played_room, PlayedFits, line_room, EveryLineFits, too_long}
use Rattle.replay_played.proofs.Laws.{played_host}

-- ---- the name of a line that is a call

abbrev all_below : ℕ → List (List ℕ) → Bool
all_below n [] = true
all_below n (w ∷ ws) = cond (ltb (length w) n) (all_below n ws) false

named_by : (t : Bool) (x w : List ℕ) (m n : ℕ) → same_bytes w (name_of x) ≡ t → length (name_of x) < 32 → (m < n → length w < 32) → cond t 0 (suc m) < suc n → length w < 32
named_by true x w m n e s f h = rw ((same_bytes_is w (name_of x)).0 e) s
named_by false x w m n e s f h = f (omega arith)

named : (rs : List (List ℕ)) (w : List ℕ) → all_below 32 (map name_of rs) ≡ true → place_in rs w < length rs → length w < 32
unfolding place_in
named [] w s h = absurd (omega arith)
named (x ∷ xs) w s h =
    let k = both (ltb (length (name_of x)) 32) (all_below 32 (map name_of xs)) s in
    named_by (same_bytes w (name_of x)) x w (place_in xs w) (length xs) refl (ltb-true (length (name_of x)) 32 k.0) (λ u. named xs w k.1 u) h

is_row : (name : ℕ) (i : Items) → takes name i ≡ true → name < length rows
unfolding takes Names.takes
is_row name i h = ltb-true name (length rows) (both (ltb name (length rows)) _ h).0

names_short : all_below 32 (map name_of rows) ≡ true
unfolding rows table name_of before
names_short = refl

-- ---- a line

-- what it lends
pub lent_most : (line : List ℕ) (b : Bytes) → b ≡ bytes_of line → length line ≤ most_read → length b.output ≤ most_lent
unfolding bytes_of
lent_most line b e h = rw e (omega (arith, output_half line))

begun_in : (n : ℕ) (w : List ℕ) → n < 2 ^ 64 → Within (31 + length w) (begun n w)
unfolding begun
begun_in n w h = item_in (ascii "line=") n h ⊕ text_in (ascii " call=") ⊕ text_in w

error_by : (t : Bool) → length (cond t (ascii " error=bad_items") (ascii " error=unknown_call")) ≤ 19
error_by true = lit≤ tt
error_by false = lit≤ tt

module _ (h : Host) (n : ℕ) (small : n < 2 ^ 64) (line : List ℕ) (name : ℕ) (i : Items) (e : ℕ) (word : e ≡ before 32 line) (called : name ≡ place_in rows (take e line)) (read : i ≡ read_of line) where
  pub right_in : (b : Bytes) → b ≡ bytes_of line → takes name i ≡ true → TurnFits (ran (line_of name i b) h) → PlayedFits h n line
  unfolding played played_as ended
  right_in b lent right u =
      let short = named rows (take e line) names_short (rw (← called) (is_row name i right)) in
      rw (← word, ← called, ← read, ← lent, right) (upto played_room (omega arith) (begun_in n (take e line) small ⊕ u ⊕ text_in (10 ∷ [])))

  pub wrong_in : takes name i ≡ false → PlayedFits h n line
  unfolding played played_as ended failed error_of
  wrong_in wrong =
      rw (← word, ← called, ← read, wrong)
      (upto played_room (lit≤ tt) (item_in (ascii "line=") n small ⊕ upto 19 (error_by (ltb name (length rows))) (text_in (error_of name)) ⊕ text_in (10 ∷ [])))

-- ---- with the state behind it

state_in : (n : ℕ) → n < 2 ^ 64 → (g : Gate) → Within turn_room (Whole.gate g) → Within (turn_room + 37) (state_line n g)
unfolding state_line
state_in n small g u = upto (turn_room + 37) (lit≤ tt) (begun_in n (ascii "state") small ⊕ u ⊕ text_in (10 ∷ []))

module _ (n : ℕ) (h : Host) (line : List ℕ) (g : Gate) (left : (p : Page) → (played h n line p).host.gate ≡ g) (u : PlayedFits h n line) (v : Within (turn_room + 37) (state_line n g)) where
  both_in : (s t : Bool) (p : Page) → p.place + line_room ≤ length p.memory
      → ((cond s (cond t (stated n (played h n line p)) (played h n line p)) (played h n line p)).page.place ≤ p.place + line_room)
      × (length (cond s (cond t (stated n (played h n line p)) (played h n line p)) (played h n line p)).page.memory ≡ length p.memory)
  both_in true true p r = rw (left p) ((upto line_room (lit≤ tt) (u ⊕ v)).fits p r)
  both_in true false p r = (upto line_room (lit≤ tt) u).fits p r
  both_in false t p r = (upto line_room (lit≤ tt) u).fits p r

  with_state_in : (states : Bool) → EveryLineFits states h n line
  unfolding with_state
  with_state_in states = record { fits = λ p r. both_in states (played h n line p).called p r }

-- the gate that the code hands back is that of every page
pub line_fits : (states : Bool) (n : ℕ) → n < 2 ^ 64 → (h : Host) (line memory : List ℕ) (q : Page) (r : Played) → turn_of r memory ≡ played h n line q
    → PlayedFits h n line → (vs : List Val) → Owned Played.the_field r vs → EveryLineFits states h n line
line_fits states n small h line memory q r e u vs k =
    let left : (p : Page) → (played h n line p).host.gate ≡ r.host.gate = λ p. ap (λ (x : Host). x.gate) (played_host h n line p q) ∙ sym (ap (λ (t : Turn). t.host.gate) e) in
    with_state_in n h line r.host.gate left u (state_in n small r.host.gate (upto turn_room (lit≤ tt) (gate_in r.host.gate _ k.1.1.0.1.1.0))) states

pub too_long_in : (n : ℕ) → n < 2 ^ 64 → Within 46 (too_long n)
unfolding too_long
too_long_in n small = item_in (ascii "line=") n small ⊕ text_in (ascii " error=line_too_long" ++ (10 ∷ []))
