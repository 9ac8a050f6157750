-- What a line gives, put together from its parts.
use mathlib.Core.Path.{◌≡◌, refl, sym}
use mathlib.Core.Bool.{Bool, true, false, cond}
use mathlib.Core.List.{List, [], ◌∷◌}
use Prim.Native.Nat.{ℕ, ◌≤◌}
use native.Mathlib.Omega.{arith}
use lib.Dec.{eqb}
use lib.ListN.{length, take, get_or}
use lib.Seq.{length-take-le}
use Rattle.replay_calls.specs.Calls.{Line, call, lending, counters, convert, set_list, set_record, state, lent_list, unknown, line_of}
use Rattle.replay_items.specs.Bytes.{Bytes, bytes_of}
use Rattle.replay_items.specs.Items.{read_of}
use Rattle.replay_items.specs.Takes.{takes}
use Rattle.replay_items.specs.declared.Items.{Items}
use Rattle.replay_page.specs.Page.{Page}
use Rattle.replay_names.specs.Names.{rows}
use Rattle.word_table.proofs.Laws.{before_le}
use Rattle.replay_given.specs.Turns.{Turn, laid, ran}
use Rattle.replay_host.specs.declared.Host.{Host}
use Rattle.word_table.specs.Words.{before, place_in}
use Rattle.replay_played.specs.Played.{begun, failed, ended, first_word, played_as, played, stated, with_state, passed_over}

-- the first word is as long as its end says
pub word_length : (s : List ℕ) (e : ℕ) → e ≡ before 32 s → e ≡ length (take e s)
word_length s e h =
    let le : e ≤ length s = rw h (before_le 32 s) in
    sym (length-take-le e s le)

module _ (h : Host) (n : ℕ) (line : List ℕ) (p : Page) (name : ℕ) (i : Items) (e : ℕ) (word : e ≡ before 32 line) (called : name ≡ place_in rows (take e line)) (read : i ≡ read_of line) where
  pub played_right : (b : Bytes) → b ≡ bytes_of line → takes name i ≡ true → (t : Turn) → t ≡ ended (ran (line_of name i b) h (begun n (take e line) p)) → t ≡ played h n line p
  unfolding played played_as
  played_right b lent right t q = rw (← word, ← called, ← read, ← lent, right) q

  pub played_wrong : takes name i ≡ false → (t : Turn) → t ≡ ended (failed name h n p) → t ≡ played h n line p
  unfolding played played_as
  played_wrong wrong t q = rw (← word, ← called, ← read, wrong) q

-- ---- the host after a line

ran_host : (l : Line) (h : Host) (p q : Page) → (ran l h p).host ≡ (ran l h q).host
unfolding ran laid
ran_host (call c) h p q = refl
ran_host (lending k) h p q = refl
ran_host (counters next relocks) h p q = refl
ran_host (convert saved two out) h p q = refl
ran_host (set_list n) h p q = refl
ran_host (set_record place frame class owner) h p q = refl
ran_host state h p q = refl
ran_host lent_list h p q = refl
ran_host unknown h p q = refl

played_by : (t : Bool) (l : Line) (name : ℕ) (h : Host) (n : ℕ) (w : List ℕ) (p q : Page)
    → (cond t (ended (ran l h (begun n w p))) (ended (failed name h n p))).host
    ≡ (cond t (ended (ran l h (begun n w q))) (ended (failed name h n q))).host
unfolding ended failed
played_by true l name h n w p q = ran_host l h (begun n w p) (begun n w q)
played_by false l name h n w p q = refl

pub played_host : (h : Host) (n : ℕ) (s : List ℕ) (p q : Page) → (played h n s p).host ≡ (played h n s q).host
unfolding played played_as
played_host h n s p q =
    let name = place_in rows (first_word s) in
    played_by (takes name (read_of s)) (line_of name (read_of s) (bytes_of s)) name h n (first_word s) p q

state_by : (t : Bool) (n : ℕ) (r : Turn) → (cond t (stated n r) r).host ≡ r.host
state_by true n r = refl
state_by false n r = refl

pub state_host : (states : Bool) (n : ℕ) (r : Turn) → (with_state states n r).host ≡ r.host
unfolding with_state
state_host true n r = state_by r.called n r
state_host false n r = refl

-- ---- lines that are passed over

pub over_empty : (s : List ℕ) → length s ≡ 0 → true ≡ passed_over s
over_empty [] h = refl
over_empty (b ∷ bs) h = absurd (omega arith)

pub over_first : (s : List ℕ) → (length s ≡ 0 → ⊥) → eqb (get_or s 0 0) 35 ≡ passed_over s
over_first [] h = absurd (h refl)
over_first (b ∷ bs) h = refl
