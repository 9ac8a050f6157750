-- Laws of the definitions of specs/Script.antt.
use Rattle.std.proofs.Common.{◌≡◌, ℕ, suc, ◌+◌, ◌-◌, ◌<◌, ◌≤◌, Bool, true, false, cond, eqb, ltb, List, [], ◌∷◌, ◌++◌, length, take, drop, sym, refl, ap, ◌∙◌, append-nil, add-one, arith, length-append, drop_of_length-le, length-take-le, drop-cons, drop-drop, ltb-false, ltb-true, le-ltb, lt-ltb}
use lib.Seq.{append_snoc}
use Rattle.arrays.specs.Arrays.{put}
use Rattle.arrays.proofs.Laws.{put_take, put_length}
use Rattle.replay_page.specs.Page.{Page, page}
use Rattle.replay_page.specs.Room.{Within}
use Rattle.replay_played.specs.Played.{played, with_state, passed_over, too_long}
use Rattle.replay_played.proofs.Laws.{played_host, state_host}
use Rattle.word_table.specs.Words.{before}
use Rattle.replay_script.proofs.Laws.{found}
use Rattle.replay_given.specs.Turns.{Turn}
use Rattle.replay_host.specs.declared.Host.{Host}
use Rattle.replay.specs.Script.{kept_len, kept_in, Line, short, long, line_in, plus, line_gives, host_after, Reading, ended, grown, read, reading_of, next_line}
use Rattle.replay.specs.declared.Replay.{Replay}

-- ---- a part of a line

-- the first n bytes are n
pub first_length_lem : (n : ℕ) (s : List ℕ) → n ≤ length s → n ≡ length (take n s)
first_length_lem n s h = sym (length-take-le n s h)

-- there is room for them where there is room for all
pub first_room : (n room : ℕ) (s : List ℕ) → n ≤ length s → length s ≤ room → length (take n s) ≤ room
first_room n room s h k = omega (arith, length-take-le n s h)

-- ---- room

-- what fits ends inside the memory
pub inside : (n : ℕ) (f : Page → Page) → Within n f → (before after : List ℕ) (k : ℕ) → page after k ≡ f (page before 0) → n ≤ length before → k ≤ length after
inside n f u before after k e h =
    let x = u.fits (page before 0) (omega arith) in
    let a : k ≡ (f (page before 0)).place = ap (λ (p : Page). p.place) e in
    let b : length after ≡ length (f (page before 0)).memory = ap (λ (p : Page). length p.memory) e in
    omega arith

-- ---- the host after a line

gives_by : (t states : Bool) (h : Host) (n : ℕ) (s : List ℕ) (p q : Page)
    → (cond t (record { host = h; page = p; called = false }) (with_state states n (played h n s p))).host
    ≡ (cond t (record { host = h; page = q; called = false }) (with_state false n (played h n s q))).host
gives_by true states h n s p q = refl
gives_by false states h n s p q = state_host states n (played h n s p) ∙ (played_host h n s p q ∙ sym (state_host false n (played h n s q)))

gives_host : (states : Bool) (h : Host) (n : ℕ) (l : Line) (p : Page) → (line_gives states h n l p).host ≡ host_after h n l
unfolding host_after
gives_host states h n (short s) p = gives_by (passed_over s) states h n s p (page [] 0)
gives_host states h n long p = refl

pub after_line : (states : Bool) (h : Host) (n : ℕ) (l : Line) (p : Page) (t : Turn) → t ≡ line_gives states h n l p → t.host ≡ host_after h n l
after_line states h n l p t e = rw e (gives_host states h n l p)

-- ---- bytes behind a line

unfoldable added : ℕ → List ℕ → Line → Line
added room [] l = l
added room (b ∷ bs) l = added room bs (plus room b l)

added_long : (room : ℕ) (bs : List ℕ) → added room bs long ≡ long
unfolding added
added_long room [] = refl
added_long room (b ∷ bs) = added_long room bs

snoc_length : (s : List ℕ) (b : ℕ) → length (s ++ (b ∷ [])) ≡ length s + 1
snoc_length s b = length-append s (b ∷ [])

added_fits : (room : ℕ) (s bs : List ℕ) → length s + length bs ≤ room → added room bs (short s) ≡ short (s ++ bs)
unfolding added
added_fits room s [] h = ap short (sym (append-nil s))
added_fits room s (b ∷ bs) h =
    let l = snoc_length s b in
    rw (lt-ltb (length s) room (omega arith)) (added_fits room (s ++ (b ∷ [])) bs (omega arith) ∙ ap short (append_snoc s b bs))

added_by : (room b : ℕ) (s bs : List ℕ) (t : Bool) → (t ≡ true → added room bs (short (s ++ (b ∷ []))) ≡ long)
    → added room bs (cond t (short (s ++ (b ∷ []))) long) ≡ long
added_by room b s bs true h = h refl
added_by room b s bs false h = added_long room bs

added_over : (room : ℕ) (s bs : List ℕ) → length s ≤ room → room < length s + length bs → added room bs (short s) ≡ long
unfolding added
added_over room s [] h k = absurd (omega arith)
added_over room s (b ∷ bs) h k =
    added_by room b s bs (ltb (length s) room)
    (λ e. let l = snoc_length s b in let less = ltb-true (length s) room e in added_over room (s ++ (b ∷ [])) bs (omega arith) (omega arith))

-- what `keep` leaves in memory
kept_short : (t : Bool) (m more : List ℕ) (len : ℕ) → len ≤ length m → ltb (length m - len) (length more) ≡ t
    → line_in (cond t m (put m len more)) (cond t (length m + 1) (len + length more)) ≡ added (length m) more (short (take len m))
unfolding line_in
kept_short true m more len h e =
    let l = length-take-le len m h in
    let k = ltb-true (length m - len) (length more) e in
    rw (lt-ltb (length m) (length m + 1) (omega arith)) (sym (added_over (length m) (take len m) more (omega arith) (omega arith)))
kept_short false m more len h e =
    let l = length-take-le len m h in
    let k = ltb-false (length m - len) (length more) e in
    let fits : len + length more ≤ length m = omega arith in
    let far = put_length m len more fits in
    rw (le-ltb (length (put m len more)) (len + length more) (omega arith), put_take m len more fits) (sym (added_fits (length m) (take len m) more (omega arith)))

kept_by : (t : Bool) (m more : List ℕ) (len : ℕ) → ltb (length m) len ≡ t
    → line_in (cond t m (cond (ltb (length m - len) (length more)) m (put m len more))) (cond t len (cond (ltb (length m - len) (length more)) (length m + 1) (len + length more)))
    ≡ added (length m) more (cond t long (short (take len m)))
unfolding line_in
kept_by true m more len e = rw e (sym (added_long (length m) more))
kept_by false m more len e = kept_short (ltb (length m - len) (length more)) m more len (ltb-false (length m) len e) refl

kept_line : (m more : List ℕ) (len : ℕ) → line_in (kept_in m len more) (kept_len m len more) ≡ added (length m) more (line_in m len)
unfolding kept_in kept_len line_in
kept_line m more len = kept_by (ltb (length m) len) m more len refl

-- ---- the bytes before the first 10

abbrev behind : ℕ → List ℕ → Reading → Reading
behind room bs r = record { host = r.host; number = r.number; line = added room bs r.line }

read_by : (room b k : ℕ) (bs : List ℕ) (r : Reading) (t : Bool) → eqb b 10 ≡ t
    → ((s : Reading) → read room bs s ≡ read room (drop k bs) (behind room (take k bs) s))
    → read room (b ∷ bs) r ≡ read room (drop (cond t 0 (suc k)) (b ∷ bs)) (behind room (take (cond t 0 (suc k)) (b ∷ bs)) r)
unfolding read grown added
read_by room b k bs r true e h = refl
read_by room b k bs r false e h = rw e (h (grown room b r))

read_first : (room : ℕ) (s : List ℕ) (r : Reading) → read room s r ≡ read room (drop (before 10 s) s) (behind room (take (before 10 s) s) r)
unfolding before read added
read_first room [] r = refl
read_first room (b ∷ bs) r = read_by room b (before 10 bs) bs r (eqb b 10) refl (read_first room bs)

module _ (room : ℕ) (s : List ℕ) (from e : ℕ) (at : e ≡ from + before 10 (drop from s)) (r : Reading) where
  read_part : read room (drop from s) r ≡ read room (drop e s) (behind room (take (e - from) (drop from s)) r)
  read_part =
      let k = before 10 (drop from s) in
      let d : e - from ≡ k = omega arith in
      let f : drop e s ≡ drop k (drop from s) = rw at (sym (drop-drop k from s)) in
      rw (d, f) (read_first room (drop from s) r)

  read_end : length s ≤ e → read room (drop from s) r ≡ behind room (take (e - from) (drop from s)) r
  unfolding read
  read_end h = read_part ∙ rw (drop_of_length-le s h)

  read_on_lem : e < length s → read room (drop from s) r ≡ read room (drop (e + 1) s) (ended (behind room (take (e - from) (drop from s)) r))
  unfolding read
  read_on_lem h = read_part ∙ rw (add-one, drop-cons s e 0 h, found 10 s from e at h)

-- nothing is left
pub read_none : (room : ℕ) (s : List ℕ) (from : ℕ) (r : Reading) → length s ≤ from → read room (drop from s) r ≡ r
unfolding read
read_none room s from r h = rw (drop_of_length-le s h)

-- ---- a turn of the loop over a piece s: the bytes from `from` to e are kept in the memory m, which becomes w

line_none : (m : List ℕ) → line_in m 0 ≡ short []
unfolding line_in
line_none m = rw (le-ltb (length m) 0 (omega arith))

module _ (s m w : List ℕ) (from e : ℕ) (at : e ≡ from + before 10 (drop from s)) (host : Host) (n len k room : ℕ) (far : length m ≡ room)
    (kept : (k ≡ kept_len m len (take (e - from) (drop from s))) × (w ≡ kept_in m len (take (e - from) (drop from s)))) where
  grown_line : added room (take (e - from) (drop from s)) (line_in m len) ≡ line_in w k
  grown_line = rw (← far, kept.0, kept.1) (sym (kept_line m (take (e - from) (drop from s)) len))

  pub piece_end : length s ≤ e → read room (drop from s) (record { host = host; number = n; line = line_in m len }) ≡ record { host = host; number = n; line = line_in w k }
  piece_end h = read_end room s from e at (record { host = host; number = n; line = line_in m len }) h ∙ rw grown_line

  pub piece_on : (r : Replay) (going : Bool) → r ≡ next_line n (host_after host n (line_in w k)) going → e < length s
      → read room (drop from s) (record { host = host; number = n; line = line_in m len }) ≡ read room (drop (e + 1) s) (reading_of r w)
  unfolding ended
  piece_on r going q h =
      read_on_lem room s from e at (record { host = host; number = n; line = line_in m len }) h
      ∙ rw (grown_line, q, line_none w)
