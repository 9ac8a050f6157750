-- What a session's calls, start and submit leave of the core: a line or two for each.
use mathlib.Core.Path.{◌≡◌, refl}
use mathlib.Core.Bool.{Bool, true, cond}
use mathlib.Core.List.{List}
use Prim.Native.Nat.{ℕ}
use Rattle.phones.specs.Ids.{some_of}
use Rattle.state.specs.declared.Kind.{Kind}
use Rattle.state.specs.declared.Kind.TheVariants.{CodeEntry, InCarAction}
use Rattle.state.specs.declared.Status.{Status}
use Rattle.state.specs.declared.Validation.{Validation}
use Rattle.state.specs.declared.Core.{Core}
use Rattle.state.specs.declared.Answer.{Answer}
use Rattle.state.specs.declared.Mark.{Mark}
use Rattle.state.specs.declared.Ended.{Ended}
use Rattle.state.specs.Parts.{with_validation}
use Rattle.state.specs.Replies.{notified}
use Rattle.state.specs.Checks.{checked}
use Rattle.std.specs.Prelude.{Option, Some, None}
use Rattle.session.specs.Session.{lapse_of}
use Rattle.validation.specs.Calls.{begin, start_as, start_at, start, end_session, ticked_as, tick, ticking, succeeded_core, succeed, failed_core, tried_core, wrong, right_code, judge, judge_as, submitted, submit, cancel, completed, complete}
use Rattle.definition.specs.Gate as Gate
use Rattle.definition.specs.Gate.{SessionCall, ended}
use Rattle.footprint.specs.Footprint.{Part, validation, code, session_touches, touches, is_in}
use Rattle.footprint.proofs.Keeps.{mixed, Keeps, either, validation_only, keeping}

record KeepsEnded (ps : List Part) (c : Core) (e : Ended) : Type 0 where
  said : Keeps ps c e.said

-- ---- in any row with sessions and the code

module _ (ps : List Part) (v : is_in validation ps ≡ true) (d : is_in code ps ≡ true) where
  session_only : (c : Core) (x : Validation) → with_validation c x ≡ mixed ps c (with_validation c x)
  session_only c x = validation_only ps c x (rw v)

  ruleset staying = (keeping, session_only)

  keeps_begin : (c : Core) (phone : List ℕ) (at clock : ℕ) (mark : Mark) → Keeps ps c (begin c phone at clock mark)
  unfolding begin
  keeps_begin c phone at clock mark = record { core = session_only c _; shows = rw d; code = rw d }

  keeps_start_as : (c : Core) (phone : List ℕ) (at clock : ℕ) (lent gives : Bool) (k : Kind) → Keeps ps c (start_as c phone at clock lent gives k)
  keeps_start_as c phone at clock lent gives InCarAction = search keeps_begin
  keeps_start_as c phone at clock lent gives CodeEntry = search (staying, keeps_begin)

  keeps_start : (c : Core) (phone method : List ℕ) (clock : ℕ) (lent gives : Bool) → Keeps ps c (start c phone method clock lent gives)
  unfolding start start_at
  keeps_start c phone method clock lent gives = search (staying, keeps_start_as)

  keeps_end : (c : Core) (a : Answer) (status : Status) (clock : ℕ) → Keeps ps c (end_session c a status clock)
  unfolding end_session
  keeps_end c a status clock = search staying

  keeps_ticked : (c : Core) (clock : ℕ) (l : Option Status) → Keeps ps c (ticked_as c clock l)
  keeps_ticked c clock None = search staying
  keeps_ticked c clock (Some status) = search keeps_end

  -- ---- calls by which a session may succeed

  ended_cond : (c : Core) (b : Bool) (e e' : Ended) → KeepsEnded ps c e → KeepsEnded ps c e' → KeepsEnded ps c (cond b e e')
  ended_cond c b e e' h k = either (λ x. KeepsEnded ps c x) b e e' h k

  ended_ticking : (c : Core) (clock : ℕ) (a : Answer) (e : Ended) (l : Option Status) → KeepsEnded ps c e → KeepsEnded ps c (ticking c clock a e l)
  ended_ticking c clock a e None h = h
  ended_ticking c clock a e (Some status) h = search keeps_end

  ended_judge : (c : Core) (clock : ℕ) (right full : Bool) (k : Kind) → KeepsEnded ps c (judge_as c clock right full k)
  unfolding judge right_code succeed succeeded_core wrong failed_core tried_core notified
  ended_judge c clock right full InCarAction = search staying
  ended_judge c clock right full CodeEntry = search (staying, ended_cond)

  ended_submit : (c : Core) (phone : List ℕ) (clock : ℕ) (text right full : Bool) → KeepsEnded ps c (submit c phone clock text right full)
  unfolding submit checked submitted notified
  ended_submit c phone clock text right full = search (staying, ended_cond, ended_ticking, ended_judge) depth 8

  ended_complete : (c : Core) (number clock : ℕ) (full : Bool) → KeepsEnded ps c (complete c number clock full)
  unfolding complete completed succeed succeeded_core
  ended_complete c number clock full = search (staying, ended_cond, ended_ticking) depth 8

-- ---- the calls

pub start_keeps : (c : Core) (phone method : List ℕ) (clock : ℕ) (random : List ℕ) (lent gives : Bool)
    → Keeps (touches (Gate.start_validation phone method clock random)) c (start c phone method clock lent gives)
unfolding some_of
start_keeps c phone method clock random lent gives = keeps_start _ refl refl c phone method clock lent gives

pub submit_keeps : (c : Core) (phone typed : List ℕ) (clock : ℕ) (text right full : Bool)
    → Keeps (touches (Gate.submit_validation_code phone typed clock)) c (submit c phone clock text right full).said
unfolding some_of
submit_keeps c phone typed clock text right full = (ended_submit _ refl refl c phone clock text right full).said

pub session_keeps : (c : Core) (full : Bool) (k : SessionCall) → Keeps (session_touches k) c (ended c full k).said
unfolding ended cancel tick some_of
session_keeps c full (Gate.cancel_validation phone clock) = search (keeping, keeps_end)
session_keeps c full (Gate.complete_validation_action number clock) = (ended_complete _ refl refl c number clock full).said
session_keeps c full (Gate.tick_validation clock) = keeps_ticked _ refl refl c clock (lapse_of c clock)
