-- What one turn is: allow, made by `step`, with what becomes of the count; and it leaves a gate in range.
use Prim.Native.Nat.{ℕ, ◌-◌, ◌<◌}
use mathlib.Core.Path.{◌≡◌, refl, ap, ◌∙◌}
use mathlib.Core.Bool.{Bool, true, false, cond, not, ◌&&◌, and-eq-true_iff}
use native.Mathlib.Nat.{mod-lt}
use native.Mathlib.Omega.{arith}
use lib.ListN.{replicate}
use Rattle.phones.specs.Ids.{some_of}
use Rattle.phones.specs.Phones.{id_bytes, too_long, phones_of}
use Rattle.phones.proofs.Range.{range_short}
use Rattle.phones.proofs.Members.{contains_long}
use Rattle.frames.specs.declared.CanFrame.{CanFrame}
use Rattle.frames.specs.declared.TxClass.{TxClass}
use Rattle.frames.specs.declared.TxClass.TheVariants.{Platform, Command}
use Rattle.waiting_list.specs.declared.Waiting.{Waiting}
use Rattle.waiting_list.specs.Queue.{record_at}
use Rattle.state.specs.declared.Core.{Core}
use Rattle.state.specs.declared.Gate.{Gate}
use Rattle.state.specs.declared.Identity.{Identity}
use Rattle.state.specs.declared.Said.{Said}
use Rattle.state.specs.declared.Decided.{Decided}
use Rattle.state.specs.declared.Answer.{Answer}
use Rattle.state.specs.declared.Answer.TheVariants.{No}
use Rattle.state.specs.declared.Mark.TheVariants.{Kept}
use Rattle.state.specs.Answers.{values, is_yes}
use Rattle.state.specs.Replies.{leave, quiet}
use Rattle.state.specs.View.{view, lists_in}
use Rattle.range.specs.Range.{window_fits, core_fits, in_range}
use Rattle.std.specs.Prelude.{Option, Some, None}
use Rattle.probe_window.specs.Window.{marked_sent}
use Rattle.phone_trust.specs.Trust.{is_paired, is_validated}
use Rattle.can_tx.specs.Tx as Tx
use Rattle.can_turns.specs.Turns.{Serving, owner_validated, turn}
use Rattle.definition.specs.Gate.{saying, served, said, says, left, gives, step}
use Rattle.footprint.proofs.Keeps.{either, each_check}
use Rattle.footprint.proofs.Core.{allow_keeps}
use Rattle.stays_in_range.proofs.Queue.{queue_in, queue_fits_lem}
use Rattle.fair_turns.specs.Turns.{Host, next_of, taken, owner_of, decided, gate_after}

-- ---- what allow leaves of the window

-- it is in range as before
record Keeps (c : Core) (o : Said) : Type 0 where
  window : window_fits o.core.probe.window ≡ window_fits c.probe.window

keeps_cond : (c : Core) (b : Bool) (x y : Said) → Keeps c x → Keeps c y → Keeps c (cond b x y)
keeps_cond c b x y h k = either (Keeps c) b x y h k

keeps_leave : (c : Core) (a : Answer) → Keeps c (leave c a)
unfolding leave
keeps_leave c a = record { window = refl }

keeps_passed : (c : Core) (u : Option ℕ) → Keeps c (Tx.passed c u)
unfolding quiet marked_sent window_fits
keeps_passed c None = keeps_leave c No
keeps_passed c (Some i) = record { window = refl }

keeps_class : (c : Core) (bus : ℕ) (frame : CanFrame) (validated : Bool) (clock : ℕ) (class : TxClass) → Keeps c (Tx.allow_class c bus frame validated clock class)
unfolding Tx.allow_platform Tx.through_window
keeps_class c bus frame validated clock Platform = search (keeps_cond, keeps_leave, keeps_passed)
keeps_class c bus frame validated clock Command = keeps_leave c _

keeps_allow : (c : Core) (bus : ℕ) (frame : CanFrame) (class : TxClass) (validated : Bool) (clock : ℕ) → Keeps c (Tx.allow c bus frame class validated clock)
unfolding Tx.allow
keeps_allow c bus frame class validated clock = each_check (Keeps c) (leave c) _ _ (keeps_leave c) (keeps_class c bus frame validated clock class)

-- so of what the range asks for it changes nothing
allow_fits : (c : Core) (bus : ℕ) (frame : CanFrame) (class : TxClass) (validated : Bool) (clock : ℕ) → core_fits (Tx.allow c bus frame class validated clock).core ≡ core_fits c
unfolding core_fits some_of
allow_fits c bus frame class validated clock =
    let o = Tx.allow c bus frame class validated clock in
    ap core_fits (allow_keeps c bus frame class validated clock).core ∙ rw (keeps_allow c bus frame class validated clock).window

allow_code : (c : Core) (bus : ℕ) (frame : CanFrame) (class : TxClass) (validated : Bool) (clock : ℕ) → (Tx.allow c bus frame class validated clock).code ≡ Kept
unfolding some_of
allow_code c bus frame class validated clock = (allow_keeps c bus frame class validated clock).code

-- ---- an owner above 32 bytes

module _ (g : Gate) (r : in_range (view g) ≡ true) where
  pub unpaired : is_paired (lists_in g.phones) (replicate 33 0) ≡ false
  unfolding in_range view is_paired
  unpaired = contains_long (replicate 33 0) (phones_of g.phones.paired) (omega arith) (range_short g.phones.paired (simp and-eq-true_iff at r).0.0.0.1)

  unknown : (i : Identity) → is_validated i (lists_in g.phones) (replicate 33 0) ≡ false
  unfolding is_validated
  unknown i = rw unpaired

  pub owner_is : (i : Identity) (w : Waiting) → is_validated i (lists_in g.phones) (owner_of w) ≡ owner_validated i (lists_in g.phones) w
  unfolding owner_validated
  owner_is i w = go (too_long w.owner)
    where
      go : (b : Bool) → is_validated i (lists_in g.phones) (cond b (replicate 33 0) (id_bytes w.owner)) ≡ (not b && is_validated i (lists_in g.phones) (id_bytes w.owner))
      go true = unknown i
      go false = refl

-- ---- a turn

module _ (g : Gate) where
  -- a gate whose run stands so
  abbrev pub host_of : Serving → Host
  host_of x = record { gate = record { core = x.core; phones = g.phones; save = g.save; queue = x.queue; code = g.code }; list = x.list }

  -- what a turn says of its frame
  abbrev pub entry_of : ℕ → Serving → Decided
  entry_of clock x =
      let w = taken (host_of x) in
      record { frame = w.frame; allowed = is_yes (values (Tx.allow x.core w.frame.bus w.frame w.class (owner_validated x.core.policy.identity (lists_in g.phones) w) clock).answer) }

  module _ (clock : ℕ) (x : Serving) (r : in_range (view (host_of x).gate) ≡ true) where
    owner_of_lem : is_validated x.core.policy.identity (lists_in g.phones) (owner_of (taken (host_of x))) ≡ owner_validated x.core.policy.identity (lists_in g.phones) (taken (host_of x))
    owner_of_lem = owner_is (host_of x).gate r x.core.policy.identity (taken (host_of x))

    pub by_allow : decided (host_of x) clock ≡ entry_of clock x
    unfolding step gives says served said saying view
    by_allow = rw (r, owner_of_lem)

    pub gate_after_lem : (host_of (turn (lists_in g.phones) clock x)).gate ≡ gate_after (host_of x) clock
    unfolding step gives left says served said saying view turn
    gate_after_lem = let w = taken (host_of x) in rw (r, owner_of_lem, allow_code x.core w.frame.bus w.frame w.class (owner_validated x.core.policy.identity (lists_in g.phones) w) clock)

    pub turn_ranged : in_range (view (host_of (turn (lists_in g.phones) clock x)).gate) ≡ true
    unfolding in_range view turn
    turn_ranged =
        let p = simp and-eq-true_iff at r in
        let q = queue_in x.queue p.1 in
        let w = taken (host_of x) in
        let b : w.frame.bus < 4 = mod-lt (record_at x.list (next_of (host_of x))).frame.bus (omega arith) in
        let fits = queue_fits_lem (record { count = x.queue.count - 1; last = w.frame.bus }) (omega (arith, q.0)) (omega arith) in
        rw (allow_fits x.core w.frame.bus w.frame w.class (owner_validated x.core.policy.identity (lists_in g.phones) w) clock, p.0.0.0.0, p.0.0.0.1, p.0.0.1, p.0.1, fits)
