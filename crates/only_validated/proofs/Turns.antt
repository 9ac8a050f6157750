-- A command that waited passes by the rule of one that did not.
use Prim.Native.Nat.{ℕ}
use mathlib.Core.Path.{◌≡◌, refl, sym, ◌∙◌, subst, subst₂}
use mathlib.Core.Bool.{Bool, true, false, cond, not}
use mathlib.Core.List.{List}
use lib.ListN.{replicate}
use Rattle.phones.specs.Ids.{some_of}
use Rattle.phones.specs.Phones.{id_bytes, too_long}
use Rattle.frames.specs.declared.CanFrame.{CanFrame}
use Rattle.frames.specs.declared.TxClass.{TxClass}
use Rattle.frames.specs.declared.TxClass.TheVariants.{Command}
use Rattle.frames.specs.Frames.{can_id_in_range}
use Rattle.saved_record.specs.declared.Store.{Store}
use Rattle.saved_record.specs.Store.{cars_of}
use Rattle.state.specs.declared.Policy.{Policy}
use Rattle.state.specs.declared.Gate.{Gate}
use Rattle.state.specs.declared.Answer.TheVariants.{Yes, BadFrame, BadSettings}
use Rattle.state.specs.Answers.{is_yes}
use Rattle.state.specs.Replies.{no_code, leave, yes_no}
use Rattle.state.specs.Checks.{checked}
use Rattle.state.specs.View.{View, view, lists_in}
use Rattle.range.specs.Range.{in_range}
use Rattle.phone_trust.specs.Trust.{is_validated}
use Rattle.can_tx.specs.Tx.{allows_command, allow}
use Rattle.answers.specs.Query.{plain, numbered_reply}
use Rattle.definition.specs.Gate.{of_core, asked, served, said, saying, says, laid_reply, gives, step, on_core, allow_can_tx}
use Rattle.footprint.specs.Footprint.{store, in_core, policy}
use Rattle.footprint.proofs.Proved.{footprint}
use Rattle.fair_turns.specs.Turns.{Host, serve, before_turn, taken, owner_of, decided}
use Rattle.fair_turns.proofs.Ranged.{unpaired}
use Rattle.fair_turns.proofs.Proved.{turn_reported}
use Rattle.only_validated.specs.Row as Row
use Rattle.only_validated.specs.Row.{listed, Listed, car_now, Allowed, Served, Passes, MayCommand}
use Rattle.only_validated.proofs.Stores.{untrue, unlisted}
use Rattle.only_validated.proofs.Frames.{command}

-- an answer that counts as yes is yes
yes_allowed : (g : Gate) (bus : ℕ) (frame : CanFrame) (owner : List ℕ) (clock : ℕ) → is_yes (step g (on_core (allow_can_tx bus frame Command owner clock))).numbered.values ≡ true → Allowed g bus frame Command owner clock
unfolding step gives says served said saying view allow checked leave
yes_allowed g bus frame owner clock e = go (view g) (in_range (view g)) (can_id_in_range frame.id) (allows_command g.core.policy bus frame (is_validated g.core.policy.identity (lists_in g.phones) owner)) e
  where
    go : (v : View) (r i b : Bool) → is_yes (numbered_reply (cond r (of_core v no_code (cond (not i) (leave v.core BadFrame) (leave v.core (yes_no b)))) (asked v (plain BadSettings))).answer).values ≡ true
        → laid_reply (cond r (of_core v no_code (cond (not i) (leave v.core BadFrame) (leave v.core (yes_no b)))) (asked v (plain BadSettings))).answer ≡ plain Yes
    go v true true true e = refl
    go v true true false e = untrue e
    go v true false b e = untrue e
    go v false i b e = untrue e

-- the owner that allow is asked about is the record's
owner_known : (g : Gate) (bus : ℕ) (frame : CanFrame) (long : Bool) (id : List ℕ) → in_range (view g) ≡ true → MayCommand g bus frame (cond long (replicate 33 0) id) → MayCommand g bus frame id
owner_known g bus frame true id r m = unlisted _ (unpaired g r) m.paired
owner_known g bus frame false id r m = m

pub turn_needs : (s : Host) (n clock i : ℕ) (frame : CanFrame) (owner : List ℕ) → Served s n clock i frame owner → MayCommand (before_turn s clock i).gate frame.bus frame owner
turn_needs s n clock i frame owner h =
    let t = turn_reported s n clock i h.is_turn in
    let g = (before_turn s clock i).gate in
    let w = taken (before_turn s clock i) in
    let d : decided (before_turn s clock i) clock ≡ record { frame = frame; allowed = true } = sym t.entry ∙ h.entry in
    let yes = subst (λ (c : TxClass). is_yes (step g (on_core (allow_can_tx w.frame.bus w.frame c (owner_of w) clock))).numbered.values ≡ true) h.class (λ j. (d j).allowed) in
    let m = (command g w.frame.bus w.frame (owner_of w) clock).0 (yes_allowed g w.frame.bus w.frame (owner_of w) clock yes) in
    subst₂ (λ (f : CanFrame) (o : List ℕ). MayCommand g f.bus f o) (λ j. (d j).frame) h.owned
    (owner_known g w.frame.bus w.frame (too_long w.owner) (id_bytes w.owner) t.serves.ranged m)

pub passes_listed : (g : Gate) (owner : List ℕ) → Passes g owner → Listed g (car_now g) owner
unfolding some_of
passes_listed g owner (Row.asked bus frame clock a) = ((command g bus frame owner clock).0 a).validated
passes_listed g owner (Row.served list n clock i frame h) =
    let s : Host = record { gate = g; list = list } in
    subst₂ (λ (v : Store) (p : Policy). listed (cars_of v) p.identity.car.digest owner ≡ true)
    (sym (footprint g (serve s i clock) store refl)) (sym (footprint g (serve s i clock) (in_core policy) refl))
    (turn_needs s n clock i frame owner h).validated
