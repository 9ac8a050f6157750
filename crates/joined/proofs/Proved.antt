-- Any calls behind an opening.
use mathlib.Core.Path.{◌≡◌, refl, sym, ap, ◌∙◌}
use mathlib.Core.Bool.{Bool, true, false, cond, ◌||◌, false≢true}
use mathlib.Core.List.{List, [], ◌∷◌, ◌++◌, append_assoc, append-nil}
use native.Mathlib.Omega.{arith}
use Rattle.arrays.proofs.Laws.{both}
use Rattle.phones.specs.Ids.{all_of}
use Rattle.saved_record.specs.declared.SavedRecord.{SavedRecord}
use Rattle.saved_record.specs.SavedRecord.{no_record}
use Rattle.state.specs.declared.Gate.{Gate}
use Rattle.state.specs.declared.Answer.TheVariants.{Done, BadSettings}
use Rattle.state.specs.View.{view}
use Rattle.range.specs.Range.{in_range}
use Rattle.validations.specs.Store.{record_for}
use Rattle.save.specs.Save.{opening, rest}
use Rattle.answers.specs.declared.RecordAnswer.{RecordAnswer}
use Rattle.answers.specs.Answers.{record_answer}
use Rattle.answers.specs.Query.{saved, numbered_reply, answer_to}
use Rattle.definition.specs.Gate.{PackedReply, Call, on_save, open_phone_validations_save, says, served, saving, left, gives, step, after, after_all}
use Rattle.stays_in_range.specs.Stays.{Sized, InRange}
use Rattle.stays_in_range.proofs.Proved.{stays_in_range, all_in_range}
use Rattle.round_trip.specs.Trip.{Saves, used}
use Rattle.joined.specs.Joined.{is_open, bytes_left, opened, goes_on, comes_to, hands, handed, told, Joined}
use Rattle.joined.proofs.Turns.{left_of, takes, refuses, turn}

-- ---- over a list of calls

all_join : (ks : List Call) (g : Gate) → all_of goes_on ks ≡ true → handed g ks ++ bytes_left (after_all g ks) ≡ bytes_left g
unfolding all_of
all_join [] g h = refl
all_join (k ∷ ks) g h = let p = both (goes_on k) _ h in rw (append_assoc, all_join ks (after g k) p.1) (turn g k p.0).joins

either_closes : (e t o : Bool) → cond t false (cond e false o) ≡ cond (e || t) false o
either_closes true true o = refl
either_closes true false o = refl
either_closes false t o = refl

all_close : (ks : List Call) (g : Gate) → all_of goes_on ks ≡ true → is_open (after_all g ks) ≡ cond (told g ks) false (is_open g)
unfolding all_of
all_close [] g h = refl
all_close (k ∷ ks) g h = let p = both (goes_on k) _ h in all_close ks (after g k) p.1 ∙ rw (turn g k p.0).closes (either_closes (hands g k).end (told (after g k) ks) (is_open g))

-- ---- the opening

-- what a gate that saves a record is
saves_is : (g : Gate) (r : SavedRecord) → Saves g r → InRange g × (record_for (view g).lists.store ≡ r)
unfolding step gives says answer_to record_answer
saves_is g r d = go (in_range (view g)) refl d
  where
    go : (b : Bool) → in_range (view g) ≡ b
        → ◌≡◌ {A = PackedReply} (saved (cond b (record { answer = Done; stored = record_for (view g).lists.store }) (record { answer = BadSettings; stored = no_record })))
        (saved (record { answer = Done; stored = r }))
        → InRange g × (record_for (view g).lists.store ≡ r)
    go true e d =
        let f : ◌≡◌ {A = RecordAnswer} (record { answer = Done; stored = record_for (view g).lists.store }) (record { answer = Done; stored = r }) = cc in
        (e, λ i. (f i).stored)
    go false e d = let n = ap (λ (x : PackedReply). (numbered_reply x).number) d in absurd (omega arith)

opened_is : (g : Gate) → InRange g → (opened g).save ≡ (opening (view g).lists.store).save
unfolding step gives left says served saving
opened_is g r = rw r

opened_left : (g : Gate) (r : SavedRecord) → Saves g r → (is_open (opened g) ≡ true) × (bytes_left (opened g) ≡ used r)
unfolding opening rest
opened_left g r d =
    let s = saves_is g r d in
    let e = opened_is g s.0 in
    (λ i. (e i).present, ap left_of e ∙ ap used s.1)

-- ---- the claim

open_sized : Sized (on_save open_phone_validations_save)
open_sized = record { new = λ settings methods count e. absurd (false≢true cc); probe = λ bus frames count clock e. absurd (false≢true cc) }

pub joined : Joined
joined g r ks d h =
    let o = opened_left g r d in
    let at : handed (opened g) ks ++ bytes_left (comes_to g ks) ≡ used r = all_join ks (opened g) h ∙ o.1 in
    let still : is_open (comes_to g ks) ≡ cond (told (opened g) ks) false (is_open (opened g)) = all_close ks (opened g) h in
    record {
      joined = at;
      whole = λ t. sym (append-nil (handed (opened g) ks)) ∙ rw (still, t) at at;
      next = λ t s out. takes (comes_to g ks) out s (still ∙ rw (t, o.0));
      later = λ t s out. refuses (comes_to g ks) out s (still ∙ rw t);
      in_range = λ z zs. all_in_range ks (opened g) zs (stays_in_range g (on_save open_phone_validations_save) open_sized z (saves_is g r d).0);
    }
