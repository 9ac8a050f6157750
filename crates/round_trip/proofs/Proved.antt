-- The round trip of `saved_record` carried over to the calls.
use Prim.Native.Nat.{ℕ, ◌≤◌}
use mathlib.Core.Path.{◌≡◌, refl, ap, sym, ◌∙◌}
use mathlib.Core.Bool.{Bool, true, false, cond, false≢true, and-eq-true_iff}
use mathlib.Core.List.{List, [], ◌∷◌}
use native.Mathlib.Omega.{arith}
use borrow.Author.Tests.{ne_eqb}
use lib.Dec.{eqb}
use lib.ListN.{length}
use Rattle.arrays.specs.Arrays.{same_bytes}
use Rattle.arrays.proofs.Laws.{both, padded_take}
use Rattle.phones.specs.Ids.{some_of, all_of, contains}
use Rattle.phones.proofs.Search.{none_cons}
use Rattle.phone_fields.proofs.Laws.{any_empty}
use Rattle.saved_record.specs.SavedRecord.{CarIds, Reading, malformed, car_twice, too_large, ok, encoded, record_of, decoded}
use Rattle.saved_record.specs.Store.{cars_of, store_of}
use Rattle.saved_record.proofs.Laws.{cars_of_store}
use Rattle.saved_record.proofs.Parts.{lacking, unreadable}
use Rattle.saved_record.proofs.RoundTrip.{accepted_well_formed, reads_back, written_back, version_one_lem, at_most_4358}
use Rattle.state.specs.declared.Gate.{Gate}
use Rattle.state.specs.declared.Answer.TheVariants.{Done, BadSettings}
use Rattle.state.specs.View.{view, store_in_range}
use Rattle.range.specs.Range.{in_range}
use Rattle.range.proofs.Stores.{some_fit, car_fits, CarsFit, store_fits_lem}
use Rattle.validations.specs.Store.{record_for, restore}
use Rattle.validations.specs.Store as Store
use Rattle.answers.specs.Answers.{record_answer}
use Rattle.answers.specs.Query.{plain, answer_to}
use Rattle.definition.specs.Gate.{of_lists, asked, served, listing, says, laid_reply, left, gives, step}
use Rattle.stays_in_range.specs.Stays.{InRange}
use Rattle.stays_in_range.proofs.Parts.{digests_of}
use Rattle.stays_in_range.proofs.Cars.{store_in, accepted_fits}
use Rattle.stays_in_range.proofs.Digests.{none_over}
use Rattle.round_trip.specs.Trip.{Saves, used, restoring, done_with, SavedRestores, RestoredSaves, OlderSaves}

-- ---- the two calls

saves : (g : Gate) → InRange g → Saves g (record_for (cars_of g.phones.store))
unfolding step gives says answer_to record_answer view
saves g r = rw r

restores : (h : Gate) (bytes : List ℕ) (cs : List CarIds) → InRange h → decoded bytes ≡ ok cs → restoring h bytes ≡ done_with h (store_of cs)
unfolding step gives says served listing left view restore
restores h bytes cs r e = rw (r, e)

-- ---- the range of a gate's store, and of a gate with another

store_of_lem : (g : Gate) → InRange g → store_in_range g.phones.store ≡ true
unfolding in_range view
store_of_lem g r = (simp and-eq-true_iff at r).0.0.1

with_store : (h : Gate) (cs : List CarIds) → InRange h → CarsFit cs → InRange (done_with h (store_of cs)).gate
unfolding in_range view
with_store h cs r f = let p = simp and-eq-true_iff at r in rw (p.0.0.0.0, p.0.0.0.1, store_in cs f, p.0.1, p.1)

-- ---- what was saved is restored

none_empty : (ids : List (List ℕ)) → contains [] ids ≡ false → any_empty ids ≡ false
unfolding contains some_of any_empty same_bytes
none_empty [] h = refl
none_empty ([] ∷ ids) h = h
none_empty ((x ∷ p) ∷ ids) h =
    let some : eqb (length (x ∷ p)) 0 ≡ false = ne_eqb (length (x ∷ p)) 0 (λ (e : length (x ∷ p) ≡ 0). omega arith) in
    rw some (none_empty ids h)

none_lacking : (ids : List (List ℕ)) → some_fit ids ≡ true → contains [] ids ≡ false → lacking ids ≡ false
unfolding lacking
none_lacking [] s h = absurd (false≢true s)
none_lacking (p ∷ ids) s h = none_empty (p ∷ ids) h

all_readable : (cs : List CarIds) → all_of car_fits cs ≡ true → some_of (λ (c : CarIds). contains [] c.phones) cs ≡ false → some_of unreadable cs ≡ false
unfolding some_of unreadable all_of
all_readable [] f h = refl
all_readable (c ∷ cs) f h =
    let p = none_cons (λ (x : CarIds). contains [] x.phones) c cs h in
    let q = both (car_fits c) _ f in
    rw (none_lacking c.phones q.0 p.0) (all_readable cs q.1 p.1)

pub saved_restores : SavedRestores
unfolding record_for record_of
saved_restores g h r s t =
    let cs = cars_of g.phones.store in
    let f = store_fits_lem g.phones.store (store_of_lem g r) in
    let back = reads_back cs t.many f.few (digests_of cs t.digests) f.apart (all_readable cs f.each t.named) (none_over cs f.each) in
    let w = record_for cs in
    (w, saves g r, restores h (used w) cs s (ap decoded (padded_take 4358 0 (encoded cs)) ∙ back))

-- ---- what was restored is saved

-- a gate that answers done was in range, and took the bytes for some cars
taken : (h : Gate) (bytes : List ℕ) → (restoring h bytes).answer ≡ plain Done → (cs : List CarIds) × InRange h × (decoded bytes ≡ ok cs)
unfolding step gives says served listing restore
taken h bytes d = go (in_range (view h)) refl (decoded bytes) refl d
  where
    go : (b : Bool) → in_range (view h) ≡ b → (x : Reading) → decoded bytes ≡ x
        → laid_reply (cond b (of_lists (view h) (Store.restoring x)) (asked (view h) (plain BadSettings))).answer ≡ plain Done
        → (cs : List CarIds) × InRange h × (decoded bytes ≡ ok cs)
    go true r (ok cs) e d = (cs, r, e)
    go true r malformed e d = absurd (false≢true cc)
    go true r car_twice e d = absurd (false≢true cc)
    go true r too_large e d = absurd (false≢true cc)
    go false r x e d = absurd (false≢true cc)

-- what the gate answers afterwards, if these are the bytes of the cars that it took
written : (h : Gate) (bytes again : List ℕ) (cs : List CarIds) → InRange h → decoded bytes ≡ ok cs → encoded cs ≡ again
    → (length again ≤ 4358) × Saves (restoring h bytes).gate (record_of again)
unfolding record_for
written h bytes again cs r e w =
    let a = accepted_well_formed bytes cs e in
    let f = accepted_fits bytes cs e in
    let next : InRange (restoring h bytes).gate = rw (restores h bytes cs r e) (with_store h cs r f) in
    let out : record_for (cars_of (restoring h bytes).gate.phones.store) ≡ record_of again = rw (restores h bytes cs r e, cars_of_store cs, w) in
    (rw w at (at_most_4358 cs f.few a.0.digests a.2), rw out at (saves (restoring h bytes).gate next))

pub restored_saves : RestoredSaves
restored_saves h body d = let (cs, r, e) = taken h (2 ∷ body) d in written h (2 ∷ body) (2 ∷ body) cs r e (written_back (2 ∷ body) cs e refl)

pub older_saves : OlderSaves
older_saves h body d =
    let (cs, r, e) = taken h (1 ∷ body) d in
    let v = version_one_lem (1 ∷ body) cs e refl in
    written h (1 ∷ body) (2 ∷ 1 ∷ body) cs r e (v.2 ∙ ap (λ (s : List ℕ). 2 ∷ s) (sym v.1))
