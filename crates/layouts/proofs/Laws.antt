-- What a form must keep to, and that any two that do agree. It goes over what becomes of each list, not over the calls.
use mathlib.Core.Path.{◌≡◌, refl, ap, sym, ◌∙◌}
use mathlib.Core.Bool.{Bool, cond}
use mathlib.Core.List.{List, [], ◌∷◌, map}
use Prim.Native.Nat.{ℕ}
use Rattle.phones.specs.Ids.{ids_fit, Left, stays, becomes, afterwards}
use Rattle.saved_record.specs.SavedRecord.{CarIds}
use Rattle.state.specs.Replies.{no_s, sent_s, sending}
use Rattle.state.specs.View.{View}
use Rattle.range.proofs.Stores.{cars_fit}
use Rattle.validations.specs.Store.{record_for}
use Rattle.answers.specs.Query as Query
use Rattle.answers.specs.Query.{plain, numbered_reply, ReplyByIds}
use Rattle.definition.specs.Gate.{Call, Says, says, Lent, lent_to, lent_after, Form, replied, gives}
use Rattle.layouts.specs.Layouts.{run, Told, told}

-- ---- what becomes of a view

abbrev pub fits_after : {A : Type 0} → (A → Bool) → Bool → Left A → Bool
fits_after fit t stays = t
fits_after fit t (becomes x) = fit x

abbrev pub after : View → Says → View
after v s = record {
  core = s.core;
  lists = record { paired = afterwards v.lists.paired s.paired; store = afterwards v.lists.store s.store };
  paired_fits = fits_after ids_fit v.paired_fits s.paired;
  store_fits = fits_after cars_fit v.store_fits s.store;
  save = s.save;
  queue = s.queue;
  code = s.code;
}

pub record Lawful {G L S : Type 0} (f : Form G L S) (ids : L → List (List ℕ)) (cars : S → List CarIds) : Type 0 where
  pub reads : (ps : List (List ℕ)) → ids (f.lay ps) ≡ ps
  pub reads_store : (cs : List CarIds) → cars (f.lay_store cs) ≡ cs
  pub leaves : (g : G) (s : Says) → f.view (f.left g s) ≡ after (f.view g) s

-- ---- the run of a view, which both runs are

abbrev tells : View → Lent → Says → Told
tells v memory s = record {
  numbered = numbered_reply s.answer;
  answer = s.answer;
  signals = sending s.raised (cond s.stores (sent_s (record_for (afterwards v.lists.store s.store))) no_s);
  lent = lent_after memory s.lent;
  seen = after v s;
}

abbrev run_seen : View → List Call → List Told
run_seen v [] = []
run_seen v (k ∷ ks) = tells v (lent_to k) (says v k) ∷ run_seen (after v (says v k)) ks

module _ {G L S : Type 0} (f : Form G L S) (ids : L → List (List ℕ)) (cars : S → List CarIds) (law : Lawful f ids cars) where
  read_back : (r : ReplyByIds) → replied ids cars (replied f.lay f.lay_store r) ≡ r
  read_back (plain a) = refl
  read_back (Query.approval a) = refl
  read_back (Query.access a) = refl
  read_back (Query.phones a ps) = ap (λ (qs : List (List ℕ)). Query.phones a qs) (law.reads ps)
  read_back (Query.trust a) = refl
  read_back (Query.peer a) = refl
  read_back (Query.phone_access a) = refl
  read_back (Query.methods a) = refl
  read_back (Query.challenge a) = refl
  read_back (Query.saved a) = refl
  read_back (Query.preview a paired store n) = rw (law.reads paired, law.reads_store store)
  read_back (Query.report a r) = refl

  tells_is : (g : G) (memory : Lent) (s : Says) → told f ids cars (gives f g memory s) ≡ tells (f.view g) memory s
  unfolding gives
  tells_is g memory s = rw (read_back s.answer, law.leaves g s)

  run_seen_lem : (g : G) (ks : List Call) → map (told f ids cars) (run f g ks) ≡ run_seen (f.view g) ks
  unfolding gives
  run_seen_lem g [] = refl
  run_seen_lem g (k ∷ ks) =
      let s = says (f.view g) k in
      rw (tells_is g (lent_to k) s, run_seen_lem (f.left g s) ks, law.leaves g s)

module _ {G L S H K R : Type 0}
    (f : Form G L S) (ids : L → List (List ℕ)) (cars : S → List CarIds) (law : Lawful f ids cars)
    (f' : Form H K R) (ids' : K → List (List ℕ)) (cars' : R → List CarIds) (law' : Lawful f' ids' cars') where
  pub agree : (g : G) (h : H) (ks : List Call) → f.view g ≡ f'.view h → map (told f ids cars) (run f g ks) ≡ map (told f' ids' cars') (run f' h ks)
  agree g h ks e = run_seen_lem f ids cars law g ks ∙ ap (λ (v : View). run_seen v ks) e ∙ sym (run_seen_lem f' ids' cars' law' h ks)
