-- Every call leaves the parts that are not in its row.
use mathlib.Core.Path.{◌≡◌, refl, sym, ap, ◌∙◌}
use mathlib.Core.Bool.{Bool, true, false, cond}
use mathlib.Core.List.{List, []}
use Prim.Native.Nat.{ℕ}
use Rattle.phones.specs.Ids.{some_of, Left, stays}
use Rattle.phones.specs.Phones.{laid}
use Rattle.saved_record.specs.SavedRecord.{CarIds}
use Rattle.state.specs.declared.Gate.{Gate}
use Rattle.state.specs.declared.Answer.TheVariants.{BadSettings}
use Rattle.state.specs.declared.Mark.{Mark}
use Rattle.state.specs.declared.Mark.TheVariants.{Kept}
use Rattle.state.specs.declared.Said.{Said}
use Rattle.state.specs.Replies.{no_code, code_at}
use Rattle.state.specs.View.{View, Listing, view, laid_store}
use Rattle.range.specs.Range.{in_range}
use Rattle.save.specs.Save.{Saving}
use Rattle.can_queue.specs.Calls.{Sending, sending}
use Rattle.answers.specs.Query.{plain, ReplyByIds}
use Rattle.definition.specs.Gate as Gate
use Rattle.definition.specs.Gate.{SessionCall, Call, Says, saying, asked, served, saving, queueing, ended, said, says, validates, of_session, of_lists, of_save, of_sending, left, gives, step}
use Rattle.footprint.specs.Footprint.{Part, settings, methods, validation, paired, store, save, queue, code, in_core, notes, policy, peer, probe, session_touches, list_touches, queue_touches, touches, is_in, Same, Footprint}
use Rattle.footprint.proofs.Keeps.{pick, mixed, Keeps, either, same_either, unchanged}
use Rattle.footprint.proofs.Core.{core_keeps}
use Rattle.footprint.proofs.Queue.{serving_keeps}
use Rattle.footprint.proofs.Sessions.{start_keeps, submit_keeps, session_keeps}
use Rattle.footprint.proofs.Lists.{KeepsLists, lists_keep}

-- ---- what a call says

-- these parts change and no others
record Leaves (ps : List Part) (v : View) (s : Says) : Type 0 where
  core : s.core ≡ mixed ps v.core s.core
  paired : s.paired ≡ pick ps paired stays s.paired
  store : s.store ≡ pick ps store stays s.store
  save : s.save ≡ pick ps save v.save s.save
  queue : s.queue ≡ pick ps queue v.queue s.queue
  code : s.code ≡ pick ps code v.code s.code

held_at : (b : Bool) (held drawn : List ℕ) (m : Mark) → m ≡ cond b m Kept → code_at held drawn m ≡ cond b (code_at held drawn m) held
held_at true held drawn m e = refl
held_at false held drawn m e = ap (λ (m : Mark). code_at held drawn m) e

leaves_said : (ps : List Part) (v : View) (drawn : List ℕ) (o : Said) (stores : Bool) (x : Left (List CarIds)) → Keeps ps v.core o → x ≡ pick ps store stays x
    → Leaves ps v (saying v drawn o stores x)
unfolding saying
leaves_said ps v drawn o stores x h e =
    record {
      core = h.core;
      paired = same_either (is_in paired ps) stays;
      store = e;
      save = same_either (is_in save ps) v.save;
      queue = same_either (is_in queue ps) v.queue;
      code = held_at (is_in code ps) v.code drawn o.code h.code;
    }

leaves_core : (ps : List Part) (v : View) (drawn : List ℕ) (o : Said) → Keeps ps v.core o → Leaves ps v (Gate.of_core v drawn o)
leaves_core ps v drawn o h = leaves_said ps v drawn o false stays h (same_either (is_in store ps) stays)

leaves_lists : (ps : List Part) (v : View) (x : Listing) → KeepsLists ps x → Leaves ps v (of_lists v x)
leaves_lists ps v x h = record {
  core = unchanged ps v.core;
  paired = h.paired;
  store = h.store;
  save = same_either (is_in save ps) v.save;
  queue = same_either (is_in queue ps) v.queue;
  code = same_either (is_in code ps) v.code;
}

leaves_save : (ps : List Part) (v : View) (x : Saving) → is_in save ps ≡ true → Leaves ps v (of_save v x)
leaves_save ps v x h = record {
  core = unchanged ps v.core;
  paired = same_either (is_in paired ps) stays;
  store = same_either (is_in store ps) stays;
  save = rw h;
  queue = same_either (is_in queue ps) v.queue;
  code = same_either (is_in code ps) v.code;
}

leaves_sending : (ps : List Part) (v : View) (x : Sending) → is_in queue ps ≡ true → Leaves ps v (of_sending v x)
leaves_sending ps v x h = record {
  core = unchanged ps v.core;
  paired = same_either (is_in paired ps) stays;
  store = same_either (is_in store ps) stays;
  save = same_either (is_in save ps) v.save;
  queue = rw h;
  code = same_either (is_in code ps) v.code;
}

leaves_asked : (ps : List Part) (v : View) (r : ReplyByIds) → Leaves ps v (asked v r)
leaves_asked ps v r = record {
  core = unchanged ps v.core;
  paired = same_either (is_in paired ps) stays;
  store = same_either (is_in store ps) stays;
  save = same_either (is_in save ps) v.save;
  queue = same_either (is_in queue ps) v.queue;
  code = same_either (is_in code ps) v.code;
}

leaves_served : (ps : List Part) (v : View) (s : Says) → Leaves ps v s → Leaves ps v (served v s)
unfolding served
leaves_served ps v s h = either (λ x. Leaves ps v x) (in_range v) s _ h (leaves_asked ps v (plain BadSettings))

-- a session's call validates a phone only if its row has the store
leaves_session : (v : View) (full : Bool) (k : SessionCall) → Leaves (session_touches k) v (of_session v (ended v.core full k))
unfolding ended some_of
leaves_session v full k = leaves_said (session_touches k) v no_code _ _ _ (session_keeps v.core full k) (stored k)
  where
    stored : (k : SessionCall) → let e = ended v.core full k in let x = validates v.lists.store e.said.core.validation.session e.validates in x ≡ pick (session_touches k) store stays x
    stored (Gate.cancel_validation phone clock) = refl
    stored (Gate.complete_validation_action number clock) = refl
    stored (Gate.tick_validation clock) = refl

leaves : (v : View) (k : Call) → Leaves (touches k) v (says v k)
unfolding says queueing some_of
leaves v (Gate.new_gate_call settings' methods' count) = record { core = refl; paired = refl; store = refl; save = refl; queue = refl; code = refl }
leaves v (Gate.start_validation phone method clock random) = leaves_served _ v _ (leaves_core _ v _ _ (start_keeps v.core phone method clock random _ _))
leaves v (Gate.submit_validation_code phone typed clock) = leaves_served _ v _ (leaves_said _ v no_code _ _ _ (submit_keeps v.core phone typed clock _ _ _) refl)
leaves v (Gate.on_session k) = leaves_served (session_touches k) v _ (leaves_session v _ k)
leaves v (Gate.on_lists k) = leaves_served (list_touches k) v _ (leaves_lists (list_touches k) v _ (lists_keep v.lists v.core.settings.bonded k))
leaves v (Gate.on_save Gate.open_phone_validations_save) = leaves_served _ v _ (leaves_save _ v (saving v.lists.store v.save Gate.open_phone_validations_save) refl)
leaves v (Gate.on_save (Gate.take_phone_validations_save out)) = leaves_served _ v _ (leaves_save _ v (saving v.lists.store v.save (Gate.take_phone_validations_save out)) refl)
leaves v (Gate.on_queue (Gate.send_can_frame list frame class owner)) = leaves_served _ v _ (leaves_sending _ v (sending v.queue list frame class owner) refl)
leaves v (Gate.on_queue (Gate.serve_can_frames list turns clock)) =
    let ps = queue_touches (Gate.serve_can_frames list turns clock) in
    either (Leaves ps v) (in_range v) _ _
    (record { core = serving_keeps v.core v.lists v.queue list turns clock; paired = refl; store = refl; save = refl; queue = refl; code = refl })
    (leaves_asked ps v _)
leaves v (Gate.on_core k) = leaves_served (touches (Gate.on_core k)) v _ (leaves_core (touches (Gate.on_core k)) v no_code _ (core_keeps v.core v.lists k))
leaves v (Gate.ask q) = leaves_asked [] v _

-- ---- the gate that it leaves

module _ (ps : List Part) (g : Gate) (s : Says) (h : Leaves ps (view g) s) where
  same : (p : Part) → is_in p ps ≡ false → Same p g (left g s)
  unfolding left view
  same settings f = sym ((λ i. (h.core i).settings) ∙ rw f)
  same methods f = (sym ((λ i. (h.core i).methods.list) ∙ rw f), sym ((λ i. (h.core i).methods.count) ∙ rw f))
  same validation f = sym ((λ i. (h.core i).validation) ∙ rw f)
  same paired f = let e : s.paired ≡ stays = h.paired ∙ rw f in ap (laid g.phones.paired) (sym e)
  same store f = let e : s.store ≡ stays = h.store ∙ rw f in ap (laid_store g.phones.store) (sym e)
  same save f = sym (h.save ∙ rw f)
  same queue f = sym (h.queue ∙ rw f)
  same code f = sym (h.code ∙ rw f)
  same (in_core notes) f = (sym ((λ i. (h.core i).methods.available) ∙ rw f), sym ((λ i. (h.core i).methods.continues) ∙ rw f))
  same (in_core policy) f = sym ((λ i. (h.core i).policy) ∙ rw f)
  same (in_core peer) f = sym ((λ i. (h.core i).peer) ∙ rw f)
  same (in_core probe) f = sym ((λ i. (h.core i).probe) ∙ rw f)

pub footprint : Footprint
unfolding step gives
footprint g k = same (touches k) g (says (view g) k) (leaves (view g) k)
