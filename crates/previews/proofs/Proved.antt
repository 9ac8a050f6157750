-- `preview_tells`: the claim of specs/Tells.antt.
use Rattle.std.proofs.Common.{true, false, ◌≡◌, [], refl, sym, ◌∙◌}
use Rattle.state.specs.declared.Gate.{Gate}
use Rattle.state.specs.declared.Answer.{Answer}
use Rattle.state.specs.declared.Answer.TheVariants.{BadSettings}
use Rattle.state.specs.Replies.{nothing_raised}
use Rattle.state.specs.View.{Listing, view, lists_stay, listed_in}
use Rattle.phones.specs.Phones.{list_of}
use Rattle.saved_record.specs.Store.{store_of}
use Rattle.range.specs.Range.{in_range}
use Rattle.can_access.specs.Approval as Access
use Rattle.answers.specs.Answers.{record_answer}
use Rattle.answers.specs.Query.{Query, plain, preview, preview_of, answer_to, encode_phone_validations, preview_approve_can_read_write}
use Rattle.definition.specs.Gate.{ListCall, Call, on_lists, on_core, approve_can_read_write, listing, of_lists, said, saying, served, says, left, gives, ask, step, after, answered}
use Rattle.definition.proofs.Asked.{by_query}
use Rattle.previews.specs.Tells.{Previews, unpair, forget, clear, prune, approve, record_at, told_of, PreviewTells}
use Rattle.previews.proofs.Laws.{foreseen_laid}

-- what a preview tells beside what its operation gives
Tells : Gate → Query → Call → Type 0
Tells g q k = (a : Answer) × ((step g k).answer ≡ plain a) × (step g (ask q) ≡ answered g (told_of a (after g k) (record_at (after g k)).len))

-- an operation that leaves these lists, on a gate in range
of_lists_lem : (g : Gate) (q : Query) (d : Listing) → in_range (view g) ≡ true → answer_to (view g) q ≡ preview_of (view g) d
    → step g (ask q) ≡ answered g (told_of d.answer (left g (of_lists (view g) d)) (record_at (left g (of_lists (view g) d))).len)
unfolding preview_of left
of_lists_lem g q d h e = sym (by_query g q _ (foreseen_laid g d (listed_in g.phones d) refl ∙ rw (e, h)))

of_call_lem : (g : Gate) (q : Query) (k : ListCall) → in_range (view g) ≡ true
    → answer_to (view g) q ≡ preview_of (view g) (listing (view g).lists g.core.settings.bonded k) → Tells g q (on_lists k)
unfolding Tells step gives says served view
of_call_lem g q k h e =
    let d = listing (view g).lists g.core.settings.bonded k in
    (d.answer, rw h, of_lists_lem g q d h e ∙ rw h)

of_approve : (g : Gate) → in_range (view g) ≡ true → Tells g preview_approve_can_read_write (on_core approve_can_read_write)
unfolding Tells step gives says served said saying answer_to lists_stay left view
of_approve g h =
    let a = (Access.approve g.core).answer in
    (a, rw h, of_lists_lem g preview_approve_can_read_write (lists_stay nothing_raised a) h refl ∙ rw h)

tells : (g : Gate) (q : Query) (k : Call) → Previews q k → in_range (view g) ≡ true → Tells g q k
unfolding listing answer_to view
tells g q k (unpair id) h = of_call_lem g q _ h refl
tells g q k (forget id) h = of_call_lem g q _ h refl
tells g q k clear h = of_call_lem g q _ h refl
tells g q k prune h = of_call_lem g q _ h refl
tells g q k approve h = of_approve g h

refused : (g : Gate) (q : Query) (k : Call) → Previews q k → in_range (view g) ≡ false → step g (ask q) ≡ answered g (preview BadSettings (list_of []) (store_of []) 0)
unfolding answer_to preview_of
refused g q k (unpair id) h = sym (by_query g q _ (rw h))
refused g q k (forget id) h = sym (by_query g q _ (rw h))
refused g q k clear h = sym (by_query g q _ (rw h))
refused g q k prune h = sym (by_query g q _ (rw h))
refused g q k approve h = sym (by_query g q _ (rw h))

pub preview_tells : PreviewTells
unfolding Tells answer_to record_answer view
preview_tells = record { tells = tells; encodes = λ h r. sym (by_query h encode_phone_validations _ (rw r)); refused = refused }
