use Rattle.std.proofs.Common.{sym, ap, ◌∙◌, length}
use Rattle.definition.specs.Gate.{take_phone_validations_save, Given}
use Rattle.replay_lines.proofs.Copies.{left_few, left_inside, left_back, left_whole}
use Rattle.replay_given.specs.Turns.{laid, ran}
use Rattle.replay_steps.proofs.Laws.{save_quiet, quiet_fits}
use Rattle.replay_steps.proofs.put_take.Goals as goal

pub copy_of-copy-requires : goal.copy_of-copy-requires
copy_of-copy-requires c = c.requires

pub slice_bounds-take_phone_validations_save-end : goal.slice_bounds-take_phone_validations_save-end
slice_bounds-take_phone_validations_save-end c = sym (ap length c.copy_of-copy.ensures)

pub slice_bounds-copy-end-2 : goal.slice_bounds-copy-end-2
slice_bounds-copy-end-2 c = let f = c.take_phone_validations_save-o in left_inside _ _ f.new.out c.copy_of-copy.ensures f.auto.out

pub slice_bounds-put_output-end : goal.slice_bounds-put_output-end
slice_bounds-put_output-end c = let f = c.take_phone_validations_save-o in left_whole _ _ f.new.out c.copy_of-copy.ensures f.auto.out

pub returns : goal.returns
unfolding ran laid
returns c =
    let f = c.take_phone_validations_save-o in
    let copied = c.copy_of-copy.ensures in
    let left = f.new.out in
    let gave = rw copied at f.ensures in
    let quiet = ap (λ (d : Given). d.signals) gave ∙ save_quiet c.args.h.gate (take_phone_validations_save c.args.lent.now) in
    let shown = rw (left_back _ _ left copied f.auto.out) at c.put_output-k.ensures in
    rw (← gave)
    (rw (quiet, ← c.put_answer-k.ensures, ← shown, ← c.with_gate-next.ensures) c.put_calm.ensures.0, quiet_fits c.args.h f.result _ f.type_inv quiet left (left_few _ _ left copied f.auto.out _ c.requires))
