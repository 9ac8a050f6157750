use Rattle.std.proofs.Common.{true, Option, unwrap_or, replicate, ap, ◌∙◌}
use Rattle.phones.specs.declared.ShortId.{ShortId}
use Rattle.state.specs.declared.Kind.TheVariants.{CodeEntry}
use Rattle.state.specs.declared.Gate.{Gate}
use Rattle.new_gate.specs.New.{new_gate}
use Rattle.definition.specs.Gate.{Given, step, on_lists, restore_phone_validations}
use Rattle.bench_calls.specs.Held.{no_id, settings, opened, ready}
use Rattle.bench_calls.proofs.Laws.{new_gate_is}
use Rattle.bench_calls.proofs.held.ready.Goals as goal

pub returns : goal.returns
unfolding ready
returns c =
    let a = c.args in
    let call = on_lists (restore_phone_validations a.bytes.now) in
    c.«open».ensures
    ∙ ap (λ (x : Given). opened x.gate a.digest) c.restore_phone_validations-o.ensures
    ∙ ap (λ (x : Given). opened (step x.gate call).gate a.digest) (c.new_gate-fresh.ensures c.new_gate-fresh.result.gate)
    ∙ ap (λ (x : Gate). opened (step x call).gate a.digest) (new_gate_is _ _ _ _)
    ∙ ap (λ (i : ShortId). opened (step (new_gate settings (replicate 8 (record { id = i; kind = CodeEntry; needs_approval = true })) 1).gate call).gate a.digest)
    (c.unwrap_or.ensures ∙ ap (λ (o : Option ShortId). unwrap_or o no_id) c.make_id.ensures)
