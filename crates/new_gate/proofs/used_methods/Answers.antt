use Rattle.std.proofs.Common.{◌≡◌, ◌∙◌, map, length, take, min, ap, refl, rules, arith}
use lib.ListN.{length-set, length-map, get_or-map}
use Rattle.std.proofs.lemmas.List.{take_min}
use Rattle.arrays.specs.Arrays.{padded}
use Rattle.arrays.proofs.Laws.{copy_step, long_map}
use Rattle.state.specs.Running.{no_method, clean_method, past_methods}
use Rattle.new_gate.proofs.used_methods.Goals as goal

pub loop-i-init : goal.loop-i-init
unfolding padded
loop-i-init c =
    let far : length c.args.list ≡ 8 = search (rules, long_map) in
    (far, refl, rw c.no_method-kept.ensures)

pub loop-i-preserved : goal.loop-i-preserved
loop-i-preserved c =
    let loop = c.loop-i in
    let list = c.args.list in
    let far : length (map clean_method list) ≡ 8 = length-map list clean_method ∙ loop.invariant.0 in
    (loop.invariant.0, simp length-set loop.invariant.1, rw (c.clean_method.ensures, ← get_or-map clean_method list loop.i past_methods) (copy_step 8 no_method loop.i loop.kept (map clean_method list) far loop.invariant.2 (clean_method past_methods) (omega arith)))

pub returns : goal.returns
returns c =
    let loop = c.loop-i in
    let clean = map clean_method c.args.list in
    let far : length clean ≡ 8 = length-map c.args.list clean_method ∙ loop.invariant.0 in
    let e : loop.i ≡ min c.args.count 8 = omega arith in
    let k : take loop.i clean ≡ take c.args.count clean = rw (e, ← far) (take_min c.args.count clean) in
    loop.invariant.2 ∙ rw k
