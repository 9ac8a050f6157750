use Rattle.std.proofs.Common.{refl, ap, ◌∙◌, add-one}
use Rattle.list_cases.specs.Records.{with_phone, with_phones}
use Rattle.list_cases.proofs.Draft.put_phones.Goals as goal

pub loop-i-init : goal.loop-i-init
unfolding with_phones
loop-i-init c = refl

pub loop-i-preserved : goal.loop-i-preserved
unfolding with_phones
loop-i-preserved c = rw add-one (c.put_phone.ensures ∙ ap (with_phone c.loop-i.i c.args.len) c.loop-i.invariant)
