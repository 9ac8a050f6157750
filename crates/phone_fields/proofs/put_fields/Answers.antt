use Rattle.phones.specs.Phones.{phones_of}
use Rattle.phone_fields.proofs.Writing.{written_none, next_room, written_more, written_all}
use Rattle.phone_fields.proofs.put_fields.Goals as goal

pub loop-id-init : goal.loop-id-init
loop-id-init c =
    (tt, tt, rw (c.into_iter-id-iterator.ensures.into_iter_gives, c.ids-id-items.ensures.value) (written_none (phones_of c.args.l) _ _))

pub put_field-to-requires-clause-room : goal.put_field-to-requires-clause-room
put_field-to-requires-clause-room c = next_room _ _ _ _ _ _ c.requires c.loop-id.invariant.2 _ _ c.in-Some.ensures.steps.0

pub loop-id-preserved : goal.loop-id-preserved
loop-id-preserved c =
    let put = c.put_field-to.ensures in
    (tt, tt, written_more _ _ _ _ _ _ c.requires c.loop-id.invariant.2 _ _ c.in-Some.ensures.steps.0 _ _ put.place put.written)

pub returns : goal.returns
returns c = written_all _ _ _ _ _ _ c.requires c.loop-id.invariant.2 c.in-None.ensures.steps.0
