use Rattle.std.proofs.Common.{◌<◌, ◌^◌, length, sym, ap, arith}
use Rattle.converter.specs.Convert.{room_of}
use Rattle.replay_lines.proofs.Copies.{left_few, left_inside, left_back, left_whole}
use Rattle.replay_lines.specs.Fields.{put_fields}
use Rattle.replay_conversion.specs.Conversion.{conversion}
use Rattle.replay_conversion.proofs.Room.{converted_in}
use Rattle.replay_conversion.proofs.put_conversion.Goals as goal

pub slice_bounds-convert_phone_validations-end : goal.slice_bounds-convert_phone_validations-end
slice_bounds-convert_phone_validations-end c = sym (ap length c.copy_of-copy.ensures)

pub slice_bounds-copy-end-2 : goal.slice_bounds-copy-end-2
slice_bounds-copy-end-2 c = let f = c.convert_phone_validations-c in left_inside _ _ f.new.out c.copy_of-copy.ensures f.auto.out

pub slice_bounds-put_output-end : goal.slice_bounds-put_output-end
slice_bounds-put_output-end c = let f = c.convert_phone_validations-c in left_whole _ _ f.new.out c.copy_of-copy.ensures f.auto.out

pub returns : goal.returns
unfolding conversion put_fields
returns c =
    let f = c.convert_phone_validations-c in
    let copied = c.copy_of-copy.ensures in
    let left = f.new.out in
    let shown = rw (left_back _ _ left copied f.auto.out) at c.put_output.ensures in
    let room : room_of f.result < 2 ^ 64 = rw (← c.room_of.ensures) (omega arith) in
    rw (← rw copied at f.ensures)
    (rw (← c.conversion_word.ensures, ← c.room_of.ensures, ← c.put_fields-k.ensures, ← shown), converted_in f.result room _ (left_few _ _ left copied f.auto.out _ c.requires))
