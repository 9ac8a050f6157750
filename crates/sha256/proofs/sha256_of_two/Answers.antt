-- The block that is put together of both pieces, and what follows it.
use Rattle.std.proofs.Common.{refl}
use Rattle.sha256.proofs.Joined.{ends_in_block, fills_block}
use Rattle.sha256.proofs.sha256_of_two.Goals as goal

pub returns-then-b-room : goal.returns-then-b-room
returns-then-b-room c =
    ends_in_block c.args.a.now c.args.b.now _ refl c.hash_blocks-h.ensures c.copy_from_slice.ensures.after c.copy_from_slice-then-b-room.ensures.after c.finish.ensures

pub returns : goal.returns
returns c =
    fills_block c.args.a.now c.args.b.now _ _ refl c.if-b-room.false refl c.hash_blocks-h.ensures c.copy_from_slice.ensures.after c.copy_from_slice-2.ensures.after
    refl c.hash_blocks.ensures c.finish-2.ensures
