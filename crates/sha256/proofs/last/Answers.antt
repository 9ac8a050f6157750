-- The rest, 0x80 and the length in bits are written into zeros.
use Rattle.std.proofs.Common.{◌∙◌, arith}
use Rattle.sha256.proofs.Padding.{end_is}
use Rattle.sha256.proofs.last.Goals as goal

pub returns : goal.returns
returns c =
    end_is c.args.rest.now c.args.total c.end-e.result (omega arith) c.end-e.ensures _ _ c.copy_from_slice.ensures.after (c.copy_from_slice-2.ensures.after ∙ c.to_be_bytes.ensures)
