use Rattle.std.proofs.Common.{◌∙◌, ap, length, unwrap_or, is_some}
use Rattle.replay_script.specs.Places.{item_of}
use Rattle.replay_items.specs.Bytes.{has_bytes, bytes_at}
use Rattle.replay_items.proofs.Laws.{laid_as, lay_as, has_end}
use Rattle.replay_items.proofs.bytes.lay.Goals as goal

pub returns : goal.returns
unfolding bytes_at has_bytes
returns c = λ fits.
    let a = c.args in
    let vs = item_of a.key.now a.line.now in
    let laid = c.bytes_of-laid.ensures.place ∙ laid_as a.form vs a.at (length a.room.now) fits in
    let h = has_end a.form vs a.at in
    record {
      has = c.is_some.ensures ∙ (ap is_some laid ∙ h.0);
      end = c.unwrap_or.ensures ∙ (ap (λ o. unwrap_or o a.at) laid ∙ h.1);
      memory = c.bytes_of-laid.ensures.written ∙ lay_as a.form vs a.at a.room.now fits;
    }
