use Rattle.phones.specs.Phones.{id_bytes}
use Rattle.replay_lines.proofs.parts.put_phone.Goals as goal

pub returns : goal.returns
unfolding id_bytes
returns c = c.put_first.ensures
