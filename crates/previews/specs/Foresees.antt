-- What functions of the code give.
use Rattle.std.specs.Prelude.{◌≡◌}
use Rattle.state.specs.declared.Gate.{Gate}
use Rattle.state.specs.declared.Listed.{Listed}
use Rattle.state.specs.View.{Listing, view, listed_in}
use Rattle.answers.specs.declared.PreviewAnswer.{PreviewAnswer}
use Rattle.answers.specs.Query.{preview, preview_of}
use Rattle.definition.specs.Gate.{PackedReply, laid_reply}

-- a preview as it is returned
abbrev pub previewed : PreviewAnswer → PackedReply
previewed r = preview r.answer r.paired r.store r.bytes

-- lists that are laid down already on a copy, whatever operation left them
abbrev pub Foresees : Gate → Listed → PreviewAnswer → Type 0
Foresees g x r = (d : Listing) → x ≡ listed_in g.phones d → previewed r ≡ laid_reply (preview_of (view g) d)
