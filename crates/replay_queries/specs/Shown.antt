-- How a reply is laid down.
use Rattle.answers.specs.Query.{plain, approval, access, phones, trust, peer, phone_access, methods, challenge, saved, preview, report}
use Rattle.definition.specs.Gate.{PackedReply}
use Rattle.replay_lines.specs.Answer.{answer}
use Rattle.replay_page.specs.Page.{Page}
use Rattle.replay_answers.specs.Query as Lines
use Rattle.replay_frames.specs.Frames as Frames

abbrev pub shown : PackedReply → Page → Page
shown (plain a) p = answer a p
shown (approval a) p = Lines.approval a p
shown (access a) p = Lines.access a p
shown (phones a ps) p = Lines.phones_listed (record { answer = a; phones = ps }) p
shown (trust a) p = Lines.trust a p
shown (peer a) p = Lines.peer a p
shown (phone_access a) p = Lines.phone_access a p
shown (methods a) p = Lines.methods a p
shown (challenge a) p = Lines.challenge a p
shown (saved a) p = Lines.encoded a p
shown (preview a paired store n) p = Lines.preview (record { answer = a; paired = paired; store = store; bytes = n }) p
shown (report a r) p = Frames.report a r p
