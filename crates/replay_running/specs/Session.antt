-- How the session of a gate is shown.
use Rattle.std.specs.Prelude.{cond, List, ℕ}
use Rattle.ascii.specs.Ascii.{ascii}
use Rattle.phones.specs.Phones.{id_bytes}
use Rattle.state.specs.Running.{code_in_progress}
use Rattle.state.specs.declared.Gate.{Gate}
use Rattle.state.specs.declared.Methods.{Methods}
use Rattle.state.specs.declared.Session.{Session}
use Rattle.replay_lines.specs.Answer.{status_name}
use Rattle.replay_page.specs.Page.{Page, ◌▸◌, text, bytes, digits, item, word}

-- the code is kept while a code entry session is in progress
unfoldable pub code : Methods → Session → List ℕ → ℕ → Page → Page
code m s kept n p =
    cond (code_in_progress m s)
    (p ▸ text (ascii " code=") ▸ digits kept n)
    (p ▸ word (ascii " code=") (ascii "-"))

unfoldable pub whose : Session → Page → Page
whose s p = p ▸ item (ascii " session=") s.number ▸ text (ascii " phone=") ▸ bytes (id_bytes s.phone) ▸ item (ascii " method=") s.method

unfoldable pub stands : Session → Page → Page
stands s p =
    p ▸ text (ascii " session_car=") ▸ bytes s.car ▸ word (ascii " status=") (status_name s.status)
    ▸ item (ascii " deadline=") s.deadline ▸ item (ascii " ended_at=") s.ended

unfoldable pub session_or_none : Gate → Page → Page
session_or_none g p =
    cond g.core.validation.session.present
    (p ▸ whose g.core.validation.session ▸ stands g.core.validation.session ▸ code g.core.methods g.core.validation.session g.code g.core.settings.digits)
    (p ▸ word (ascii " session=") (ascii "none"))
