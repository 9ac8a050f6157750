use mathlib.Core.Path.{refl}
use mathlib.Core.List.{[]}
use Rattle.replay_page.specs.Page.{page}
use Rattle.frame_lines.specs.Walk.{Laid}
use Rattle.match_logs.proofs.Logs.{answer_laid}
use Rattle.match_logs.proofs.texts.put_answer.Goals as goal

pub returns : goal.returns
returns c =
    let a = c.args in
    let w = c.put_words-k in
    let clean : Laid 64 (page a.out.now 0) [] = record { room = c.requires; place = refl; front = refl } in
    (rw (c.put_text.ensures, w.ensures.0), rw (c.put_text.ensures, w.ensures.0) (answer_laid (page a.out.now 0) a.answer clean w.ensures.1))
