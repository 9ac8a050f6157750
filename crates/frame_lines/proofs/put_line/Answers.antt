use Rattle.std.proofs.Common.{◌≡◌, refl, [], ◌<◌, length, rules}
use Rattle.replay_page.specs.Page.{page}
use Rattle.log_entries.specs.Entries.{entry}
use Rattle.frame_lines.specs.Walk.{Laid}
use Rattle.frame_lines.proofs.Pages.{line_laid}
use Rattle.frame_lines.proofs.put_line.Goals as goal

pub returns : goal.returns
returns c =
    let a = c.args in
    let f = a.e.frame in
    let time : a.e.time < 18446744073709551616 = search rules in
    let bus : f.bus < 256 = search rules in
    let dlc : f.dlc < 256 = search rules in
    let eight : length f.data ≡ 8 = search rules in
    let clean : Laid 85 (page a.out.now 0) [] = record { room = c.requires; place = refl; front = refl } in
    rw (c.put_back.ensures, c.put_hexadecimal-k.ensures, c.id_raw.ensures, c.put_front-k.ensures)
    (line_laid (page a.out.now 0) (entry a.e.time f) clean time bus dlc eight)
