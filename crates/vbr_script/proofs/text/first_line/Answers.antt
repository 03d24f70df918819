-- `memchr` finds the end of the first line.
use Rattle.std.proofs.Common.{◌≡◌, ◌+◌, ◌-◌, length, take, drop, arith, length-drop}
use Rattle.std.proofs.lemmas.List.{take_all}
use Rattle.vbr_script.proofs.Splitting.{lines_of-first, lines_of-only}
use Rattle.vbr_script.proofs.text.first_line.Goals as goal

pub returns-in-Some : goal.returns-in-Some
returns-in-Some c =
    let text = c.args.text.now in
    let past = c.in-Some.end + 1 in
    let rest : take (length text - past) (drop past text) ≡ drop past text =
    take_all _ _ (omega (arith, length-drop past text)) in
    let first = lines_of-first text c.in-Some.end c.in-Some.ensures in
    (cc (first, rest), rw rest (omega (arith, length-drop past text, c.in-Some.ensures.0.high)))

pub returns-in-None : goal.returns-in-None
returns-in-None c = cc (lines_of-only c.args.text.now c.in-None.ensures)
