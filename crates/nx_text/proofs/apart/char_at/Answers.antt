use Rattle.std.proofs.Common.{◌++◌, ◌<◌, ◌≤◌, length, length-append, arith, rules}
use Rattle.nx_text.proofs.Sides.{char_in_front, char_in_back, char_fits}
use Rattle.nx_text.proofs.apart.char_at.Goals as goal

pub returns-then-at-front-clause-next_fits : goal.returns-then-at-front-clause-next_fits
returns-then-at-front-clause-next_fits c =
    let front = c.args.front.now in let back = c.args.back.now in
    let low : c.args.at < length front = search rules in
    let len = length-append front back in let fits = c.requires.fits in
    char_fits (front ++ back) c.args.at c.char_in.result (omega (arith, len, fits))
    (char_in_front front back c.args.at c.char_in.result low c.requires.place c.char_in.ensures)

pub returns-else-at-front-clause-char : goal.returns-else-at-front-clause-char
returns-else-at-front-clause-char c =
    let front = c.args.front.now in let back = c.args.back.now in
    let past : length front ≤ c.args.at = search rules in
    char_in_back front back c.args.at c.char_in-else-at-front.result past c.requires.place c.char_in-else-at-front.ensures

pub returns-else-at-front-clause-next_fits : goal.returns-else-at-front-clause-next_fits
returns-else-at-front-clause-next_fits c =
    let front = c.args.front.now in let back = c.args.back.now in
    let past : length front ≤ c.args.at = search rules in
    let len = length-append front back in let fits = c.requires.fits in
    char_fits (front ++ back) c.args.at c.char_in-else-at-front.result (omega (arith, len, fits))
    (char_in_back front back c.args.at c.char_in-else-at-front.result past c.requires.place c.char_in-else-at-front.ensures)
