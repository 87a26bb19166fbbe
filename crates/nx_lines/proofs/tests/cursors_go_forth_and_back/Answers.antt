use Rattle.nx_lines.proofs.tests.cursors_go_forth_and_back.Goals as goal

pub loop-row-init : goal.loop-row-init
loop-row-init g c =
    let text = c.expect-text.result in (c.new-bytes.ensures.stands text, c.new-units.ensures.stands text, c.new-characters.ensures.stands text)
