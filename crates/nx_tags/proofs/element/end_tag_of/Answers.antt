use Rattle.std.proofs.Common.{◌≡◌, ◌+◌, subst, arith}
use Rattle.nx_base.specs.Tokens.{end_of}
use Rattle.nx_tags.proofs.Walks.{IsAlong, cut_here, at_end, nothing_found, inside_more, end_found_here, broken_here}
use Rattle.nx_tags.proofs.element.end_tag_of.Goals as goal

pub returns-in_default : goal.returns-in_default
returns-in_default g c =
    let way = c.loop-open_tags.invariant in
    nothing_found c.args.text.now c.len-len.ensures.utf8 c.args.start c.args.from c.loop-open_tags.place c.loop-open_tags.open_tags way
    (at_end c.args.text.now c.loop-open_tags.place _ c.in_ok-token.ensures.token c.in_default.is)

pub overflow_add-to : goal.overflow_add-to
overflow_add-to g c =
    let h = cut_here c.args.text.now c.loop-open_tags.place c.len-len.ensures.utf8 c.loop-open_tags.invariant.border _ c.in-Some.token c.in_ok-token.ensures.token c.in-Some.is in
    omega (arith, h.fits, h.from, c.len-len.ensures.bytes, c.len.ensures)

pub returns-in-Closed : goal.returns-in-Closed
returns-in-Closed g c =
    let way = c.loop-open_tags.invariant in
    let utf8 = c.len-len.ensures.utf8 in
    let h = cut_here c.args.text.now c.loop-open_tags.place utf8 way.border _ c.in-Some.token c.in_ok-token.ensures.token c.in-Some.is in
    end_found_here c.args.text.now utf8 c.args.start c.args.from c.loop-open_tags.place c.loop-open_tags.open_tags way c.in-Some.token c.pass_nested.new.open_tags
    c.in_ok-pass_nested.field-0 h.within h.is c.in_ok-pass_nested.ensures c.in-Closed.is

pub returns-in-Broken : goal.returns-in-Broken
returns-in-Broken g c =
    let way = c.loop-open_tags.invariant in
    let utf8 = c.len-len.ensures.utf8 in
    let h = cut_here c.args.text.now c.loop-open_tags.place utf8 way.border _ c.in-Some.token c.in_ok-token.ensures.token c.in-Some.is in
    broken_here c.args.text.now utf8 c.args.start c.args.from c.loop-open_tags.place c.loop-open_tags.open_tags way c.in-Some.token c.pass_nested.new.open_tags
    c.in_ok-pass_nested.field-0 h.within h.is c.in_ok-pass_nested.ensures c.in-Broken.is

pub loop-open_tags-smaller : goal.loop-open_tags-smaller
loop-open_tags-smaller g c =
    let h = cut_here c.args.text.now c.loop-open_tags.place c.len-len.ensures.utf8 c.loop-open_tags.invariant.border _ c.in-Some.token c.in_ok-token.ensures.token c.in-Some.is in
    omega (arith, h.later, h.from, h.within, c.len.ensures)

pub loop-open_tags-preserved : goal.loop-open_tags-preserved
loop-open_tags-preserved g c =
    let way = c.loop-open_tags.invariant in
    let utf8 = c.len-len.ensures.utf8 in
    let h = cut_here c.args.text.now c.loop-open_tags.place utf8 way.border _ c.in-Some.token c.in_ok-token.ensures.token c.in-Some.is in
    let end : end_of c.in-Some.token ≡ c.loop-open_tags.place + c.len.result = omega (arith, h.from, c.len.ensures) in
    subst (λ n. IsAlong c.args.text.now c.args.start c.args.from n c.pass_nested.new.open_tags) end
    (inside_more c.args.text.now utf8 c.args.start c.args.from c.loop-open_tags.place c.loop-open_tags.open_tags way c.in-Some.token c.pass_nested.new.open_tags
    c.in_ok-pass_nested.field-0 h.within h.is c.in_ok-pass_nested.ensures c.in-Inside.is)
