use Rattle.std.proofs.Common.{◌≡◌, ◌||◌, ◌<◌, Bool, true, length, refl, ap, subst, sym, ◌∙◌, arith}
use Rattle.nx_marks.specs.Chain.{Kept}
use Rattle.nx_marks.specs.Joined.{seen}
use Rattle.nx_marks.specs.Rejoining.{Joins}
use Rattle.nx_marks.specs.Right.{tags_behind}
use Rattle.nx_marks.specs.Ruling.{is_due}
use Rattle.nx_marks.specs.declared.mark.Mark.{Mark}
use Rattle.nx_marks.proofs.Rejoining.{joins_without, joins_with, end_own, row_longer}
use Rattle.nx_marks.proofs.Seen.{seen-longer}
use Rattle.nx_marks.proofs.rows.join.Goals as goal

pub ends_marked-marked-requires : goal.ends_marked-marked-requires
ends_marked-marked-requires g c =
    let m = g.A.Machine in
    let a = c.args.machine.now in
    let took = c.take_next.new.self in
    let P : Mark _ → Type 0 = λ x. m.is_state a x.state in
    subst P (sym c.last.ensures) (end_own (m.is_state a) (m.means a) (m.rules a) (g.met.A.Machine.rule_laws a) c.requires.right.text c.args.line.now took (seen true took) c.take_next.ensures (c.is_row.ensures.row c.if-is_row.true)
    c.requires.here c.requires.same c.requires.right.right)

pub returns-then-is_row : goal.returns-then-is_row
returns-then-is_row g c =
    let m = g.A.Machine in
    let a = c.args.machine.now in
    let k = c.args.line.now in
    let took = c.take_next.new.self in
    let end = (seen true took).here in
    let front = (seen true took).front in
    let more : length k.front < length front = (let n = ap (λ (i : Kept _). length i.front) c.take_next.ensures.is in let l = seen-longer took (c.is_row.ensures.some c.if-is_row.true) in omega arith) in
    let is : c.ends_marked-marked.result ≡ (end.saved || is_due (m.rules a) (m.means a end.state) (tags_behind front)) =
    c.ends_marked-marked.ensures ∙ ap (λ (x : Mark _). x.saved || is_due (m.rules a) (m.means a x.state) c.tags_before_last.result) c.last.ensures ∙ ap (λ n. end.saved || is_due (m.rules a) (m.means a end.state) n) c.tags_before_last.ensures in
    let P : Kept _ → Type 0 = λ j. Joins (m.means a) (m.rules a) k (seen true (record { front = j.front; here = j.here; marked = c.ends_marked-marked.result; aside = j.aside })) in
    let Q : Bool → Type 0 = λ b. Joins (m.means a) (m.rules a) k (seen true (record { front = took.front; here = took.here; marked = b; aside = took.aside })) in
    subst P (sym c.line.view_is) (subst Q (sym is) (joins_with (m.means a) (m.rules a) k took (seen true took) (is_due (m.rules a) (m.means a end.state) (tags_behind front)) c.take_next.ensures (c.is_row.ensures.row c.if-is_row.true) more refl))

pub returns-then-front_len-count : goal.returns-then-front_len-count
returns-then-front_len-count g c =
    let m = g.A.Machine in
    let a = c.args.machine.now in
    let took = ap (λ (k : Kept _). length k.front) c.take_next.ensures.is in
    let P : Kept _ → Type 0 = λ j. Joins (m.means a) (m.rules a) c.args.line.now (record { front = j.front; here = j.here; marked = j.marked || j.here.saved; aside = j.aside }) in
    rw c.either-stays.ensures (subst P (sym c.line-2.view_is) (joins_without (m.means a) (m.rules a) c.args.line.now c.take_next.new.self c.follow.new.self c.take_next.ensures c.follow.ensures
    (grind (arith, took, c.front_len.ensures, c.front_len-count.ensures, c.if-front_len-count.true))))

pub ends_marked-marked-requires-2 : goal.ends_marked-marked-requires-2
ends_marked-marked-requires-2 g c =
    let m = g.A.Machine in
    let a = c.args.machine.now in
    let P : Kept _ → Type 0 = λ k. m.is_state a k.here.state in
    subst P (sym c.line-2.view_is) (end_own (m.is_state a) (m.means a) (m.rules a) (g.met.A.Machine.rule_laws a) c.requires.right.text c.args.line.now c.take_next.new.self c.follow.new.self c.take_next.ensures c.follow.ensures
    c.requires.here c.requires.same c.requires.right.right)

pub returns : goal.returns
returns g c =
    let m = g.A.Machine in
    let a = c.args.machine.now in
    let b = c.follow.new.self in
    let took = ap (λ (k : Kept _). length k.front) c.take_next.ensures.is in
    let longer = row_longer c.args.line.now c.take_next.new.self b c.take_next.ensures c.follow.ensures in
    let more : length c.args.line.now.front < length b.front = grind (arith, took, longer, c.front_len.ensures, c.front_len-count.ensures, c.if-front_len-count.false) in
    let due : Bool = is_due (m.rules a) (m.means a b.here.state) (tags_behind b.front) in
    let is : c.ends_marked-marked-2.result ≡ (b.here.saved || due) =
    c.ends_marked-marked-2.ensures ∙ ap (λ (k : Kept _). k.here.saved || is_due (m.rules a) (m.means a k.here.state) c.last_tags-tags.result) c.line-2.view_is ∙ ap (λ n. b.here.saved || is_due (m.rules a) (m.means a b.here.state) n) c.last_tags-tags.ensures in
    let P : Kept _ → Type 0 = λ j. Joins (m.means a) (m.rules a) c.args.line.now (record { front = j.front; here = j.here; marked = c.ends_marked-marked-2.result; aside = j.aside }) in
    let Q : Bool → Type 0 = λ x. Joins (m.means a) (m.rules a) c.args.line.now (record { front = b.front; here = b.here; marked = x; aside = b.aside }) in
    subst P (sym c.line-2.view_is) (subst Q (sym is) (joins_with (m.means a) (m.rules a) c.args.line.now c.take_next.new.self b due c.take_next.ensures c.follow.ensures more refl))
