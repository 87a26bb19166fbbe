use Rattle.std.proofs.Common.{ap, sym, ◌∙◌}
use Rattle.nx_move.specs.Tags.{tags_from, tags_of}
use Rattle.nx_move.specs.Walks.{Left, over, out_of, into, first_of}
use Rattle.nx_move.proofs.Leading.{is_reached, if_reached}
use Rattle.nx_move.proofs.moving.go.Goals as goal

pub returns-in_ok-border-in-Forward : goal.returns-in_ok-border-in-Forward
returns-in_ok-border-in-Forward g c =
    if_reached c.args.way (tags_of c.args.text.now) c.args.at c.behind_element.result (over (tags_from c.args.text.now c.in_ok-border-in-Forward.border))
    c.behind_element.ensures (rw c.in-Forward.is (ap over (sym c.in_ok-border-in-Forward.ensures.tags)))

pub returns-in_ok-border-in-Up : goal.returns-in_ok-border-in-Up
returns-in_ok-border-in-Up g c =
    if_reached c.args.way (tags_of c.args.text.now) c.args.at c.behind_end.result (out_of (tags_from c.args.text.now c.in_ok-border-in-Up.border))
    c.behind_end.ensures (rw c.in-Up.is (ap out_of (sym c.in_ok-border-in-Up.ensures.tags)))

pub returns-in_ok-border-in-Down : goal.returns-in_ok-border-in-Down
returns-in_ok-border-in-Down g c =
    if_reached c.args.way (tags_of c.args.text.now) c.args.at c.behind_start.result (into (tags_from c.args.text.now c.in_ok-border-in-Down.border))
    c.behind_start.ensures (rw c.in-Down.is (ap into (sym c.in_ok-border-in-Down.ensures.tags)))

pub returns-in_ok-trail-in-Backward : goal.returns-in_ok-trail-in-Backward
returns-in_ok-trail-in-Backward g c =
    is_reached c.args.way (tags_of c.args.text.now) c.args.at c.in_ok-trail-in-Backward.trail.last
    (rw c.in-Backward.is (ap (λ (l : Left). l.last) c.in_ok-trail-in-Backward.ensures))

pub returns-in_ok-trail-in-BackUp : goal.returns-in_ok-trail-in-BackUp
returns-in_ok-trail-in-BackUp g c =
    is_reached c.args.way (tags_of c.args.text.now) c.args.at c.close.result
    (rw c.in-BackUp.is (c.close.ensures.closed ∙ ap (λ (l : Left). first_of l.starts) c.in_ok-trail-in-BackUp.ensures))
