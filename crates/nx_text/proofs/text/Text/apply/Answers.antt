use Rattle.std.proofs.Common.{◌≡◌, ◌∙◌, ◌∷◌, length, sym, ap, subst, arith}
use Rattle.std.specs.Prelude.{count_by}
use Rattle.nx_text.specs.Changing.{texts_of}
use Rattle.nx_text.specs.Feeds.{joined}
use Rattle.nx_text.specs.Places.{is_line_feed}
use Rattle.nx_text.proofs.Making.{Making, begun, kept_again, joined_again, next_room, next_feeds, one_made, all_made}
use Rattle.nx_text.proofs.Sides.{kept_utf8}
use Rattle.nx_text.proofs.text.Text.apply.Goals as goal

pub loop-change-init : goal.loop-change-init
loop-change-init c =
    let bytes = c.self.inside.bytes in let feeds = c.self.inside.feeds in
    let wider = c.make_room.new.self in let wider_feeds = c.make_room-2.new.self in
    let a = c.in_ok-make_room.ensures in let b = c.in_ok-make_room-2.ensures in
    let len : length (texts_of c.as_slice.result.now) ≡ length (texts_of c.args.changes.now) = ap (λ xs. length (texts_of xs)) c.as_slice.ensures in
    let count : count_by is_line_feed (texts_of c.as_slice.result.now) ≡ count_by is_line_feed (texts_of c.args.changes.now) =
    ap (λ xs. count_by is_line_feed (texts_of xs)) c.as_slice.ensures in
    let known = c.in-Some.ensures in
    let put = known.0 in let put_feeds = known.1 in
    let room = a.room in let feeds_room = b.room in
    subst (λ xs. Making c.args.self.now c.args.changes.now wider wider_feeds xs) (sym c.as_slice-left.ensures)
    (begun c.args.self.now c.args.changes.now wider wider_feeds (kept_again bytes feeds wider wider_feeds c.self.invariant a.front a.back b.front b.back)
    (joined_again bytes wider a.front a.back ∙ c.self.view_is) c.requires (omega arith) (omega arith))

pub make-requires-clause-kept : goal.make-requires-clause-kept
make-requires-clause-kept c = c.loop-change.invariant.kept

pub make-requires-clause-range : goal.make-requires-clause-range
make-requires-clause-range c =
    (subst (λ xs. Making c.args.self.now c.args.changes.now c.loop-change.self-inside.bytes c.loop-change.self-inside.feeds xs)
    c.in-Some-split_first.ensures.cases.0 c.loop-change.invariant).are.0

pub make-requires-clause-utf8 : goal.make-requires-clause-utf8
make-requires-clause-utf8 c =
    (subst (λ xs. Making c.args.self.now c.args.changes.now c.loop-change.self-inside.bytes c.loop-change.self-inside.feeds xs)
    c.in-Some-split_first.ensures.cases.0 c.loop-change.invariant).are.1

pub make-requires-clause-room : goal.make-requires-clause-room
make-requires-clause-room c =
    next_room c.args.self.now c.args.changes.now c.loop-change.self-inside.bytes c.loop-change.self-inside.feeds c.in-Some-split_first.change.now
    c.in-Some-split_first.others.now
    (subst (λ xs. Making c.args.self.now c.args.changes.now c.loop-change.self-inside.bytes c.loop-change.self-inside.feeds xs)
    c.in-Some-split_first.ensures.cases.0 c.loop-change.invariant)

pub make-requires-clause-feeds_room : goal.make-requires-clause-feeds_room
make-requires-clause-feeds_room c =
    next_feeds c.args.self.now c.args.changes.now c.loop-change.self-inside.bytes c.loop-change.self-inside.feeds c.in-Some-split_first.change.now
    c.in-Some-split_first.others.now
    (subst (λ xs. Making c.args.self.now c.args.changes.now c.loop-change.self-inside.bytes c.loop-change.self-inside.feeds xs)
    c.in-Some-split_first.ensures.cases.0 c.loop-change.invariant)

pub loop-change-smaller : goal.loop-change-smaller
loop-change-smaller c = let len = ap length c.in-Some-split_first.ensures.cases.0 in omega arith

pub loop-change-preserved : goal.loop-change-preserved
loop-change-preserved c =
    let inside = c.loop-change.self-inside in
    let made = c.make.ensures in
    one_made c.args.self.now c.args.changes.now inside.bytes inside.feeds c.make.new.bytes c.make.new.feeds c.in-Some-split_first.change.now
    c.in-Some-split_first.others.now (kept_utf8 inside.bytes inside.feeds c.loop-change.invariant.kept)
    (subst (λ xs. Making c.args.self.now c.args.changes.now inside.bytes inside.feeds xs) c.in-Some-split_first.ensures.cases.0 c.loop-change.invariant)
    made.kept made.text made.room made.feeds_room

pub invariant_of-self-in_default-split_first : goal.invariant_of-self-in_default-split_first
invariant_of-self-in_default-split_first c = c.loop-change.invariant.kept

pub returns-clause-changed : goal.returns-clause-changed
returns-clause-changed c =
    all_made c.args.self.now c.args.changes.now c.loop-change.self-inside.bytes c.loop-change.self-inside.feeds c.loop-change.left.now
    c.loop-change.invariant c.in_default-split_first.ensures.cases
