use Rattle.std.proofs.Common.{refl, sym, subst, arith}
use Rattle.nx_events.specs.declared.state.EventState.{EventState}
use Rattle.nx_tags.specs.Parts.{IsKnownAt}
use Rattle.nx_tags.specs.Reading.{IfEnded, FoundInside, IsStoppedInside, StopsAt}
use Rattle.nx_tags.proofs.Finding.{first_opened, found_border, not_ended, nothing_open, stopped_next, found_inside, not_inside}
use Rattle.nx_tags.proofs.Reading.{known_read}
use Rattle.nx_tags.proofs.free.front_of_free.Goals as goal
use Rattle.nx_tags.proofs.free.front_of_free.Goals.{else-ended-via-then-ended+else-depth-gt0, else-ended-via-else-ended}

pub read_to-requires-clause-read : goal.read_to-requires-clause-read
read_to-requires-clause-read g c =
    known_read c.args.text.now c.len-len.ensures.utf8 c.args.from c.in_ok-front.front.state
    (subst (λ (s : EventState). IsKnownAt c.args.text.now c.args.from s) (sym c.in_ok-front.ensures.state) c.requires.known)

pub read_to-requires-clause-opened : goal.read_to-requires-clause-opened
read_to-requires-clause-opened g c =
    first_opened c.args.text.now c.len-len.ensures.utf8 c.args.from c.args.state.now c.in_ok-front.front.starts.items c.requires.known c.in_ok-front.ensures.starts

pub state_inside-requires-clause-begins : goal.state_inside-requires-clause-begins
state_inside-requires-clause-begins g c =
    let stopped : IsStoppedInside c.args.text.now c.args.from c.args.at c.read_to.new.self c.in-Inside.token =
    subst (λ s. StopsAt c.args.text.now c.args.from c.args.at c.read_to.new.self s) c.in-Inside.is c.in_ok-ended.ensures in
    let n = stopped_next c.args.text.now c.len-len.ensures.utf8 c.args.from c.args.at c.read_to.new.self c.in-Inside.token stopped in
    omega (arith, n.from, stopped.before)

pub state_inside-requires-clause-place : goal.state_inside-requires-clause-place
state_inside-requires-clause-place g c =
    let stopped : IsStoppedInside c.args.text.now c.args.from c.args.at c.read_to.new.self c.in-Inside.token =
    subst (λ s. StopsAt c.args.text.now c.args.from c.args.at c.read_to.new.self s) c.in-Inside.is c.in_ok-ended.ensures in
    (stopped_next c.args.text.now c.len-len.ensures.utf8 c.args.from c.args.at c.read_to.new.self c.in-Inside.token stopped).back

pub state_inside-requires-clause-room : goal.state_inside-requires-clause-room
state_inside-requires-clause-room g c =
    let stopped : IsStoppedInside c.args.text.now c.args.from c.args.at c.read_to.new.self c.in-Inside.token =
    subst (λ s. StopsAt c.args.text.now c.args.from c.args.at c.read_to.new.self s) c.in-Inside.is c.in_ok-ended.ensures in
    let n = stopped_next c.args.text.now c.len-len.ensures.utf8 c.args.from c.args.at c.read_to.new.self c.in-Inside.token stopped in
    omega (arith, n.fits, c.len-len.ensures.bytes)

pub returns-in_default : goal.returns-in_default
returns-in_default g c =
    let stopped : IsStoppedInside c.args.text.now c.args.from c.args.at c.read_to.new.self c.in-Inside.token =
    subst (λ s. StopsAt c.args.text.now c.args.from c.args.at c.read_to.new.self s) c.in-Inside.is c.in_ok-ended.ensures in
    not_inside c.args.text.now c.len-len.ensures.utf8 c.args.from c.args.at c.read_to.new.self c.in-Inside.token stopped
    (subst (λ o. FoundInside c.read_to.new.self.state c.args.at c.in-Inside.token o) c.in_default.is c.in_ok-state-in-Inside.ensures)

pub returns-then-depth-gt0 : goal.returns-then-depth-gt0
returns-then-depth-gt0 g c =
    let s = subst (λ s. StopsAt c.args.text.now c.args.from c.args.at c.read_to.new.self s) c.in-Border.is c.in_ok-ended.ensures in
    found_border c.args.text.now c.len-len.ensures.utf8 c.args.from c.args.at c.read_to.new.self s.0 s.1
    (subst (λ b. IfEnded c.args.text.now c.args.at b) c.if-ended.true s.2) (omega (arith, c.depth.ensures, c.if-depth-gt0.true))

pub returns-else-ended : goal.returns-else-ended
returns-else-ended g c =
    let s = subst (λ s. StopsAt c.args.text.now c.args.from c.args.at c.read_to.new.self s) c.in-Border.is c.in_ok-ended.ensures in
    elim c.else-ended.branch [
      | else-ended-via-then-ended+else-depth-gt0 w ↦
          nothing_open c.args.text.now c.len-len.ensures.utf8 c.args.from c.args.at c.read_to.new.self s.0 (omega (arith, w.depth.ensures, w.if-depth-gt0.false))
      | else-ended-via-else-ended w ↦
          not_ended c.args.text.now c.len-len.ensures.utf8 c.args.from c.args.at c.read_to.new.self
          (subst (λ b. IfEnded c.args.text.now c.args.at b) w.if-ended.false s.2)
    ]

pub returns-in-Some : goal.returns-in-Some
returns-in-Some g c =
    let stopped : IsStoppedInside c.args.text.now c.args.from c.args.at c.read_to.new.self c.in-Inside.token =
    subst (λ s. StopsAt c.args.text.now c.args.from c.args.at c.read_to.new.self s) c.in-Inside.is c.in_ok-ended.ensures in
    found_inside c.args.text.now c.len-len.ensures.utf8 c.args.from c.args.at c.read_to.new.self c.in-Inside.token stopped c.in-Some.state
    (subst (λ o. FoundInside c.read_to.new.self.state c.args.at c.in-Inside.token o) c.in-Some.is c.in_ok-state-in-Inside.ensures)
    (record c.read_to.new.self { state = c.in-Some.state }) refl refl
