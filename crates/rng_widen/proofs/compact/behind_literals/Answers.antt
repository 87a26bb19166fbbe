use Rattle.std.proofs.Common.{rules, ◌≡◌, true, false, sym, ◌∙◌}
use Rattle.rng_widen.specs.CompactTokens.{is_literal, is_tilde}
use Rattle.rng_widen.proofs.CompactLoops.{literals_go_on, literals_lack, literals_are_joined, literals_end, literals_missing, literals_over}
use Rattle.rng_widen.proofs.compact.behind_literals.Goals as goal
use Rattle.rng_widen.proofs.compact.behind_literals.Goals.{then-needed+else-not-is_literal, else-needed+else-not-is_tilde}

pub returns-then-not-is_literal : goal.returns-then-not-is_literal
returns-then-not-is_literal c =
    let lacks : is_literal c.in-Some.token.now.lexeme ≡ false = first_of (cc, search rules) in
    sym (literals_lack c.tokens.needed c.in-Some.token.now c.in-Some.behind.now c.tokens.rest.now c.in-Some.ensures.cases.0
    c.if-needed.true lacks)
    ∙ c.tokens.invariant

pub returns-then-not-is_tilde : goal.returns-then-not-is_tilde
returns-then-not-is_tilde c =
    let ends : is_tilde c.in-Some.token.now.lexeme ≡ false = first_of (cc, search rules) in
    sym (literals_end c.tokens.needed c.in-Some.token.now c.in-Some.behind.now c.tokens.rest.now c.in-Some.ensures.cases.0
    c.if-needed.false ends)
    ∙ c.tokens.invariant

pub tokens-preserved : goal.tokens-preserved
tokens-preserved c =
    elim c.if-needed.branch [
      | then-needed+else-not-is_literal w ↦
          (let is : is_literal c.in-Some.token.now.lexeme ≡ true = first_of (cc, search rules) in
          literals_go_on c.tokens.needed c.in-Some.token.now c.in-Some.behind.now c.tokens.rest.now c.in-Some.ensures.cases.0
          w.if-needed.true is
          ∙ c.tokens.invariant)
      | else-needed+else-not-is_tilde w ↦
          (let is : is_tilde c.in-Some.token.now.lexeme ≡ true = first_of (cc, search rules) in
          literals_are_joined c.tokens.needed c.in-Some.token.now c.in-Some.behind.now c.tokens.rest.now c.in-Some.ensures.cases.0
          w.if-needed.false is
          ∙ c.tokens.invariant)
    ]

pub returns-then-needed-2 : goal.returns-then-needed-2
returns-then-needed-2 c =
    sym (literals_missing c.tokens.needed c.tokens.rest.now c.in_default.ensures.cases c.if-needed-2.true) ∙ c.tokens.invariant

pub returns-else-needed-2 : goal.returns-else-needed-2
returns-else-needed-2 c =
    sym (literals_over c.tokens.needed c.tokens.rest.now c.in_default.ensures.cases c.if-needed-2.false) ∙ c.tokens.invariant
