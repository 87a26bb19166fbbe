use Rattle.std.proofs.Common.{◌≡◌, ℕ, List, length, Vec, Global, arith, rules, sym, subst}
use Rattle.deriv_memory.specs.Remembered.{IsText}
use Rattle.deriv_memory.specs.Texts.{texts_in, AreNumbered}
use Rattle.deriv_memory.proofs.Texts.{one_more, same_numbered, taken_off}
use Rattle.deriv_memory.proofs.numbered_texts.Texts.push.Goals as goal

pub invariant_of-self-in-Ok : goal.invariant_of-self-in-Ok
invariant_of-self-in-Ok c =
    one_more c.self.inside.texts.items c.push.new.self.items c.self.inside.numbers c.put.new.numbers c.in_ok-from_slice.field-0 c.in_ok-key.key.items c.args.text.now
    c.len-number.result c.self.invariant (subst (λ (ts : List (List ℕ)). (i : ℕ) → IsText ts c.args.text.now i → ⊥) (sym c.self.view_is) c.requires)
    c.in_ok-push.ensures.items c.in_ok-from_slice.ensures.items c.in_ok-key.ensures.items (search rules) c.in-Ok.ensures.ok

pub invariant_of-self-in-Err : goal.invariant_of-self-in-Err
invariant_of-self-in-Err c =
    let size : c.len-number.result ≡ length c.self.inside.texts.items = search rules in
    let back : c.pop.new.self.items ≡ c.self.inside.texts.items =
    taken_off c.self.inside.texts.items c.push.new.self.items c.pop.new.self.items c.in_ok-from_slice.field-0 _ c.in_ok-push.ensures.items c.pop.ensures.rest
    (omega (arith, size, c.len-number.ensures, c.in_ok-push.ensures.len)) in
    let P : List (Vec ℕ Global) → Type 0 = λ xs. AreNumbered (texts_in xs) c.put.new.numbers in
    subst P (sym back) (same_numbered (texts_in c.self.inside.texts.items) c.self.inside.numbers c.put.new.numbers c.self.invariant c.in-Err.ensures.err)

pub returns-in-Ok-clause-once : goal.returns-in-Ok-clause-once
returns-in-Ok-clause-once c =
    (one_more c.self.inside.texts.items c.push.new.self.items c.self.inside.numbers c.put.new.numbers c.in_ok-from_slice.field-0 c.in_ok-key.key.items c.args.text.now
    c.len-number.result c.self.invariant (subst (λ (ts : List (List ℕ)). (i : ℕ) → IsText ts c.args.text.now i → ⊥) (sym c.self.view_is) c.requires)
    c.in_ok-push.ensures.items c.in_ok-from_slice.ensures.items c.in_ok-key.ensures.items (search rules) c.in-Ok.ensures.ok).once
