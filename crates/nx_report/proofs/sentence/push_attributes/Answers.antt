use Rattle.std.proofs.Common.{◌≡◌, ◌++◌, ℕ, List, length, ap, subst, arith}
use Rattle.std.specs.Prelude.{OnOk}
use Rattle.nx_report.proofs.Words.{lacking_one, lacking_more}
use Rattle.nx_report.proofs.sentence.push_attributes.Goals as goal

pub returns-in-None : goal.returns-in-None
returns-in-None c =
    let P : List ℕ → Type 0 = λ t. OnOk c.push_attribute.result (c.push_attribute.new.out.items ≡ c.args.out.now.items ++ t) in
    subst P (lacking_one c.args.names.now c.split_word.result.0.now c.split_word.result.1.now c.split_word.ensures.word c.split_word.ensures.rest c.in-None.ensures.cases)
    c.push_attribute.ensures

pub returns-in-Some : goal.returns-in-Some
returns-in-Some c =
    let P : List ℕ → Type 0 = λ t. OnOk c.push_names.result (c.push_names.new.out.items ≡ c.args.out.now.items ++ t) in
    subst P (lacking_more c.args.names.now c.split_word.result.1.now c.split_word.ensures.rest (let is = ap length c.in-Some.ensures.cases.0 in omega (arith, is))) c.push_names.ensures
