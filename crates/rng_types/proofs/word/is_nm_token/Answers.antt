use Rattle.std.proofs.Common.{◌≡◌, rules, tests, sym, ◌∙◌}
use Rattle.std.proofs.lemmas.Iterator.{YieldsList-from_chars}
use Rattle.std.proofs.lemmas.Iterator.Search.{all_from_yields_List}
use Rattle.std.specs.List.{list_all}
use Rattle.std.specs.Str.{chars}
use Rattle.nx_base.specs.Characters.{is_name_char}
use Rattle.rng_types.proofs.Names.{is_nm_token-filled, is_nm_token-empty}
use Rattle.rng_types.proofs.word.is_nm_token.Goals as goal

pub returns-then-not-is_empty : goal.returns-then-not-is_empty
returns-then-not-is_empty c =
    let all : c.all.result ≡ list_all is_name_char (chars c.args.text.now) =
    all_from_yields_List is_name_char _ _ c.all.result c.all.ensures.ran (YieldsList-from_chars c.args.text.now c.utf8.text c.chars.ensures.rest) (λ x b q k. search (rules, tests)) in
    all ∙ sym (is_nm_token-filled c.args.text.now c.utf8.text (sym c.is_empty.ensures ∙ c.if-not-is_empty.true))

pub returns-else-not-is_empty : goal.returns-else-not-is_empty
returns-else-not-is_empty c = rw c.if-not-is_empty.false (sym (is_nm_token-empty c.args.text.now (sym c.is_empty.ensures ∙ c.if-not-is_empty.false)))
