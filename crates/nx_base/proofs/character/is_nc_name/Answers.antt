use Rattle.std.proofs.Common.{◌≡◌, rules, tests, not, ◌==◌, sym, ◌∙◌}
use Rattle.std.proofs.lemmas.Iterator.{YieldsList-from_chars}
use Rattle.std.proofs.lemmas.Iterator.Search.{all_from_yields_List}
use Rattle.std.specs.List.{list_all}
use Rattle.std.specs.Str.{chars}
use Rattle.nx_base.proofs.character.is_nc_name.Goals as goal

pub returns-then-is_name : goal.returns-then-is_name
returns-then-is_name c =
    let all : c.all.result ≡ list_all (λ x. not (x == 58)) (chars c.args.text.now) =
    all_from_yields_List (λ x. not (x == 58)) _ _ c.all.result c.all.ensures.ran (YieldsList-from_chars c.args.text.now c.utf8.text c.chars.ensures.rest) (λ x b q k. search (rules, tests)) in
    rw (sym c.is_name.ensures ∙ c.if-is_name.true) all
