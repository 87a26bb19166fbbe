use Rattle.std.proofs.Common.{◌≡◌, true, rules, tests, sym, subst}
use Rattle.std.proofs.lemmas.Bool.{and_left, false_from_ne_true}
use Rattle.std.proofs.lemmas.Str.{is_utf8-from_IsUtf8, IsUtf8-from_is_utf8}
use Rattle.std.proofs.lemmas.Iterator.{YieldsList-from_chars}
use Rattle.std.proofs.lemmas.Iterator.Search.{all_from_yields_List}
use Rattle.std.specs.List.{list_all}
use Rattle.std.specs.Str.{chars, is_utf8, IsUtf8}
use Rattle.nx_base.specs.Characters.{is_char}
use Rattle.rng_types.proofs.word.is_of_chars.Goals as goal

pub returns-in-Ok : goal.returns-in-Ok
returns-in-Ok c =
    let same = c.in-Ok.ensures.cases.0 in
    let utf8 = c.in-Ok.ensures.cases.1 in
    let valid : is_utf8 c.args.bytes.now ≡ true = is_utf8-from_IsUtf8 _ utf8 in
    let all : c.all.result ≡ list_all is_char (chars c.in-Ok.text.now) =
    all_from_yields_List is_char _ _ c.all.result c.all.ensures.ran (YieldsList-from_chars c.in-Ok.text.now (subst IsUtf8 (sym same) utf8) c.chars.ensures.rest) (λ x b q k. search (rules, tests)) in
    rw valid (rw same at all)

pub returns-in-Err : goal.returns-in-Err
returns-in-Err c =
    sym (and_left _ _ (false_from_ne_true _ (λ valid. c.in-Err.ensures.cases.0 (IsUtf8-from_is_utf8 _ valid))))
