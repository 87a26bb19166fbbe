use Rattle.std.proofs.Common.{◌≡◌, true, ap, sym, ◌∙◌}
use Rattle.std.proofs.lemmas.Bool.{and_left, false_from_ne_true}
use Rattle.std.proofs.lemmas.Str.{is_utf8-from_IsUtf8, IsUtf8-from_is_utf8}
use Rattle.std.specs.Str.{is_utf8}
use Rattle.nx_script.specs.Reading.{is_qualified, is_qname}
use Rattle.nx_script.proofs.qualified_name.is_qname.Goals as goal

pub returns-in-Ok : goal.returns-in-Ok
unfolding is_qname
returns-in-Ok c =
    let valid : is_utf8 c.args.name.now ≡ true = is_utf8-from_IsUtf8 _ c.in-Ok.ensures.cases.1 in
    rw valid (c.is_qualified.ensures ∙ ap is_qualified c.in-Ok.ensures.cases.0)

pub returns-in-Err : goal.returns-in-Err
unfolding is_qname
returns-in-Err c =
    sym (and_left _ _ (false_from_ne_true _ (λ valid. c.in-Err.ensures.cases.0 (IsUtf8-from_is_utf8 _ valid))))
