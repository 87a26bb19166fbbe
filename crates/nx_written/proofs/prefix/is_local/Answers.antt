use Rattle.std.proofs.Common.{◌≡◌, true, ap, sym, ◌∙◌, List, ℕ}
use Rattle.std.proofs.lemmas.Bool.{and_left, false_from_ne_true}
use Rattle.std.proofs.lemmas.Str.{is_utf8-from_IsUtf8, IsUtf8-from_is_utf8}
use Rattle.std.specs.Str.{chars, is_utf8}
use Rattle.nx_base.specs.Characters.{is_nc_name}
use Rattle.nx_written.proofs.prefix.is_local.Goals as goal

pub returns-in-Ok : goal.returns-in-Ok
returns-in-Ok c =
    let valid : is_utf8 c.args.name.now ≡ true = is_utf8-from_IsUtf8 _ c.in-Ok.ensures.cases.1 in
    rw valid (c.is_nc_name.ensures ∙ ap (λ (t : List ℕ). is_nc_name (chars t)) c.in-Ok.ensures.cases.0)

pub returns-in-Err : goal.returns-in-Err
returns-in-Err c =
    sym (and_left _ _ (false_from_ne_true _ (λ valid. c.in-Err.ensures.cases.0 (IsUtf8-from_is_utf8 _ valid))))
