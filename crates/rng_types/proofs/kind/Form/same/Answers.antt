use Rattle.std.proofs.Common.{sym, ◌∙◌, ap}
use Rattle.rng_types.specs.Spaces.{normalized}
use Rattle.rng_types.specs.Words.{whitespace_of, has_form}
use Rattle.rng_types.proofs.MoreSame.{is_one}
use Rattle.rng_types.proofs.kind.Form.same.Goals as goal

pub same-requires-in-More-clause-first : goal.same-requires-in-More-clause-first
same-requires-in-More-clause-first c =
    is_one c.in-More.more c.args.a.now (ap (λ form. has_form form (normalized (whitespace_of form) c.args.a.now)) (sym c.in-More.is) ∙ c.requires.first)

pub same-requires-in-More-clause-second : goal.same-requires-in-More-clause-second
same-requires-in-More-clause-second c =
    is_one c.in-More.more c.args.b.now (ap (λ form. has_form form (normalized (whitespace_of form) c.args.b.now)) (sym c.in-More.is) ∙ c.requires.second)
