use Rattle.std.proofs.Common.{ℕ, List, ◌≡◌, subst}
use Rattle.std.specs.Prelude.{IfOk}
use Rattle.rng_types.specs.Spaces.{normalized}
use Rattle.rng_types.specs.Words.{whitespace_of}
use Rattle.rng_types.specs.OneToken.{tight, token_or_none}
use Rattle.rng_types.proofs.Token.{answer_told}
use Rattle.rng_types.proofs.datatype.Datatype.as_one_token.Goals as goal

pub returns-clause-told : goal.returns-clause-told
returns-clause-told c =
    let form = c.args.self.now.form in
    let P : List ℕ → Type 0 = λ t. IfOk c.token.result (λ found. found ≡ token_or_none (tight form (normalized (whitespace_of form) t))) in
    answer_told c.token.result c.args.self.now c.args.value.now (subst P c.as_bytes.ensures.value c.token.ensures)
