-- the tokens that are left lie in the text, and declare the rest
use Rattle.std.proofs.Common.{◌≡◌, ℕ, ◌++◌, length}
use Rattle.std.specs.List.{flat_map}
use Rattle.nx_base.specs.Tokens.{AreTokensFrom}
use Rattle.rngx_read.specs.Elements.{declared_of_token}
use Rattle.rngx_read.proofs.markup.declared_of.Given as goal

abbrev pub invariant-tokens : goal.invariant-tokens
invariant-tokens l = record {
  lie : (at : ℕ) × AreTokensFrom l.len at l.rest;
  so_far : l.declared.items ++ flat_map declared_of_token l.rest ≡ flat_map declared_of_token l.tokens;
}

abbrev pub decreases-tokens : goal.decreases-tokens
decreases-tokens l = length l.rest
