-- Where a token ends that was found in a text.
use Rattle.std.specs.Prelude.{◌≡◌, ℕ, ◌+◌, List}
use Rattle.nx_base.specs.Text.{IsPlace}
use Rattle.nx_base.specs.Tokens.{Cut}
use Rattle.nx_scan.specs.declared.scan.End.{End}

-- the token of this cut, from `at` on, is of the kind and ends at the place that were found
pub record EndsAt (text : List ℕ) (at : ℕ) (cut : Cut) (found : End) : Type 0 where
  pub kind : found.kind ≡ cut.kind
  pub place : found.place ≡ at + cut.len
  pub border : IsPlace text found.place
