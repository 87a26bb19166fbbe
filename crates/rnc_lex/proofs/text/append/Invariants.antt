use Rattle.std.proofs.Common.{◌≡◌, ◌++◌, take}
use Rattle.std.specs.String.{string_bytes}
use Rattle.rnc_lex.specs.Tokens.{utf8}
use Rattle.rnc_lex.proofs.text.append.Given as goal

abbrev pub invariant-loop-letter : goal.invariant-loop-letter
invariant-loop-letter l = string_bytes l.text ≡ string_bytes l.initial.text ++ utf8 (take l.letter-index l.letters)
