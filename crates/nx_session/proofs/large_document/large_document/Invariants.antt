use Rattle.std.proofs.Common.{◌≡◌, ◌++◌, string_bytes}
use Rattle.nx_session.specs.LargeDocuments.{number_at, opening_text, pieces_text}
use Rattle.nx_session.proofs.large_document.large_document.Given as goal

abbrev pub invariant-loop-index : goal.invariant-loop-index
invariant-loop-index l = record {
  number : l.number ≡ number_at l.fn.seed l.index;
  text : string_bytes l.text ≡ opening_text l.fn.seed ++ pieces_text l.fn.seed l.index;
}
