use Rattle.std.proofs.Common.{length}
use Rattle.nx_base.specs.Tokens.{tokens_of}
use Rattle.nx_document.proofs.Borders.{tokens_mark_first}
use Rattle.nx_document.proofs.Prologs.{faultless_is_document}
use Rattle.nx_document.proofs.Nesting.{document_reads}
use Rattle.nx_document.proofs.law.well_formed_is_document.Goals as goal

pub returns : goal.returns
returns c text utf8 =
    let all = tokens_of text in (
      (
        (λ e. faultless_is_document all (length text) (tokens_mark_first text utf8) e),
        (λ is. (document_reads all is.0 (length text) is.1).0),
      ),
      (λ tree is. (document_reads all tree (length text) is).1),
    )
