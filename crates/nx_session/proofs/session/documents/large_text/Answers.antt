use Rattle.std.proofs.Common.{ap, sym, subst, ◌∙◌, IsUtf8}
use Rattle.std.proofs.lemmas.Str.{IsUtf8-string_bytes}
use Rattle.nx_session.proofs.session.documents.large_text.Goals as goal

pub from_bytes-requires : goal.from_bytes-requires
from_bytes-requires c = subst IsUtf8 (sym (c.from_vec.ensures ∙ ap (λ v. v.items) c.into_bytes.ensures.value)) (IsUtf8-string_bytes c.in_ok-content.content)
