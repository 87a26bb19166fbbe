use Rattle.std.proofs.Common.{◌∙◌, codes, refl, sym, subst}
use Rattle.std.specs.Str.{IsAscii}
use Rattle.nx_session.proofs.Locating.{plain_ascii}
use Rattle.nx_session.proofs.session.untitled_uri.Goals as goal

-- the URI of a document that was opened from nowhere is ASCII
pub new-requires : goal.new-requires
new-requires c =
    subst IsAscii (sym (c.from_vec.ensures ∙ (c.in_ok-printed.ensures.items ∙ c.as_bytes.ensures.value)))
    (plain_ascii (codes "file:///work/untitled.xml") refl)
