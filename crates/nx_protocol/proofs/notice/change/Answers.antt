use Rattle.std.proofs.Common.{All, IsUtf8, sym, subst}
use Rattle.nx_position.specs.declared.change.Change.{Change}
use Rattle.nx_protocol.proofs.notice.change.Goals as goal

pub change_text-requires : goal.change_text-requires
change_text-requires g c =
    let texts = rw c.in-Some.is at c.requires in subst (All (λ (one : Change). IsUtf8 one.text)) (sym c.as_slice.ensures.value) texts
