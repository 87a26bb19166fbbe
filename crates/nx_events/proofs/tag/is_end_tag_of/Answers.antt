use Rattle.std.proofs.Common.{◌≡◌, ◌∙◌, ℕ, ◌+◌, ◌-◌, length, get_or, ap, arith}
use Rattle.nx_events.proofs.EndTags.{end_name_is}
use Rattle.nx_events.proofs.tag.is_end_tag_of.Goals as goal

pub returns : goal.returns
returns c = λ is.
    let bytes = c.args.bytes.now in
    let n = length bytes - 1 - 2 in
    let long = c.if-len-lt3.false in
    let last : n + 2 ≡ length bytes - 1 = omega (arith, long) in
    end_name_is n bytes c.args.name.now (omega (arith, long)) (ap (λ (k : ℕ). get_or bytes k 0) last ∙ c.if-bytes-len-ne62.false)
    (c.are_same_name.ensures.same is) (c.are_same_name.ensures.name is)
