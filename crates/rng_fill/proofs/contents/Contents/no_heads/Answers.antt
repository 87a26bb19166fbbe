use Rattle.std.proofs.Common.{sym, ◌∙◌}
use Rattle.std.proofs.lemmas.List.{length-map}
use Rattle.rng_core.specs.Meaning.{definition_of}
use Rattle.rng_fill.specs.Contents.{definitions_in, costs_in}
use Rattle.rng_fill.proofs.KnownHeads.{nothing_known}
use Rattle.rng_fill.proofs.contents.Contents.no_heads.Goals as goal

pub returns : goal.returns
returns c =
    nothing_known (definitions_in c.args.self.now) (costs_in c.args.self.now) c.len.result
    (record { items = c.in_ok-items.items }) (c.len.ensures ∙ sym (length-map c.args.self.now.defs.now definition_of)) c.in_ok-items.ensures
