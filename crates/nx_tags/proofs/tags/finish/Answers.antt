use Rattle.std.proofs.Common.{◌≡◌, ◌∙◌, ap, subst}
use Rattle.nx_events.specs.Prefixes.{innermost_name}
use Rattle.nx_events.specs.declared.state.EventState.{EventState}
use Rattle.nx_tags.specs.Answers.{innermost_name_at}
use Rattle.nx_tags.specs.Changing.{end_tag}
use Rattle.nx_tags.specs.Free.{IsFree}
use Rattle.nx_tags.specs.Reading.{FoundFree}
use Rattle.nx_tags.proofs.Answering.{done}
use Rattle.nx_tags.proofs.tags.finish.Goals as goal

pub returns : goal.returns
returns g c =
    let text = c.args.text.now in
    let at = c.args.at in
    let h = subst (λ o. FoundFree text c.args.from at o) c.in-Some.is c.in_ok-front.ensures in
    done (IsFree text at) at _ (end_tag (innermost_name_at text at)) c.inserted.result c.inserted.ensures h.0
    (c.in_ok-end_tag.ensures ∙ ap end_tag (c.innermost.ensures ∙ ap (λ (s : EventState). innermost_name s.elements) h.1))
