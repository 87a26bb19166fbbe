use Rattle.std.proofs.Common.{◌≡◌, sym, ap, ◌∙◌, reverse}
use Rattle.std.specs.Str.{bytes_eq}
use Rattle.nx_locate.specs.Walking.{opens_of, uris_of}
use Rattle.nx_locate.proofs.Among.{first_or_there, behind_first, nowhere_there}
use Rattle.nx_locate.proofs.Walks.{of_chain}
use Rattle.nx_locate.proofs.load.Loader.next_uri.Goals as goal
use Rattle.nx_locate.proofs.load.Loader.next_uri.Goals.{then-eq-via-then-eq, then-eq-via-else-eq+then-leads_from}

pub returns-then-eq : goal.returns-then-eq
returns-then-eq c =
    let uris = uris_of (opens_of c.args.self.now.chain.items) in
    let compared : bytes_eq c.in_ok-uri.uri c.args.base.now ≡ c.eq.result =
    ap (λ x. bytes_eq x c.args.base.now) (sym c.as_slice.ensures) ∙ ap (λ y. bytes_eq c.as_slice.result.now y)
    (sym c.as_slice-2.ensures) ∙ sym c.eq.ensures in (
      c.in_ok-uri.ensures.0,
      c.in_ok-uri.ensures.1,
      elim c.then-eq.branch [
        | then-eq-via-then-eq w ↦ first_or_there c.in_ok-uri.uri c.args.base.now uris (compared ∙ w.if-eq.true)
        | then-eq-via-else-eq+then-leads_from w ↦ behind_first c.in_ok-uri.uri c.args.base.now uris
            (sym (of_chain c.in_ok-uri.uri (reverse c.args.self.now.chain.items)) ∙ sym w.leads_from.ensures ∙ w.if-leads_from.true)
      ],
    )

pub returns : goal.returns
returns c =
    let uris = uris_of (opens_of c.args.self.now.chain.items) in
    let compared : bytes_eq c.in_ok-uri.uri c.args.base.now ≡ c.eq.result =
    ap (λ x. bytes_eq x c.args.base.now) (sym c.as_slice.ensures) ∙ ap (λ y. bytes_eq c.as_slice.result.now y)
    (sym c.as_slice-2.ensures) ∙ sym c.eq.ensures in (
      c.in_ok-uri.ensures.0,
      c.in_ok-uri.ensures.1,
      nowhere_there c.in_ok-uri.uri c.args.base.now uris (compared ∙ c.if-eq.false)
          (sym (of_chain c.in_ok-uri.uri (reverse c.args.self.now.chain.items)) ∙ sym c.leads_from.ensures ∙ c.if-leads_from.false),
    )
